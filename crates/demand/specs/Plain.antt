-- The plain machine: the machine's own step and run over a store that has no frames. It keeps the page bits, and each page's own bytes
-- under the page's own number. What an instruction does is said once, in the machine; nothing here knows of instructions.
use Rattle.std.specs.Prelude.{ℕ, ◌+◌, ◌*◌, ◌/◌, List, map, eqb, get_or}
use Rattle.words.specs.Pick.{pick, both}
use Rattle.pages.specs.declared.Access.{Access}
use Rattle.pages.specs.declared.Access.TheVariants.{Load, Store}
use Rattle.pages.specs.Word.{bits_x, page_of, disp_of, real, word_of}
use Rattle.pages.specs.Tests.{Verdict, fine, bad, tests}
use Rattle.pages.specs.Framed.{Framed, accessed_at, written_at}
use Rattle.machine.specs.Prog.{Ops, interp}
use Rattle.machine.specs.Run.{Result, one, run}
use Rattle.machine.specs.Cpu.{Cpu}
use Rattle.machine.specs.Step.{step}

-- `bits` has a word for each page, `pages` the byte of a page at a displacement
pub record Plain : Type 0 where
  pub bits : List ℕ
  pub pages : ℕ → ℕ → ℕ

abbrev pub plain_of : List ℕ → (ℕ → ℕ → ℕ) → Plain
plain_of bits pages = record { bits = bits; pages = pages }

-- the page bits of a word: W, G, U, S, E, M and X in their places; no frame and no H
unfoldable pub bare : ℕ → ℕ
bare w = w / 1024 * 1024 + bits_x w * 64

-- a look-up: tests 1 to 6 on the bits of the address's page, which is found by its whole number; there is no memory to lie beyond
unfoldable pub look_plain : Plain → Access → ℕ → Verdict
look_plain q acc a = tests acc a (word_of q.bits (page_of a))

-- a look-up that succeeded notes G on the page
unfoldable pub note_plain : Plain → ℕ → Plain
note_plain q a = plain_of (accessed_at q.bits a) q.pages

-- the pages with byte v at displacement d of page p
unfoldable pub stored : (ℕ → ℕ → ℕ) → ℕ → ℕ → ℕ → ℕ → ℕ → ℕ
stored pages p d v p' d' = pick (both (eqb p' p) (eqb d' d)) v (pages p' d')

-- the byte at an address; as in the framed store, 0 where the look-up refuses
abbrev pub read_if : Verdict → ℕ → ℕ
read_if fine b = b
read_if (bad c) b = 0

unfoldable pub read_plain : Plain → ℕ → ℕ
read_plain q a = read_if (look_plain q Load a) (q.pages (page_of a) (disp_of a))

-- a byte stored at an address, and W noted on the page; nothing where the look-up refuses
abbrev pub write_if : Verdict → Plain → Plain → Plain
write_if fine q after = after
write_if (bad c) q after = q

unfoldable pub write_plain : Plain → ℕ → ℕ → Plain
write_plain q a v =
    write_if (look_plain q Store a) q (plain_of (written_at q.bits a) (stored q.pages (page_of a) (disp_of a) v))

abbrev pub plain : Ops Plain
plain =
    record {
      looked = λ q acc a. look_plain q acc a;
      noted = λ q acc a. note_plain q a;
      read = λ q a. read_plain q a;
      wrote = λ q a v. write_plain q a v;
    }

-- its step and its run: the machine's own, with this store behind them
unfoldable pub plain_step : Cpu → Plain → Result Cpu Plain
plain_step c q = one c (interp plain (step c) q q)

unfoldable pub plain_run : ℕ → Cpu → Plain → Result Cpu Plain
plain_run budget c q = run (λ c. plain) step budget c q

-- the plain store that a framed store shows: its page bits, and for each page the bytes where its frame lies
abbrev pub shown : Framed → Plain
shown s = plain_of (map bare s.map) (λ p d. get_or s.mem (real (word_of s.map p) d) 0)
