-- The framed store: real memory and the map, and what a look, a read and a write of one virtual byte do to it.
use Rattle.std.specs.Prelude.{ℕ, List, length, get_or, set, Ok, Err}
use Rattle.pages.specs.declared.Access.{Access}
use Rattle.pages.specs.declared.Access.TheVariants.{Load, Store}
use Rattle.pages.specs.Word.{page_of, word_of, accessed, written}
use Rattle.pages.specs.Look.{Look, look_of}

pub record Framed : Type 0 where
  pub mem : List ℕ
  pub map : List ℕ

abbrev pub framed_of : List ℕ → List ℕ → Framed
framed_of mem map = record { mem = mem; map = map }

-- the map with G set on the page of a, and with W set there
unfoldable pub accessed_at : List ℕ → ℕ → List ℕ
accessed_at map a = set map (page_of a) (accessed (word_of map (page_of a)))

unfoldable pub written_at : List ℕ → ℕ → List ℕ
written_at map a = set map (page_of a) (written (word_of map (page_of a)))

abbrev pub look_in : Framed → Access → ℕ → Look
look_in s acc a = look_of s.map (length s.mem) acc a

-- a look that succeeded notes G
abbrev pub noted : Framed → ℕ → Framed
noted s a = framed_of s.mem (accessed_at s.map a)

-- the byte at a; 0 where the look-up refuses (no program reads such a byte: see demand/proofs/LookedUpFirst)
abbrev pub read_at : List ℕ → Look → ℕ
read_at mem (Ok s) = get_or mem s.at 0
read_at mem (Err e) = 0

unfoldable pub read_byte : Framed → ℕ → ℕ
read_byte s a = read_at s.mem (look_in s Load a)

-- a byte stored at a, and W noted; nothing where the look-up refuses
abbrev pub write_at : Framed → ℕ → ℕ → Look → Framed
write_at s a v (Ok t) = framed_of (set s.mem t.at v) (written_at s.map a)
write_at s a v (Err e) = s

unfoldable pub write_byte : Framed → ℕ → ℕ → Framed
write_byte s a v = write_at s a v (look_in s Store a)
