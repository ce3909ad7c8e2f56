-- Slips in moves and compares of fields: MVC (D2) and CLC (D5). All but the last are of `engine::step`.
use Rattle.std.specs.Prelude.{ℕ, zero, suc, ◌+◌, List, [], ◌∷◌, ◌++◌, eqb, get_or, set, replicate}
use Rattle.std.proofs.lemmas.List.Edits.{sets}
use Rattle.words.specs.Pick.{pick}
use Rattle.words.specs.Codes.{compare_bits}
use Rattle.pages.specs.declared.Access.{Access}
use Rattle.pages.specs.declared.Access.TheVariants.{Load, Store}
use Rattle.pages.specs.Word.{next, real, word_of, page_of, disp_of}
use Rattle.pages.specs.Framed.{Framed, framed_of, written_at}
use Rattle.code.specs.declared.SsFields.{SsFields}
use Rattle.machine.specs.Prog.{Prog, Answer, finished, refused, done, look, get, put, interp}
use Rattle.machine.specs.Store.{framed}
use Rattle.machine.specs.Fields.{looks, gets, puts, moves, compares}
use Rattle.machine.specs.Cpu.{Cpu, with_code, onward}
use Rattle.machine.specs.Ss.{first_address, second_address}
use Rattle.machine.specs.Machine.{Given}
use Rattle.slips.specs.Row.{Row, row}
use Rattle.slips.specs.Seen.{lent, step_leaving, step_but, as_ss, steps, operation}

-- each byte looked up just before it is moved
abbrev byte_by_byte : ℕ → ℕ → ℕ → Prog Cpu → Prog Cpu
byte_by_byte a b zero k = k
byte_by_byte a b (suc n) k = look Store a (look Load b (get b (λ v. put a v (byte_by_byte (next a) (next b) n k))))

abbrev move_as_found : SsFields → Cpu → Prog Cpu
move_as_found f c = byte_by_byte (first_address f c) (second_address f c) (suc f.l) (done (onward c 6))

-- and what was stored stays
abbrev all_so_far : Framed → Framed → Access → ℕ → Framed
all_so_far kept s acc a = s

-- E tested on the field that is only read
abbrev both_stored : SsFields → Cpu → Prog Cpu
both_stored f c =
    looks Store (first_address f c) (suc f.l)
    (looks Store (second_address f c) (suc f.l)
    (moves (first_address f c) (second_address f c) (suc f.l) (done (onward c 6))))

-- the second field looked up before the first
abbrev second_first : SsFields → Cpu → Prog Cpu
second_first f c =
    looks Load (second_address f c) (suc f.l)
    (looks Store (first_address f c) (suc f.l)
    (moves (first_address f c) (second_address f c) (suc f.l) (done (onward c 6))))

-- the second field not looked up
abbrev one_field : SsFields → Cpu → Prog Cpu
one_field f c =
    looks Store (first_address f c) (suc f.l) (moves (first_address f c) (second_address f c) (suc f.l) (done (onward c 6)))

-- the first byte of each field alone looked up
abbrev first_bytes : SsFields → Cpu → Prog Cpu
first_bytes f c =
    look Store (first_address f c)
    (look Load (second_address f c) (moves (first_address f c) (second_address f c) (suc f.l) (done (onward c 6))))

-- every byte taken before any is stored
abbrev as_block : SsFields → Cpu → Prog Cpu
as_block f c =
    looks Store (first_address f c) (suc f.l)
    (looks Load (second_address f c) (suc f.l)
    (gets (second_address f c) (suc f.l) 0 (λ v. puts (first_address f c) (suc f.l) v (done (onward c 6)))))

-- a compare that looks no further than it has to
abbrev compares_as_found : ℕ → ℕ → ℕ → (ℕ → Prog Cpu) → Prog Cpu
compares_as_found a b zero k = k 0
compares_as_found a b (suc n) k =
    look Load a
    (look Load b
    (get a (λ x. get b (λ y. pick (eqb x y) (compares_as_found (next a) (next b) n k) (k (compare_bits x y))))))

abbrev ending_early : SsFields → Cpu → Prog Cpu
ending_early f c =
    compares_as_found (first_address f c) (second_address f c) (suc f.l) (λ k. done (with_code (onward c 6) k))

-- a compare of as many bytes as L says, one too few
abbrev without_last : SsFields → Cpu → Prog Cpu
without_last f c =
    looks Load (first_address f c) (suc f.l)
    (looks Load (second_address f c) (suc f.l)
    (compares (first_address f c) (second_address f c) f.l (λ k. done (with_code (onward c 6) k))))

-- a move by real address, which goes on into the next frame where the next page lies elsewhere
abbrev pub along_frames : Framed → ℕ → ℕ → ℕ → Framed
along_frames s a b n = framed_of (go (at a) (at b) n s.mem) (written_at s.map a)
  where
    at : ℕ → ℕ
    at v = real (word_of s.map (page_of v)) (disp_of v)

    go : ℕ → ℕ → ℕ → List ℕ → List ℕ
    go r q zero mem = mem
    go r q (suc n) mem = go (r + 1) (q + 1) n (set mem r (get_or mem q 0))

-- what a program leaves in the store
abbrev pub stored : Framed → Prog (Unit {0}) → Framed
stored s program = store (interp framed program s s)
  where
    store : Answer (Unit {0}) Framed → Framed
    store (finished r t) = t
    store (refused m p t) = t

-- the work of a move alone, from address b to a, as the machine's program does it: `fields::move_field`
abbrev pub worked : Framed → ℕ → ℕ → ℕ → Framed
worked s a b n = stored s (moves a b n (done tt))

-- two frames of memory; pages 10 and 11 both on the first
abbrev folded : Framed
folded = framed_of (sets (replicate 8192 0) 4092 (1 ∷ 2 ∷ 3 ∷ 4 ∷ [])) (sets (replicate 512 0) 10 (0x3000 ∷ 0x3000 ∷ []))

-- what the frames begin with
abbrev firsts : Framed → List ℕ
firsts s = get_or s.mem 0 0 ∷ get_or s.mem 4096 0 ∷ []

-- This instruction at 00A000, and bytes 11 22 33 44 at 00A008; page 10 ends with 55 66; page 11's word. Registers 2, 3 and 4 have the
-- addresses of 55, of 11 and of page 11.
abbrev pub crossing : List ℕ → ℕ → Given
crossing instruction word =
    lent (instruction ++ 0 ∷ 0 ∷ 0x11 ∷ 0x22 ∷ 0x33 ∷ 0x44 ∷ []) (replicate 14 0 ++ 0x55 ∷ 0x66 ∷ []) word
    (0 ∷ 0 ∷ 0xaffe ∷ 0xa008 ∷ 0xb000 ∷ [])
    0xa000

abbrev pub slips : List Row
slips =
    -- MVC 0(4,2),0(3), with page 11 absent
    steps "the first page of a move stored, then the second found absent" (step_leaving all_so_far (step_but 0xd2 (as_ss move_as_found)))
    (crossing (0xd2 ∷ 3 ∷ 0x20 ∷ 0 ∷ 0x30 ∷ 0 ∷ []) 0) 0x55 0x11
    ∷ operation "only the first byte of a field looked up" 0xd2 (as_ss first_bytes) (crossing (0xd2 ∷ 3 ∷ 0x20 ∷ 0 ∷ 0x30 ∷ 0 ∷ []) 0) 3 0
    -- MVC 0(4,3),0(4), with E set on page 11
    ∷ operation "E tested on the field that is only read" 0xd2 (as_ss both_stored)
    (crossing (0xd2 ∷ 3 ∷ 0x30 ∷ 0 ∷ 0x40 ∷ 0 ∷ []) 0x3800) 0 4
    -- the same, with page 11 absent
    ∷ operation "the second field not looked up" 0xd2 (as_ss one_field) (crossing (0xd2 ∷ 3 ∷ 0x30 ∷ 0 ∷ 0x40 ∷ 0 ∷ []) 0) 3 0
    -- MVC 0(4,4),0(0), with page 11 absent as page 0 is
    ∷ operation "the second field looked up before the first" 0xd2 (as_ss second_first)
    (crossing (0xd2 ∷ 3 ∷ 0x40 ∷ 0 ∷ 0 ∷ 0 ∷ []) 0) 0xb000 0
    -- MVC 1(4,3),0(3)
    ∷ operation "MVC as a block" 0xd2 (as_ss as_block) (crossing (0xd2 ∷ 3 ∷ 0x30 ∷ 1 ∷ 0x30 ∷ 0 ∷ []) 0) 0x11 0x22
    -- CLC 0(4,2),0(3), with page 11 absent
    ∷ operation "CLC that ends its look-ups early" 0xd5 (as_ss ending_early) (crossing (0xd5 ∷ 3 ∷ 0x20 ∷ 0 ∷ 0x30 ∷ 0 ∷ []) 0) 3 0
    -- CLC 0(1,2),0(3)
    ∷ operation "CLC without its last byte" 0xd5 (as_ss without_last) (crossing (0xd5 ∷ 0 ∷ 0x20 ∷ 0 ∷ 0x30 ∷ 0 ∷ []) 0) 2 0
    -- two bytes from 00AFFC to 00AFFF on
    ∷ row "MVC going on into the next frame in place of the next page" (firsts (worked folded 0xafff 0xaffc 2))
    (firsts (along_frames folded 0xafff 0xaffc 2)) 2 0
    ∷ []
