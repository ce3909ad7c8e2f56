-- Slips of moves and compares that go piece by piece, or by more than a byte (document 02, E6). The last two are of `engine::step`, the
-- others of what MVC and CLC do to the store: of functions of `fields`, and those in the marks of `rs_ss`.
use Rattle.std.specs.Prelude.{ℕ, zero, suc, ◌+◌, ◌-◌, ◌*◌, ◌/◌, Bool, List, [], ◌∷◌, ◌++◌, eqb, leb, take, drop, replicate}
use Prim.Native.String.{String}
use Rattle.std.proofs.lemmas.List.Edits.{sets}
use Rattle.words.specs.Pick.{pick, either}
use Rattle.words.specs.Codes.{compare_bits}
use Rattle.pages.specs.declared.Access.TheVariants.{Load, Store}
use Rattle.pages.specs.Word.{page_of, disp_of, next, real, word_of}
use Rattle.pages.specs.Look.{fewer}
use Rattle.pages.specs.Framed.{Framed, framed_of, written_at, noted}
use Rattle.code.specs.declared.SsFields.{SsFields}
use Rattle.machine.specs.Prog.{Prog, Answer, finished, refused, done, look, get, put, interp}
use Rattle.machine.specs.Store.{framed}
use Rattle.machine.specs.Fields.{looks, gets, puts, moves, compares}
use Rattle.machine.specs.Cpu.{Cpu, onward}
use Rattle.machine.specs.Ss.{first_address, second_address}
use Rattle.slips.specs.Row.{Row, row}
use Rattle.slips.specs.Seen.{as_ss, operation}
use Rattle.slips.specs.Moves.{stored, worked, along_frames, crossing}

-- a way to move n bytes from address b to a: the store, a, b and n. The right one is `worked`.
abbrev Way : Type 0
Way = Framed → ℕ → ℕ → ℕ → Framed

-- every byte taken before any is stored
abbrev as_block : Way
as_block s a b n = stored s (gets b n 0 (λ v. puts a n v (done tt)))

-- the second field's first byte into all of the first field
abbrev filled : ℕ → ℕ → ℕ → Prog (Unit {0})
filled a zero v = done tt
filled a (suc n) v = put a v (filled (next a) n v)

abbrev as_fill : Way
as_fill s a b n = stored s (get b (λ v. filled a n v))

-- the real address of a byte
abbrev at : Framed → ℕ → ℕ
at s a = real (word_of s.map (page_of a)) (disp_of a)

-- a quick way where this test of the fields' addresses and length holds; or of the real addresses of their first bytes
abbrev by_address : (ℕ → ℕ → ℕ → Bool) → Way → Way
by_address test quick s a b n = pick (test a b n) (quick s a b n) (worked s a b n)

abbrev by_first_bytes : (ℕ → ℕ → ℕ → Bool) → Way → Way
by_first_bytes test quick s a b n = pick (test (at s a) (at s b) n) (quick s a b n) (worked s a b n)

-- fields of n bytes from x and from y on do not meet; and a test that lets them meet in one byte
abbrev apart : ℕ → ℕ → ℕ → Bool
apart x y n = either (leb (x + n) y) (leb (y + n) x)

abbrev nearly_apart : ℕ → ℕ → ℕ → Bool
nearly_apart x y n = apart x y (n - 1)

-- the first field so many bytes to the right of the second, and one to the left
abbrev right_by : ℕ → ℕ → ℕ → ℕ → Bool
right_by k x y n = eqb x (y + k)

abbrev left_by_one : ℕ → ℕ → ℕ → Bool
left_by_one x y n = eqb (x + 1) y

-- by real address in two pieces, the first of m bytes
abbrev in_two : ℕ → Way
in_two m s a b n = pick (leb n m) (along_frames s a b n) (along_frames (along_frames s a b m) (a + m) (b + m) (n - m))

-- how many bytes are left in the page of a, where a page has 4,096
abbrev left : ℕ → ℕ
left a = 4096 - disp_of a

-- cut at the first field's page edge only, and at the second's
abbrev first_edge : Way
first_edge s a b n = in_two (left a) s a b n

abbrev second_edge : Way
second_edge s a b n = in_two (left b) s a b n

-- MVC's look-ups and its move
abbrev moved : Way
moved s a b n = stored s (looks Store a n (looks Load b n (moves a b n (done tt))))

-- G on the first page of each field only, and W on the first field's first page only
abbrev first_g : Way
first_g s a b n = worked (noted (noted s a) b) a b n

abbrev first_w : Way
first_w s a b n =
    framed_of (moved s a b n).mem (written_at (stored s (looks Store a n (looks Load b n (done tt)))).map a)

-- the code of a compare alone, as the machine's program finds it
abbrev compared : Framed → ℕ → ℕ → ℕ → ℕ
compared s a b n = code (interp framed (compares a b n (λ k. done k)) s s)
  where
    code : Answer ℕ Framed → ℕ
    code (finished k t) = k
    code (refused m p t) = 0

-- n bytes as they lie in memory from the byte of address a on; and the code of two such lists
abbrev stretch : Framed → ℕ → ℕ → List ℕ
stretch s a n = take n (drop (at s a) s.mem)

abbrev code_of : List ℕ → List ℕ → ℕ
code_of [] ys = 0
code_of (x ∷ xs) [] = 0
code_of (x ∷ xs) (y ∷ ys) = pick (eqb x y) (code_of xs ys) (compare_bits x y)

-- up to the nearer page edge by real address, but `far` says how many bytes; and from there on as it should be
abbrev compared_by : (ℕ → ℕ) → Framed → ℕ → ℕ → ℕ → ℕ
compared_by far s a b n =
    let m = fewer n (fewer (left a) (left b)) in
    let c = code_of (stretch s a (far m)) (stretch s b (far m)) in
    pick (eqb c 0) (compared s (a + m) (b + m) (n - m)) c

-- bytes as one number, low byte first, and a compare of such numbers
abbrev low_first : List ℕ → ℕ
low_first [] = 0
low_first (x ∷ xs) = x + 256 * low_first xs

abbrev as_numbers : Framed → ℕ → ℕ → ℕ → ℕ
as_numbers s a b n = compare_bits (low_first (stretch s a n)) (low_first (stretch s b n))

-- eight bytes at a time, and what is left over forgotten
abbrev whole_eights : Framed → ℕ → ℕ → ℕ → ℕ
whole_eights s a b n = compared s a b (n / 8 * 8)

-- Pages 10, 11 and 13 on the first of two frames, which begins with 5 6 7 8 and ends with 1 2 3 4; page 12 on the second, which begins
-- with 4 5 5 6 5.
abbrev shared : Framed
shared =
    framed_of
    (sets (sets (replicate 8192 0) 0 (5 ∷ 6 ∷ 7 ∷ 8 ∷ [])) 4092 (1 ∷ 2 ∷ 3 ∷ 4 ∷ 4 ∷ 5 ∷ 5 ∷ 6 ∷ 5 ∷ []))
    (sets (replicate 512 0) 10 (0x3000 ∷ 0x3000 ∷ 0x3001 ∷ 0x3000 ∷ []))

-- what the first frame begins with, what stands about the edge of the two, and the four words
abbrev told : Framed → List ℕ
told s = take 8 s.mem ++ take 8 (drop 4092 s.mem) ++ take 4 (drop 10 s.map)

-- a row of a move, or of a compare, of n bytes, the first field at a, the second at b
abbrev moving : String → Way → ℕ → ℕ → ℕ → ℕ → ℕ → Row
moving slip way a b n one other = row slip (told (worked shared a b n)) (told (way shared a b n)) one other

abbrev marking : String → Way → ℕ → ℕ → ℕ → ℕ → ℕ → Row
marking slip way a b n one other = row slip (told (moved shared a b n)) (told (way shared a b n)) one other

abbrev comparing : String → (Framed → ℕ → ℕ → ℕ → ℕ) → ℕ → ℕ → ℕ → ℕ → ℕ → Row
comparing slip way a b n one other = row slip (compared shared a b n ∷ []) (way shared a b n ∷ []) one other

-- the first and the last byte of each field alone looked up
abbrev first_and_last : SsFields → Cpu → Prog Cpu
first_and_last f c =
    look Store (first_address f c)
    (look Store (first_address f c + f.l)
    (look Load (second_address f c)
    (look Load (second_address f c + f.l)
    (moves (first_address f c) (second_address f c) (suc f.l) (done (onward c 6))))))

-- the two fields looked up side by side
abbrev side_by_side : ℕ → ℕ → ℕ → Prog Cpu → Prog Cpu
side_by_side a b zero k = k
side_by_side a b (suc n) k = look Store a (look Load b (side_by_side (next a) (next b) n k))

abbrev in_turn : SsFields → Cpu → Prog Cpu
in_turn f c =
    side_by_side (first_address f c) (second_address f c) (suc f.l)
    (moves (first_address f c) (second_address f c) (suc f.l) (done (onward c 6)))

abbrev pub slips : List Row
slips =
    -- in page 11 one byte to the right of page 10's bytes; over an edge, where the first two bytes go to the other frame
    moving "a block where the addresses lie apart, though a shared frame makes the fields overlap" (by_address apart as_block) 0xb001 0xa000 3 5 6
    ∷ moving "overlap judged by the first bytes for the whole field" (by_first_bytes apart as_block) 0xcffe 0xaffd 4 4 5
    -- three bytes to the right
    ∷ moving "a block where the fields overlap in one byte" (by_first_bytes nearly_apart as_block) 0xa003 0xa000 4 5 8
    -- two bytes to the right, one to the left; and one to the right, but only as far as page 11 goes
    ∷ moving "a fill two bytes to the right" (by_first_bytes (right_by 2) as_fill) 0xa002 0xa000 4 6 5
    ∷ moving "a fill one byte to the left" (by_first_bytes left_by_one as_fill) 0xa000 0xa001 3 7 6
    ∷ moving "a fill that goes on past the edge of a page" (by_first_bytes (right_by 1) as_fill) 0xbfff 0xaffe 3 5 3
    -- between the end of page 10 and page 12, there and back
    ∷ moving "pieces cut at the first field's edge only" first_edge 0xc000 0xaffe 4 5 3
    ∷ moving "pieces cut at the second field's edge only" second_edge 0xaffe 0xc001 3 6 5
    ∷ marking "G on the first page of a field only" first_g 0xc000 0xaffe 4 0x7000 0x3000
    ∷ marking "W on the first page of a field only" first_w 0xaffe 0xc001 3 0xf000 0x7000
    -- 4 5 over an edge, and 4 5, 5 5
    ∷ comparing "a compare that reads one byte past its stretch" (compared_by (λ m. m + 1)) 0xafff 0xc000 2 0 1
    ∷ comparing "a compare that leaves out the last byte of a stretch" (compared_by (λ m. m - 1)) 0xafff 0xc001 2 1 0
    -- 5 6 and 6 5
    ∷ comparing "a compare of numbers, low byte first" as_numbers 0xa000 0xc003 2 1 2
    ∷ comparing "a compare of whole eights" whole_eights 0xa000 0xc003 2 1 0
    -- MVC 0(4,2),0(3) and MVC 0(4,2),0(0), with page 11 absent as page 0 is
    ∷ operation "only the first and the last byte of a field looked up" 0xd2 (as_ss first_and_last)
    (crossing (0xd2 ∷ 3 ∷ 0x20 ∷ 0 ∷ 0x30 ∷ 0 ∷ []) 0) 0xb000 0xb001
    ∷ operation "the two fields looked up side by side" 0xd2 (as_ss in_turn) (crossing (0xd2 ∷ 3 ∷ 0x20 ∷ 0 ∷ 0 ∷ 0 ∷ []) 0) 0xb000 0
    ∷ []
