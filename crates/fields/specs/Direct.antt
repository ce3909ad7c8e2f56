-- Fields of bytes, directly: looked up in the store as it stands, noted, read, written, moved and compared.
use Rattle.std.specs.Prelude.{◌≡◌, ℕ, zero, suc, ◌+◌, ◌-◌, ◌*◌, ◌/◌, ◌%◌, ◌^◌, List, [], ◌∷◌, ◌==◌, nat_lt, slice_index, slice_set, Ok, Err}
use Rattle.words.specs.Pick.{pick}
use Rattle.words.specs.Codes.{compare_bits}
use Rattle.pages.specs.declared.Access.{Access}
use Rattle.pages.specs.declared.Refusal.{Refusal}
use Rattle.pages.specs.Word.{next}
use Rattle.pages.specs.Look.{Look, look_of}
use Rattle.pages.specs.Framed.{Framed, accessed_at, read_byte, write_byte}
use Rattle.fields.specs.declared.Field.{Field}

-- how many addresses from a on have the page of a; past the last address the next one is 0
unfoldable pub in_page : ℕ → ℕ
in_page a = pick (nat_lt a 16777216) (4096 - a % 4096) 1

-- a refusal, or what comes next
abbrev pub or_else : Look → Look → Look
or_else (Ok s) rest = rest
or_else (Err e) rest = Err e

-- n bytes from a on: the first refusal, or what `rest` says
unfoldable pub look_field : List ℕ → ℕ → Access → ℕ → ℕ → Look → Look
look_field map size acc a zero rest = rest
look_field map size acc a (suc n) rest = or_else (look_of map size acc a) (look_field map size acc (next a) n rest)

-- the fields of a list, one after the other
unfoldable pub look_fields : List ℕ → ℕ → List Field → Look → Look
look_fields map size [] rest = rest
look_fields map size (f ∷ fs) rest = look_field map size f.access f.at f.len (look_fields map size fs rest)

-- no byte of the field is refused
abbrev pub Clear : List ℕ → ℕ → Access → ℕ → ℕ → Type 0
Clear map size acc a n = (rest : Look) → look_field map size acc a n rest ≡ rest

-- one of them is refused with e
abbrev pub Stops : List ℕ → ℕ → Access → ℕ → ℕ → Refusal → Type 0
Stops map size acc a n e = (rest : Look) → look_field map size acc a n rest ≡ Err e

-- one field: the first refusal, or the look-up of its first byte
unfoldable pub look_one : List ℕ → ℕ → Access → ℕ → ℕ → Look
look_one map size acc a n = look_field map size acc a n (look_of map size acc a)

unfoldable pub note_field : List ℕ → ℕ → ℕ → List ℕ
note_field map a zero = map
note_field map a (suc n) = note_field (accessed_at map a) (next a) n

unfoldable pub read_field : Framed → ℕ → ℕ → ℕ → ℕ
read_field s a zero v = v
read_field s a (suc n) v = read_field s (next a) n (v * 256 + read_byte s a)

unfoldable pub write_field : Framed → ℕ → ℕ → ℕ → Framed
write_field s a zero v = s
write_field s a (suc n) v = write_field (write_byte s a (v / 256 ^ n % 256)) (next a) n v

unfoldable pub move_field : Framed → ℕ → ℕ → ℕ → Framed
move_field s a b zero = s
move_field s a b (suc n) = move_field (write_byte s a (read_byte s b)) (next a) (next b) n

unfoldable pub compare_field : Framed → ℕ → ℕ → ℕ → ℕ
compare_field s a b zero = 0
compare_field s a b (suc n) =
    pick (read_byte s a == read_byte s b) (compare_field s (next a) (next b) n) (compare_bits (read_byte s a) (read_byte s b))

-- by real address: n bytes from r on, as they lie in memory
unfoldable pub flat : List ℕ → ℕ → ℕ → ℕ → ℕ
flat mem r zero v = v
flat mem r (suc n) v = flat mem (r + 1) n (v * 256 + slice_index mem r)

unfoldable pub flat_put : List ℕ → ℕ → ℕ → ℕ → List ℕ
flat_put mem r zero v = mem
flat_put mem r (suc n) v = flat_put (slice_set mem r (v / 256 ^ n % 256)) (r + 1) n v

unfoldable pub flat_move : List ℕ → ℕ → ℕ → ℕ → List ℕ
flat_move mem a b zero = mem
flat_move mem a b (suc n) = flat_move (slice_set mem a (slice_index mem b)) (a + 1) (b + 1) n

-- one byte into n places
unfoldable pub flat_fill : List ℕ → ℕ → ℕ → ℕ → List ℕ
flat_fill mem a v zero = mem
flat_fill mem a v (suc n) = flat_fill (slice_set mem a v) (a + 1) v n

unfoldable pub flat_compare : List ℕ → ℕ → ℕ → ℕ → ℕ
flat_compare mem a b zero = 0
flat_compare mem a b (suc n) =
    pick (slice_index mem a == slice_index mem b) (flat_compare mem (a + 1) (b + 1) n) (compare_bits (slice_index mem a) (slice_index mem b))
