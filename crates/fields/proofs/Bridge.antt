-- Each field program over the framed store comes to its direct form.
use Rattle.std.specs.Prelude.{Ok, Err}
use Rattle.std.proofs.Common.{◌≡◌, ℕ, zero, suc, ◌+◌, ◌*◌, ◌/◌, ◌%◌, ◌^◌, Bool, true, false, eqb, length, refl, ap, ◌∙◌}
use Rattle.words.specs.Pick.{pick}
use Rattle.words.specs.Codes.{compare_bits}
use Rattle.pages.specs.declared.Access.{Access}
use Rattle.pages.specs.Word.{next}
use Rattle.pages.specs.Tests.{number_of}
use Rattle.pages.specs.Look.{Look, At, verdict_of}
use Rattle.pages.specs.Framed.{Framed, framed_of, accessed_at, look_in, noted, read_byte, write_byte}
use Rattle.pages.proofs.LookLaws.{refused_place}
use Rattle.machine.specs.Prog.{Prog, Answer, refused, after, interp}
use Rattle.machine.specs.Fields.{looks, gets, puts, moves, compares}
use Rattle.machine.specs.Store.{framed}
use Rattle.machine.proofs.MarksLast.{blind}
use Rattle.machine.proofs.Operands.{ForOperand, keeps_none}
use Rattle.fields.specs.Direct.{or_else, look_field, note_field, read_field, write_field, move_field, compare_field}

-- what follows a look-up of a field: a refusal, or the rest
abbrev pub after_look : {R : Type 0} → Look → (Framed → Answer R Framed) → Framed → Framed → Answer R Framed
after_look (Ok t) go s kept = go s
after_look (Err e) go s kept = refused (number_of e.cause) e.place kept

-- the store with G noted on each byte's page
abbrev pub noted_field : Framed → ℕ → ℕ → Framed
noted_field s a n = framed_of s.mem (note_field s.map a n)

-- a field looked up after a mark is the field looked up before it
pub field_blind : (s : Framed) (b : ℕ) (acc : Access) (a n : ℕ) (rest : Look)
    → look_field (accessed_at s.map b) (length s.mem) acc a n rest ≡ look_field s.map (length s.mem) acc a n rest
unfolding look_field
field_blind s b acc a zero rest = refl
field_blind s b acc a (suc n) rest = rw (blind s b acc a, field_blind s b acc (next a) n rest)

-- an operand's bytes: a refusal keeps nothing of their look-ups
pub looks_is : {R : Type 0} (acc : Access) → ForOperand acc → (a n : ℕ) (k : Prog R) (kept s : Framed) (r : ℕ)
    → interp framed (looks acc a n k) kept s
    ≡ after_look (look_field s.map (length s.mem) acc a n (At r 0)) (λ t. interp framed k kept t) (noted_field s a n) kept
unfolding looks interp look_field note_field
looks_is acc op a zero k kept s r = refl
looks_is acc op a (suc n) k kept s r =
    rw (keeps_none framed acc op a kept) (go (look_in s acc a) refl (looks_is acc op (next a) n k kept (noted s a) r))
  where
    go : (l : Look) → look_in s acc a ≡ l
        → interp framed (looks acc (next a) n k) kept (noted s a)
        ≡ after_look (look_field (accessed_at s.map a) (length s.mem) acc (next a) n (At r 0)) (λ t. interp framed k kept t) (noted_field (noted s a) (next a) n) kept
        → after (verdict_of l) (λ t. interp framed (looks acc (next a) n k) kept t) (noted s a) a kept
        ≡ after_look (or_else l (look_field s.map (length s.mem) acc (next a) n (At r 0))) (λ t. interp framed k kept t) (noted_field (noted s a) (next a) n) kept
    go (Ok spot) e ih =
        ih
        ∙ ap (λ (l : Look). after_look l (λ t. interp framed k kept t) (noted_field (noted s a) (next a) n) kept) (field_blind s a acc (next a) n (At r 0))
    go (Err f) e ih =
        ap (λ (x : ℕ). refused (number_of f.cause) x kept) (refused_place s.map (length s.mem) acc a f.cause f.place e)

pub gets_is : {R : Type 0} (a n v : ℕ) (k : ℕ → Prog R) (kept s : Framed)
    → interp framed (gets a n v k) kept s ≡ interp framed (k (read_field s a n v)) kept s
unfolding gets interp read_field
gets_is a zero v k kept s = refl
gets_is a (suc n) v k kept s = gets_is (next a) n (v * 256 + read_byte s a) k kept s

pub puts_is : {R : Type 0} (a n v : ℕ) (k : Prog R) (kept s : Framed)
    → interp framed (puts a n v k) kept s ≡ interp framed k kept (write_field s a n v)
unfolding puts interp write_field
puts_is a zero v k kept s = refl
puts_is a (suc n) v k kept s = puts_is (next a) n v k kept (write_byte s a (v / 256 ^ n % 256))

pub moves_is : {R : Type 0} (a b n : ℕ) (k : Prog R) (kept s : Framed)
    → interp framed (moves a b n k) kept s ≡ interp framed k kept (move_field s a b n)
unfolding moves interp move_field
moves_is a b zero k kept s = refl
moves_is a b (suc n) k kept s = moves_is (next a) (next b) n k kept (write_byte s a (read_byte s b))

pub compares_is : {R : Type 0} (a b n : ℕ) (k : ℕ → Prog R) (kept s : Framed)
    → interp framed (compares a b n k) kept s ≡ interp framed (k (compare_field s a b n)) kept s
unfolding compares interp compare_field
compares_is a b zero k kept s = refl
compares_is a b (suc n) k kept s =
    go (eqb (read_byte s a) (read_byte s b)) (compares_is (next a) (next b) n k kept s)
  where
    go : (t : Bool)
        → interp framed (compares (next a) (next b) n k) kept s ≡ interp framed (k (compare_field s (next a) (next b) n)) kept s
        → interp framed (pick t (compares (next a) (next b) n k) (k (compare_bits (read_byte s a) (read_byte s b)))) kept s
        ≡ interp framed (k (pick t (compare_field s (next a) (next b) n) (compare_bits (read_byte s a) (read_byte s b)))) kept s
    go true ih = ih
    go false ih = refl
