-- No second answer meets the same words: a text's place and buffer, and a number's width, can be told from what they stand for.
use mathlib.Core.Path.{◌≡◌, sym, ◌∙◌, ap}
use mathlib.Core.List.{List}
use Prim.Native.Nat.{ℕ}
use lib.ListN.{length}
use Rattle.printing.specs.Digits.{digits_of}
use Rattle.printing.specs.declared.writing.Writer.{Writer}
use Rattle.printing.specs.Writing.{Spot, spot, Wrote}
use Rattle.printing.proofs.Lengths.{digits_long}

-- `spot buf.new result ≡ ..`
pub only_spot : (buf buf' : List ℕ) (r r' : ℕ) (x : Spot) → spot buf r ≡ x → spot buf' r' ≡ x → (buf ≡ buf') × (r ≡ r')
only_spot buf buf' r r' x e e' = (ap (λ (s : Spot). s.bytes) (e ∙ sym e'), ap (λ (s : Spot). s.at) (e ∙ sym e'))

-- `Wrote w v text`
pub only_wrote : (w v v' : Writer) (text : List ℕ) → Wrote w v text → Wrote w v' text
    → (v.buf.now ≡ v'.buf.now) × (v.at ≡ v'.at) × (v.buf.ghost_name ≡ v'.buf.ghost_name)
only_wrote w v v' text h h' = (
  ap (λ (s : Spot). s.bytes) (h.written ∙ sym h'.written),
  ap (λ (s : Spot). s.at) (h.written ∙ sym h'.written),
  h.same_buffer ∙ sym h'.same_buffer,
)

-- `digits_of 10 r v ≡ ..`: so many digits are no other number of digits
pub only_width : (r r' v : ℕ) (x : List ℕ) → digits_of 10 r v ≡ x → digits_of 10 r' v ≡ x → r ≡ r'
only_width r r' v x e e' = sym (digits_long 10 r v) ∙ ap length (e ∙ sym e') ∙ digits_long 10 r' v
