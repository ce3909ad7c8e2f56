-- No second answer meets the same words: a reply and the output can be told from the answer.
use mathlib.Core.Path.{◌≡◌, refl, sym, ◌∙◌, ap}
use mathlib.Core.List.{List}
use Prim.Native.Nat.{ℕ}
use native.Mathlib.Omega.{arith}
use Rattle.std.specs.Prelude.{Result, Ok, Err}
use Rattle.lines.specs.declared.Listed.{Listed}
use Rattle.lines.specs.declared.StartOutOfRange.{StartOutOfRange}
use Rattle.lines.specs.Listing.{Answer, answered}

-- `answered result out.new ≡ ..`
pub only_answered : (r r' : Result Listed StartOutOfRange) (out out' : List ℕ) (x : Answer) → answered r out ≡ x → answered r' out' ≡ x
    → (r ≡ r') × (out ≡ out')
only_answered r r' out out' x e e' = (same r r' (e ∙ sym e'), outs r r' (e ∙ sym e'))
  where
    same : (r r' : Result Listed StartOutOfRange) → answered r out ≡ answered r' out' → r ≡ r'
    same (Ok r) (Ok r') e = ap (λ (a : Answer). Ok (record { lines = a.lines; next = a.next; written = a.written })) e
    same (Ok r) (Err d) e = absurd (omega (arith, ap (λ (a : Answer). a.number) e))
    same (Err d) (Ok r) e = absurd (omega (arith, ap (λ (a : Answer). a.number) e))
    same (Err d) (Err d') e = refl

    outs : (r r' : Result Listed StartOutOfRange) → answered r out ≡ answered r' out' → out ≡ out'
    outs (Ok r) (Ok r') e = ap (λ (a : Answer). a.out) e
    outs (Ok r) (Err d) e = ap (λ (a : Answer). a.out) e
    outs (Err d) (Ok r) e = ap (λ (a : Answer). a.out) e
    outs (Err d) (Err d') e = ap (λ (a : Answer). a.out) e
