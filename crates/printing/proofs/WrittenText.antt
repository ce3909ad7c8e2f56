-- Laws of `wrote`: one byte, a text after another, and a whole text in a buffer that holds it.
use mathlib.Core.Path.{◌≡◌, refl, sym, ap, ◌∙◌}
use mathlib.Core.List.{List, [], ◌∷◌, ◌++◌, append_assoc}
use Prim.Native.Nat.{ℕ, suc, ◌+◌, ◌≤◌, ◌<◌}
use native.Mathlib.Omega.{arith}
use native.Mathlib.Numerals.{add-one}
use lib.ListN.{length, set, length-set}
use lib.Seq.{sets}
use borrow.Author.Tests.{lt-ltb, le-ltb}
use Rattle.printing.specs.declared.writing.Writer.{Writer}
use Rattle.printing.specs.Writing.{Spot, spot, put_at, wrote, spot_of, Wrote}

module _ (b : List ℕ) (i x : ℕ) where
  pub put_in : i < length b → spot (set b i x) (i + 1) ≡ wrote (spot b i) (x ∷ [])
  unfolding wrote put_at
  put_in h = rw (lt-ltb i (length b) h)

  pub put_out_lem : length b ≤ i → spot b i ≡ wrote (spot b i) (x ∷ [])
  unfolding wrote put_at
  put_out_lem h = rw (le-ltb i (length b) h)

pub wrote_append : (s : Spot) (x y : List ℕ) → wrote s (x ++ y) ≡ wrote (wrote s x) y
unfolding wrote
wrote_append s [] y = refl
wrote_append s (b ∷ x) y = wrote_append (put_at s b) x y

-- no text
pub wrote_none : (s : Writer) → Wrote s s []
wrote_none s = record { same_buffer = refl; written = unfold wrote in refl }

-- s, then x, then y
pub after : (s t u : Writer) (x y : List ℕ) → Wrote s t x → Wrote t u y → Wrote s u (x ++ y)
after s t u x y e f =
    record {
      same_buffer = f.same_buffer ∙ e.same_buffer;
      written = f.written ∙ ap (λ (k : Spot). wrote k y) e.written ∙ sym (wrote_append (spot_of s) x y);
    }

-- x is there, and y comes with z behind it
pub also : (s t u : Spot) (x y z : List ℕ) → t ≡ wrote s x → u ≡ wrote t (y ++ z) → u ≡ wrote s (x ++ y ++ z)
also s t u x y z e f =
    f ∙ ap (λ (k : Spot). wrote k (y ++ z)) e ∙ sym (wrote_append s x (y ++ z)) ∙ ap (wrote s) (sym (append_assoc x y z))

-- the same of writers
pub also_wrote : (s t u : Writer) (x y z : List ℕ) → Wrote s t x → Wrote t u (y ++ z) → Wrote s u (x ++ y ++ z)
also_wrote s t u x y z e f =
    record {
      same_buffer = f.same_buffer ∙ e.same_buffer;
      written = also (spot_of s) (spot_of t) (spot_of u) x y z e.written f.written;
    }

-- where the text fits, every byte of it stands in the buffer
pub wrote_sets : (b : List ℕ) (i : ℕ) (x : List ℕ) → i + length x ≤ length b → wrote (spot b i) x ≡ spot (sets b i x) (i + length x)
unfolding wrote put_at
wrote_sets b i [] h =
    let n : i ≡ i + 0 = omega arith in
    ap (spot b) n
wrote_sets b i (a ∷ x) h =
    let l : i < length b = omega arith in
    let n : suc i + length x ≡ i + suc (length x) = omega arith in
    let k : suc i + length x ≤ length (set b i a) = rw (length-set b i a) (omega arith) in
    rw (lt-ltb i (length b) l, add-one) (wrote_sets (set b i a) (suc i) x k ∙ ap (spot (sets (set b i a) (suc i) x)) n)
