-- A text that was written from the start of a buffer of zeros is the buffer's text.
use mathlib.Core.Path.{◌≡◌, sym, ap, ◌∙◌}
use mathlib.Core.List.{List, ◌++◌}
use Prim.Native.Nat.{ℕ, ◌+◌, ◌-◌, ◌≤◌}
use native.Mathlib.Omega.{arith}
use native.Mathlib.Nat.{zero-add}
use Rattle.std.proofs.lemmas.List.{drop-replicate}
use base.Fml.{GName}
use lib.ListN.{length, replicate, drop, length-replicate}
use lib.Seq.{sets-eq}
use Rattle.printing.specs.declared.Text.{Text}
use Rattle.printing.specs.Answer.{text_of}
use Rattle.printing.specs.declared.writing.Writer.{Writer}
use Rattle.printing.specs.Writing.{Spot, spot, wrote, spot_of, Wrote}
use Rattle.printing.proofs.WrittenText.{wrote_sets}

-- m zeros
abbrev pub zeros : ℕ → List ℕ
zeros m = replicate m 0

pub whole : (m : ℕ) (l : List ℕ) → length l ≤ m → wrote (spot (zeros m) 0) l ≡ spot (l ++ zeros (m - length l)) (length l)
whole m l h =
    wrote_sets (zeros m) 0 l fits
    ∙ ap (λ (b : List ℕ). spot b (0 + length l)) (sets-eq l (zeros m) 0 fits)
    ∙ rw (zero-add, drop-replicate {X = ℕ} (length l) m 0)
  where
    fits : 0 + length l ≤ length (zeros m)
    fits = rw (length-replicate {A = ℕ} m 0) (omega arith)

-- b is what s's buffer held when the last loan of it ended
pub filled : (z b : List ℕ) (g : GName) (s t : Writer) (l : List ℕ) → z ≡ zeros 8192 → s.buf.ghost_name ≡ g → spot_of s ≡ spot z 0
    → (g ≡ t.buf.ghost_name → b ≡ t.buf.now) → Wrote s t l → length l ≤ 8192
    → record { bytes = b; len = t.at } ≡ text_of l
unfolding text_of
filled z b g s t l e k a d f h =
    ap (λ (x : List ℕ). text x t.at) (d (sym (f.same_buffer ∙ k)))
    ∙ ap (λ (k : Spot). text k.bytes k.at)
    (f.written ∙ ap (λ (k : Spot). wrote k l) a ∙ ap (λ (k : List ℕ). wrote (spot k 0) l) e ∙ whole 8192 l h)
  where
    text : List ℕ → ℕ → Text
    text b n = record { bytes = b; len = n }
