-- What crosses of a listing, from what was answered.
use Prim.Native.Nat.{ℕ, ◌<◌}
use native.Mathlib.Omega.{arith}
use mathlib.Core.Path.{◌≡◌, refl, sym, ◌∙◌, ap}
use mathlib.Core.List.{List, [], ◌∷◌}
use borrow.Author.Tests.{eq-eqb, ne_eqb}
use lib.ListN.{length, set, replicate}
use lib.Seq.{lt-length-sets}
use Rattle.std.specs.Prelude.{Result, Ok, Err}
use Rattle.lines.specs.declared.Listed.{Listed}
use Rattle.lines.specs.declared.StartOutOfRange.{StartOutOfRange}
use Rattle.lines.specs.Listing.{answered, listed}
use Rattle.outer.specs.Crossing.{crossed_list, handed_over, list_crossed}

-- three stores into three places
all_three : (l : List ℕ) (a b c : ℕ) → length l ≡ 3 → set (set (set l 0 a) 1 b) 2 c ≡ a ∷ b ∷ c ∷ []
all_three [] a b c h = absurd (omega arith)
all_three (u ∷ []) a b c h = absurd (omega arith)
all_three (u ∷ v ∷ []) a b c h = absurd (omega arith)
all_three (u ∷ v ∷ w ∷ []) a b c h = refl
all_three (u ∷ v ∷ w ∷ x ∷ l) a b c h = absurd (omega arith)

-- after two stores there are still three places
pub third_in : (l : List ℕ) (a b : ℕ) → length l ≡ 3 → 2 < length (set (set l 0 a) 1 b)
third_in l a b h =
    let k : 2 < length l = omega arith in
    lt-length-sets l 0 (a ∷ b ∷ []) k

module _ (code : List ℕ) (start : ℕ) (out told : List ℕ) where
  pub list_away : (length told ≡ 3 → ⊥) → crossed_list 6 out told ≡ list_crossed code start out told
  unfolding list_crossed
  list_away h = rw (ne_eqb (length told) 3 h)

  module _ (r : Result Listed StartOutOfRange) (out' : List ℕ) (h : length told ≡ 3) (a : answered r out' ≡ listed code start out) where
    pub list_back : (l : Listed) → r ≡ Ok l
        → crossed_list 0 out' (set (set (set told 0 l.lines) 1 l.next) 2 l.written) ≡ list_crossed code start out told
    unfolding list_crossed
    list_back l e =
        ap (crossed_list 0 out') (all_three told _ _ _ h)
        ∙ rw (eq-eqb (length told) 3 h) (ap handed_over (ap (λ (x : Result Listed StartOutOfRange). answered x out') (sym e) ∙ a))

    pub list_refused : (d : StartOutOfRange) (told' : List ℕ) → r ≡ Err d → told' ≡ replicate (length told) 0
        → crossed_list 6 out' told' ≡ list_crossed code start out told
    unfolding list_crossed
    list_refused d told' e f =
        rw (f, eq-eqb (length told) 3 h, h) (ap handed_over (ap (λ (x : Result Listed StartOutOfRange). answered x out') (sym e) ∙ a))
