-- What a stretch is: its bytes, and whether it is an instruction.
use mathlib.Core.Path.{◌≡◌, refl, sym, ap, ◌∙◌}
use mathlib.Core.List.{List}
use Prim.Native.Nat.{ℕ}
use lib.ListN.{length, get_or}
use borrow.Author.Tests.{eq-eqb, ne_eqb}
use Rattle.std.specs.Prelude.{Option, Some, None}
use Rattle.code.specs.declared.Action.{Action}
use Rattle.code.specs.declared.Action.TheVariants.{Rr, Rx, Rs, Si, Ss}
use Rattle.code.specs.Table.{action_of}
use Rattle.code.specs.Formats.{length_of}
use Rattle.lines.specs.Line.{of_length, instruction_in}

module _ (bs : List ℕ) where
  none : (f : Option Action) → None ≡ of_length f 0
  none None = refl
  none (Some (Rr x)) = refl
  none (Some (Rx x)) = refl
  none (Some (Rs x)) = refl
  none (Some (Si x)) = refl
  none (Some (Ss x)) = refl

  pub empty_is_none : length bs ≡ 0 → None ≡ instruction_in bs
  unfolding instruction_in
  empty_is_none e = none (action_of (get_or bs 0 0)) ∙ ap (of_length (action_of (get_or bs 0 0))) (sym e)

  module _ (f : Option Action) (e : f ≡ action_of (get_or bs 0 0)) where
    is_of_lem : (g : Option Action) → f ≡ g → of_length g (length bs) ≡ instruction_in bs
    unfolding instruction_in
    is_of_lem g k = ap (λ (h : Option Action). of_length h (length bs)) (sym k ∙ e)

    pub unknown_is_none : f ≡ None → None ≡ instruction_in bs
    unknown_is_none k = is_of_lem None k

    module _ (x : Action) (n : ℕ) (k : f ≡ Some x) (l : n ≡ length_of x) where
      pub whole_is_one : length bs ≡ n → Some x ≡ instruction_in bs
      whole_is_one h = rw (eq-eqb (length bs) (length_of x) (h ∙ l)) at (is_of_lem (Some x) k)

      pub other_is_none : (length bs ≡ n → ⊥) → None ≡ instruction_in bs
      other_is_none h = rw (ne_eqb (length bs) (length_of x) (λ m. h (m ∙ sym l))) at (is_of_lem (Some x) k)
