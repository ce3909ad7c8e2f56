-- A stretch is an instruction, as long as its format asks, or it is none: what holds of both holds of it.
use mathlib.Core.Path.{◌≡◌, refl}
use mathlib.Core.Bool.{Bool, true, false}
use mathlib.Core.List.{List}
use Prim.Native.Nat.{ℕ}
use lib.Dec.{eqb}
use lib.ListN.{length, get_or}
use borrow.Author.Tests.{eqb-true}
use Rattle.std.specs.Prelude.{Option, Some, None}
use Rattle.words.specs.Pick.{pick}
use Rattle.code.specs.declared.Action.{Action}
use Rattle.code.specs.Table.{action_of}
use Rattle.code.specs.Formats.{length_of}
use Rattle.lines.specs.Line.{of_length, instruction_in}

module _ (bs : List ℕ) (P : Option Action → Type 0) (raw : P None)
    (known : (x : Action) → action_of (get_or bs 0 0) ≡ Some x → length bs ≡ length_of x → P (Some x)) where
  sized : (x : Action) → action_of (get_or bs 0 0) ≡ Some x → (t : Bool) → eqb (length bs) (length_of x) ≡ t → P (pick t (Some x) None)
  sized x e true n = known x e (eqb-true (length bs) (length_of x) n)
  sized x e false n = raw

  found : (f : Option Action) → action_of (get_or bs 0 0) ≡ f → P (of_length f (length bs))
  found (Some x) e = sized x e (eqb (length bs) (length_of x)) refl
  found None e = raw

  pub by_kind : P (instruction_in bs)
  unfolding instruction_in
  by_kind = found (action_of (get_or bs 0 0)) refl
