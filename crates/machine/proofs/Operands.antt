-- An operand's look-up: a refusal that comes later keeps nothing of it.
use Prim.Native.Nat.{ℕ}
use mathlib.Core.Path.{◌≡◌, refl}
use Rattle.pages.specs.declared.Access.{Access}
use Rattle.pages.specs.declared.Access.TheVariants.{Fetch, Load, Store}
use Rattle.machine.specs.Prog.{Ops, keeps}

abbrev pub ForOperand : Access → Type 0
ForOperand Fetch = ⊥
ForOperand Load = Unit {0}
ForOperand Store = Unit {0}

pub keeps_none : {S : Type 0} (o : Ops S) (acc : Access) → ForOperand acc → (a : ℕ) (kept : S) → keeps o acc a kept ≡ kept
keeps_none o Fetch f a kept = absurd f
keeps_none o Load f a kept = refl
keeps_none o Store f a kept = refl
