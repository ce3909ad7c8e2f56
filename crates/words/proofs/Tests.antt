-- Two tests that must both hold.
use mathlib.Core.Path.{◌≡◌, refl}
use mathlib.Core.Bool.{Bool, true, false}
use Prim.Native.Nat.{ℕ}
use native.Mathlib.Omega.{arith}
use Rattle.words.specs.Pick.{pick, both}

pub both_true : (t u : Bool) → both t u ≡ true → (t ≡ true) × (u ≡ true)
both_true true u e = (refl, e)
both_true false u e = absurd (let z : ◌≡◌ {A = ℕ} 0 1 = cc in omega arith)

pub left_of_lem : (t u : Bool) → both t u ≡ true → t ≡ true
left_of_lem t u e = (both_true t u e).0

pub right_of_lem : (t u : Bool) → both t u ≡ true → u ≡ true
right_of_lem t u e = (both_true t u e).1

pub pick_false : {A : Type 0} (t u : Bool) (x y : A) → u ≡ false → y ≡ pick (both t u) x y
pick_false true u x y e = rw e
pick_false false u x y e = refl
