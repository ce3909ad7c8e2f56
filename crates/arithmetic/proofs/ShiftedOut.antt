-- Shifts by 32 and more: nothing of the word is left.
use mathlib.Core.Path.{◌≡◌}
use Prim.Native.Nat.{ℕ, ◌+◌, ◌-◌, ◌*◌, ◌/◌, ◌%◌, ◌^◌, ◌≤◌, ◌<◌}
use native.Mathlib.Omega.{arith}
use native.Mathlib.Nat.{div-eq_of_lt, lt_of_lt_of_le, mul_assoc, mul-mod_left}
use lib.Pow.{pow_mono, pow-add}

pub right_out : (a k : ℕ) → a < 2 ^ 32 → 32 ≤ k → a / 2 ^ k ≡ 0
right_out a k h l = div-eq_of_lt (lt_of_lt_of_le h (pow_mono l))

pub left_out : (a k : ℕ) → 32 ≤ k → a * 2 ^ k % 4294967296 ≡ 0
left_out a k l =
    let n : k ≡ k - 32 + 32 = omega arith in
    rw (n, pow-add 2 (k - 32) 32, ← mul_assoc a (2 ^ (k - 32)) 4294967296) (mul-mod_left (a * 2 ^ (k - 32)) 4294967296)
