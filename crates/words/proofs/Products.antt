-- A product of two words always fits a double word; and the low product is its right half.
use mathlib.Core.Path.{◌≡◌}
use Prim.Native.Nat.{ℕ, ◌*◌, ◌%◌, ◌≤◌, ◌<◌}
use native.Mathlib.Nat.{mul-le-mul}
use native.Mathlib.Omega.{arith}
use lib.IntN.{ℤ, pos, negsuc, nat_abs, ◌*ℤ◌}
use Rattle.std.specs.Prelude.{Ok}
use Rattle.words.specs.declared.Alu.TheVariants.{LowProduct}
use Rattle.words.specs.declared.PairOp.TheVariants.{Multiply}
use Rattle.words.specs.Whole.{word_top, double_top, signed, kept}
use Rattle.words.specs.Combine.{combine_of}
use Rattle.words.specs.Wide.{pair_of, product_of}
use Rattle.words.proofs.Range.{fits, mag_small, signed_size}
use Rattle.words.proofs.Signs.{product_sized, size_sized}
use Rattle.words.proofs.ReadBack.{signed_kept, kept_below}

-- the double word of a product stands for the product
pub product_is : (a b : ℕ) → a < 4294967296 → b < 4294967296 → signed double_top (product_of a b) ≡ signed word_top a *ℤ signed word_top b
unfolding product_of
product_is a b l m =
    let x = signed word_top a in
    let y = signed word_top b in
    let sizes = mul-le-mul (signed_size word_top a l) (signed_size word_top b m) in
    let size : nat_abs (x *ℤ y) ≤ 2147483648 * 2147483648 = rw (product_sized x y, size_sized) sizes in
    signed_kept double_top (x *ℤ y) (omega arith) (fits double_top (x *ℤ y) (omega (arith, mag_small (x *ℤ y))))

-- it is a double word
pub product_below : (a b : ℕ) → product_of a b < 18446744073709551616
unfolding product_of
product_below a b = kept_below double_top (signed word_top a *ℤ signed word_top b) (omega arith)

-- Multiply leaves the product of the pair's right word, whatever the left one is
pub multiplied : (w b v : ℕ) → b < 4294967296 → pair_of Multiply w b ≡ Ok v
    → (v < 18446744073709551616) × (signed double_top v ≡ signed word_top (w % 4294967296) *ℤ signed word_top b)
unfolding pair_of
multiplied w b v l e =
    let a = w % 4294967296 in
    let p : product_of a b ≡ v = cc in
    rw (← p) (product_below a b, product_is a b (omega arith) l)

-- what a word keeps of a whole number is the right half of what a double word keeps
pub right_half_lem : (z : ℤ) → kept word_top z ≡ kept double_top z % 4294967296
unfolding kept
right_half_lem (pos n) = omega arith
right_half_lem (negsuc n) = omega arith

-- MH's word is the right half of the product
pub low_product : (a b cc : ℕ) → (combine_of LowProduct a b cc).value ≡ product_of a b % 4294967296
unfolding combine_of product_of
low_product a b cc = right_half_lem (signed word_top a *ℤ signed word_top b)
