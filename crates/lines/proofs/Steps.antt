-- A listing a line at a time: its first line takes at least one byte, six at most and no more than there are, and the rest is the
-- listing of the rest.
use mathlib.Core.Path.{◌≡◌, refl, ap}
use mathlib.Core.Bool.{Bool, true, false}
use mathlib.Core.List.{List, [], ◌∷◌}
use Prim.Native.Nat.{ℕ, zero, suc, ◌+◌, ◌≤◌, ◌<◌}
use native.Mathlib.Omega.{arith}
use lib.Dec.{leb, ltb}
use lib.ListN.{length, get_or, take, drop, length-drop}
use borrow.Author.Tests.{leb-true, ltb-true, ltb-false}
use Rattle.std.specs.Prelude.{Option, Some, None}
use Rattle.words.specs.Pick.{pick}
use Rattle.code.specs.declared.Action.{Action}
use Rattle.code.specs.declared.Action.TheVariants.{Rr, Rx, Rs, Si, Ss}
use Rattle.code.specs.Table.{action_of}
use Rattle.code.specs.Formats.{length_of}
use Rattle.lines.specs.Line.{Line, line}
use Rattle.lines.specs.Listing.{size_in, raw_size, size_of, wrapped, lines_in, listing}

-- a number of bytes that a line may stand for, where so many are left
abbrev Takes : ℕ → ℕ → Type 0
Takes left k = (0 < k) × (k ≤ left) × (k ≤ 6)

raw_takes : (left : ℕ) → 0 < left → Takes left (raw_size left)
raw_takes left h = go (ltb left 2) refl
  where
    go : (t : Bool) → ltb left 2 ≡ t → Takes left (pick t left 2)
    go true e = (h, omega arith, omega (arith, ltb-true left 2 e))
    go false e = (omega arith, ltb-false left 2 e, omega arith)

length_some : (x : Action) → (0 < length_of x) × (length_of x ≤ 6)
length_some (Rr x) = omega arith
length_some (Rx x) = omega arith
length_some (Rs x) = omega arith
length_some (Si x) = omega arith
length_some (Ss x) = omega arith

takes : (f : Option Action) (left : ℕ) → 0 < left → Takes left (size_in f left)
takes None left h = raw_takes left h
takes (Some x) left h = go (leb (length_of x) left) refl
  where
    go : (t : Bool) → leb (length_of x) left ≡ t → Takes left (pick t (length_of x) (raw_size left))
    go true e = ((length_some x).0, leb-true (length_of x) left e, (length_some x).1)
    go false e = raw_takes left h

module _ (code : List ℕ) (h : 0 < length code) where
  pub size_some : 0 < size_of code
  unfolding size_of
  size_some = (takes (action_of (get_or code 0 0)) (length code) h).0

  pub size_within : size_of code ≤ length code
  unfolding size_of
  size_within = (takes (action_of (get_or code 0 0)) (length code) h).1

  pub size_few : size_of code ≤ 6
  unfolding size_of
  size_few = (takes (action_of (get_or code 0 0)) (length code) h).2

-- what is left of some code behind its first line
abbrev pub rest : List ℕ → List ℕ
rest code = drop (size_of code) code

pub rest_shorter : (code : List ℕ) → 0 < length code → length (rest code) < length code
rest_shorter code h = rw length-drop (omega (arith, size_some code h, size_within code h))

-- as many lines as there are bytes are enough
enough : (n m a : ℕ) (code : List ℕ) → length code ≤ n → length code ≤ m → lines_in n a code ≡ lines_in m a code
unfolding lines_in
enough zero zero a code h k = refl
enough zero (suc m) a [] h k = refl
enough zero (suc m) a (b ∷ bs) h k = absurd (omega arith)
enough (suc n) zero a [] h k = refl
enough (suc n) zero a (b ∷ bs) h k = absurd (omega arith)
enough (suc n) (suc m) a [] h k = refl
enough (suc n) (suc m) a (b ∷ bs) h k =
    let code = b ∷ bs in
    let l = rest_shorter code (omega arith) in
    let i : length (rest code) ≤ n = omega arith in
    let j : length (rest code) ≤ m = omega arith in
    ap (λ (ls : List Line). line a (take (size_of code) code) ∷ ls) (enough n m (wrapped (a + size_of code)) (rest code) i j)

pub listing_none : (a : ℕ) → listing a [] ≡ []
unfolding listing lines_in
listing_none a = refl

pub listing_some : (a : ℕ) (code : List ℕ) → 0 < length code
    → listing a code ≡ line a (take (size_of code) code) ∷ listing (wrapped (a + size_of code)) (rest code)
unfolding listing lines_in
listing_some a [] h = absurd (omega arith)
listing_some a (b ∷ bs) h =
    let code = b ∷ bs in
    let l = rest_shorter code h in
    let i : length (rest code) ≤ length bs = omega arith in
    ap (λ (ls : List Line). line a (take (size_of code) code) ∷ ls)
    (enough (length bs) (length (rest code)) (wrapped (a + size_of code)) (rest code) i (omega arith))
