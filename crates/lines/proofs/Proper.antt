-- What every line of a listing is: a stretch of six bytes at most, each below 256 if the code's are.
use mathlib.Core.List.{List, [], ◌∷◌}
use Prim.Native.Nat.{ℕ, zero, suc, ◌+◌, ◌≤◌, ◌<◌}
use native.Mathlib.Omega.{arith}
use lib.ListN.{length, get_or, take, drop, length-take}
use lib.Seq.{get_or-drop}
use Rattle.lines.specs.Line.{Line}
use Rattle.lines.specs.Listing.{size_of, wrapped, listing}
use Rattle.lines.proofs.Steps.{rest, size_few, listing_none, listing_some}
use Rattle.lines.proofs.AllBytes.{by_lines}
use Rattle.lines.proofs.Fronts.{first_line}

abbrev pub Bytes : List ℕ → Type 0
Bytes bs = (i : ℕ) → get_or bs i 0 < 256

pub record Proper (l : Line) : Type 0 where
  pub small : Bytes l.bytes
  pub few : length l.bytes ≤ 6

abbrev pub Each : (Line → Type 0) → List Line → Type 0
Each P [] = Unit {0}
Each P (l ∷ ls) = P l × Each P ls

front_small : (n : ℕ) (bs : List ℕ) → Bytes bs → Bytes (take n bs)
front_small zero bs h i = omega arith
front_small (suc n) [] h i = h i
front_small (suc n) (b ∷ bs) h zero = h 0
front_small (suc n) (b ∷ bs) h (suc i) = front_small n bs (λ j. h (suc j)) i

pub end_small : (n : ℕ) (bs : List ℕ) → Bytes bs → Bytes (drop n bs)
end_small n bs h i = rw get_or-drop (h (n + i))

pub first_proper : (a : ℕ) (code : List ℕ) → 0 < length code → Bytes code → Proper (first_line a code)
first_proper a code n h =
    record {
      small = front_small (size_of code) code h;
      few = omega (arith, length-take (size_of code) code, size_few code n);
    }

pub each_proper : (a : ℕ) (code : List ℕ) → Bytes code → Each Proper (listing a code)
each_proper = by_lines (λ a code. Bytes code → Each Proper (listing a code)) none some
  where
    none : (a : ℕ) → Bytes [] → Each Proper (listing a [])
    none a h = rw listing_none tt

    some : (a : ℕ) (code : List ℕ) → 0 < length code → (Bytes (rest code) → Each Proper (listing (wrapped (a + size_of code)) (rest code)))
        → Bytes code → Each Proper (listing a code)
    some a code l later h = rw (listing_some a code l) (first_proper a code l h, later (end_small (size_of code) code h))
