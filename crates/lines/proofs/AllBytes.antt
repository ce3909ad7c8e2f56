-- A listing has every byte of the code once: its lines' stretches, in order, are the code, none of them is empty, and each line's address
-- is that of its first byte.
use mathlib.Core.Path.{◌≡◌, refl, sym, ap, ◌∙◌}
use mathlib.Core.List.{List, [], ◌∷◌, ◌++◌}
use Prim.Native.Nat.{ℕ, zero, suc, ◌+◌, ◌^◌, ◌≤◌, ◌<◌}
use native.Mathlib.Nat.{mod-add-mod, mod-eq_of_lt, mod-lt}
use native.Mathlib.Omega.{arith}
use lib.ListN.{length, take-append-drop, length-append}
use lib.Seq.{length-take-le}
use Rattle.lines.specs.Line.{Line}
use Rattle.lines.specs.Listing.{size_of, wrapped, listing, stretches}
use Rattle.lines.proofs.Steps.{rest, rest_shorter, size_some, size_within, listing_none, listing_some}

-- what holds of no code, and of some code if it holds of what its first line leaves, holds of any code
module _ (P : ℕ → List ℕ → Type 0) (none : (a : ℕ) → P a [])
    (some : (a : ℕ) (code : List ℕ) → 0 < length code → P (wrapped (a + size_of code)) (rest code) → P a code) where
  within : (n a : ℕ) (code : List ℕ) → length code ≤ n → P a code
  within zero a [] h = none a
  within zero a (b ∷ bs) h = absurd (omega arith)
  within (suc n) a [] h = none a
  within (suc n) a (b ∷ bs) h =
      let code = b ∷ bs in
      let l = rest_shorter code (omega arith) in
      some a code (omega arith) (within n (wrapped (a + size_of code)) (rest code) (omega arith))

  pub by_lines : (a : ℕ) (code : List ℕ) → P a code
  by_lines a code = within (length code) a code (omega arith)

pub all_bytes : (a : ℕ) (code : List ℕ) → stretches (listing a code) ≡ code
unfolding stretches
all_bytes = by_lines (λ a code. stretches (listing a code) ≡ code) none some
  where
    none : (a : ℕ) → stretches (listing a []) ≡ []
    none a = rw listing_none

    some : (a : ℕ) (code : List ℕ) → 0 < length code → stretches (listing (wrapped (a + size_of code)) (rest code)) ≡ rest code
        → stretches (listing a code) ≡ code
    some a code h e = rw (listing_some a code h, e) (take-append-drop (size_of code) code)

-- no stretch is empty, and each line's address is the one before and its stretch's length, wrapped
abbrev pub InOrder : ℕ → List Line → Type 0
InOrder a [] = Unit {0}
InOrder a (l ∷ ls) = (l.address ≡ a) × (0 < length l.bytes) × InOrder (wrapped (a + length l.bytes)) ls

pub in_order : (a : ℕ) (code : List ℕ) → InOrder a (listing a code)
in_order = by_lines (λ a code. InOrder a (listing a code)) none some
  where
    none : (a : ℕ) → InOrder a (listing a [])
    none a = rw listing_none tt

    some : (a : ℕ) (code : List ℕ) → 0 < length code
        → InOrder (wrapped (a + size_of code)) (listing (wrapped (a + size_of code)) (rest code)) → InOrder a (listing a code)
    some a code h o =
        let k : size_of code ≤ length code = size_within code h in
        rw (listing_some a code h, length-take-le (size_of code) code k) (refl, size_some code h, o)

pub wrapped_again : (a m n : ℕ) → wrapped (wrapped (a + m) + n) ≡ wrapped (a + (m + n))
wrapped_again a m n = mod-add-mod (a + m) (2 ^ 24) n ∙ ap wrapped (omega arith)

pub wrapped_same : (a : ℕ) → a < 2 ^ 24 → wrapped (a + 0) ≡ a
wrapped_same a h = ap wrapped (omega arith) ∙ mod-eq_of_lt h

pub wrapped_small : (a : ℕ) → wrapped a < 2 ^ 24
wrapped_small a = mod-lt a (omega arith)

-- the line behind lines of n bytes has the address that lies n on
addressed : (a : ℕ) → a < 2 ^ 24 → (before : List Line) (l : Line) (behind : List Line) → InOrder a (before ++ l ∷ behind)
    → l.address ≡ wrapped (a + length (stretches before))
unfolding stretches
addressed a h [] l behind o = o.0 ∙ sym (wrapped_same a h)
addressed a h (k ∷ ks) l behind o =
    addressed (wrapped (a + length k.bytes)) (wrapped_small (a + length k.bytes)) ks l behind o.2
    ∙ wrapped_again a (length k.bytes) (length (stretches ks))
    ∙ ap (λ (n : ℕ). wrapped (a + n)) (sym (length-append k.bytes (stretches ks)))

pub addresses : (a : ℕ) → a < 2 ^ 24 → (code : List ℕ) (before : List Line) (l : Line) (behind : List Line)
    → listing a code ≡ before ++ l ∷ behind → l.address ≡ wrapped (a + length (stretches before))
addresses a h code before l behind e = addressed a h before l behind (rw e at (in_order a code))
