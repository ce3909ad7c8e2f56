-- Going on from the byte behind the lines that fit gives just the rest: those lines and the listing of the rest are the whole listing.
use mathlib.Core.Path.{◌≡◌, refl, sym, ap, ◌∙◌}
use mathlib.Core.List.{List, [], ◌∷◌, ◌++◌, append_assoc}
use Prim.Native.Nat.{ℕ, ◌+◌, ◌^◌, ◌≤◌, ◌<◌}
use native.Mathlib.Omega.{arith}
use lib.ListN.{length, take, drop, length-append}
use lib.Seq.{length-take-le, drop-drop}
use Rattle.lines.specs.Line.{Line, line}
use Rattle.lines.specs.Listing.{size_of, wrapped, listing, stretches, fitting}
use Rattle.lines.proofs.Steps.{rest, size_within, listing_none, listing_some}
use Rattle.lines.proofs.AllBytes.{all_bytes, wrapped_again, wrapped_same, wrapped_small}
use Rattle.lines.proofs.Parted.{parted}

stretches_append : (ls ms : List Line) → stretches (ls ++ ms) ≡ stretches ls ++ stretches ms
unfolding stretches
stretches_append [] ms = refl
stretches_append (l ∷ ls) ms = rw (stretches_append ls ms, append_assoc)

-- Wherever a listing is cut, the lines behind are the listing of the bytes behind.
pub behind : (a : ℕ) → a < 2 ^ 24 → (code : List ℕ) (ls ms : List Line) → listing a code ≡ ls ++ ms
    → ms ≡ listing (wrapped (a + length (stretches ls))) (drop (length (stretches ls)) code)
unfolding stretches
behind a h code [] ms e = rw (wrapped_same a h) (sym e)
behind a h [] (l ∷ ls) ms e = absurd (let z : ◌≡◌ {A = ℕ} 0 1 = cc (listing_none a) in omega arith)
behind a h (b ∷ bs) (l ∷ ls) ms e =
    let code = b ∷ bs in
    let k = size_of code in
    let n = length (stretches ls) in
    let first = listing_some a code (omega arith) in
    let here : line a (take k code) ≡ l = cc in
    let there : listing (wrapped (a + k)) (rest code) ≡ ls ++ ms = cc in
    let taken = length-take-le k code (size_within code (omega arith)) in
    let long : length l.bytes ≡ k = ap (λ (m : Line). length m.bytes) (sym here) ∙ taken in
    let sum : length (l.bytes ++ stretches ls) ≡ k + n = length-append l.bytes (stretches ls) ∙ ap (λ (m : ℕ). m + n) long in
    rw (sum, ← wrapped_again a k n, ← drop-drop n k code) (behind (wrapped (a + k)) (wrapped_small (a + k)) (rest code) ls ms there)

-- the bytes behind the lines that fit are listed behind them, and those before them are theirs
module _ (room a : ℕ) (code : List ℕ) (h : a < 2 ^ 24) where
  pub goes_on_lem : let ls = fitting room (listing a code) in let n = length (stretches ls) in
      listing a code ≡ ls ++ listing (wrapped (a + n)) (drop n code)
  goes_on_lem =
      let c = parted room (listing a code) in
      let ls = fitting room (listing a code) in
      c.parts ∙ ap (λ (ms : List Line). ls ++ ms) (behind a h code ls c.over c.parts)

  pub bytes_go_on : let ls = fitting room (listing a code) in code ≡ stretches ls ++ drop (length (stretches ls)) code
  bytes_go_on =
      let ls = fitting room (listing a code) in
      let n = length (stretches ls) in
      let ms = listing (wrapped (a + n)) (drop n code) in
      sym (all_bytes a code) ∙ ap stretches goes_on_lem ∙ stretches_append ls ms
      ∙ ap (λ (bs : List ℕ). stretches ls ++ bs) (all_bytes (wrapped (a + n)) (drop n code))

  pub bytes_inside : length (stretches (fitting room (listing a code))) ≤ length code
  bytes_inside =
      let ls = fitting room (listing a code) in
      omega (arith, ap length bytes_go_on, length-append (stretches ls) (drop (length (stretches ls)) code))
