-- A caller who goes on until the code is at its end gets the whole listing, if the output has room for a line.
use mathlib.Core.Path.{◌≡◌, sym, ap, ◌∙◌}
use mathlib.Core.List.{List, [], ◌∷◌, ◌++◌}
use Prim.Native.Nat.{ℕ, zero, suc, ◌+◌, ◌^◌, ◌≤◌, ◌<◌}
use native.Mathlib.Omega.{arith}
use lib.ListN.{length, take, drop, length-append, length-drop}
use borrow.Author.Tests.{lt-ltb, le-leb}
use Rattle.lines.specs.Line.{Line, text_of}
use Rattle.lines.specs.Listing.{wrapped, listing, stretches, texts, fitting, put_out, listed_from, listed}
use Rattle.lines.proofs.Steps.{listing_none, listing_some}
use Rattle.lines.proofs.AllBytes.{InOrder, in_order, wrapped_same, wrapped_small}
use Rattle.lines.proofs.GoesOn.{goes_on_lem}
use Rattle.lines.proofs.Fronts.{first_line, listed_front}

-- the caller: what is written, call for call, n calls at most; each time what is left of the code, and the output as the last call left it
unfoldable pub in_pieces : ℕ → List ℕ → ℕ → List ℕ → List ℕ
in_pieces zero out a code = []
in_pieces (suc n) out a [] = []
in_pieces (suc n) out a (b ∷ bs) =
    let code = b ∷ bs in
    let r = listed code a out in
    take r.written r.out ++ in_pieces n r.out (wrapped (a + r.next)) (drop r.next code)

-- a room in which a code's first line fits holds one line at least
pub one_fits : (room a : ℕ) (code : List ℕ) → 0 < length code → length (text_of (first_line a code)) ≤ room
    → 0 < length (fitting room (listing a code))
unfolding fitting
one_fits room a code h k = rw (listing_some a code h, le-leb) (omega arith)

some_bytes : (a : ℕ) (ls ms : List Line) → InOrder a (ls ++ ms) → 0 < length ls → 0 < length (stretches ls)
unfolding stretches
some_bytes a [] ms o h = absurd (omega arith)
some_bytes a (l ∷ ls) ms o h = omega (arith, o.1, length-append l.bytes (stretches ls))

next_some : (a : ℕ) (code out : List ℕ) → a < 2 ^ 24 → 0 < length (fitting (length out) (listing a code))
    → 0 < (listed code a out).next
unfolding listed listed_from put_out
next_some a code out h f =
    let ls = fitting (length out) (listing a code) in
    let n = length (stretches ls) in
    let o : InOrder a (ls ++ listing (wrapped (a + n)) (drop n code)) = rw (← goes_on_lem (length out) a code h) (in_order a code) in
    rw (lt-ltb, wrapped_same a h) (omega (arith, some_bytes a ls _ o f))

-- Codes of a kind, which their ends are of too, and a room that holds a line of each.
module _ (Fine : List ℕ → Type 0) (ends : (n : ℕ) (code : List ℕ) → Fine code → Fine (drop n code)) (room : ℕ)
    (holds : (a : ℕ) (code : List ℕ) → Fine code → 0 < length code → 0 < length (fitting room (listing a code))) where
  enough : (n : ℕ) (out : List ℕ) → length out ≡ room → (a : ℕ) → a < 2 ^ 24 → (code : List ℕ) → Fine code → length code ≤ n
      → in_pieces n out a code ≡ texts (listing a code)
  unfolding in_pieces texts
  enough zero out e a h [] f k = rw listing_none
  enough zero out e a h (b ∷ bs) f k = absurd (omega arith)
  enough (suc n) out e a h [] f k = rw listing_none
  enough (suc n) out e a h (b ∷ bs) f k =
      let code = b ∷ bs in
      let r = listed code a out in
      let p = listed_front code a out h in
      let some : 0 < r.next = next_some a code out h (rw e (holds a code f (omega arith))) in
      let left = drop r.next code in
      let fewer : length left ≤ n = omega (arith, length-drop r.next code) in
      let small = wrapped_small (a + r.next) in
      let rest = enough n r.out (p.as_long ∙ e) (wrapped (a + r.next)) small left (ends r.next code f) fewer in
      ap (λ (text : List ℕ). take r.written r.out ++ text) rest ∙ sym p.whole

  pub everything : (out : List ℕ) → length out ≡ room → (a : ℕ) → a < 2 ^ 24 → (code : List ℕ) → Fine code
      → in_pieces (length code) out a code ≡ texts (listing a code)
  everything out e a h code f = enough (length code) out e a h code f (omega arith)
