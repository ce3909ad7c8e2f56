-- The answer is a front of the whole listing: what was written and the listing of the rest are the whole, no further line would have fit,
-- and the rest of the output is as it was.
use mathlib.Core.Path.{◌≡◌, refl, ap, ◌∙◌}
use mathlib.Core.List.{List, [], ◌∷◌, ◌++◌, append_assoc}
use Prim.Native.Nat.{ℕ, ◌+◌, ◌-◌, ◌^◌, ◌≤◌, ◌<◌}
use native.Mathlib.Omega.{arith}
use lib.ListN.{length, take, drop, length-append, length-drop}
use lib.Seq.{take-append_seam, drop-append_seam, drop-drop}
use borrow.Author.Tests.{lt-ltb, le-ltb}
use Rattle.lines.specs.Line.{Line, line, text_of}
use Rattle.lines.specs.Listing.{size_of, wrapped, listing, stretches, texts, fitting, Answer, put_out, listed_from, listed}
use Rattle.lines.proofs.Steps.{listing_some}
use Rattle.lines.proofs.AllBytes.{all_bytes, wrapped_again, wrapped_same, wrapped_small}
use Rattle.lines.proofs.Parted.{Over, parted}
use Rattle.lines.proofs.GoesOn.{behind, goes_on_lem, bytes_go_on, bytes_inside}

texts_append : (ls ms : List Line) → texts (ls ++ ms) ≡ texts ls ++ texts ms
unfolding texts
texts_append [] ms = refl
texts_append (l ∷ ls) ms = rw (texts_append ls ms, append_assoc)

-- the first line of some code
abbrev pub first_line : ℕ → List ℕ → Line
first_line a code = line a (take (size_of code) code)

-- An answer that is a front of these lines, the lines of the code from some byte on, and tells truly how long the front is.
pub record FrontOf (ls : List Line) (code : List ℕ) (start : ℕ) (out : List ℕ) (r : Answer) : Type 0 where
  pub right : r.number ≡ 0
  pub within : r.written ≤ length out
  pub inside : r.next ≤ length code
  pub whole : texts ls ≡ take r.written r.out ++ texts (listing (wrapped (start + r.next)) (drop r.next code))
  pub counted : texts (take r.lines ls) ≡ take r.written r.out
  pub passed : stretches ls ≡ stretches (take r.lines ls) ++ drop r.next code
  pub full : r.next < length code
      → length out < r.written + length (text_of (first_line (wrapped (start + r.next)) (drop r.next code)))
  pub untouched : drop r.written r.out ≡ drop r.written out
  pub as_long : length r.out ≡ length out

over_first : (room a : ℕ) (code : List ℕ) (ls : List Line) → Over room ls → ls ≡ listing a code → 0 < length code
    → room < length (text_of (first_line a code))
over_first room a code ls o e h = rw (e ∙ listing_some a code h) at o

pub front_from : (code : List ℕ) (at start : ℕ) (out : List ℕ) → at ≤ length code
    → FrontOf (listing (wrapped (start + at)) (drop at code)) code start out (listed_from code at start out)
unfolding listed_from put_out
front_from code at start out i =
    let a = wrapped (start + at) in
    let rest = drop at code in
    let room = length out in
    let ls = fitting room (listing a rest) in
    let n = length (stretches ls) in
    let k = length (texts ls) in
    let ms = listing (wrapped (a + n)) (drop n rest) in
    let c = parted room (listing a rest) in
    let h = wrapped_small (start + at) in
    let taken : take (length ls) (listing a rest) ≡ ls = ap (take (length ls)) c.parts ∙ take-append_seam ls c.over in
    record {
      right = refl;
      within = c.fits;
      inside = omega (arith, bytes_inside room a rest h, length-drop at code);
      whole =
          rw (take-append_seam, ← wrapped_again start at n, ← drop-drop n at code)
          (ap texts (goes_on_lem room a rest h) ∙ texts_append ls ms);
      counted = rw take-append_seam (ap texts taken);
      passed = rw (taken, all_bytes a rest, ← drop-drop n at code) (bytes_go_on room a rest h);
      full =
          λ j.
          let left : 0 < length (drop n rest) = omega (arith, j, length-drop n rest, length-drop at code) in
          let still = behind a h rest ls c.over c.parts in
          let long = over_first (room - k) (wrapped (a + n)) (drop n rest) c.over c.full still left in
          rw (← wrapped_again start at n, ← drop-drop n at code) (omega (arith, long, c.fits));
      untouched = drop-append_seam (texts ls) (drop k out);
      as_long = omega (arith, length-append (texts ls) (drop k out), length-drop k out);
    }

pub listed_front : (code : List ℕ) (start : ℕ) (out : List ℕ) → start < 2 ^ 24
    → FrontOf (listing start code) code start out (listed code start out)
unfolding listed
listed_front code start out h = rw lt-ltb (rw (wrapped_same start h) at (front_from code 0 start out (omega arith)))

-- a start out of range: nothing is written
pub listed_nothing : (code : List ℕ) (start : ℕ) (out : List ℕ) → 2 ^ 24 ≤ start
    → listed code start out ≡ record { number = 6; lines = 0; next = 0; written = 0; out = out }
unfolding listed
listed_nothing code start out h = rw le-ltb
