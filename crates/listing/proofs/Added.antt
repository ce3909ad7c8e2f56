-- A line in its buffer of 33 bytes, and added to the output where it fits.
use mathlib.Core.Path.{◌≡◌, ap, ap₂, ◌∙◌}
use mathlib.Core.Bool.{true, false}
use mathlib.Core.List.{List, ◌++◌}
use Prim.Native.Nat.{ℕ, ◌+◌, ◌-◌, ◌≤◌, ◌<◌}
use native.Mathlib.Omega.{arith}
use lib.ListN.{length, take}
use lib.Seq.{take-append_seam}
use borrow.Author.Tests.{le-leb, lt-leb}
use Rattle.printing.specs.declared.writing.Writer.{Writer}
use Rattle.printing.specs.Writing.{Spot, spot, wrote, spot_of, Wrote}
use Rattle.printing.proofs.Filled.{zeros, whole}
use Rattle.lines.specs.Line.{line, text_of}
use Rattle.lines.proofs.Proper.{Bytes}
use Rattle.lines.proofs.Longest.{line_long}
use Rattle.listing.specs.Adding.{has_room, added}

-- s is a writer at the start of 33 zeros, and t the same after a line
module _ (s t : Writer) (address : ℕ) (bs : List ℕ) (small : Bytes bs) (few : length bs ≤ 6)
    (a : spot_of s ≡ spot (zeros 33) 0) (f : Wrote s t (text_of (line address bs))) where
  abbrev text : List ℕ
  text = text_of (line address bs)

  short : length text ≤ 33
  short = line_long (line address bs) (record { small = small; few = few })

  in_buffer : spot_of t ≡ spot (text ++ zeros (33 - length text)) (length text)
  in_buffer = f.written ∙ ap (λ (k : Spot). wrote k text) a ∙ whole 33 text short

  line_length : t.at ≡ length text
  line_length = ap (λ (k : Spot). k.at) in_buffer

  -- w is the output's writer
  module _ (w : Writer) (within : w.at ≤ length w.buf.now) where
    pub no_room : length w.buf.now - w.at < t.at → false ≡ has_room (spot_of w) text
    no_room h = rw (lt-leb (w.at + length text) (length w.buf.now) (omega (arith, line_length)))

    pub some_room : t.at ≤ length w.buf.now - w.at → true ≡ has_room (spot_of w) text
    some_room h = rw (le-leb (w.at + length text) (length w.buf.now) (omega (arith, line_length)))

    pub added_none : length w.buf.now - w.at < t.at → spot_of w ≡ added (spot_of w) text
    unfolding added
    added_none h = rw (← no_room h)

    pub added_some : (v : Writer) → t.at ≤ length w.buf.now - w.at → (u : List ℕ) → u ≡ take t.at t.buf.now → Wrote w v u
        → spot_of v ≡ added (spot_of w) text
    unfolding added
    added_some v h u e g = rw (← some_room h) (g.written ∙ ap (wrote (spot_of w)) (e ∙ there))
      where
        there : take t.at t.buf.now ≡ text
        there =
            ap₂ (λ (n : ℕ) (l : List ℕ). take n l) line_length (ap (λ (k : Spot). k.bytes) in_buffer)
            ∙ take-append_seam text (zeros (33 - length text))
