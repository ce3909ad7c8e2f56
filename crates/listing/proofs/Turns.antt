-- The walk, a line at a time: what is still to come from here is the whole answer.
use mathlib.Core.Path.{◌≡◌, refl, sym, ap, ap₂, ◌∙◌, subst}
use mathlib.Core.Bool.{true, false}
use mathlib.Core.List.{List, [], ◌∷◌, ◌++◌, append-nil, append_assoc}
use Prim.Native.Nat.{ℕ, suc, ◌+◌, ◌-◌, ◌^◌, ◌≤◌, ◌<◌}
use native.Mathlib.Omega.{arith}
use native.Mathlib.Nat.{add-zero, zero-add, sub-zero}
use base.Fml.{GName}
use lib.ListN.{length, take, drop, length-append, length-drop, drop_of_length-le, take-append-drop}
use lib.Seq.{sets, sets-eq, length-sets, length-take-le, take-length, take_at, drop-append-add, drop-drop}
use borrow.Author.Tests.{le-leb, lt-leb, leb-true, leb-false, lt-ltb, le-ltb}
use Rattle.std.specs.Prelude.{Err}
use Rattle.printing.specs.Lines.{LF}
use Rattle.printing.specs.Digits.{hex_of}
use Rattle.printing.specs.declared.writing.Writer.{Writer}
use Rattle.printing.specs.Writing.{Spot, spot, spot_of}
use Rattle.printing.proofs.WrittenText.{wrote_sets}
use Rattle.lines.specs.declared.StartOutOfRange.{StartOutOfRange}
use Rattle.lines.specs.Line.{Line, line, instruction_in, said_of, text_of}
use Rattle.lines.specs.Listing.{size_of, wrapped, listing, stretches, texts, fitting, Answer, put_out, answered, listed_from, listed}
use Rattle.lines.proofs.Steps.{size_some, size_within, size_few, listing_none, listing_some}
use Rattle.lines.proofs.AllBytes.{wrapped_again}
use Rattle.listing.specs.Adding.{has_room, added}

-- `lines` lines are written, the code is listed up to the byte `next` and the output written up to `w`; the lines ls come behind
abbrev pub on : ℕ → ℕ → ℕ → List ℕ → List Line → Answer
on lines next w out ls =
    record {
      number = 0;
      lines = lines + length ls;
      next = next + length (stretches ls);
      written = w + length (texts ls);
      out = take w out ++ texts ls ++ drop (w + length (texts ls)) out;
    }

-- the lines that are to come
abbrev pub coming : List ℕ → ℕ → ℕ → ℕ → List Line
coming code start next room = fitting room (listing (wrapped (start + next)) (drop next code))

abbrev pub on_from : List ℕ → ℕ → ℕ → ℕ → ℕ → List ℕ → Answer
on_from code start lines next w out = on lines next w out (coming code start next (length out - w))

-- an answer, as it is when no more lines come
abbrev pub halt : ℕ → ℕ → ℕ → List ℕ → Answer
halt lines next w out = record { number = 0; lines = lines; next = next; written = w; out = out }

begins : (code : List ℕ) (at start : ℕ) (out : List ℕ) → listed_from code at start out ≡ on_from code start 0 at 0 out
unfolding listed_from put_out
begins code at start out = simp (zero-add, sub-zero) refl

-- a writer at the start of an output
module _ (w : Writer) (out : List ℕ) (e : spot_of w ≡ spot out 0) where
  pub begins_there : (code : List ℕ) (at start : ℕ) → listed_from code at start out ≡ on_from code start 0 at w.at w.buf.now
  begins_there code at start = begins code at start out ∙ ap (λ (s : Spot). on_from code start 0 at s.at s.bytes) (sym e)

  pub begins_within : w.at ≤ length w.buf.now
  begins_within = rw (ap (λ (s : Spot). s.at) e) (omega arith)

on_none : (lines next w : ℕ) (out : List ℕ) → on lines next w out [] ≡ halt lines next w out
unfolding texts stretches
on_none lines next w out =
    simp add-zero (ap (halt lines next w) (ap (λ (l : List ℕ). l ++ drop w out) (append-nil (take w out)) ∙ take-append-drop w out))

pub ends : (code : List ℕ) (start lines next w : ℕ) (out : List ℕ) → length code ≤ next
    → on_from code start lines next w out ≡ halt lines next w out
unfolding fitting
ends code start lines next w out h = rw (drop_of_length-le code h, listing_none) (on_none lines next w out)

-- a line more
module _ (w : ℕ) (out t : List ℕ) (h : w + length t ≤ length out) where
  front_long : length (take w out ++ t) ≡ w + length t
  front_long =
      let l : w ≤ length out = omega arith in
      length-append (take w out) t ∙ ap (λ (n : ℕ). n + length t) (length-take-le w out l)

  more_out : (u : List ℕ)
      → take w out ++ (t ++ u) ++ drop (w + length (t ++ u)) out
      ≡ take (w + length t) (sets out w t) ++ u ++ drop (w + length t + length u) (sets out w t)
  more_out u =
      ap₂ ◌++◌ (sym (append_assoc (take w out) t u)) (ap (λ (n : ℕ). drop n out) ends_at ∙ sym behind)
      ∙ ap (λ (l : List ℕ). l ++ u ++ drop (w + length t + length u) (sets out w t)) (sym first)
    where
      seam : sets out w t ≡ take w out ++ t ++ drop (w + length t) out
      seam = sets-eq t out w h

      first : take (w + length t) (sets out w t) ≡ take w out ++ t
      first = ap (take (w + length t)) seam ∙ take_at (take w out ++ t) (drop (w + length t) out) (w + length t) front_long

      ends_at : w + length (t ++ u) ≡ w + length t + length u
      ends_at = omega (arith, length-append t u)

      behind : drop (w + length t + length u) (sets out w t) ≡ drop (w + length t + length u) out
      behind =
          ap (drop (w + length t + length u)) seam
          ∙ ap (λ (n : ℕ). drop (n + length u) (take w out ++ t ++ drop (w + length t) out)) (sym front_long)
          ∙ drop-append-add (take w out ++ t) (drop (w + length t) out) (length u)
          ∙ drop-drop (length u) (w + length t) out

more : (w : ℕ) (out : List ℕ) (l : Line) (ls : List Line) (lines next : ℕ) → w + length (text_of l) ≤ length out
    → on lines next w out (l ∷ ls) ≡ on (lines + 1) (next + length l.bytes) (w + length (text_of l)) (sets out w (text_of l)) ls
unfolding texts stretches
more w out l ls lines next h =
    let t = text_of l in
    let bs = l.bytes in
    let i : lines + suc (length ls) ≡ lines + 1 + length ls = omega arith in
    let j : next + length (bs ++ stretches ls) ≡ next + length bs + length (stretches ls) = omega (arith, length-append bs (stretches ls)) in
    let k : w + length (t ++ texts ls) ≡ w + length t + length (texts ls) = omega (arith, length-append t (texts ls)) in
    λ d. record { number = 0; lines = i d; next = j d; written = k d; out = more_out w out t h (texts ls) d }

text_some : (l : Line) → 0 < length (text_of l)
unfolding text_of
text_some l = rw (length-append (hex_of 6 l.address ++ said_of (instruction_in l.bytes) l.bytes) LF) (omega arith)

-- At a byte of the code: how far its line reaches.
module _ (code : List ℕ) (next k : ℕ) (inside : next < length code) (e : k ≡ size_of (take (length code - next) (drop next code))) where
  some : 0 < length (drop next code)
  some = rw length-drop (omega arith)

  all : take (length code - next) (drop next code) ≡ drop next code
  all = ap (λ (n : ℕ). take n (drop next code)) (sym (length-drop next code)) ∙ take-length (drop next code)

  pub size_is : k ≡ size_of (drop next code)
  size_is = e ∙ ap size_of all

  pub end_within : next + k ≤ length code
  end_within = omega (arith, size_is, size_within (drop next code) some, length-drop next code)

  pub end_further : 0 < k
  end_further = rw size_is (size_some (drop next code) some)

  abbrev bytes : List ℕ
  bytes = take (next + k - next) (drop next code)

  bytes_are : bytes ≡ take (size_of (drop next code)) (drop next code)
  bytes_are =
      let n : next + k - next ≡ k = omega arith in
      ap (λ (i : ℕ). take i (drop next code)) (n ∙ size_is)

  bytes_long : length bytes ≡ k
  bytes_long =
      ap length bytes_are ∙ length-take-le (size_of (drop next code)) (drop next code) (size_within (drop next code) some) ∙ sym size_is

  pub few_bytes : length bytes ≤ 6
  few_bytes = rw (bytes_long, size_is) (size_few (drop next code) some)

  -- its line, and the lines behind it
  module _ (start a : ℕ) (at : a ≡ wrapped (start + next)) where
    lines_are : listing (wrapped (start + next)) (drop next code) ≡ line a bytes ∷ listing (wrapped (start + (next + k))) (drop (next + k) code)
    lines_are =
        listing_some (wrapped (start + next)) (drop next code) some
        ∙ ap₂ ◌∷◌ (ap₂ line (sym at) (sym bytes_are))
        (ap₂ listing (ap (λ (n : ℕ). wrapped (wrapped (start + next) + n)) (sym size_is) ∙ wrapped_again start next k)
        (ap (λ (n : ℕ). drop n (drop next code)) (sym size_is) ∙ drop-drop k next code))

    abbrev text : List ℕ
    text = text_of (line a bytes)

    module _ (lines w : ℕ) (out : List ℕ) (within : w ≤ length out) where
      -- it does not fit, or it fits
      over : length out < w + length text → on_from code start lines next w out ≡ halt lines next w out
      unfolding fitting
      over h =
          rw (lines_are, lt-leb (length text) (length out - w) (omega arith))
          (on_none lines next w out)

      fits : w + length text ≤ length out
          → on_from code start lines next w out ≡ on_from code start (lines + 1) (next + k) (w + length text) (sets out w text)
      unfolding fitting
      fits h =
          let n : length out - w - length text ≡ length (sets out w text) - (w + length text) = rw (length-sets out w text) (omega arith) in
          rw (lines_are, le-leb (length text) (length out - w) (omega arith))
          (more w out (line a bytes) (coming code start (next + k) (length out - w - length text)) lines next h
          ∙ ap₂ (λ (i j : ℕ). on (lines + 1) (next + i) (w + length text) (sets out w text) (coming code start (next + k) j)) bytes_long n)

      -- what came of adding it
      module _ (s : Spot) (came : s ≡ added (spot out w) text) where
        pub turn_none : false ≡ has_room (spot out w) text → on_from code start lines next w out ≡ halt lines next s.at s.bytes
        unfolding added
        turn_none h =
            over (leb-false (w + length text) (length out) (sym h))
            ∙ ap (λ (k : Spot). halt lines next k.at k.bytes) (sym (came ∙ rw (← h)))

        module _ (h : true ≡ has_room (spot out w) text) where
          grown : s ≡ spot (sets out w text) (w + length text)
          unfolding added
          grown = came ∙ rw (← h) (wrote_sets out w text (leb-true (w + length text) (length out) (sym h)))

          pub turn_some : on_from code start lines next w out ≡ on_from code start (lines + 1) (next + k) s.at s.bytes
          turn_some =
              fits (leb-true (w + length text) (length out) (sym h))
              ∙ ap (λ (k' : Spot). on_from code start (lines + 1) (next + k) k'.at k'.bytes) (sym grown)

          pub turn_within : s.at ≤ length s.bytes
          turn_within =
              subst (λ (k : Spot). k.at ≤ length k.bytes) (sym grown)
              (rw (length-sets out w text) (leb-true (w + length text) (length out) (sym h)))

-- no more lines come, and v is where w's writing ended: x is the answer
pub record Halts (w v : Writer) (lines next : ℕ) (x : Answer) : Type 0 where
  pub same_buffer : v.buf.ghost_name ≡ w.buf.ghost_name
  pub whole : x ≡ halt lines next v.at v.buf.now

-- b is what the output holds when its loan ends
pub handed_back : (w v : Writer) (lines next : ℕ) (x : Answer) (b : List ℕ) (g : GName) → w.buf.ghost_name ≡ g
    → (g ≡ v.buf.ghost_name → b ≡ v.buf.now) → Halts w v lines next x → halt lines next v.at b ≡ x
handed_back w v lines next x b g k d h = ap (halt lines next v.at) (d (sym (h.same_buffer ∙ k))) ∙ sym h.whole

-- the entry: a start in range, and one out of range
module _ (code : List ℕ) (start : ℕ) (out : List ℕ) where
  pub in_range : (r : Answer) → start < 2 ^ 24 → r ≡ listed_from code 0 start out → r ≡ listed code start out
  unfolding listed
  in_range r h e = rw (lt-ltb start (2 ^ 24) h) e

  pub out_of_range : (e : StartOutOfRange) → 2 ^ 24 ≤ start → answered (Err e) out ≡ listed code start out
  unfolding listed
  out_of_range e h = rw (le-ltb start (2 ^ 24) h)
