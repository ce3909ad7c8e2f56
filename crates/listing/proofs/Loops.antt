-- Loops that write a stretch's bytes and an operation's name. `w` is the writer at the start, `s` the writer here,
-- `t` after one turn.
use mathlib.Core.Path.{◌≡◌, refl}
use mathlib.Core.List.{List, [], ◌∷◌}
use Prim.Native.Nat.{ℕ, suc, ◌+◌, ◌≤◌, ◌<◌}
use native.Mathlib.Numerals.{add-one}
use lib.ListN.{length, get_or, drop, drop_of_length-le}
use lib.Seq.{drop-cons}
use borrow.Author.Tests.{eq-eqb, ne_eqb}
use Rattle.decode.specs.Names.{name_in}
use Rattle.printing.specs.Digits.{hex_of}
use Rattle.printing.specs.declared.writing.Writer.{Writer}
use Rattle.printing.specs.Writing.{Wrote}
use Rattle.printing.proofs.WritingLoops.{Leaves, turn_wrote, nothing_left_wrote}
use Rattle.lines.specs.Line.{hex_bytes}

module _ (w s : Writer) (whole : List ℕ) where
  module _ (bs : List ℕ) (i : ℕ) (h : Leaves w s whole (hex_bytes (drop i bs))) where
    pub bytes_turn : (t : Writer) → i < length bs → Wrote s t (hex_of 2 (get_or bs i 0)) → Leaves w t whole (hex_bytes (drop (i + 1) bs))
    bytes_turn t l f =
        turn_wrote w s t whole (hex_bytes (drop i bs)) (hex_of 2 (get_or bs i 0)) (hex_bytes (drop (i + 1) bs))
        (rw (add-one, drop-cons bs i 0) (unfold hex_bytes in refl))
        h
        f

    pub bytes_end : length bs ≤ i → Wrote w s whole
    bytes_end l = nothing_left_wrote w s whole (hex_bytes (drop i bs)) (rw (drop_of_length-le bs l) (unfold hex_bytes in refl)) h

  module _ (cell : List ℕ) (i : ℕ) (four : length cell ≡ 4) (h : Leaves w s whole (name_in (drop i cell))) where
    -- the first of what is left
    first : i < 4 → drop i cell ≡ get_or cell i 0 ∷ drop (suc i) cell
    first l = drop-cons cell i 0 (rw four l)

    pub name_dot : i < 4 → get_or cell i 0 ≡ 46 → Wrote w s whole
    name_dot l e =
        nothing_left_wrote w s whole (name_in (drop i cell)) (rw (first l) (unfold name_in in rw (eq-eqb (get_or cell i 0) 46 e) refl)) h

    pub name_turn : (t : Writer) → i < 4 → (get_or cell i 0 ≡ 46 → ⊥) → Wrote s t (get_or cell i 0 ∷ [])
        → Leaves w t whole (name_in (drop (i + 1) cell))
    name_turn t l e f =
        turn_wrote w s t whole (name_in (drop i cell)) (get_or cell i 0 ∷ []) (name_in (drop (i + 1) cell))
        (rw (add-one, first l) (unfold name_in in rw (ne_eqb (get_or cell i 0) 46 e) refl))
        h
        f

    pub name_end : 4 ≤ i → Wrote w s whole
    name_end l =
        let k : length cell ≤ i = rw four l in
        nothing_left_wrote w s whole (name_in (drop i cell)) (rw (drop_of_length-le cell k) (unfold name_in in refl)) h
