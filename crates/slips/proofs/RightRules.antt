-- The slips of specs/Listings are in the rules that differ and nowhere else: by the right rules, the same walk gives the right answer.
use Prim.Native.Nat.{ℕ, zero, suc, ◌+◌, ◌-◌, ◌^◌}
use native.Mathlib.Nat.{zero-add}
use native.Mathlib.Numerals.{add-one}
use native.Mathlib.Omega.{arith}
use mathlib.Core.Path.{◌≡◌, refl, ap}
use mathlib.Core.Bool.{Bool, true, false}
use mathlib.Core.List.{List, [], ◌∷◌, ◌++◌}
use borrow.Author.Tests.{ltb-true}
use lib.Dec.{leb, ltb}
use lib.ListN.{length, take, drop, length-append}
use lib.Seq.{length-take-le}
use Rattle.std.specs.Prelude.{Option, Some, None}
use Rattle.words.specs.Pick.{pick}
use Rattle.code.specs.declared.Action.{Action}
use Rattle.code.specs.declared.Action.TheVariants.{Rr, Rx, Rs, Si, Ss}
use Rattle.printing.specs.Digits.{hex_of}
use Rattle.printing.specs.Lines.{LF}
use Rattle.lines.specs.Line.{Line, line, text_of, instruction_in, said_of, operands_of, rx_text, ss_text}
use Rattle.lines.specs.Listing.{size_of, wrapped, lines_in, listing, stretches, texts, fitting, put_out, listed_from, listed}
use Rattle.lines.proofs.Steps.{size_within}
use Rattle.lines.proofs.AllBytes.{wrapped_same}
use Rattle.slips.specs.Listings.{Asked, Walked, Rules, walk, more, none, fits, ends, worded, right, operands, rs_all, text_by, said_by}

abbrev rules : Rules
rules = record { shown = size_of; on = size_of; next = wrapped; text = text_of; begun = fits; after = ends }

-- what a walk that writes these lines tells
abbrev told : List Line → Walked
told ls = record { lines = length ls; passed = length (stretches ls); text = texts ls }

-- by the test whether the line fits, which the walk asks twice
by_test : (l : Line) (k room less : ℕ) → length l.bytes ≡ k → (on : ℕ → Walked) (ls : List Line) → on less ≡ told ls → (t : Bool)
    → pick t (more k (text_of l) (on (pick t less room))) none ≡ told (pick t (l ∷ ls) [])
unfolding stretches texts
by_test l k room less e on ls i true = rw (i, ← e, add-one, length-append)
by_test l k room less e on ls i false = refl

walk_right : (n room a : ℕ) (code : List ℕ) → walk rules n room a code ≡ told (fitting room (lines_in n a code))
unfolding lines_in fitting stretches texts
walk_right zero room a code = refl
walk_right (suc n) room a [] = refl
walk_right (suc n) room a (b ∷ bs) =
    let code = b ∷ bs in
    let k = size_of code in
    let l = line a (take k code) in
    let less = room - length (text_of l) in
    let e : length (take k code) ≡ k = length-take-le k code (size_within code (omega arith)) in
    let on : ℕ → Walked = λ m. walk rules n m (wrapped (a + k)) (drop k code) in
    let ls = fitting less (lines_in n (wrapped (a + k)) (drop k code)) in
    by_test l k room less e on ls (walk_right n less (wrapped (a + k)) (drop k code)) (leb (length (text_of l)) room)

-- the rules of `worded` with nothing slipped; those of `walked` and `begun_by` are the same
pub rules_right : (q : Asked) → worded wrapped text_of q ≡ right q
unfolding listed listed_from put_out listing
rules_right q = go (ltb q.start (2 ^ 24)) refl
  where
    go : (t : Bool) → ltb q.start (2 ^ 24) ≡ t → worded wrapped text_of q ≡ right q
    go true e = rw (e, walk_right, wrapped_same q.start (ltb-true q.start (2 ^ 24) e), zero-add)
    go false e = rw e

-- and the operands by the right rules are those of the listing
pub text_right : (l : Line) → text_by (operands rx_text rs_all ss_text) l ≡ text_of l
unfolding text_of operands_of
text_right l = ap (λ (said : List ℕ). hex_of 6 l.address ++ said ++ LF) (go (instruction_in l.bytes))
  where
    operand : (x : Action) (bs : List ℕ) → operands rx_text rs_all ss_text x bs ≡ operands_of x bs
    operand (Rr x) bs = refl
    operand (Rx x) bs = refl
    operand (Rs x) bs = refl
    operand (Si x) bs = refl
    operand (Ss x) bs = refl

    go : (f : Option Action) → said_by (operands rx_text rs_all ss_text) f l.bytes ≡ said_of f l.bytes
    go (Some x) = rw operand
    go None = refl
