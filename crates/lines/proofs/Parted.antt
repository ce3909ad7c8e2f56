-- The lines that fit an output are a front of the lines: the next, if there is one, does not fit behind them.
use mathlib.Core.Path.{◌≡◌, refl, ap, subst}
use mathlib.Core.Bool.{Bool, true, false}
use mathlib.Core.List.{List, [], ◌∷◌, ◌++◌}
use Prim.Native.Nat.{ℕ, ◌-◌, ◌≤◌, ◌<◌}
use native.Mathlib.Omega.{arith}
use lib.Dec.{leb}
use lib.ListN.{length, length-append}
use borrow.Author.Tests.{leb-true, leb-false}
use Rattle.words.specs.Pick.{pick}
use Rattle.lines.specs.Line.{Line, text_of}
use Rattle.lines.specs.Listing.{texts, fitting}

-- lines that do not fit: there are none, or the first is too long
abbrev pub Over : ℕ → List Line → Type 0
Over room [] = Unit {0}
Over room (l ∷ ls) = room < length (text_of l)

-- lines parted into those of a front, which fit, and others, of which the first does not fit behind them
pub record Parted (room : ℕ) (ls front : List Line) : Type 0 where
  pub over : List Line
  pub parts : ls ≡ front ++ over
  pub fits : length (texts front) ≤ room
  pub full : Over (room - length (texts front)) over

step : (room : ℕ) (l : Line) (ls front : List Line) → Parted (room - length (text_of l)) ls front
    → (t : Bool) → leb (length (text_of l)) room ≡ t → Parted room (l ∷ ls) (pick t (l ∷ front) [])
unfolding texts
step room l ls front c true e =
    let both = length-append (text_of l) (texts front) in
    record {
      over = c.over;
      parts = ap (λ (ms : List Line). l ∷ ms) c.parts;
      fits = omega (arith, leb-true (length (text_of l)) room e);
      full = subst (λ (n : ℕ). Over n c.over) (omega arith) c.full;
    }
step room l ls front c false e =
    record { over = l ∷ ls; parts = refl; fits = omega arith; full = omega (arith, leb-false (length (text_of l)) room e) }

pub parted : (room : ℕ) (ls : List Line) → Parted room ls (fitting room ls)
unfolding fitting texts
parted room [] = record { over = []; parts = refl; fits = omega arith; full = tt }
parted room (l ∷ ls) =
    let size = length (text_of l) in
    step room l ls (fitting (room - size) ls) (parted (room - size) ls) (leb size room) refl
