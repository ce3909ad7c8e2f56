-- What the search in the table finds: at a code that a row has, and at one that no row has.
use Prim.Native.Nat.{ℕ}
use mathlib.Core.Path.{◌≡◌, refl, sym, ◌∙◌, ap}
use mathlib.Core.List.{List, [], ◌∷◌}
use borrow.Author.Tests.{ne_eqb}
use Rattle.std.specs.Prelude.{Option, None}
use Rattle.code.specs.declared.Action.{Action}
use Rattle.code.specs.Table.{Row, table, find, action_of}

-- what holds at a code holds of an operation with that code
pub at_code : (op k : ℕ) (x : Option Action) → op ≡ k → x ≡ action_of k → x ≡ action_of op
at_code op k x e h = h ∙ ap action_of (sym e)

-- the operation's code is none of the rows', beside what is known already: as a match leaves it behind its last arm
abbrev pub Avoids : ℕ → Type 0 → List Row → Type 0
Avoids op known [] = known
Avoids op known (r ∷ rs) = Avoids op (known × (op ≡ r.code → ⊥)) rs

-- what was known is still known
earlier : (op : ℕ) (known : Type 0) (rs : List Row) → Avoids op known rs → known
earlier op known [] a = a
earlier op known (r ∷ rs) a = (earlier op (known × (op ≡ r.code → ⊥)) rs a).0

none : (op : ℕ) (known : Type 0) (rs : List Row) → Avoids op known rs → None ≡ find rs op
none op known [] a = refl
none op known (r ∷ rs) a =
    rw (ne_eqb op r.code (earlier op (known × (op ≡ r.code → ⊥)) rs a).1) (none op (known × (op ≡ r.code → ⊥)) rs a)

pub unknown_code : (op : ℕ) (known : Type 0) → Avoids op known table → None ≡ action_of op
unfolding action_of
unknown_code op known a = none op known table a
