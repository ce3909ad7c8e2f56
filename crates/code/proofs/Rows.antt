-- The whole table at once: sixty-two rows, no code twice, and each row's format as its code's top two bits say. So the length is document
-- 01's: 00 two bytes, 01 and 10 four, 11 six.
use Prim.Native.Nat.{ℕ, ◌/◌}
use mathlib.Core.Path.{◌≡◌, refl}
use mathlib.Core.Bool.{Bool, false, not}
use mathlib.Core.List.{List, [], ◌∷◌}
use lib.Dec.{eqb}
use lib.ListN.{length}
use Rattle.words.specs.Pick.{pick, both, either}
use Rattle.code.specs.declared.Action.{Action}
use Rattle.code.specs.declared.Action.TheVariants.{Rr, Rx, Rs, Si, Ss}
use Rattle.code.specs.Table.{Row, table}

-- the top two bits of a format's codes
abbrev top_bits : Action → ℕ
top_bits (Rr x) = 0
top_bits (Rx x) = 1
top_bits (Rs x) = 2
top_bits (Si x) = 2
top_bits (Ss x) = 3

abbrev occurs : ℕ → List Row → Bool
occurs k [] = false
occurs k (r ∷ rs) = either (eqb k r.code) (occurs k rs)

-- a row that may stand in front of these
abbrev sound : Row → List Row → Bool
sound r rs = both (eqb (r.code / 64) (top_bits r.action)) (not (occurs r.code rs))

-- the codes of the rows that may not stand where they do
abbrev unsound : List Row → List ℕ
unsound [] = []
unsound (r ∷ rs) = let rest = unsound rs in pick (sound r rs) rest (r.code ∷ rest)

rows : length table ∷ unsound table ≡ 62 ∷ []
unfolding table
rows = refl
