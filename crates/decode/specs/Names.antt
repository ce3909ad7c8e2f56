-- A name in four places: dots follow it.
use Rattle.std.specs.Prelude.{List, [], ◌∷◌, ◌++◌, ℕ, ◌-◌, eqb, length, replicate}
use Rattle.words.specs.Pick.{pick}
use Rattle.words.specs.Ascii.{letter}
use Rattle.code.specs.Table.{name_of}

abbrev pub dot : ℕ
dot = letter "."

unfoldable pub cell_of : ℕ → List ℕ
cell_of op = name_of op ++ replicate (4 - length (name_of op)) dot

-- what stands before the first dot
unfoldable pub name_in : List ℕ → List ℕ
name_in [] = []
name_in (c ∷ cs) = pick (eqb c dot) [] (c ∷ name_in cs)
