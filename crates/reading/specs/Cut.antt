-- A text cut at a mark: a sheet at its line ends, a line at its tabs.
use Rattle.std.specs.Prelude.{List, [], ◌∷◌, ℕ, suc, ◌+◌, eqb, take, drop}
use Rattle.words.specs.Pick.{pick}
use Rattle.words.specs.Ascii.{letter}

-- the marks: the line end, LF, and the tab
abbrev pub line_end : ℕ
line_end = letter "\n"

abbrev pub tab : ℕ
tab = letter "\t"

-- how many bytes stand before the first mark, which is all of them where there is none
unfoldable pub span : ℕ → List ℕ → ℕ
span mark [] = 0
span mark (b ∷ bs) = pick (eqb b mark) 0 (suc (span mark bs))

-- what stands before the first mark, which is the whole text where there is none
unfoldable pub before : ℕ → List ℕ → List ℕ
before mark bs = take (span mark bs) bs

-- what stands after the first mark, which is nothing where there is none
unfoldable pub after : ℕ → List ℕ → List ℕ
after mark bs = drop (span mark bs + 1) bs

-- how many marks there are
unfoldable pub count : ℕ → List ℕ → ℕ
count mark [] = 0
count mark (b ∷ bs) = pick (eqb b mark) (suc (count mark bs)) (count mark bs)
