-- Texts in ASCII.
use Rattle.std.specs.Prelude.{Bool, true, false, List, [], ◌∷◌, ℕ, eqb}
use Prim.Native.Char.{Char, code}
use Prim.Native.String.{String, [] as []ₛ, ◌∷◌ as ◌∷ₛ◌}
use Rattle.words.specs.Pick.{both}

-- a character's number
abbrev pub letter : Char → ℕ
letter c = code c

-- the characters' numbers
abbrev pub ascii : String → List ℕ
ascii []ₛ = []
ascii (c ∷ₛ s) = letter c ∷ ascii s

-- the same bytes
unfoldable pub same : List ℕ → List ℕ → Bool
same [] [] = true
same [] (b ∷ bs) = false
same (a ∷ cs) [] = false
same (a ∷ cs) (b ∷ bs) = both (eqb a b) (same cs bs)
