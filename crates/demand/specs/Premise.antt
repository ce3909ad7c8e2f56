-- What demand 3 supposes: "every open page lies inside memory and no two open pages share a byte".
use Rattle.std.specs.Prelude.{ℕ, ◌+◌, ◌<◌, ◌≤◌, ◌≡◌, List}
use Rattle.pages.specs.Word.{Open, base, size, real, word_of}

-- Pages are all numbers here: one that the map lacks has word 0, which is not open.

-- a page has 4,096 bytes from its base on, and an M page 2,048; all of them lie within the n bytes of memory
abbrev pub Inside : ℕ → List ℕ → Type 0
Inside n map = (p : ℕ) → Open (word_of map p) → base (word_of map p) + size (word_of map p) ≤ n

-- two open pages with one real byte in both are one page. Halves of one frame have no byte in common
abbrev pub Apart : List ℕ → Type 0
Apart map =
    (p q d e : ℕ) → Open (word_of map p) → Open (word_of map q) → d < size (word_of map p) → e < size (word_of map q)
    → real (word_of map p) d ≡ real (word_of map q) e → p ≡ q

-- for a memory of n bytes under this map
pub record Premise (n : ℕ) (map : List ℕ) : Type 0 where
  pub inside : Inside n map
  pub apart : Apart map
