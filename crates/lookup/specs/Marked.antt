-- Look-ups of pages that lie in memory to their ends, and of those among them that have the marks of the access already: what is found is
-- found, and then no mark is missing. Of anything else they say nothing. And the marks of an access, set together.
use Rattle.std.specs.Prelude.{ℕ, ◌-◌, ◌≡◌, Bool, true, List, eqb, leb, Option, Ok, IfSome}
use Rattle.words.specs.Pick.{pick, both}
use Rattle.pages.specs.declared.Access.{Access}
use Rattle.pages.specs.declared.Spot.{Spot}
use Rattle.pages.specs.Word.{bit_g, page_of, disp_of, word_of, size, accessed, written}
use Rattle.pages.specs.Tests.{is_store}
use Rattle.pages.specs.Look.{At, look_of}
use Rattle.pages.specs.Framed.{accessed_at, written_at}

-- G, and for a store W too
unfoldable pub marked : ℕ → Access → Bool
marked w acc = both (eqb (bit_g w) 1) (pick (is_store acc) (leb 32768 w) true)

-- a page's word with them, and the map with them on the page of a
unfoldable pub with_marks : ℕ → Access → ℕ
with_marks w acc = pick (is_store acc) (written (accessed w)) (accessed w)

abbrev pub marks_of : Access → List ℕ → ℕ → List ℕ
marks_of acc map a = pick (is_store acc) (written_at (accessed_at map a) a) (accessed_at map a)

-- where something is found: it is found so, and reached to the page's end
abbrev pub WholeLook : Option Spot → List ℕ → ℕ → Access → ℕ → Type 0
WholeLook found map n acc a = IfSome found (λ s. (look_of map n acc a ≡ Ok s) × (s.reach ≡ size (word_of map (page_of a)) - disp_of a))

pub record Found (map : List ℕ) (n : ℕ) (acc : Access) (a r k : ℕ) : Type 0 where
  pub there : look_of map n acc a ≡ At r k
  pub accessed : map ≡ accessed_at map a
  pub written : is_store acc ≡ true → map ≡ written_at map a

abbrev pub MarkedLook : Option Spot → List ℕ → ℕ → Access → ℕ → Type 0
MarkedLook found map n acc a = IfSome found (λ s. Found map n acc a s.at s.reach)
