-- The tests of a byte's look-up, in document 01's order. Tests 1 to 6 need no memory; test 7 is in Look.
use Rattle.std.specs.Prelude.{ℕ, Bool, true, false, List, [], ◌∷◌, eqb, leb, ltb}
use Rattle.words.specs.Pick.{pick, both}
use Rattle.pages.specs.declared.Access.{Access}
use Rattle.pages.specs.declared.Access.TheVariants.{Fetch, Load, Store}
use Rattle.pages.specs.declared.Cause.{Cause}
use Rattle.pages.specs.declared.Cause.TheVariants.{Addressing, PagingQueue, PagingError}
use Rattle.pages.specs.Word.{bit_u, bit_s, bit_e, bit_m, bits_x, disp_of}

-- what document 01's table calls each cause
abbrev pub number_of : Cause → ℕ
number_of Addressing = 1
number_of PagingQueue = 3
number_of PagingError = 4

-- the access that the E bit forbids
abbrev pub is_store : Access → Bool
is_store Fetch = false
is_store Load = false
is_store Store = true

-- a test that may fail, and what it then refuses with
pub record Test : Type 0 where
  pub fails : Bool
  pub cause : Cause

abbrev pub test : Bool → Cause → Test
test b c = record { fails = b; cause = c }

-- the six tests for an access to address a, in a page with word w
unfoldable pub six_tests : Access → ℕ → ℕ → List Test
six_tests acc a w =
    test (leb 2097152 a) Addressing
    ∷ test (eqb (bit_u w) 0) PagingQueue
    ∷ test (ltb 0 (bits_x w)) PagingError
    ∷ test (both (eqb (bit_m w) 1) (leb 2048 (disp_of a))) PagingError
    ∷ test (eqb (bit_s w) 0) PagingError
    ∷ test (both (eqb (bit_e w) 1) (is_store acc)) PagingError
    ∷ []

-- the first test that fails decides
pub data Verdict : Type 0 where
  fine : Verdict
  bad : Cause → Verdict

abbrev pub first_bad : List Test → Verdict
first_bad [] = fine
first_bad (t ∷ ts) = pick t.fails (bad t.cause) (first_bad ts)

unfoldable pub tests : Access → ℕ → ℕ → Verdict
tests acc a w = first_bad (six_tests acc a w)
