-- Tests 2, 3, 5 and 6, which need no more than the page's word, at once; and what it is refused with where one of them fails.
use Rattle.std.specs.Prelude.{ℕ, Bool, eqb, ltb}
use Rattle.words.specs.Pick.{pick, both, either}
use Rattle.pages.specs.declared.Access.{Access}
use Rattle.pages.specs.declared.Cause.{Cause}
use Rattle.pages.specs.declared.Cause.TheVariants.{PagingQueue, PagingError}
use Rattle.pages.specs.Word.{bit_u, bit_s, bit_e, bits_x}
use Rattle.pages.specs.Tests.{is_store}

unfoldable pub barred : ℕ → Access → Bool
barred w acc =
    either (eqb (bit_u w) 0) (either (ltb 0 (bits_x w)) (either (eqb (bit_s w) 0) (both (eqb (bit_e w) 1) (is_store acc))))

unfoldable pub cause_of : ℕ → Cause
cause_of w = pick (eqb (bit_u w) 0) PagingQueue PagingError
