-- No second answer meets the same words: a reply and the output can be told from the answer.
use mathlib.Core.Path.{◌≡◌, refl, sym, ◌∙◌, ap, ap₂}
use mathlib.Core.List.{List}
use Prim.Native.Nat.{ℕ, ◌<◌}
use native.Mathlib.Omega.{arith}
use Rattle.std.specs.Prelude.{Result, Ok, Err}
use Rattle.pages.specs.declared.Cause.{Cause}
use Rattle.pages.specs.declared.Cause.TheVariants.{Addressing, PagingQueue, PagingError}
use Rattle.pages.specs.Tests.{number_of}
use Rattle.lines.specs.declared.Listed.{Listed}
use Rattle.page_listing.specs.declared.PageRefusal.{PageRefusal}
use Rattle.page_listing.specs.declared.PageRefusal.TheVariants.{NoSuchPage, Byte}
use Rattle.page_listing.specs.Page.{number_in, place_in, PageAnswer, page_answered}

-- a cause is told by its number, and no cause has 0 or 6
causes : (c d : Cause) → number_of c ≡ number_of d → c ≡ d
causes Addressing Addressing e = refl
causes Addressing PagingQueue e = absurd (omega arith)
causes Addressing PagingError e = absurd (omega arith)
causes PagingQueue Addressing e = absurd (omega arith)
causes PagingQueue PagingQueue e = refl
causes PagingQueue PagingError e = absurd (omega arith)
causes PagingError Addressing e = absurd (omega arith)
causes PagingError PagingQueue e = absurd (omega arith)
causes PagingError PagingError e = refl

caused : (c : Cause) → 0 < number_of c
caused Addressing = omega arith
caused PagingQueue = omega arith
caused PagingError = omega arith

some : (e : PageRefusal) → 0 < number_in e
some NoSuchPage = omega arith
some (Byte f) = caused f.cause

few : (c : Cause) → number_of c < 6
few Addressing = omega arith
few PagingQueue = omega arith
few PagingError = omega arith

refusals : (e e' : PageRefusal) → number_in e ≡ number_in e' → place_in e ≡ place_in e' → e ≡ e'
refusals NoSuchPage NoSuchPage n p = refl
refusals NoSuchPage (Byte f) n p = absurd (omega (arith, few f.cause))
refusals (Byte f) NoSuchPage n p = absurd (omega (arith, few f.cause))
refusals (Byte f) (Byte g) n p = ap₂ (λ (c : Cause) (a : ℕ). Byte (record { cause = c; place = a })) (causes f.cause g.cause n) p

replies : (r r' : Result Listed PageRefusal) (out out' : List ℕ) → page_answered r out ≡ page_answered r' out' → (r ≡ r') × (out ≡ out')
replies (Ok r) (Ok r') out out' s =
    (ap (λ (a : PageAnswer). Ok (record { lines = a.lines; next = a.next; written = a.written })) s, ap (λ (a : PageAnswer). a.out) s)
replies (Ok r) (Err e) out out' s = absurd (omega (arith, some e, ap (λ (a : PageAnswer). a.number) s))
replies (Err e) (Ok r) out out' s = absurd (omega (arith, some e, ap (λ (a : PageAnswer). a.number) s))
replies (Err e) (Err e') out out' s = (
  ap Err (refusals e e' (ap (λ (a : PageAnswer). a.number) s) (ap (λ (a : PageAnswer). a.place) s)),
  ap (λ (a : PageAnswer). a.out) s,
)

-- `page_answered result out.new ≡ ..`
pub only_page : (r r' : Result Listed PageRefusal) (out out' : List ℕ) (x : PageAnswer) → page_answered r out ≡ x → page_answered r' out' ≡ x
    → (r ≡ r') × (out ≡ out')
only_page r r' out out' x e e' = replies r r' out out' (e ∙ sym e')
