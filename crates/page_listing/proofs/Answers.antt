-- A page's answer, by what the code has in hand where it gives it.
use mathlib.Core.Path.{◌≡◌, ap, sym, ◌∙◌}
use mathlib.Core.List.{List}
use Prim.Native.Nat.{ℕ, ◌+◌, ◌-◌, ◌^◌, ◌≤◌, ◌<◌}
use native.Mathlib.Omega.{arith}
use lib.ListN.{length, take, drop}
use borrow.Author.Tests.{lt-ltb, le-ltb}
use Rattle.pages.specs.declared.Access.TheVariants.{Load}
use Rattle.pages.specs.declared.Spot.{Spot}
use Rattle.pages.specs.declared.Refusal.{Refusal}
use Rattle.std.specs.Prelude.{Ok, Err}
use Rattle.pages.specs.Look.{Look, look_of}
use Rattle.lines.specs.declared.Listed.{Listed}
use Rattle.lines.specs.Listing.{answered, listed_from, listed}
use Rattle.listing.proofs.Turns.{in_range}
use Rattle.page_listing.specs.declared.PageRefusal.TheVariants.{NoSuchPage, Byte}
use Rattle.page_listing.specs.Page.{first_of, PageAnswer, page_answered, of_page, page_listed}
use Rattle.page_listing.proofs.OpenPage.{page_reached}

-- a listing of a stretch of memory, at an address in range
pub of_stretch : (told : Listed) (mem out out' : List ℕ) (r k start : ℕ) → start < 2 ^ 24
    → answered (Ok told) out' ≡ listed_from (take (r + k - r) (drop r mem)) 0 start out
    → page_answered (Ok told) out' ≡ of_page (listed (take k (drop r mem)) start out)
of_stretch told mem out out' r k start l h =
    let e : r + k - r ≡ k = omega arith in
    ap of_page (in_range _ _ _ (answered (Ok told) out') l (h ∙ ap (λ (n : ℕ). listed_from (take n (drop r mem)) 0 start out) e))

module _ (mem map out : List ℕ) (page : ℕ) where
  pub no_page : 512 ≤ page → page_answered (Err NoSuchPage) out ≡ page_listed mem map page out
  unfolding page_listed
  no_page h = rw (le-ltb page 512 h)

  module _ (h : page < 512) (look : Look) (e : look ≡ look_of map (length mem) Load (first_of page)) where
    pub first_found : (s : Spot) (answer : PageAnswer) → look ≡ Ok s → answer ≡ of_page (listed (take s.reach (drop s.at mem)) (first_of page) out)
        → answer ≡ page_listed mem map page out
    unfolding page_listed
    first_found s answer f a =
        rw (lt-ltb page 512 h, ← e, f) (a ∙ ap (λ (bs : List ℕ). of_page (listed bs (first_of page) out)) (sym (page_reached mem map page h s.at s.reach (sym e ∙ f))))

    pub first_refused : (f : Refusal) → look ≡ Err f → page_answered (Err (Byte f)) out ≡ page_listed mem map page out
    unfolding page_listed
    first_refused g f = rw (lt-ltb page 512 h, ← e, f)
