-- No second answer meets the same words, whatever number and place a refusal has. Only, here and in lines, takes refusals from the code's types,
-- which hold few numbers; here a reply has any. Each shape is Only's at the numbers of what those types hold, and the lemma behind it says so.
use Prim.Native.Nat.{ℕ}
use mathlib.Core.Path.{◌≡◌, refl, sym, ◌∙◌, ap}
use mathlib.Core.List.{List, []}
use Rattle.std.specs.Prelude.{Result, Ok, Err}
use Rattle.lines.specs.declared.Listed.{Listed}
use Rattle.lines.specs.declared.StartOutOfRange.{StartOutOfRange}
use Rattle.lines.specs.Listing.{Answer, answered}
use Rattle.page_listing.specs.declared.PageRefusal.{PageRefusal}
use Rattle.page_listing.specs.Page.{PageAnswer, page_answered}

-- a listing's reply
pub record AnyListed : Type 0 where
  pub number : ℕ
  pub lines : ℕ
  pub next : ℕ
  pub written : ℕ

abbrev pub answered_any : AnyListed → List ℕ → Answer
answered_any r out = record { number = r.number; lines = r.lines; next = r.next; written = r.written; out = out }

-- the reply that an answer tells
abbrev pub listed_in : Answer → AnyListed
listed_in a = record { number = a.number; lines = a.lines; next = a.next; written = a.written }

pub listed_is : (r : Result Listed StartOutOfRange) (out : List ℕ) → answered r out ≡ answered_any (listed_in (answered r [])) out
listed_is (Ok r) out = refl
listed_is (Err e) out = refl

pub only_answered_any : (r r' : AnyListed) (out out' : List ℕ) (x : Answer) → answered_any r out ≡ x → answered_any r' out' ≡ x
    → (r ≡ r') × (out ≡ out')
only_answered_any r r' out out' x e e' = (ap listed_in (e ∙ sym e'), ap (λ (a : Answer). a.out) (e ∙ sym e'))

-- a page's
pub record AnyPage : Type 0 where
  pub number : ℕ
  pub place : ℕ
  pub lines : ℕ
  pub next : ℕ
  pub written : ℕ

abbrev pub page_answered_any : AnyPage → List ℕ → PageAnswer
page_answered_any r out =
    record { number = r.number; place = r.place; lines = r.lines; next = r.next; written = r.written; out = out }

abbrev pub page_in : PageAnswer → AnyPage
page_in a = record { number = a.number; place = a.place; lines = a.lines; next = a.next; written = a.written }

pub page_is : (r : Result Listed PageRefusal) (out : List ℕ) → page_answered r out ≡ page_answered_any (page_in (page_answered r [])) out
page_is (Ok r) out = refl
page_is (Err e) out = refl

pub only_page_any : (r r' : AnyPage) (out out' : List ℕ) (x : PageAnswer) → page_answered_any r out ≡ x → page_answered_any r' out' ≡ x
    → (r ≡ r') × (out ≡ out')
only_page_any r r' out out' x e e' = (ap page_in (e ∙ sym e'), ap (λ (a : PageAnswer). a.out) (e ∙ sym e'))
