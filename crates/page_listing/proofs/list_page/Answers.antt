use Rattle.std.proofs.lemmas.Result.{err_from_is_err_and}
use mathlib.Core.Path.{sym}
use Rattle.pages.proofs.ReachLaws.{reach_inside}
use Rattle.page_listing.proofs.Answers.{no_page, first_found, first_refused}
use Rattle.page_listing.proofs.list_page.Goals as goal

pub returns-then-page-ge512 : goal.returns-then-page-ge512
returns-then-page-ge512 c = search no_page

pub list_found-requires : goal.list_found-requires
list_found-requires c = (c.if-page-ge512.false, reach_inside _ _ _ _ _ _ (sym c.in_ok-first.ensures))

pub returns-in_err-first : goal.returns-in_err-first
returns-in_err-first c = let p = err_from_is_err_and c.from_residual.result c.from_residual.ensures.1 in rw (p.1, p.2) (first_refused _ _ _ _ c.if-page-ge512.false _ c.look_up.ensures _ c.in_err-first.was)

pub returns : goal.returns
returns c = first_found _ _ _ _ c.if-page-ge512.false _ c.look_up.ensures _ _ c.in_ok-first.was c.list_found.ensures
