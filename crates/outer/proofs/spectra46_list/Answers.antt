use Rattle.outer.proofs.Listings.{third_in, list_away, list_back, list_refused}
use Rattle.outer.proofs.spectra46_list.Goals as goal

pub returns-then-told-ne3 : goal.returns-then-told-ne3
returns-then-told-ne3 c = search list_away

pub bounds-told-2 : goal.bounds-told-2
bounds-told-2 c = search third_in

pub returns-in-Ok : goal.returns-in-Ok
returns-in-Ok c = search list_back

pub returns-in-Err : goal.returns-in-Err
returns-in-Err c =
    let z = c.fill.ensures.after (λ y e. cc) in
    search list_refused
