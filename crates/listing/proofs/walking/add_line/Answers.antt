use Rattle.lines.proofs.Proper.{Bytes}
use Rattle.listing.proofs.Added.{no_room, some_room, added_none, added_some}
use Rattle.listing.proofs.walking.add_line.Goals as goal

pub returns-then-w-text-clause-written : goal.returns-then-w-text-clause-written
returns-then-w-text-clause-written c =
    let small : Bytes c.args.bytes.now = λ i. (c.type_inv.bytes i).fits in
    search added_none

pub returns-then-w-text-clause-told : goal.returns-then-w-text-clause-told
returns-then-w-text-clause-told c =
    let small : Bytes c.args.bytes.now = λ i. (c.type_inv.bytes i).fits in
    search no_room

pub returns-clause-written : goal.returns-clause-written
returns-clause-written c =
    let small : Bytes c.args.bytes.now = λ i. (c.type_inv.bytes i).fits in
    search added_some

pub returns-clause-told : goal.returns-clause-told
returns-clause-told c =
    let small : Bytes c.args.bytes.now = λ i. (c.type_inv.bytes i).fits in
    search some_room
