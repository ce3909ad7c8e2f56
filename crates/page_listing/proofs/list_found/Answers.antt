use Prim.Native.Nat.{◌*◌, ◌^◌, ◌<◌}
use native.Mathlib.Omega.{arith}
use Rattle.page_listing.proofs.Answers.{of_stretch}
use Rattle.page_listing.proofs.list_found.Goals as goal

pub returns : goal.returns
returns c =
    let l : c.args.page * 4096 < 2 ^ 24 = omega arith in
    search of_stretch
