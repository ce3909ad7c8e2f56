-- Every slip of every table is shown: no row's two answers are alike. One proof a table, by computation.
use mathlib.Core.Path.{◌≡◌, refl}
use mathlib.Core.List.{[]}
use Rattle.slips.specs.Row.{unshown}
use Rattle.slips.specs.Seen.{computes}
use Rattle.slips.specs.Words as words
use Rattle.slips.specs.Wide as wide
use Rattle.slips.specs.Pages as pages
use Rattle.slips.specs.Moves as moves
use Rattle.slips.specs.Pieces as pieces
use Rattle.slips.specs.Refusals as refusals
use Rattle.slips.specs.Marks as marks
use Rattle.slips.specs.Operations as operations
use Rattle.slips.specs.Pairs as pairs
use Rattle.slips.specs.SignedShifts as shifts
use Rattle.slips.specs.Branches as branches
use Rattle.slips.specs.Order as order
use Rattle.slips.specs.Runs as runs
use Rattle.slips.specs.Seam as seam
use Rattle.slips.specs.Sheets as sheets
use Rattle.slips.specs.Answers as answers
use Rattle.slips.specs.Listings as listings
use Rattle.slips.specs.Plain as plain

pub words_shown : unshown words.slips ≡ []
unfolding computes
words_shown = refl

pub wide_shown : unshown wide.slips ≡ []
unfolding computes
wide_shown = refl

pub pages_shown : unshown pages.slips ≡ []
unfolding computes
pages_shown = refl

pub moves_shown : unshown moves.slips ≡ []
unfolding computes
moves_shown = refl

pub pieces_shown : unshown pieces.slips ≡ []
unfolding computes
pieces_shown = refl

pub refusals_shown : unshown refusals.slips ≡ []
unfolding computes
refusals_shown = refl

pub marks_shown : unshown marks.slips ≡ []
unfolding computes
marks_shown = refl

pub operations_shown : unshown operations.slips ≡ []
unfolding computes
operations_shown = refl

pub pairs_shown : unshown pairs.slips ≡ []
unfolding computes
pairs_shown = refl

pub shifts_shown : unshown shifts.slips ≡ []
unfolding computes
shifts_shown = refl

pub branches_shown : unshown branches.slips ≡ []
unfolding computes
branches_shown = refl

pub order_shown : unshown order.slips ≡ []
unfolding computes
order_shown = refl

pub runs_shown : unshown runs.slips ≡ []
unfolding computes
runs_shown = refl

pub seam_shown : unshown seam.slips ≡ []
unfolding computes
seam_shown = refl

pub sheets_shown : unshown sheets.slips ≡ []
unfolding sheets.computes
sheets_shown = refl

pub answers_shown : unshown answers.slips ≡ []
unfolding answers.computes
answers_shown = refl

pub listings_shown : unshown listings.slips ≡ []
unfolding listings.computes
listings_shown = refl

pub plain_shown : unshown plain.slips ≡ []
unfolding plain.computes
plain_shown = refl
