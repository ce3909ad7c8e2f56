-- A text is added to what is written if the whole of it fits.
use Rattle.std.specs.Prelude.{List, Bool, ℕ, ◌+◌, leb, length}
use Rattle.words.specs.Pick.{pick}
use Rattle.printing.specs.Writing.{Spot, wrote}

abbrev pub has_room : Spot → List ℕ → Bool
has_room s text = leb (s.at + length text) (length s.bytes)

unfoldable pub added : Spot → List ℕ → Spot
added s text = pick (has_room s text) (wrote s text) s
