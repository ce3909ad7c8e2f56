-- Working definitions: SLL and SRL by where they shift to.
use Rattle.std.specs.Prelude.{ℕ}
use Rattle.words.specs.declared.Direction.{Direction}
use Rattle.words.specs.declared.Direction.TheVariants.{Left, Right}
use Rattle.words.specs.Combine.{shifted_left, shifted_right}
use Rattle.code.specs.declared.RsAction.{RsAction}
use Rattle.code.specs.declared.RsAction.TheVariants.{ShiftLeft, ShiftRight}

abbrev pub logical_shift : Direction → RsAction
logical_shift Left = ShiftLeft
logical_shift Right = ShiftRight

abbrev pub shifted : Direction → ℕ → ℕ → ℕ
shifted Left a n = shifted_left a n
shifted Right a n = shifted_right a n
