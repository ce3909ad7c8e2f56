use Rattle.arithmetic.proofs.Lifted.{lift_low, lift_high}
use Rattle.arithmetic.proofs.signed.lift.Goals as goal

pub returns-then-a-lt2147483648 : goal.returns-then-a-lt2147483648
returns-then-a-lt2147483648 c = search lift_low

pub returns-else-a-lt2147483648 : goal.returns-else-a-lt2147483648
returns-else-a-lt2147483648 c = search lift_high
