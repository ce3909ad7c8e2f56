-- An array of this length is too long to be counted by computing: its length is a law.
use Rattle.std.proofs.Common.{ℕ, sym}
use Rattle.std.proofs.lemmas.List.{length-replicate}
use Rattle.lister.proofs.take_code.Goals as goal

pub slice_bounds-take-end : goal.slice_bounds-take-end
slice_bounds-take-end c = sym (length-replicate {0} {A = ℕ} 2097153 0)
