-- Moves that do not run into themselves.
use Rattle.std.specs.Prelude.{ℕ, ◌+◌, Bool, true, nat_le}
use Rattle.words.specs.Pick.{pick}

-- n bytes go to the left or nowhere, or past all that is read
unfoldable pub apart : ℕ → ℕ → ℕ → Bool
apart to from n = pick (nat_le to from) true (nat_le (from + n) to)
