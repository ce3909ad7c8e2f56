-- What the reach of a look-up is, in request E5's words: how many bytes from there lie in the same page and in memory under the same right,
-- never fewer than 1 and always the largest such number. That the look-up's is this, and no other number is: proofs/ReachLaws.
use Rattle.std.specs.Prelude.{ℕ, ◌+◌, ◌-◌, ◌<◌, ◌≤◌, ◌≡◌, List}
use Rattle.pages.specs.declared.Access.{Access}
use Rattle.pages.specs.Word.{page_of}
use Rattle.pages.specs.Tests.{fine}
use Rattle.pages.specs.Look.{At, look_of, verdict_of}

-- k bytes from address a on: each lies in a's page, and passes the tests for the same access, the last of which is that it is in memory
pub record Together (map : List ℕ) (n : ℕ) (acc : Access) (a k : ℕ) : Type 0 where
  pub page : (d : ℕ) → d < k → page_of (a + d) ≡ page_of a
  pub right : (d : ℕ) → d < k → verdict_of (look_of map n acc (a + d)) ≡ fine

-- k is the reach of address a, whose byte is found at r
pub record Reaches (map : List ℕ) (n : ℕ) (acc : Access) (a r k : ℕ) : Type 0 where
  pub some : 1 ≤ k
  pub within : Together map n acc a k
  pub largest : (j : ℕ) → Together map n acc a j → j ≤ k
  -- and each byte is found right behind the one before, and reaches as far as the first
  pub behind : (d : ℕ) → d < k → look_of map n acc (a + d) ≡ At (r + d) (k - d)
