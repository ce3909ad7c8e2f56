-- A field in at most two stretches of memory: its first bytes, so many as `len` says, from `at` on, and the rest from `on` on.
use Rattle.std.specs.Prelude.{◌≡◌, ℕ, ◌+◌, ◌-◌, ◌%◌, ◌<◌, ◌≤◌, List, length, nat_lt}
use Rattle.words.specs.Pick.{pick}
use Rattle.pages.specs.declared.Access.{Access}
use Rattle.pages.specs.declared.Access.TheVariants.{Fetch, Load, Store}
use Rattle.pages.specs.Look.{At, look_of}
use Rattle.lookup.specs.Marked.{Found}
use Rattle.fields.specs.declared.Span.{Span}
use Rattle.fields.specs.Direct.{flat_move}

-- where byte i of it lies
unfoldable pub spot_of : Span → ℕ → ℕ
spot_of s i = pick (nat_lt i s.len) (s.at + i) (s.on + (i - s.len))

-- how many of its n bytes lie together from byte i on
unfoldable pub rest_of : Span → ℕ → ℕ → ℕ
rest_of s n i = pick (nat_lt i s.len) (s.len - i) (n - i)

-- address a is found at r, and so are the k - 1 bytes behind it
pub record Lies (map : List ℕ) (size : ℕ) (acc : Access) (a r k : ℕ) : Type 0 where
  pub reach : ℕ
  pub found : look_of map size acc a ≡ At r reach
  pub far : k ≤ reach

-- the n bytes from address a on lie as s says
pub record Spans (map : List ℕ) (size : ℕ) (acc : Access) (a n : ℕ) (s : Span) : Type 0 where
  pub low : a < 16777216
  pub within : s.len ≤ n
  pub each : (i : ℕ) → i < n → Lies map size acc ((a + i) % 16777216) (spot_of s i) (rest_of s n i)

-- of the n bytes from address a on the first k lie in one page, and the rest, if any, in another
pub record Paged (a n k : ℕ) : Type 0 where
  pub some : 0 < k
  pub low : a < 16777216
  pub within : k ≤ n
  pub first : a % 4096 + k ≤ 4096
  pub rest : k < n → (a + k) % 16777216 % 4096 + (n - k) ≤ 4096

-- n bytes moved from y to x in two pieces, k and the rest: the rest of the field that is stored lies from z on, or of the one that is read
unfoldable pub edged : Access → List ℕ → ℕ → ℕ → ℕ → ℕ → ℕ → List ℕ
edged Fetch mem x y k z n = flat_move (flat_move mem x y k) (x + k) z (n - k)
edged Load mem x y k z n = flat_move (flat_move mem x y k) (x + k) z (n - k)
edged Store mem x y k z n = flat_move (flat_move mem x y k) z (y + k) (n - k)

-- so moved; the field from address a on goes on into a second page, which has its marks
pub record Edged (acc : Access) (map : List ℕ) (a x y k n : ℕ) (mem mem' : List ℕ) : Type 0 where
  pub z : ℕ
  pub far : ℕ
  pub found : Found map (length mem) acc ((a + k) % 16777216) z far
  pub room : n - k ≤ far
  pub moved : mem' ≡ edged acc mem x y k z n
