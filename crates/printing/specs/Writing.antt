-- Writing to a buffer, byte by byte: what the functions below the lines promise.
use Rattle.std.specs.Prelude.{List, [], ◌∷◌, ℕ, ◌+◌, ◌≡◌, ltb, length, set}
use Rattle.words.specs.Pick.{pick}
use Rattle.printing.specs.declared.writing.Writer.{Writer}

-- a buffer, and the place of the next byte
pub record Spot : Type 0 where
  pub bytes : List ℕ
  pub at : ℕ

abbrev pub spot : List ℕ → ℕ → Spot
spot bytes at = record { bytes = bytes; at = at }

-- one byte; past the end it is lost
unfoldable pub put_at : Spot → ℕ → Spot
put_at s b = pick (ltb s.at (length s.bytes)) (spot (set s.bytes s.at b) (s.at + 1)) s

-- a text
unfoldable pub wrote : Spot → List ℕ → Spot
wrote s [] = s
wrote s (b ∷ bs) = wrote (put_at s b) bs

-- where a writer stands
abbrev pub spot_of : Writer → Spot
spot_of w = spot w.buf.now w.at

-- v is w after a text was written: the buffer is the same
pub record Wrote (w v : Writer) (text : List ℕ) : Type 0 where
  pub same_buffer : v.buf.ghost_name ≡ w.buf.ghost_name
  pub written : spot_of v ≡ wrote (spot_of w) text
