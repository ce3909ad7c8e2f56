-- Reading and storing a byte, an answer at a time.
use Prim.Native.Nat.{ℕ}
use mathlib.Core.Path.{◌≡◌}
use mathlib.Core.List.{List}
use lib.ListN.{length, get_or, set}
use Rattle.std.specs.Prelude.{Ok, Err}
use Rattle.pages.specs.declared.Access.TheVariants.{Load, Store}
use Rattle.pages.specs.declared.Spot.{Spot}
use Rattle.pages.specs.declared.Refusal.{Refusal}
use Rattle.pages.specs.Look.{Look, look_of}
use Rattle.pages.specs.Framed.{framed_of, written_at, read_byte, write_byte}

module _ (mem map : List ℕ) (a : ℕ) (found : Look) where
  module _ (e : found ≡ look_of map (length mem) Load a) where
    pub read_refused : (f : Refusal) → found ≡ Err f → 0 ≡ read_byte (framed_of mem map) a
    unfolding read_byte
    read_refused f h = rw (← e, h)

    pub read_found : (s : Spot) → found ≡ Ok s → get_or mem s.at 0 ≡ read_byte (framed_of mem map) a
    unfolding read_byte
    read_found s h = rw (← e, h)

  module _ (v : ℕ) (e : found ≡ look_of map (length mem) Store a) where
    pub write_refused : (f : Refusal) → found ≡ Err f → framed_of mem map ≡ write_byte (framed_of mem map) a v
    unfolding write_byte
    write_refused f h = rw (← e, h)

    pub write_found : (s : Spot) (map' : List ℕ) → found ≡ Ok s → map' ≡ written_at map a
        → framed_of (set mem s.at v) map' ≡ write_byte (framed_of mem map) a v
    unfolding write_byte
    write_found s map' h m = rw (← e, h, ← m)
