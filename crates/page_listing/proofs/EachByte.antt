-- Every byte of a page's listing is the one that a load there finds; and a refused page is refused at its own first address.
use mathlib.Core.Path.{◌≡◌, refl, sym, ap}
use mathlib.Core.List.{List}
use Prim.Native.Nat.{ℕ, zero, suc, ◌+◌, ◌<◌}
use native.Mathlib.Omega.{arith}
use native.Mathlib.Nat.{add-zero}
use lib.ListN.{length, get_or}
use borrow.Author.Tests.{lt-ltb}
use Rattle.std.specs.Prelude.{Ok, Err}
use Rattle.pages.specs.declared.Access.TheVariants.{Load}
use Rattle.pages.specs.declared.Cause.{Cause}
use Rattle.pages.specs.Tests.{fine, number_of}
use Rattle.pages.specs.Look.{Look, Refused, look_of, verdict_of}
use Rattle.pages.specs.Framed.{framed_of, read_at, read_byte}
use Rattle.pages.proofs.LookLaws.{refused_place}
use Rattle.page_listing.specs.Page.{found_in, bytes_from, first_of, page_bytes, refused_at, page_listed}

module _ (mem map : List ℕ) where
  abbrev look : ℕ → Look
  look a = look_of map (length mem) Load a

  -- a byte is found, and is the one that is read there
  abbrev Finds : ℕ → ℕ → Type 0
  Finds a b = (verdict_of (look a) ≡ fine) × (b ≡ read_at mem (look a))

  -- the first of them, by its look-up, and those behind it
  one_finds : (a : ℕ) (rest : List ℕ) → ((d : ℕ) → d < length rest → Finds (a + 1 + d) (get_or rest d 0))
      → (l : Look) → look a ≡ l → (d : ℕ) → d < length (found_in mem l rest) → Finds (a + d) (get_or (found_in mem l rest) d 0)
  one_finds a rest f (Err refusal) e d h = absurd (omega arith)
  one_finds a rest f (Ok s) e zero h = rw (add-zero a, e) (refl, refl)
  one_finds a rest f (Ok s) e (suc d) h =
      let k : a + suc d ≡ a + 1 + d = omega arith in
      rw k (f d (omega arith))

  from_finds : (n a d : ℕ) → d < length (bytes_from mem map n a) → Finds (a + d) (get_or (bytes_from mem map n a) d 0)
  unfolding bytes_from
  from_finds zero a d h = absurd (omega arith)
  from_finds (suc n) a d h = one_finds a (bytes_from mem map n (a + 1)) (from_finds n (a + 1)) (look a) refl d h

  module _ (page : ℕ) where
    pub each_found : (d : ℕ) → d < length (page_bytes mem map page) → verdict_of (look (first_of page + d)) ≡ fine
    unfolding page_bytes
    each_found d h = (from_finds 4096 (first_of page) d h).0

    pub each_read : (d : ℕ) → d < length (page_bytes mem map page)
        → get_or (page_bytes mem map page) d 0 ≡ read_byte (framed_of mem map) (first_of page + d)
    unfolding page_bytes read_byte
    each_read d h = (from_finds 4096 (first_of page) d h).1

    pub refused_first : (out : List ℕ) (c : Cause) (p : ℕ) → page < 512 → look (first_of page) ≡ Refused c p
        → page_listed mem map page out ≡ refused_at (number_of c) (first_of page) out
    unfolding page_listed
    refused_first out c p h e =
        rw (lt-ltb page 512 h, e) (ap (λ (a : ℕ). refused_at (number_of c) a out) (sym (refused_place map (length mem) Load (first_of page) c p e)))
