-- An output of 135,168 bytes has room for the listing of any page: 33 characters for each of 4,096 bytes. The program lister lends as much.
use mathlib.Core.Path.{◌≡◌, refl, ap}
use mathlib.Core.List.{List, [], ◌∷◌}
use Prim.Native.Nat.{ℕ, zero, suc, ◌+◌, ◌-◌, ◌*◌, ◌^◌, ◌≤◌, ◌<◌}
use native.Mathlib.Omega.{arith}
use lib.ListN.{length, length-append}
use borrow.Author.Tests.{lt-ltb, le-leb}
use Rattle.std.specs.Prelude.{Ok, Err}
use Rattle.pages.specs.declared.Access.TheVariants.{Load}
use Rattle.pages.specs.Look.{Look, At, look_of}
use Rattle.lines.specs.Line.{Line, text_of}
use Rattle.lines.specs.Listing.{size_of, wrapped, listing, texts, fitting, put_out, listed_from, listed}
use Rattle.lines.proofs.Steps.{rest, rest_shorter, listing_none, listing_some}
use Rattle.lines.proofs.AllBytes.{by_lines, wrapped_same}
use Rattle.lines.proofs.Fronts.{first_line}
use Rattle.lines.proofs.Proper.{Bytes, first_proper, end_small}
use Rattle.lines.proofs.Longest.{line_long}
use Rattle.page_listing.specs.Page.{found_in, bytes_from, first_of, page_bytes, of_page, page_listed}

-- lines that fit together all fit
all_fit : (room : ℕ) (ls : List Line) → length (texts ls) ≤ room → fitting room ls ≡ ls
unfolding fitting texts
all_fit room [] h = refl
all_fit room (l ∷ ls) h =
    let n = length-append (text_of l) (texts ls) in
    rw (le-leb (length (text_of l)) room (omega arith))
    (ap (λ (ms : List Line). l ∷ ms) (all_fit (room - length (text_of l)) ls (omega arith)))

-- a listing has 33 characters for each byte at most
few_characters : (a : ℕ) (code : List ℕ) → Bytes code → length (texts (listing a code)) ≤ 33 * length code
few_characters = by_lines (λ a code. Bytes code → length (texts (listing a code)) ≤ 33 * length code) none some
  where
    none : (a : ℕ) → Bytes [] → length (texts (listing a [])) ≤ 33 * length {A = ℕ} []
    none a h = rw listing_none (unfold texts in omega arith)

    some : (a : ℕ) (code : List ℕ) → 0 < length code
        → (Bytes (rest code) → length (texts (listing (wrapped (a + size_of code)) (rest code))) ≤ 33 * length (rest code))
        → Bytes code → length (texts (listing a code)) ≤ 33 * length code
    some a code l later h =
        rw (listing_some a code l)
        (unfold texts in
        (rw length-append
        (omega (arith, line_long (first_line a code) (first_proper a code l h), later (end_small (size_of code) code h), rest_shorter code l))))

-- a page's bytes are bytes, 4,096 at most
module _ (mem map : List ℕ) (small : Bytes mem) where
  one_small : (l : Look) (behind : List ℕ) → Bytes behind → Bytes (found_in mem l behind)
  one_small (Ok s) behind h zero = small s.at
  one_small (Ok s) behind h (suc i) = h i
  one_small (Err e) behind h i = omega arith

  from_small : (n a : ℕ) → Bytes (bytes_from mem map n a)
  unfolding bytes_from
  from_small zero a i = omega arith
  from_small (suc n) a i = one_small (look_of map (length mem) Load a) (bytes_from mem map n (a + 1)) (from_small n (a + 1)) i

  one_few : (l : Look) (behind : List ℕ) (n : ℕ) → length behind ≤ n → length (found_in mem l behind) ≤ suc n
  one_few (Ok s) behind n h = omega arith
  one_few (Err e) behind n h = omega arith

  from_few : (n a : ℕ) → length (bytes_from mem map n a) ≤ n
  unfolding bytes_from
  from_few zero a = omega arith
  from_few (suc n) a = one_few (look_of map (length mem) Load a) (bytes_from mem map n (a + 1)) n (from_few n (a + 1))

  module _ (page : ℕ) (h : page < 512) (out : List ℕ) (k : 135168 ≤ length out) where
    page_fits : fitting (length out) (listing (first_of page) (page_bytes mem map page)) ≡ listing (first_of page) (page_bytes mem map page)
    unfolding page_bytes
    page_fits =
        all_fit (length out) (listing (first_of page) (bytes_from mem map 4096 (first_of page)))
        (omega (arith, few_characters (first_of page) (bytes_from mem map 4096 (first_of page)) (from_small 4096 (first_of page)), from_few 4096 (first_of page)))

    pub whole_page : (r j : ℕ) → look_of map (length mem) Load (first_of page) ≡ At r j
        → page_listed mem map page out ≡ of_page (put_out 0 (listing (first_of page) (page_bytes mem map page)) out)
    unfolding page_listed listed listed_from
    whole_page r j e =
        rw (lt-ltb page 512 h, e, lt-ltb (first_of page) (2 ^ 24) (omega arith), wrapped_same (first_of page) (omega arith), page_fits)
