-- A page's listing: the page is found by its whole number, and each of its bytes through the look-up, as a load finds it.
use Rattle.std.specs.Prelude.{List, [], ◌∷◌, ℕ, zero, suc, ◌+◌, ◌*◌, ltb, length, get_or, Result, Ok, Err}
use Rattle.words.specs.Pick.{pick}
use Rattle.pages.specs.declared.Access.TheVariants.{Load}
use Rattle.pages.specs.Tests.{number_of}
use Rattle.pages.specs.Look.{Look, look_of}
use Rattle.lines.specs.Listing.{Answer, listed}
use Rattle.lines.specs.declared.Listed.{Listed}
use Rattle.page_listing.specs.declared.PageRefusal.{PageRefusal}
use Rattle.page_listing.specs.declared.PageRefusal.TheVariants.{NoSuchPage, Byte}

-- a byte that the look-up found, and the bytes behind it; nothing where it was refused
abbrev pub found_in : List ℕ → Look → List ℕ → List ℕ
found_in mem (Ok s) behind = get_or mem s.at 0 ∷ behind
found_in mem (Err e) behind = []

-- the bytes that the look-up finds from an address on, n at most, up to the first that it refuses
unfoldable pub bytes_from : List ℕ → List ℕ → ℕ → ℕ → List ℕ
bytes_from mem map zero a = []
bytes_from mem map (suc n) a = found_in mem (look_of map (length mem) Load a) (bytes_from mem map n (a + 1))

-- where a page begins
abbrev pub first_of : ℕ → ℕ
first_of page = page * 4096

unfoldable pub page_bytes : List ℕ → List ℕ → ℕ → List ℕ
page_bytes mem map page = bytes_from mem map 4096 (first_of page)

-- A listing's answer, and the place of a refusal.
pub record PageAnswer : Type 0 where
  pub number : ℕ
  pub place : ℕ
  pub lines : ℕ
  pub next : ℕ
  pub written : ℕ
  pub out : List ℕ

-- a refusal's number, and its place
abbrev pub number_in : PageRefusal → ℕ
number_in NoSuchPage = 6
number_in (Byte e) = number_of e.cause

abbrev pub place_in : PageRefusal → ℕ
place_in NoSuchPage = 0
place_in (Byte e) = e.place

abbrev pub page_answered : Result Listed PageRefusal → List ℕ → PageAnswer
page_answered (Ok r) out =
    record { number = 0; place = 0; lines = r.lines; next = r.next; written = r.written; out = out }
page_answered (Err e) out =
    record { number = number_in e; place = place_in e; lines = 0; next = 0; written = 0; out = out }

-- as a listing was answered
abbrev pub of_page : Answer → PageAnswer
of_page r =
    record { number = r.number; place = 0; lines = r.lines; next = r.next; written = r.written; out = r.out }

-- refused: nothing is written
abbrev pub refused_at : ℕ → ℕ → List ℕ → PageAnswer
refused_at number place out =
    record { number = number; place = place; lines = 0; next = 0; written = 0; out = out }

-- by the look-up of the page's first byte
abbrev pub listed_as : Look → Answer → List ℕ → PageAnswer
listed_as (Ok s) answer out = of_page answer
listed_as (Err e) answer out = refused_at (number_of e.cause) e.place out

-- the machine has pages 0 to 511; any other number gives 6
unfoldable pub page_listed : List ℕ → List ℕ → ℕ → List ℕ → PageAnswer
page_listed mem map page out =
    let answer = listed (page_bytes mem map page) (first_of page) out in
    pick (ltb page 512) (listed_as (look_of map (length mem) Load (first_of page)) answer out) (refused_at 6 0 out)
