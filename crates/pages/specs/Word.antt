-- A page and its word (document 01, "A page and its word"): from the leftmost bit, W, G, U, S, E, M, H, three X bits, six frame bits.
use Rattle.std.specs.Prelude.{ℕ, ◌+◌, ◌*◌, ◌/◌, ◌%◌, ◌≡◌, List, eqb, get_or}
use Rattle.words.specs.Pick.{pick, both}

-- W written into, G accessed, U usable, S nonprivileged page, E not to be written, M a 2,048-byte page, H the upper half
unfoldable pub bit_g : ℕ → ℕ
bit_g w = w / 16384 % 2

unfoldable pub bit_u : ℕ → ℕ
bit_u w = w / 8192 % 2

unfoldable pub bit_s : ℕ → ℕ
bit_s w = w / 4096 % 2

unfoldable pub bit_e : ℕ → ℕ
bit_e w = w / 2048 % 2

unfoldable pub bit_m : ℕ → ℕ
bit_m w = w / 1024 % 2

unfoldable pub bit_h : ℕ → ℕ
bit_h w = w / 512 % 2

unfoldable pub bits_x : ℕ → ℕ
bits_x w = w / 64 % 8

unfoldable pub frame : ℕ → ℕ
frame w = w % 64

-- an address is a page, address / 4,096, and a displacement
unfoldable pub page_of : ℕ → ℕ
page_of a = a / 4096

unfoldable pub disp_of : ℕ → ℕ
disp_of a = a % 4096

-- the byte address after a; addresses have 24 bits
unfoldable pub next : ℕ → ℕ
next a = (a + 1) % 16777216

-- where the page's first byte lies: frame × 4,096, and 2,048 more when M and H are both set (H is ignored when M is reset)
unfoldable pub base : ℕ → ℕ
base w = frame w * 4096 + pick (both (eqb (bit_m w) 1) (eqb (bit_h w) 1)) 2048 0

-- how many bytes the page has
unfoldable pub size : ℕ → ℕ
size w = pick (eqb (bit_m w) 1) 2048 4096

-- the real address of a displacement
unfoldable pub real : ℕ → ℕ → ℕ
real w d = base w + d

-- a page is open when U and S are set and X is zero; writable when E is also reset
pub record Open (w : ℕ) : Type 0 where
  pub u : bit_u w ≡ 1
  pub s : bit_s w ≡ 1
  pub x : bits_x w ≡ 0

pub record Writable (w : ℕ) : Type 0 where
  pub open_page : Open w
  pub e : bit_e w ≡ 0

-- the word of page p: found by the page's whole number; a page that the map lacks has word 0
unfoldable pub word_of : List ℕ → ℕ → ℕ
word_of map p = get_or map p 0

-- the word with G set, and with W set
unfoldable pub accessed : ℕ → ℕ
accessed w = w / 32768 * 32768 + 16384 + w % 16384

unfoldable pub written : ℕ → ℕ
written w = 32768 + w % 32768
