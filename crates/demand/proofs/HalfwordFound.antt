-- A halfword on its boundary, in a memory of an even number of bytes: where its first byte is found, the look-up reaches the second, in the
-- same page. So a halfword is fetched whole or refused at its own address.
use Prim.Native.Nat.{ℕ, ◌+◌, ◌-◌, ◌*◌, ◌%◌, ◌<◌}
use native.Mathlib.Omega.{arith}
use mathlib.Core.Path.{◌≡◌, sym, ◌∙◌, ap, subst}
use mathlib.Core.Bool.{Bool, true, false}
use lib.Dec.{eqb, ltb}
use lib.ListN.{length}
use Rattle.words.specs.Pick.{pick, both}
use Rattle.pages.specs.declared.Access.TheVariants.{Fetch}
use Rattle.pages.specs.Word.{bit_m, bit_h, frame, base, size, real, next, page_of, disp_of, word_of}
use Rattle.pages.specs.Look.{At, fewer, reach}
use Rattle.pages.specs.Framed.{Framed, look_in}
use Rattle.pages.proofs.LookLaws.{Finds, finds_in}
use Rattle.pages.proofs.ReachLaws.{reach_behind, reach_page, reach_next, reach_some}

-- a frame and a half frame begin at even addresses, and a page has an even number of bytes
base_even : (w : ℕ) → base w % 2 ≡ 0
unfolding base
base_even w = go (both (eqb (bit_m w) 1) (eqb (bit_h w) 1))
  where
    go : (b : Bool) → (frame w * 4096 + pick b 2048 0) % 2 ≡ 0
    go true = omega arith
    go false = omega arith

size_even : (w : ℕ) → size w % 2 ≡ 0
unfolding size
size_even w = go (eqb (bit_m w) 1)
  where
    go : (b : Bool) → pick b 2048 4096 % 2 ≡ 0
    go true = omega arith
    go false = omega arith

-- what is left of it is even too
left_even : (x y : ℕ) → x % 2 ≡ 0 → y % 2 ≡ 0 → y < x → (x - y) % 2 ≡ 0
left_even x y h l m = omega arith

fewer_even : (x y : ℕ) → x % 2 ≡ 0 → y % 2 ≡ 0 → fewer x y % 2 ≡ 0
fewer_even x y h l = go (ltb y x)
  where
    go : (b : Bool) → pick b y x % 2 ≡ 0
    go true = l
    go false = h

module _ (s : Framed) (a : ℕ) (even : a % 2 ≡ 0) (type_size : length s.mem % 2 ≡ 0) (r k : ℕ) (e : look_in s Fetch a ≡ At r k) where
  first : Finds (word_of s.map (page_of a)) (length s.mem) Fetch a r k
  first = finds_in s.map (length s.mem) Fetch a r k e

  disp_even : disp_of a % 2 ≡ 0
  unfolding disp_of
  disp_even = omega arith

  real_even : real (word_of s.map (page_of a)) (disp_of a) % 2 ≡ 0
  unfolding real
  real_even = omega (arith, base_even (word_of s.map (page_of a)), disp_even)

  even_reach : k % 2 ≡ 0
  unfolding reach
  even_reach =
      let w = word_of s.map (page_of a) in
      let inside : real w (disp_of a) < length s.mem = subst (λ (x : ℕ). x < length s.mem) (sym first.there) first.inside in
      subst (λ (x : ℕ). x % 2 ≡ 0) first.far
      (fewer_even (size w - disp_of a) (length s.mem - real w (disp_of a))
      (left_even (size w) (disp_of a) (size_even w) disp_even first.passed.m)
      (left_even (length s.mem) (real w (disp_of a)) type_size real_even inside))

  both_reached : 1 < k
  both_reached = omega (arith, even_reach, reach_some s.map (length s.mem) Fetch a r k e)

  next_one : next a ≡ a + 1
  next_one =
      let z : a + 0 ≡ a = omega arith in
      ap next (sym z) ∙ reach_next s.map (length s.mem) Fetch a r k e 0 (omega (arith, both_reached))

  pub found_page : page_of (next a) ≡ page_of a
  found_page = ap page_of next_one ∙ reach_page s.map (length s.mem) Fetch a r k e 1 both_reached

  pub second_found : look_in s Fetch (next a) ≡ At (r + 1) (k - 1)
  second_found = ap (look_in s Fetch) next_one ∙ reach_behind s.map (length s.mem) Fetch a r k e 1 both_reached
