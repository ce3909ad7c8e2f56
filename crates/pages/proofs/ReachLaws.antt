-- The reach of a look-up is what specs/Reach says, and no other number is.
use Prim.Native.Nat.{ℕ, ◌+◌, ◌-◌, ◌%◌, ◌<◌, ◌≤◌}
use native.Mathlib.Omega.{arith}
use mathlib.Core.Path.{◌≡◌, refl, sym, ◌∙◌, ap, subst}
use mathlib.Core.Bool.{Bool, true, false}
use mathlib.Core.List.{List}
use borrow.Author.Tests.{ltb-true, ltb-false, lt-ltb, le-ltb}
use lib.Dec.{eqb, ltb}
use Rattle.std.specs.Prelude.{Ok, Err}
use Rattle.words.specs.Pick.{pick}
use Rattle.words.proofs.Choice.{by_order}
use Rattle.pages.specs.declared.Access.{Access}
use Rattle.pages.specs.Word.{bit_m, page_of, disp_of, next, base, size, real, word_of}
use Rattle.pages.specs.declared.Cause.TheVariants.{Addressing}
use Rattle.pages.specs.Tests.{fine, tests}
use Rattle.pages.specs.Look.{Look, At, Refused, fewer, reach, look_of, verdict_of}
use Rattle.pages.specs.Reach.{Together, Reaches}
use Rattle.pages.proofs.LookLaws.{Finds, pass, finds_in, found_in_lem}

-- of two numbers the fewer
pub fewer_left : (x y : ℕ) → fewer x y ≤ x
fewer_left x y = go (ltb y x) refl
  where
    go : (b : Bool) → ltb y x ≡ b → pick b y x ≤ x
    go true t = let l : y < x = ltb-true y x t in omega arith
    go false t = omega arith

pub fewer_right : (x y : ℕ) → fewer x y ≤ y
fewer_right x y = go (ltb y x) refl
  where
    go : (b : Bool) → ltb y x ≡ b → pick b y x ≤ y
    go true t = omega arith
    go false t = ltb-false y x t

pub fewer_above : (k x y : ℕ) → k < x → k < y → k < fewer x y
fewer_above k x y h l = go (ltb y x)
  where
    go : (b : Bool) → k < pick b y x
    go true = l
    go false = h

fewer_less : (x y d : ℕ) → d < fewer x y → fewer (x - d) (y - d) ≡ fewer x y - d
fewer_less x y d h = by_order y x high (λ l. rw (le-ltb y x l, le-ltb (y - d) (x - d) (omega arith)))
  where
    high : y < x → fewer (x - d) (y - d) ≡ fewer x y - d
    high l =
        let k : y - d < x - d = omega (arith, fewer_right x y) in
        rw (lt-ltb y x l, lt-ltb (y - d) (x - d) k)

less_by : (x p d : ℕ) → x - (p + d) ≡ x - p - d
less_by x p d = omega arith

-- a byte that is found, and what lies behind it
module _ (w n : ℕ) (acc : Access) (a r k : ℕ) (f : Finds w n acc a r k) where
  short : size w ≤ 4096
  unfolding size
  short = go (eqb (bit_m w) 1)
    where
      go : (b : Bool) → pick b 2048 4096 ≤ 4096
      go true = omega arith
      go false = omega arith

  in_page_lem : k ≤ size w - disp_of a
  unfolding reach
  in_page_lem = subst (λ (x : ℕ). x ≤ size w - disp_of a) f.far (fewer_left (size w - disp_of a) (n - real w (disp_of a)))

  in_memory : k ≤ n - r
  unfolding reach
  in_memory =
      let h : fewer (size w - disp_of a) (n - real w (disp_of a)) ≤ n - real w (disp_of a) = fewer_right (size w - disp_of a) (n - real w (disp_of a)) in
      let i : fewer (size w - disp_of a) (n - real w (disp_of a)) ≡ k = f.far in
      let j : real w (disp_of a) ≡ r = f.there in
      omega arith

  fits : disp_of a + k ≤ 4096
  fits = omega (arith, in_page_lem, short, f.passed.m)

  below : a + k ≤ 2097152
  below = let h : a % 4096 + k ≤ 4096 = unfold disp_of in fits in omega (arith, f.passed.low)

  same_page : (d : ℕ) → d < k → page_of (a + d) ≡ page_of a
  unfolding page_of
  same_page d h = let i : a % 4096 + k ≤ 4096 = unfold disp_of in fits in omega arith

  further : (d : ℕ) → d < k → disp_of (a + d) ≡ disp_of a + d
  unfolding disp_of
  further d h = let i : a % 4096 + k ≤ 4096 = unfold disp_of in fits in omega arith

  real_further : (d : ℕ) → d < k → real w (disp_of (a + d)) ≡ r + d
  unfolding real
  real_further d h = let t : base w + disp_of a ≡ r = f.there in omega (arith, further d h)

  far_further : (d : ℕ) → d < k → reach w (disp_of (a + d)) n ≡ k - d
  unfolding reach
  far_further d h =
      let g : fewer (size w - disp_of a) (n - real w (disp_of a)) ≡ k = f.far in
      rw (real_further d h, further d h, less_by (size w) (disp_of a) d, less_by n r d, ← f.there)
      (fewer_less (size w - disp_of a) (n - real w (disp_of a)) d (rw g h) ∙ ap (λ (z : ℕ). z - d) g)

  behind_it : (d : ℕ) → d < k → Finds w n acc (a + d) (r + d) (k - d)
  behind_it d h =
      let p = f.passed in
      record {
        passed = record { low = omega (arith, below); u = p.u; x = p.x; m = omega (arith, further d h, in_page_lem, p.m); s = p.s; e = p.e };
        there = real_further d h;
        inside = omega (arith, in_memory, f.inside);
        far = far_further d h;
      }

-- the larger page and the smaller have room for what lies in a half page
half_left : (w d k : ℕ) → d % 2048 + k < 2048 → d < size w → k < size w - d
unfolding size
half_left w d k h = go (eqb (bit_m w) 1)
  where
    go : (b : Bool) → d < pick b 2048 4096 → k < pick b 2048 4096 - d
    go true l = omega arith
    go false l = omega arith

-- the look-up under a map
module _ (map : List ℕ) (n : ℕ) (acc : Access) (a r k : ℕ) (e : look_of map n acc a ≡ At r k) where
  first : Finds (word_of map (page_of a)) n acc a r k
  first = finds_in map n acc a r k e

  pub reach_page : (d : ℕ) → d < k → page_of (a + d) ≡ page_of a
  reach_page = same_page (word_of map (page_of a)) n acc a r k first

  pub reach_behind : (d : ℕ) → d < k → look_of map n acc (a + d) ≡ At (r + d) (k - d)
  reach_behind d h =
      found_in_lem map n acc (a + d) (r + d) (k - d)
      (subst (λ (p : ℕ). Finds (word_of map p) n acc (a + d) (r + d) (k - d)) (sym (reach_page d h)) (behind_it (word_of map (page_of a)) n acc a r k first d h))

  pub reach_some : 1 ≤ k
  unfolding reach
  reach_some =
      let w = word_of map (page_of a) in
      let p : disp_of a < size w = first.passed.m in
      let i : real w (disp_of a) < n = subst (λ (x : ℕ). x < n) (sym first.there) first.inside in
      subst (λ (x : ℕ). 1 ≤ x) first.far (fewer_above 0 (size w - disp_of a) (n - real w (disp_of a)) (omega arith) (omega arith))

  -- it lies in memory, in the page, and below 2,097,152, so that nothing wraps
  pub reach_inside : r + k ≤ n
  reach_inside = omega (arith, in_memory (word_of map (page_of a)) n acc a r k first, first.inside)

  pub reach_fits : a % 4096 + k ≤ 4096
  reach_fits = unfold disp_of in fits (word_of map (page_of a)) n acc a r k first

  pub reach_below : a + k ≤ 2097152
  reach_below = below (word_of map (page_of a)) n acc a r k first

  pub reach_next : (d : ℕ) → d < k → next (a + d) ≡ a + (d + 1)
  unfolding next
  reach_next d h = omega (arith, reach_below)

  -- the byte after it is in another page, or is not found
  after_it : page_of (a + k) ≡ page_of a → disp_of (a + k) ≡ disp_of a + k
  unfolding page_of disp_of
  after_it s = omega arith

  beyond : (q j : ℕ) → page_of (a + k) ≡ page_of a → look_of map n acc (a + k) ≡ At q j → ⊥
  unfolding reach real
  beyond q j s l =
      let w = word_of map (page_of a) in
      let f : Finds w n acc (a + k) q j = subst (λ (p : ℕ). Finds (word_of map p) n acc (a + k) q j) s (finds_in map n acc (a + k) q j l) in
      let m : disp_of (a + k) < size w = f.passed.m in
      let t : base w + disp_of (a + k) ≡ q = f.there in
      let i : q < n = f.inside in
      let g : fewer (size w - disp_of a) (n - (base w + disp_of a)) ≡ k = first.far in
      let h = fewer_above k (size w - disp_of a) (n - (base w + disp_of a)) (omega (arith, after_it s)) (omega (arith, after_it s)) in
      omega (arith, g, h)

  -- within a half page that ends later, memory ends there
  pub reach_end : (m : ℕ) → a % 2048 + m ≤ 2048 → k < m → look_of map n acc (a + k) ≡ Refused Addressing (a + k)
  unfolding look_of reach
  reach_end m fit h =
      let w = word_of map (page_of a) in
      let p = first.passed in
      let g : fewer (size w - disp_of a) (n - real w (disp_of a)) ≡ k = first.far in
      let i : k < size w - disp_of a = half_left w (disp_of a) k (unfold disp_of in omega arith) p.m in
      let s : page_of (a + k) ≡ page_of a = unfold page_of in omega arith in
      let d : disp_of (a + k) ≡ disp_of a + k = after_it s in
      let q : tests acc (a + k) w ≡ fine = pass acc (a + k) w (record { low = (let l = p.low in omega arith); u = p.u; x = p.x; m = omega (arith, d, i); s = p.s; e = p.e }) in
      let o : n ≤ real w (disp_of (a + k)) = memory_ends g i d in
      rw (s, q, le-ltb (real w (disp_of (a + k))) n o)
    where
      memory_ends : fewer (size (word_of map (page_of a)) - disp_of a) (n - real (word_of map (page_of a)) (disp_of a)) ≡ k
          → k < size (word_of map (page_of a)) - disp_of a → disp_of (a + k) ≡ disp_of a + k → n ≤ real (word_of map (page_of a)) (disp_of (a + k))
      memory_ends g i d =
          let w = word_of map (page_of a) in
          let y : n - real w (disp_of a) ≤ k = by_order k (n - real w (disp_of a)) (λ l. absurd (let z = fewer_above k (size w - disp_of a) (n - real w (disp_of a)) i l in omega (arith, g, z))) (λ l. l) in
          let t : real w (disp_of (a + k)) ≡ real w (disp_of a) + k = unfold real in omega (arith, d) in
          omega (arith, t, y)

  pub reach_largest : (j : ℕ) → Together map n acc a j → j ≤ k
  reach_largest j t = by_order k j (λ h. absurd (go (look_of map n acc (a + k)) refl (t.right k h) (t.page k h))) (λ h. h)
    where
      go : (l : Look) → look_of map n acc (a + k) ≡ l → verdict_of l ≡ fine → page_of (a + k) ≡ page_of a → ⊥
      go (Ok t) s v p = beyond t.at t.reach p s
      go (Err e) s v p = absurd (let z : ◌≡◌ {A = ℕ} 0 1 = cc in omega arith)

  pub reaches : Reaches map n acc a r k
  reaches =
      record {
        some = reach_some;
        within = record { page = reach_page; right = λ d h. ap verdict_of (reach_behind d h) };
        largest = reach_largest;
        behind = reach_behind;
      }

-- no other number is the reach
pub reach_once : (map : List ℕ) (n : ℕ) (acc : Access) (a r k q j : ℕ) → Reaches map n acc a r k → Reaches map n acc a q j → k ≡ j
reach_once map n acc a r k q j x y =
    let l : k ≤ j = y.largest k x.within in
    let m : j ≤ k = x.largest j y.within in
    omega arith
