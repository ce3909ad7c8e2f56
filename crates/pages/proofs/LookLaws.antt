-- The look-up: a byte is found exactly where it passes all tests; a refusal's place is its own address.
use Prim.Native.Nat.{ℕ, ◌+◌, ◌*◌, ◌/◌, ◌%◌, ◌<◌, ◌≤◌}
use native.Mathlib.Omega.{arith}
use mathlib.Core.Path.{◌≡◌, refl, sym, ◌∙◌, ap}
use mathlib.Core.Bool.{Bool, true, false}
use mathlib.Core.List.{List}
use borrow.Author.Tests.{ltb-true, ltb-false, leb-false, eqb-true, eqb-false, lt-ltb, le-ltb, lt-leb, ne_eqb}
use lib.Dec.{eqb, leb, ltb}
use Rattle.std.specs.Prelude.{Result, Ok, Err, IsErrAnd}
use Rattle.std.proofs.lemmas.Result.{err_from_is_err_and}
use Rattle.words.specs.Pick.{pick, both}
use Rattle.pages.specs.declared.Access.{Access}
use Rattle.pages.specs.declared.Access.TheVariants.{Load}
use Rattle.pages.specs.declared.Cause.{Cause}
use Rattle.pages.specs.declared.Cause.TheVariants.{Addressing}
use Rattle.pages.specs.declared.Spot.{Spot}
use Rattle.pages.specs.declared.Refusal.{Refusal}
use Rattle.pages.specs.Word.{bit_u, bit_s, bit_e, bit_m, bit_h, bits_x, frame, page_of, disp_of, base, size, real, word_of}
use Rattle.pages.specs.Tests.{Verdict, fine, bad, is_store, tests, six_tests}
use Rattle.pages.specs.Look.{Look, At, Refused, reach, look_of, look_with, test_seven}

-- two answers that are the same have the same parts
spot_in : Look → Spot
spot_in (Ok s) = s
spot_in (Err e) = record { at = 0; reach = 0 }

refusal_in : Look → Refusal
refusal_in (Ok s) = record { cause = Addressing; place = 0 }
refusal_in (Err e) = e

pub same_spot : {s t : Spot} → ◌≡◌ {A = Look} (Ok s) (Ok t) → s ≡ t
unfolding spot_in
same_spot h = ap spot_in h

pub same_refusal : {e f : Refusal} → ◌≡◌ {A = Look} (Err e) (Err f) → e ≡ f
unfolding refusal_in
same_refusal h = ap refusal_in h

pub same_real : {r k q j : ℕ} → At r k ≡ At q j → r ≡ q
same_real h = ap (λ (s : Spot). s.at) (same_spot h)

pub same_reach : {r k q j : ℕ} → At r k ≡ At q j → k ≡ j
same_reach h = ap (λ (s : Spot). s.reach) (same_spot h)

pub same_cause : {c d : Cause} {a b : ℕ} → Refused c a ≡ Refused d b → c ≡ d
same_cause h = ap (λ (e : Refusal). e.cause) (same_refusal h)

pub same_place : {c d : Cause} {a b : ℕ} → Refused c a ≡ Refused d b → a ≡ b
same_place h = ap (λ (e : Refusal). e.place) (same_refusal h)

-- what a `?` hands on is the refusal that it met
pub handed_on : {T : Type 0} (r : Result T Refusal) (e : Refusal) → IsErrAnd r (λ f. f ≡ e) → r ≡ Err e
handed_on r e h = let p = err_from_is_err_and r h in p.1 ∙ ap Err p.2

-- a displacement is below 4,096; test 4 asks whether the page has it
pub disp_small : (a : ℕ) → disp_of a < 4096
unfolding disp_of
disp_small a = omega arith

pub test_four : (w d : ℕ) → d < 4096 → both (eqb (bit_m w) 1) (leb 2048 d) ≡ leb (size w) d
unfolding size
test_four w d h = go (eqb (bit_m w) 1)
  where
    go : (b : Bool) → both b (leb 2048 d) ≡ leb (pick b 2048 4096) d
    go true = refl
    go false = sym (lt-leb 4096 d h)

-- a byte that passes tests 1 to 6
pub record Passes (acc : Access) (a w : ℕ) : Type 0 where
  pub low : a < 2097152
  pub u : bit_u w ≡ 0 → ⊥
  pub x : bits_x w ≤ 0
  pub m : disp_of a < size w
  pub s : bit_s w ≡ 0 → ⊥
  pub e : both (eqb (bit_e w) 1) (is_store acc) ≡ false

first_fine : (b : Bool) (c : Cause) (v : Verdict) → pick b (bad c) v ≡ fine → (b ≡ false) × (v ≡ fine)
first_fine true c v e = absurd (let z : ◌≡◌ {A = ℕ} 0 1 = cc in omega arith)
first_fine false c v e = (refl, e)

passes : (acc : Access) (a w : ℕ) → tests acc a w ≡ fine → Passes acc a w
unfolding tests six_tests
passes acc a w t =
    let t1 = first_fine _ _ _ t in
    let t2 = first_fine _ _ _ t1.1 in
    let t3 = first_fine _ _ _ t2.1 in
    let t4 = first_fine _ _ _ t3.1 in
    let t5 = first_fine _ _ _ t4.1 in
    let t6 = first_fine _ _ _ t5.1 in
    record {
      low = leb-false 2097152 a t1.0;
      u = eqb-false (bit_u w) 0 t2.0;
      x = ltb-false 0 (bits_x w) t3.0;
      m = leb-false (size w) (disp_of a) (sym (test_four w (disp_of a) (disp_small a)) ∙ t4.0);
      s = eqb-false (bit_s w) 0 t5.0;
      e = t6.0;
    }

pub pass : (acc : Access) (a w : ℕ) → Passes acc a w → tests acc a w ≡ fine
unfolding tests six_tests
pass acc a w p =
    rw
    (lt-leb 2097152 a p.low, ne_eqb (bit_u w) 0 p.u, le-ltb 0 (bits_x w) p.x, test_four w (disp_of a) (disp_small a), lt-leb (size w) (disp_of a) p.m, ne_eqb (bit_s w) 0 p.s, p.e)

-- a byte that passes all, at r, reaching k bytes; w is the word of its page
pub record Finds (w n : ℕ) (acc : Access) (a r k : ℕ) : Type 0 where
  pub passed : Passes acc a w
  pub there : real w (disp_of a) ≡ r
  pub inside : r < n
  pub far : reach w (disp_of a) n ≡ k

seven : (v : Verdict) (x j n a r k : ℕ) → test_seven v x j n a ≡ At r k → (v ≡ fine) × (x ≡ r) × (r < n) × (j ≡ k)
seven (bad c) x j n a r k e = absurd (let z : ◌≡◌ {A = ℕ} 0 1 = cc in omega arith)
seven fine x j n a r k e = go (ltb x n) refl e
  where
    go : (b : Bool) → ltb x n ≡ b → pick b (At x j) (Refused Addressing a) ≡ At r k → (fine ≡ fine) × (x ≡ r) × (r < n) × (j ≡ k)
    go false t h = absurd (let z : ◌≡◌ {A = ℕ} 0 1 = cc in omega arith)
    go true t h =
        let s : x ≡ r = same_real h in
        let l : x < n = ltb-true x n t in
        (refl, s, omega arith, same_reach h)

pub finds : (w n : ℕ) (acc : Access) (a r k : ℕ) → look_with w n acc a ≡ At r k → Finds w n acc a r k
finds w n acc a r k e =
    let t = seven (tests acc a w) (real w (disp_of a)) (reach w (disp_of a) n) n a r k e in
    record { passed = passes acc a w t.0; there = t.1; inside = t.2; far = t.3 }

pub found : (w n : ℕ) (acc : Access) (a r k : ℕ) → Finds w n acc a r k → look_with w n acc a ≡ At r k
found w n acc a r k f = rw (pass acc a w f.passed, f.there, f.far, lt-ltb r n f.inside)

-- the same under a map
pub finds_in : (map : List ℕ) (n : ℕ) (acc : Access) (a r k : ℕ) → look_of map n acc a ≡ At r k → Finds (word_of map (page_of a)) n acc a r k
unfolding look_of
finds_in map n acc a r k e = finds (word_of map (page_of a)) n acc a r k e

pub found_in_lem : (map : List ℕ) (n : ℕ) (acc : Access) (a r k : ℕ) → Finds (word_of map (page_of a)) n acc a r k → look_of map n acc a ≡ At r k
unfolding look_of
found_in_lem map n acc a r k f = found (word_of map (page_of a)) n acc a r k f

-- a byte that is found lies in memory
pub found_less : (map : List ℕ) (n : ℕ) (acc : Access) (a : ℕ) (l : Look) (i k : ℕ) → l ≡ look_of map n acc a → l ≡ At i k → i < n
found_less map n acc a l i k e h = (finds_in map n acc a i k (sym e ∙ h)).inside

-- and below 266,240, wherever memory ends
pub found_small : (map : List ℕ) (n : ℕ) (acc : Access) (a : ℕ) (l : Look) (i k : ℕ) → l ≡ look_of map n acc a → l ≡ At i k → i < 266240
unfolding real base frame
found_small map n acc a l i k e h =
    let w = word_of map (page_of a) in
    let t : w % 64 * 4096 + pick (both (eqb (bit_m w) 1) (eqb (bit_h w) 1)) 2048 0 + disp_of a ≡ i = (finds_in map n acc a i k (sym e ∙ h)).there in
    omega (arith, half (both (eqb (bit_m w) 1) (eqb (bit_h w) 1)), disp_small a, t)
  where
    half : (b : Bool) → pick b 2048 0 ≤ 2048
    half true = omega arith
    half false = omega arith

-- whatever it was found for, it may be read
pub any_load : (map : List ℕ) (n : ℕ) (acc : Access) (a r k : ℕ) → look_of map n acc a ≡ At r k → look_of map n Load a ≡ At r k
any_load map n acc a r k e =
    let f = finds_in map n acc a r k e in
    let p = f.passed in
    found_in_lem map n Load a r k
    (record { passed = record { low = p.low; u = p.u; x = p.x; m = p.m; s = p.s; e = never (eqb (bit_e (word_of map (page_of a))) 1) }; there = f.there; inside = f.inside; far = f.far })
  where
    never : (b : Bool) → both b false ≡ false
    never true = refl
    never false = refl

-- a refusal's place is the byte's own address
within_place : (v : Verdict) (r k n a : ℕ) (c : Cause) (p : ℕ) → test_seven v r k n a ≡ Refused c p → a ≡ p
within_place (bad d) r k n a c p h = same_place h
within_place fine r k n a c p h = go (ltb r n) h
  where
    go : (b : Bool) → pick b (At r k) (Refused Addressing a) ≡ Refused c p → a ≡ p
    go false j = same_place j
    go true j = cc

pub refused_place : (map : List ℕ) (n : ℕ) (acc : Access) (a : ℕ) (c : Cause) (p : ℕ) → look_of map n acc a ≡ Refused c p → a ≡ p
unfolding look_of
refused_place map n acc a c p h =
    let w = word_of map (page_of a) in
    within_place (tests acc a w) (real w (disp_of a)) (reach w (disp_of a) n) n a c p h

-- M and H, told by one test
pub upper : (w : ℕ) → w / 512 % 4 ≡ 3 → both (eqb (bit_m w) 1) (eqb (bit_h w) 1) ≡ true
unfolding bit_m bit_h
upper w h =
    let m : w / 1024 % 2 ≡ 1 = omega arith in
    let u : w / 512 % 2 ≡ 1 = omega arith in
    rw (m, u)

three : (x : ℕ) → x / 2 % 2 ≡ 1 → x % 2 ≡ 1 → x % 4 ≡ 3
three x h l = omega arith

pub not_upper : (w : ℕ) → (w / 512 % 4 ≡ 3 → ⊥) → both (eqb (bit_m w) 1) (eqb (bit_h w) 1) ≡ false
unfolding bit_m bit_h
not_upper w h = go (eqb (w / 1024 % 2) 1) refl (eqb (w / 512 % 2) 1) refl
  where
    go : (m : Bool) → eqb (w / 1024 % 2) 1 ≡ m → (u : Bool) → eqb (w / 512 % 2) 1 ≡ u → both m u ≡ false
    go false e u f = refl
    go true e false f = refl
    go true e true f =
        let q : w / 1024 ≡ w / 512 / 2 = omega arith in
        absurd
        (h
        (three (w / 512) (ap (λ (x : ℕ). x % 2) (sym q) ∙ eqb-true (w / 1024 % 2) 1 e) (eqb-true (w / 512 % 2) 1 f)))
