-- The look-up, an answer at a time, in the terms that the code has in hand where it gives that answer.
use Prim.Native.Nat.{ℕ, ◌+◌, ◌-◌, ◌*◌, ◌/◌, ◌%◌, ◌<◌, ◌≤◌}
use native.Mathlib.Omega.{arith}
use mathlib.Core.Path.{◌≡◌, refl, sym, ◌∙◌}
use mathlib.Core.Bool.{Bool, true, false}
use mathlib.Core.List.{List}
use borrow.Author.Tests.{lt-ltb, le-ltb, le-leb, lt-leb, eq-eqb, ne_eqb}
use lib.Dec.{eqb, leb, ltb}
use Rattle.words.specs.Pick.{pick, both, either}
use Rattle.pages.specs.declared.Access.{Access}
use Rattle.pages.specs.declared.Cause.{Cause}
use Rattle.pages.specs.declared.Cause.TheVariants.{Addressing, PagingQueue, PagingError}
use Rattle.pages.specs.Word.{bit_u, bit_s, bit_e, bit_m, bits_x, frame, page_of, disp_of, base, size, real, word_of}
use Rattle.pages.specs.Tests.{Verdict, fine, bad, is_store, tests, six_tests}
use Rattle.pages.specs.Look.{At, Refused, fewer, reach, look_of}
use Rattle.pages.proofs.LookLaws.{disp_small, test_four}
use Rattle.lookup.specs.Barred.{barred, cause_of}

-- the tests that the word decides, with the fourth between them
abbrev verdicts : Bool → Bool → Bool → Bool → Bool → Verdict
verdicts u x m s e =
    pick u (bad PagingQueue) (pick x (bad PagingError) (pick m (bad PagingError) (pick s (bad PagingError) (pick e (bad PagingError) fine))))

bars : (u x m s e : Bool) → either u (either x (either s e)) ≡ true → verdicts u x m s e ≡ bad (pick u PagingQueue PagingError)
bars true x m s e h = refl
bars false true m s e h = refl
bars false false true s e h = refl
bars false false false true e h = refl
bars false false false false true h = refl
bars false false false false false h = absurd (let z : ◌≡◌ {A = ℕ} 0 1 = cc in omega arith)

passes : (u x m s e : Bool) → either u (either x (either s e)) ≡ false → verdicts u x m s e ≡ pick m (bad PagingError) fine
passes true x m s e h = absurd (let z : ◌≡◌ {A = ℕ} 0 1 = cc in omega arith)
passes false true m s e h = absurd (let z : ◌≡◌ {A = ℕ} 0 1 = cc in omega arith)
passes false false m true e h = absurd (let z : ◌≡◌ {A = ℕ} 0 1 = cc in omega arith)
passes false false m false true h = absurd (let z : ◌≡◌ {A = ℕ} 0 1 = cc in omega arith)
passes false false true false false h = refl
passes false false false false false h = refl

module _ (map : List ℕ) (n : ℕ) (acc : Access) (a : ℕ) where
  pub look_high : 2097152 ≤ a → Refused Addressing a ≡ look_of map n acc a
  unfolding look_of tests six_tests
  look_high h = rw (le-leb 2097152 a h)

  module _ (low : a < 2097152) (w : ℕ) (ew : w ≡ word_of map (page_of a)) (b : Bool) (eb : b ≡ barred w acc) where
    word_tests : tests acc a w ≡ verdicts (eqb (bit_u w) 0) (ltb 0 (bits_x w)) (leb (size w) (disp_of a)) (eqb (bit_s w) 0) (both (eqb (bit_e w) 1) (is_store acc))
    unfolding tests six_tests
    word_tests = rw (lt-leb 2097152 a low, test_four w (disp_of a) (disp_small a))

    pub look_barred : b ≡ true → (c : Cause) → c ≡ cause_of w → Refused c a ≡ look_of map n acc a
    unfolding look_of barred cause_of
    look_barred t c ec =
        rw (← ew, word_tests, bars (eqb (bit_u w) 0) (ltb 0 (bits_x w)) (leb (size w) (disp_of a)) (eqb (bit_s w) 0) (both (eqb (bit_e w) 1) (is_store acc)) (sym eb ∙ t), ec)

    module _ (f : b ≡ false) (left : ℕ) (el : left ≡ size w - disp_of a) where
      fourth : tests acc a w ≡ pick (leb (size w) (disp_of a)) (bad PagingError) fine
      unfolding barred
      fourth =
          word_tests
          ∙ passes (eqb (bit_u w) 0) (ltb 0 (bits_x w)) (leb (size w) (disp_of a)) (eqb (bit_s w) 0) (both (eqb (bit_e w) 1) (is_store acc)) (sym eb ∙ f)

      pub look_past : left ≡ 0 → Refused PagingError a ≡ look_of map n acc a
      unfolding look_of
      look_past z = rw (← ew, fourth, le-leb (size w) (disp_of a) (omega arith))

      module _ (some : left ≡ 0 → ⊥) (x r : ℕ) (ex : x ≡ base w) (er : r ≡ x + disp_of a) where
        is_real : real w (disp_of a) ≡ r
        unfolding real
        is_real = omega arith

        in_page_lem : leb (size w) (disp_of a) ≡ false
        in_page_lem = lt-leb (size w) (disp_of a) (omega arith)

        pub look_out : n ≤ r → Refused Addressing a ≡ look_of map n acc a
        unfolding look_of
        look_out h = rw (← ew, fourth, in_page_lem, is_real, le-ltb r n h)

        pub look_found : r < n → (k : ℕ) → k ≡ fewer left (n - r) → At r k ≡ look_of map n acc a
        unfolding look_of reach
        look_found h k ek = rw (← ew, fourth, in_page_lem, is_real, lt-ltb r n h, ← el, ← ek)

-- the tests themselves
module _ (w : ℕ) (acc : Access) where
  pub barred_u : bit_u w ≡ 0 → true ≡ barred w acc
  unfolding barred
  barred_u h = rw (eq-eqb (bit_u w) 0 h)

  module _ (u : bit_u w ≡ 0 → ⊥) where
    pub barred_x : 0 < bits_x w → true ≡ barred w acc
    unfolding barred
    barred_x h = rw (ne_eqb (bit_u w) 0 u, lt-ltb 0 (bits_x w) h)

    module _ (x : bits_x w ≤ 0) where
      pub barred_s : bit_s w ≡ 0 → true ≡ barred w acc
      unfolding barred
      barred_s h = rw (ne_eqb (bit_u w) 0 u, le-ltb 0 (bits_x w) x, eq-eqb (bit_s w) 0 h)

      pub barred_e : (bit_s w ≡ 0 → ⊥) → (d : Bool) → d ≡ both (eqb (bit_e w) 1) (is_store acc) → d ≡ barred w acc
      unfolding barred
      barred_e h d ed = rw (ne_eqb (bit_u w) 0 u, le-ltb 0 (bits_x w) x, ne_eqb (bit_s w) 0 h, ed)

-- where a page begins, and what is left of it
module _ (w d : ℕ) where
  pub rest_large : bit_m w ≡ 0 → (frame w * 4096 ≡ base w) × (4096 - d ≡ size w - d)
  unfolding base size
  rest_large m = (rw m (omega arith), rw m)

  small : (bit_m w ≡ 0 → ⊥) → eqb (bit_m w) 1 ≡ true
  unfolding bit_m
  small m = eq-eqb (w / 1024 % 2) 1 (omega arith)

  pub rest_past : (bit_m w ≡ 0 → ⊥) → 2048 ≤ d → 0 ≡ size w - d
  unfolding size
  rest_past m h = rw (small m) (omega arith)

  pub rest_small : (bit_m w ≡ 0 → ⊥) → 2048 - d ≡ size w - d
  unfolding size
  rest_small m = rw (small m)
