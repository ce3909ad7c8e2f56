-- Words, and what may be left out of them: the marks, and the frame.
use Prim.Native.Nat.{ℕ, ◌+◌, ◌*◌, ◌/◌, ◌%◌, ◌<◌}
use native.Mathlib.Omega.{arith}
use mathlib.Core.Path.{◌≡◌, refl, sym, ◌∙◌, ap}
use mathlib.Core.Bool.{Bool, true, false}
use mathlib.Core.List.{List, [], ◌∷◌}
use borrow.Author.Tests.{eqb-false, ltb-false, leb-false}
use lib.Dec.{eqb, leb}
use Rattle.words.specs.Pick.{pick, both}
use Rattle.pages.specs.declared.Access.{Access}
use Rattle.pages.specs.Word.{bit_u, bit_s, bit_e, bit_m, bit_h, bits_x, frame, base, size, real, disp_of, Open, Writable, accessed, written}
use Rattle.pages.specs.Tests.{fine, bad, Test, first_bad, is_store, tests, six_tests}
use Rattle.demand.specs.Plain.{bare}

-- two words that differ in their marks at most
abbrev pub Twin : ℕ → ℕ → Type 0
Twin v w = v % 16384 ≡ w % 16384

module _ (v w : ℕ) (h : Twin v w) where
  twin_u : bit_u v ≡ bit_u w
  unfolding bit_u
  twin_u = omega (arith, h)

  twin_s : bit_s v ≡ bit_s w
  unfolding bit_s
  twin_s = omega (arith, h)

  twin_e : bit_e v ≡ bit_e w
  unfolding bit_e
  twin_e = omega (arith, h)

  twin_m : bit_m v ≡ bit_m w
  unfolding bit_m
  twin_m = omega (arith, h)

  twin_h : bit_h v ≡ bit_h w
  unfolding bit_h
  twin_h = omega (arith, h)

  twin_x : bits_x v ≡ bits_x w
  unfolding bits_x
  twin_x = omega (arith, h)

  twin_frame : frame v ≡ frame w
  unfolding frame
  twin_frame = omega (arith, h)

  pub base_twin : base v ≡ base w
  unfolding base
  base_twin = rw (twin_m, twin_h, twin_frame)

  pub size_twin : size v ≡ size w
  unfolding size
  size_twin = rw twin_m

  pub real_twin : (d : ℕ) → real v d ≡ real w d
  unfolding real
  real_twin d = rw base_twin

  pub open_twin : Open v → Open w
  open_twin o = record { u = sym twin_u ∙ o.u; s = sym twin_s ∙ o.s; x = sym twin_x ∙ o.x }

  pub writable_twin : Writable v → Writable w
  writable_twin o = record { open_page = open_twin o.open_page; e = sym twin_e ∙ o.e }

-- what a page may do it may under a twin
pub ruleset page-twin = (open_twin, writable_twin)

pub accessed_twin : (w : ℕ) → Twin (accessed w) w
unfolding accessed
accessed_twin w = omega arith

pub written_twin : (w : ℕ) → Twin (written w) w
unfolding written
written_twin w = omega arith

-- the page bits of a word, in two parts: from M on upward, and X
bare_high : (w : ℕ) → bare w / 1024 ≡ w / 1024
unfolding bare bits_x
bare_high w = omega arith

bare_low : (w : ℕ) → bare w % 1024 ≡ w % 1024 / 64 % 8 * 64
unfolding bare bits_x
bare_low w = omega arith

halves : (v w : ℕ) → v / 1024 ≡ w / 1024 → v % 1024 ≡ w % 1024 → v ≡ w
halves v w h l = omega (arith, h, l)

-- a change of the high part alone may come before or after the frame is dropped
bare_comm : (f F : ℕ → ℕ) → ((w : ℕ) → f w / 1024 ≡ F (w / 1024)) → ((w : ℕ) → f w % 1024 ≡ w % 1024)
    → (w : ℕ) → bare (f w) ≡ f (bare w)
bare_comm f F high low w =
    halves
    (bare (f w))
    (f (bare w))
    (bare_high (f w) ∙ high w ∙ ap F (sym (bare_high w)) ∙ sym (high (bare w)))
    (bare_low (f w) ∙ ap (λ (l : ℕ). l / 64 % 8 * 64) (low w) ∙ sym (bare_low w) ∙ sym (low (bare w)))

pub bare_accessed : (w : ℕ) → bare (accessed w) ≡ accessed (bare w)
unfolding accessed
bare_accessed =
    bare_comm accessed (λ h. h / 32 * 32 + 16 + h % 16) (λ w. omega arith) (λ w. omega arith)

pub bare_written : (w : ℕ) → bare (written w) ≡ written (bare w)
unfolding written
bare_written = bare_comm written (λ h. 32 + h % 32) (λ w. omega arith) (λ w. omega arith)

-- no test looks at the frame or at H
bare_u : (w : ℕ) → bit_u (bare w) ≡ bit_u w
unfolding bit_u
bare_u w = omega (arith, bare_high w)

bare_s : (w : ℕ) → bit_s (bare w) ≡ bit_s w
unfolding bit_s
bare_s w = omega (arith, bare_high w)

bare_e : (w : ℕ) → bit_e (bare w) ≡ bit_e w
unfolding bit_e
bare_e w = omega (arith, bare_high w)

bare_m : (w : ℕ) → bit_m (bare w) ≡ bit_m w
unfolding bit_m
bare_m w = omega (arith, bare_high w)

bare_x : (w : ℕ) → bits_x (bare w) ≡ bits_x w
unfolding bits_x
bare_x w = omega (arith, bare_low w)

pub tests_bare : (acc : Access) (a w : ℕ) → tests acc a (bare w) ≡ tests acc a w
unfolding tests six_tests
tests_bare acc a w = rw (bare_u w, bare_x w, bare_m w, bare_s w, bare_e w)

-- what tests 1 to 6 show of a word, when all pass
pub record Passed (acc : Access) (a w : ℕ) : Type 0 where
  pub open_page : Open w
  pub near : disp_of a < size w
  pub free : is_store acc ≡ true → bit_e w ≡ 0

abbrev AllPass : List Test → Type 0
AllPass [] = Unit {0}
AllPass (t ∷ ts) = (t.fails ≡ false) × AllPass ts

all_pass : (ts : List Test) → first_bad ts ≡ fine → AllPass ts
all_pass [] h = tt
all_pass (t ∷ ts) h = go t.fails refl h (λ k. all_pass ts k)
  where
    go : (b : Bool) → t.fails ≡ b → pick b (bad t.cause) (first_bad ts) ≡ fine → (first_bad ts ≡ fine → AllPass ts)
        → AllPass (t ∷ ts)
    go false e k rest = (e, rest k)
    go true e k rest = absurd (let z : ◌≡◌ {A = ℕ} 0 1 = cc in omega arith)

near_enough : (b : Bool) (d : ℕ) → d < 4096 → both b (leb 2048 d) ≡ false → d < pick b 2048 4096
near_enough true d l h = leb-false 2048 d h
near_enough false d l h = l

not_denied : (b s : Bool) → both b s ≡ false → s ≡ true → b ≡ false
not_denied true s h e = sym e ∙ h
not_denied false s h e = refl

pub passed : (acc : Access) (a w : ℕ) → tests acc a w ≡ fine → Passed acc a w
unfolding tests six_tests bit_u bit_s bit_e bits_x disp_of size
passed acc a w h =
    let all : AllPass (six_tests acc a w) = all_pass (six_tests acc a w) h in
    record {
      open_page =
          record {
            u = omega (arith, eqb-false (bit_u w) 0 all.1.0);
            s = omega (arith, eqb-false (bit_s w) 0 all.1.1.1.1.0);
            x = omega (arith, ltb-false 0 (bits_x w) all.1.1.0);
          };
      near = near_enough (eqb (bit_m w) 1) (disp_of a) (omega arith) all.1.1.1.0;
      free =
          λ st. omega (arith, eqb-false (bit_e w) 1 (not_denied (eqb (bit_e w) 1) (is_store acc) all.1.1.1.1.1.0 st));
    }
