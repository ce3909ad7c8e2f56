-- A page's bytes are the stretch of memory that the look-up of its first byte reaches; of an open page that lies in memory, all of it: 4,096
-- bytes, or the 2,048 of the half that M and H choose.
use mathlib.Core.Path.{◌≡◌, refl, sym, ap, ap₂, ◌∙◌}
use mathlib.Core.Bool.{Bool, true, false}
use mathlib.Core.List.{List, [], ◌∷◌}
use Prim.Native.Nat.{ℕ, zero, suc, ◌+◌, ◌-◌, ◌*◌, ◌≤◌, ◌<◌}
use native.Mathlib.Omega.{arith}
use native.Mathlib.Nat.{add-zero}
use native.Mathlib.Decide.{ℕ_discrete}
use lib.Dec.{eqb}
use lib.ListN.{length, get_or, take, drop}
use lib.Seq.{drop-cons}
use borrow.Author.Tests.{le-ltb}
use Rattle.std.specs.Prelude.{Ok, Err}
use Rattle.words.specs.Pick.{pick, both}
use Rattle.pages.specs.declared.Access.TheVariants.{Load}
use Rattle.pages.specs.declared.Cause.{Cause}
use Rattle.pages.specs.Word.{bit_e, bit_m, page_of, disp_of, base, size, real, word_of, Open}
use Rattle.pages.specs.Tests.{fine, is_store}
use Rattle.pages.specs.Look.{Look, At, Refused, fewer, reach, look_of, verdict_of}
use Rattle.pages.proofs.LookLaws.{found_in_lem}
use Rattle.pages.proofs.ReachLaws.{reach_behind, reach_inside, reach_fits, reach_largest}
use Rattle.page_listing.specs.Page.{bytes_from, page_bytes}

-- from a byte that is found, and from one that is refused
from_found : (mem map : List ℕ) (n a r j : ℕ) → look_of map (length mem) Load a ≡ At r j
    → bytes_from mem map (suc n) a ≡ get_or mem r 0 ∷ bytes_from mem map n (a + 1)
unfolding bytes_from
from_found mem map n a r j e = rw e

from_refused : (mem map : List ℕ) (n a : ℕ) (c : Cause) (p : ℕ) → look_of map (length mem) Load a ≡ Refused c p
    → bytes_from mem map n a ≡ []
unfolding bytes_from
from_refused mem map zero a c p e = refl
from_refused mem map (suc n) a c p e = rw e

-- k bytes that are found one behind the other, from r on, and then none
together : (mem map : List ℕ) (i k j a r : ℕ) → r + k ≤ length mem
    → ((d : ℕ) → d < k → look_of map (length mem) Load (a + d) ≡ At (r + d) (k + i - d))
    → bytes_from mem map j (a + k) ≡ []
    → bytes_from mem map (k + j) a ≡ take k (drop r mem)
together mem map i zero j a r h f e =
    let n : zero + j ≡ j = omega arith in
    ap₂ (bytes_from mem map) n (sym (add-zero a)) ∙ e
together mem map i (suc k) j a r h f e =
    let n : suc k + j ≡ suc (k + j) = omega arith in
    let first : look_of map (length mem) Load a ≡ At r (suc k + i - 0)
    = ap (look_of map (length mem) Load) (sym (add-zero a)) ∙ f 0 (omega arith) ∙ ap (λ (x : ℕ). At x (suc k + i - 0)) (add-zero r) in
    let last : a + suc k ≡ a + 1 + k = omega arith in
    let rest : bytes_from mem map (k + j) (a + 1) ≡ take k (drop (suc r) mem)
    = together mem map i k j (a + 1) (suc r) (omega arith)
    (λ d l.
    let x : a + suc d ≡ a + 1 + d = omega arith in
    let y : r + suc d ≡ suc r + d = omega arith in
    let z : suc k + i - suc d ≡ k + i - d = omega arith in
    ap (look_of map (length mem) Load) (sym x) ∙ f (suc d) (omega arith) ∙ ap₂ At y z)
    (ap (bytes_from mem map j) (sym last) ∙ e) in
    ap (λ (m : ℕ). bytes_from mem map m a) n
    ∙ from_found mem map (k + j) a r (suc k + i - 0) first
    ∙ ap (λ (bs : List ℕ). get_or mem r 0 ∷ bs) rest
    ∙ ap (take (suc k)) (sym (drop-cons mem r 0 (omega arith)))

-- the byte behind what is reached is in another page, or is not found
module _ (mem map : List ℕ) (page : ℕ) (h : page < 512) (r k : ℕ) (e : look_of map (length mem) Load (page * 4096) ≡ At r k) where
  short : k ≤ 4096
  short = let f = reach_fits map (length mem) Load (page * 4096) r k e in omega arith

  not_found : k < 4096 → (q j : ℕ) → look_of map (length mem) Load (page * 4096 + k) ≡ At q j → ⊥
  not_found l q j g =
      let m = reach_largest map (length mem) Load (page * 4096) r k e (k + 1)
      (record { page = λ d i. unfold page_of in omega arith; right = λ d i. found d i (ℕ_discrete d k) }) in
      omega arith
    where
      found : (d : ℕ) → d < k + 1 → Dec (d ≡ k) → verdict_of (look_of map (length mem) Load (page * 4096 + d)) ≡ fine
      found d i (yes s) = ap (λ (x : ℕ). verdict_of (look_of map (length mem) Load (page * 4096 + x))) s ∙ ap verdict_of g
      found d i (no s) = ap verdict_of (reach_behind map (length mem) Load (page * 4096) r k e d (omega arith))

  none : (j : ℕ) → k + j ≡ 4096 → bytes_from mem map j (page * 4096 + k) ≡ []
  none zero s = unfold bytes_from in refl
  none (suc j) s = go (look_of map (length mem) Load (page * 4096 + k)) refl
    where
      go : (l : Look) → look_of map (length mem) Load (page * 4096 + k) ≡ l → bytes_from mem map (suc j) (page * 4096 + k) ≡ []
      go (Ok t) g = absurd (not_found (omega arith) t.at t.reach g)
      go (Err e) g = from_refused mem map (suc j) (page * 4096 + k) e.cause e.place g

  pub page_reached : page_bytes mem map page ≡ take k (drop r mem)
  unfolding page_bytes
  page_reached =
      let s : k + (4096 - k) ≡ 4096 = omega (arith, short) in
      let z : k + 0 ≡ k = omega arith in
      ap (λ (m : ℕ). bytes_from mem map m (page * 4096)) (sym s)
      ∙ together mem map 0 k (4096 - k) (page * 4096) r (reach_inside map (length mem) Load (page * 4096) r k e)
      (λ d l. reach_behind map (length mem) Load (page * 4096) r k e d l ∙ ap (λ (x : ℕ). At (r + d) (x - d)) (sym z))
      (none (4096 - k) s)

-- an open page that lies in memory is reached whole
module _ (mem map : List ℕ) (page w : ℕ) (h : page < 512) (ew : w ≡ word_of map page) (o : Open w) (i : base w + size w ≤ length mem) where
  page_is : page_of (page * 4096) ≡ page
  unfolding page_of
  page_is = omega arith

  disp_is : disp_of (page * 4096) ≡ 0
  unfolding disp_of
  disp_is = omega arith

  some : 0 < size w
  unfolding size
  some = go (eqb (bit_m w) 1)
    where
      go : (b : Bool) → 0 < pick b 2048 4096
      go true = omega arith
      go false = omega arith

  load : both (eqb (bit_e w) 1) (is_store Load) ≡ false
  load = go (eqb (bit_e w) 1)
    where
      go : (b : Bool) → both b false ≡ false
      go true = refl
      go false = refl

  there : real w (disp_of (page * 4096)) ≡ base w
  unfolding real
  there = omega (arith, disp_is)

  far : reach w (disp_of (page * 4096)) (length mem) ≡ size w
  unfolding reach
  far =
      rw (there, disp_is)
      (let x : size w - 0 ≡ size w = omega arith in
      ap (λ (y : ℕ). fewer y (length mem - base w)) x ∙ rw (le-ltb (length mem - base w) (size w) (omega arith)))

  first : look_of map (length mem) Load (page * 4096) ≡ At (base w) (size w)
  first =
      found_in_lem map (length mem) Load (page * 4096) (base w) (size w)
      (rw (page_is, ← ew)
      (record {
        passed =
            record {
              low = omega arith;
              u = λ z. omega (arith, o.u);
              x = omega (arith, o.x);
              m = omega (arith, disp_is, some);
              s = λ z. omega (arith, o.s);
              e = load;
            };
        there = there;
        inside = omega (arith, some);
        far = far;
      }))

  pub open_page : page_bytes mem map page ≡ take (size w) (drop (base w) mem)
  open_page = page_reached mem map page h (base w) (size w) first
