-- What Behind comes to over the framed store: wherever a step reads or stores a byte, that byte's look-up succeeds there and then, so the
-- 0 that a read gives, and the nothing that a store does, where the look-up refuses (pages/specs/Framed) are never met.
use Prim.Native.Nat.{ℕ}
use native.Mathlib.Omega.{arith}
use mathlib.Core.Path.{◌≡◌, refl, ◌∙◌, ap}
use mathlib.Core.Bool.{Bool, true, false}
use lib.Dec.{eqb, leb, ltb}
use lib.ListN.{length, length-set}
use Rattle.std.specs.Prelude.{Ok, Err}
use Rattle.words.specs.Pick.{pick, both}
use Rattle.pages.specs.declared.Access.{Access}
use Rattle.pages.specs.declared.Access.TheVariants.{Fetch, Load, Store}
use Rattle.pages.specs.declared.Cause.{Cause}
use Rattle.pages.specs.declared.Cause.TheVariants.{PagingError}
use Rattle.pages.specs.Word.{bit_u, bit_s, bit_e, bit_m, bits_x, disp_of, page_of, real, word_of, written}
use Rattle.pages.specs.Tests.{Verdict, fine, bad, tests, six_tests}
use Rattle.pages.specs.Look.{Look, reach, look_of, test_seven, verdict_of}
use Rattle.pages.specs.Framed.{Framed, look_in, noted, read_byte, written_at, write_at, write_byte}
use Rattle.pages.proofs.Marks.{look_quiet, written_quiet}
use Rattle.machine.specs.Prog.{Prog, done, fail, look, get, put, Ops, keeps, after, interp}
use Rattle.machine.specs.Store.{framed}
use Rattle.machine.specs.Cpu.{Cpu}
use Rattle.machine.specs.Step.{step}
use Rattle.machine.proofs.MarksLast.{blind}
use Rattle.demand.proofs.LookedUpFirst.{Addresses, nowhere, Also, this, that, for_store, Behind, step_behind}

-- the look-up of this byte finds it
abbrev pub Finds : Framed → Access → ℕ → Type 0
Finds s acc a = verdict_of (look_in s acc a) ≡ fine

-- run from this store, past every look that succeeds, the program reads and stores only bytes whose look-up finds them
unfoldable pub Sure : {R : Type 0} → Prog R → Framed → Type 0
Sure (done r) s = Unit {0}
Sure (fail n a) s = Unit {0}
Sure (look acc a k) s = Finds s acc a → Sure k (noted s a)
Sure (get a k) s = Finds s Load a × Sure (k (read_byte s a)) s
Sure (put a v k) s = Finds s Store a × Sure k (write_byte s a v)

-- whatever the access, a byte that is found is found for loading
module _ (c : Cause) (x y : Verdict) where
  skip : (b : Bool) → (x ≡ fine → y ≡ fine) → pick b (bad c) x ≡ fine → pick b (bad c) y ≡ fine
  skip true f h = h
  skip false f h = f h

last : (e : Bool) → pick (both e false) (bad PagingError) fine ≡ fine
last true = refl
last false = refl

tests_load : (a w : ℕ) → tests Store a w ≡ fine → tests Load a w ≡ fine
unfolding tests six_tests
tests_load a w =
    skip _ _ _ (leb 2097152 a)
    (skip _ _ _ (eqb (bit_u w) 0)
    (skip _ _ _ (ltb 0 (bits_x w))
    (skip _ _ _ (both (eqb (bit_m w) 1) (leb 2048 (disp_of a)))
    (skip _ _ _ (eqb (bit_s w) 0) (λ h. last (eqb (bit_e w) 1))))))

within_fine : (v v' : Verdict) (r k n a : ℕ) → (v ≡ fine → v' ≡ fine) → verdict_of (test_seven v r k n a) ≡ fine → verdict_of (test_seven v' r k n a) ≡ fine
within_fine fine v' r k n a f h = rw (f refl) h
within_fine (bad c) v' r k n a f h = rw (f h) (absurd (let z : ◌≡◌ {A = ℕ} 0 1 = cc in omega arith))

finds_load : (s : Framed) (acc : Access) (a : ℕ) → Finds s acc a → Finds s Load a
unfolding look_of tests six_tests
finds_load s Fetch a h = h
finds_load s Load a h = h
finds_load s Store a h =
    within_fine _ _ (real (word_of s.map (page_of a)) (disp_of a)) (reach (word_of s.map (page_of a)) (disp_of a) (length s.mem)) (length s.mem) a
    (tests_load a (word_of s.map (page_of a)))
    h

-- neither a mark nor a store changes what a look-up answers
wrote_look : (s : Framed) (a v : ℕ) (acc : Access) (b : ℕ) → look_in (write_byte s a v) acc b ≡ look_in s acc b
unfolding write_byte written_at
wrote_look s a v acc b = go (look_in s Store a)
  where
    go : (l : Look) → look_in (write_at s a v l) acc b ≡ look_in s acc b
    go (Ok t) =
        ap (λ (n : ℕ). look_of (written_at s.map a) n acc b) (length-set s.mem t.at v)
        ∙ look_quiet written written_quiet s.map (page_of a) (length s.mem) acc b
    go (Err e) = refl

-- all these are found
abbrev pub Found : Addresses → Framed → Access → Type 0
Found L s acc = (b : ℕ) → L b → Finds s acc b

found_as : (L : Addresses) (s t : Framed) (acc : Access) → ((b : ℕ) → look_in t acc b ≡ look_in s acc b) → Found L s acc → Found L t acc
found_as L s t acc e f b h = ap verdict_of (e b) ∙ f b h

found_also : (L : Addresses) (s : Framed) (acc : Access) (a : ℕ) → Finds s acc a → Found L s acc → Found (Also a L) s acc
found_also L s acc a x f b this = x
found_also L s acc a x f b (that h) = f b h

found_stored : (S : Addresses) (s : Framed) (acc : Access) (a : ℕ) → Finds s acc a → Found S s Store → Found (for_store acc a S) s Store
found_stored S s Fetch a x f = f
found_stored S s Load a x f = f
found_stored S s Store a x f = found_also S s Store a x f

sure : {R : Type 0} (p : Prog R) (L S : Addresses) (s : Framed) → Found L s Load → Found S s Store → Behind L S p → Sure p s
unfolding Behind Sure
sure (done r) L S s l t b = tt
sure (fail n a) L S s l t b = tt
sure (look acc a k) L S s l t b =
    λ x. sure k (Also a L) (for_store acc a S) (noted s a)
    (found_as (Also a L) s (noted s a) Load (blind s a Load) (found_also L s Load a (finds_load s acc a x) l))
    (found_as (for_store acc a S) s (noted s a) Store (blind s a Store) (found_stored S s acc a x t))
    b
sure (get a k) L S s l t b = (l a b.0, sure (k (read_byte s a)) L S s l t (b.1 (read_byte s a)))
sure (put a v k) L S s l t b = (
  t a b.0,
  sure k L S (write_byte s a v)
      (found_as L s (write_byte s a v) Load (wrote_look s a v Load) l)
      (found_as S s (write_byte s a v) Store (wrote_look s a v Store) t)
      b.1,
)

pub step_sure : (c : Cpu) (s : Framed) → Sure (step c) s
step_sure c s = sure (step c) nowhere nowhere s (λ b h. absurd h) (λ b h. absurd h) (step_behind c)

-- another store that looks up and notes as the framed one does, and reads and stores as it does where the byte is found. What it reads or
-- stores where the look-up refuses is free
pub record Alike (o : Ops Framed) : Type 0 where
  pub looked : (s : Framed) (acc : Access) (a : ℕ) → o.looked s acc a ≡ framed.looked s acc a
  pub noted : (s : Framed) (acc : Access) (a : ℕ) → o.noted s acc a ≡ framed.noted s acc a
  pub read : (s : Framed) (a : ℕ) → Finds s Load a → o.read s a ≡ framed.read s a
  pub wrote : (s : Framed) (a v : ℕ) → Finds s Store a → o.wrote s a v ≡ framed.wrote s a v

module _ (o : Ops Framed) (k : Alike o) where
  kept_alike : (acc : Access) (a : ℕ) (kept : Framed) → keeps o acc a kept ≡ keeps framed acc a kept
  kept_alike Fetch a kept = k.noted kept Fetch a
  kept_alike Load a kept = refl
  kept_alike Store a kept = refl

  alike : {R : Type 0} (p : Prog R) (kept s : Framed) → Sure p s → interp o p kept s ≡ interp framed p kept s
  unfolding interp Sure
  alike (done r) kept s h = refl
  alike (fail n a) kept s h = refl
  alike (look acc a p) kept s h =
      rw (k.looked s acc a, k.noted s acc a, kept_alike acc a kept)
      (go (verdict_of (look_in s acc a)) refl (λ e. alike p (keeps framed acc a kept) (noted s a) (h e)))
    where
      go : (v : Verdict) → verdict_of (look_in s acc a) ≡ v
          → (verdict_of (look_in s acc a) ≡ fine
          → interp o p (keeps framed acc a kept) (noted s a) ≡ interp framed p (keeps framed acc a kept) (noted s a))
          → after v (λ t. interp o p (keeps framed acc a kept) t) (noted s a) a kept
          ≡ after v (λ t. interp framed p (keeps framed acc a kept) t) (noted s a) a kept
      go fine e f = f e
      go (bad c) e f = refl
  alike (get a p) kept s h =
      ap (λ (v : ℕ). interp o (p v) kept s) (k.read s a h.0) ∙ alike (p (read_byte s a)) kept s h.1
  alike (put a v p) kept s h =
      ap (λ (t : Framed). interp o p kept t) (k.wrote s a v h.0) ∙ alike p kept (write_byte s a v) h.1

  -- so a step's answer does not hang on what a refused read or store would do
  pub step_alike : (c : Cpu) (kept s : Framed) → interp o (step c) kept s ≡ interp framed (step c) kept s
  step_alike c kept s = alike (step c) kept s (step_sure c s)
