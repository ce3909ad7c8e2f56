-- An operand that was looked up: the first look-up reached its end, so it is read and written where it was found.
use Rattle.std.specs.Prelude.{Ok, Err}
use Rattle.std.proofs.Common.{◌≡◌, ℕ, zero, suc, ◌+◌, ◌-◌, ◌%◌, ◌<◌, ◌≤◌, Bool, true, false, not, eqb, List, length, get_or, set, sym, refl, ap, ◌∙◌, add-zero, arith, eq-eqb, eqb-true}
use native.Mathlib.Decide.{dec_lt}
use Rattle.pages.specs.declared.Access.{Access}
use Rattle.pages.specs.declared.Access.TheVariants.{Load, Store}
use Rattle.pages.specs.declared.Cause.{Cause}
use Rattle.pages.specs.declared.Cause.TheVariants.{Addressing}
use Rattle.pages.specs.Word.{page_of, next, accessed}
use Rattle.pages.specs.Tests.{fine}
use Rattle.pages.specs.Look.{Look, At, Refused, look_of, verdict_of}
use Rattle.pages.specs.Framed.{framed_of, accessed_at, written_at, read_byte, write_byte, read_at, write_at}
use Rattle.pages.proofs.LookLaws.{found_less, any_load}
use Rattle.pages.proofs.ReachLaws.{reach_below, reach_inside, reach_largest, reach_some, reach_end}
use Rattle.pages.proofs.Marks.{accessed_quiet, look_quiet}
use Rattle.code.specs.declared.Width.{Width}
use Rattle.code.specs.declared.Width.TheVariants.{Word, Half, Byte}
use Rattle.machine.specs.Fields.{bytes_of}
use Rattle.fields.specs.Direct.{or_else, look_field, look_one, note_field, read_field, write_field, flat, flat_put}
use Rattle.fields.proofs.MarkedOnce.{note_once}
use Rattle.fields.proofs.Reached.{reach_on, reach_read, reach_put}

-- marks are not seen
pub note_blind : (map : List ℕ) (b m n : ℕ) (acc : Access) (a : ℕ) → look_of (note_field map b m) n acc a ≡ look_of map n acc a
unfolding note_field
note_blind map b zero n acc a = refl
note_blind map b (suc m) n acc a =
    note_blind (accessed_at map b) (next b) m n acc a
    ∙ unfold accessed_at in look_quiet accessed accessed_quiet map (page_of b) n acc a

-- a field that is clear leaves what comes next
pub clear_rest : (map : List ℕ) (size : ℕ) (acc : Access) (n a : ℕ) (rest : Look) (x y : ℕ) → look_field map size acc a n rest ≡ At x y → rest ≡ At x y
unfolding look_field
clear_rest map size acc zero a rest x y e = e
clear_rest map size acc (suc n) a rest x y e =
    go (look_of map size acc a) e (λ t. clear_rest map size acc n (next a) rest x y t)
  where
    go : (v : Look) → or_else v (look_field map size acc (next a) n rest) ≡ At x y → (look_field map size acc (next a) n rest ≡ At x y → rest ≡ At x y) → rest ≡ At x y
    go (Ok s) t later = later t
    go (Err e) t later = absurd (let z : ◌≡◌ {A = ℕ} 0 1 = cc in omega arith)

-- every byte of a field that was found is found
module _ (map : List ℕ) (size : ℕ) (acc : Access) (a n : ℕ) (low : a + n ≤ 16777215) where
  goes_on_lem : (d : ℕ) → d < n → next (a + d) ≡ a + (d + 1)
  unfolding next
  goes_on_lem d h = omega arith

  each : (rest : Look) (x y k d : ℕ) → d + k ≤ n → look_field map size acc (a + d) k rest ≡ At x y → (e : ℕ) → d ≤ e → e < d + k
      → verdict_of (look_of map size acc (a + e)) ≡ fine
  unfolding look_field
  each rest x y zero d h f e l m = absurd (omega arith)
  each rest x y (suc k) d h f e l m =
      go (look_of map size acc (a + d)) refl f (λ t p. each rest x y k (d + 1) (omega arith) (ap (λ (b : ℕ). look_field map size acc b k rest) (sym (goes_on_lem d (omega arith))) ∙ t) e (omega arith) (omega arith)) (dec_lt d e)
    where
      go : (v : Look) → look_of map size acc (a + d) ≡ v → or_else v (look_field map size acc (next (a + d)) k rest) ≡ At x y
          → (look_field map size acc (next (a + d)) k rest ≡ At x y → d < e → verdict_of (look_of map size acc (a + e)) ≡ fine)
          → Dec (d < e) → verdict_of (look_of map size acc (a + e)) ≡ fine
      go (Ok s) g t later (yes i) = later t i
      go (Ok spot) g t later (no i) = let s : d ≡ e = omega arith in ap (λ (b : ℕ). verdict_of (look_of map size acc (a + b))) (sym s) ∙ ap verdict_of g
      go (Err e) g t later i = absurd (let z : ◌≡◌ {A = ℕ} 0 1 = cc in omega arith)

-- a field looked up as a whole has its first byte's answer
pub whole_first : (map : List ℕ) (size : ℕ) (acc : Access) (a n r k : ℕ) → look_one map size acc a n ≡ At r k → look_of map size acc a ≡ At r k
unfolding look_one
whole_first map size acc a n r k e = clear_rest map size acc n a (look_of map size acc a) r k e

-- in one half page the first look-up reached its end: no larger number of bytes lies together
pub half_reached : (map : List ℕ) (size : ℕ) (acc : Access) (a n r k : ℕ) → a % 2048 + n ≤ 2048 → look_one map size acc a n ≡ At r k → n ≤ k
half_reached map size acc a n r k fit e =
    let f = whole_first map size acc a n r k e in
    let b = reach_below map size acc a r k f in
    let p = reach_some map size acc a r k f in
    reach_largest map size acc a r k f n
    (record {
      page = λ d h. unfold page_of in omega arith;
      right =
          λ d h. each map size acc a n (omega arith) (look_of map size acc a) r k n 0 (omega arith)
          (ap (λ (x : ℕ). look_field map size acc x n (look_of map size acc a)) (add-zero a) ∙ unfold look_one in e) d (omega arith) (omega arith);
    })

-- the code's look-up of such an operand, by its way out
module _ (map : List ℕ) (size : ℕ) (acc : Access) (a n : ℕ) (found : Look) (e : found ≡ look_of map size acc a) where
  pub operand_refused : (c : Cause) (p : ℕ) → found ≡ Refused c p → found ≡ look_one map size acc a n
  unfolding look_one
  operand_refused c p f = f ∙ go n
    where
      go : (m : ℕ) → Refused c p ≡ look_field map size acc a m (look_of map size acc a)
      go zero = unfold look_field in (sym f ∙ e)
      go (suc m) = unfold look_field in rw (← e, f)

  module _ (r k : ℕ) (f : found ≡ At r k) where
    pub operand_cut : a % 2048 + n ≤ 2048 → k < n → Refused Addressing (a + k) ≡ look_one map size acc a n
    unfolding look_one
    operand_cut fit h =
        let g = sym e ∙ f in
        let b = reach_below map size acc a r k g in
        let w : (a + k) % 16777216 ≡ a + k = omega arith in
        sym
        (reach_on map size acc a r k g n k (look_of map size acc a) (reach_some map size acc a r k g) (omega arith) (omega arith)
        ∙ ap (λ (x : ℕ). look_field map size acc x (n - k) (look_of map size acc a)) w
        ∙ go (n - k) (omega arith))
      where
        go : (m : ℕ) → 0 < m → look_field map size acc (a + k) m (look_of map size acc a) ≡ Refused Addressing (a + k)
        go zero p = absurd (omega arith)
        go (suc m) p = unfold look_field in rw (reach_end map size acc a r k (sym e ∙ f) n fit h)

-- an operand, looked up as a whole
module _ (mem map : List ℕ) (acc : Access) (a n r k : ℕ) (found : Look) (e : found ≡ look_one map (length mem) acc a n) (f : found ≡ At r k) (h : 0 < n) (fit : a % 2048 + n ≤ 2048) where
  first : look_of map (length mem) acc a ≡ At r k
  first = whole_first map (length mem) acc a n r k (sym e ∙ f)

  far : n ≤ k
  far = half_reached map (length mem) acc a n r k fit (sym e ∙ f)

  -- whatever it was looked up for, it may be read; and marks make no difference
  readable : (map' : List ℕ) → map' ≡ note_field map a n → look_of map' (length mem) Load a ≡ At r k
  readable map' m =
      ap (λ (x : List ℕ). look_of x (length mem) Load a) m
      ∙ note_blind map a n (length mem) Load a
      ∙ any_load map (length mem) acc a r k first

  pub found_inside : r + n ≤ length mem
  found_inside = omega (arith, reach_inside map (length mem) acc a r k first, far)

  pub found_read : (map' : List ℕ) → map' ≡ note_field map a n → flat mem r n 0 ≡ read_field (framed_of mem map') a n 0
  found_read map' m = reach_read mem map' a r k (readable map' m) n far 0

  -- marked once for all its bytes
  pub found_note : (map' : List ℕ) → map' ≡ accessed_at map a → map' ≡ note_field map a n
  found_note map' m =
      let b = reach_below map (length mem) acc a r k first in
      m ∙ note_once map a n h (omega arith) (omega arith)

pub found_write : (mem map : List ℕ) (a n r k : ℕ) (found : Look) → found ≡ look_one map (length mem) Store a n → found ≡ At r k → 0 < n
    → a % 2048 + n ≤ 2048 → (map' map'' mem' : List ℕ) (v : ℕ) → map' ≡ note_field map a n → mem' ≡ flat_put mem r n v → map'' ≡ written_at map' a
    → framed_of mem' map'' ≡ write_field (framed_of mem map') a n v
found_write mem map a n r k found e f h fit map' map'' mem' v m em en =
    ap (λ (x : List ℕ). framed_of x map'') em
    ∙ ap (framed_of (flat_put mem r n v)) en
    ∙ reach_put map' (length mem) a r k marked mem refl n h (far mem map Store a n r k found e f h fit) v
  where
    marked : look_of map' (length mem) Store a ≡ At r k
    marked =
        ap (λ (x : List ℕ). look_of x (length mem) Store a) m
        ∙ note_blind map a n (length mem) Store a
        ∙ first mem map Store a n r k found e f h fit

-- an operand on its boundary lies in one half page
pub aligned_fits : (w : Width) (a : ℕ) → a % bytes_of w ≡ 0 → a % 2048 + bytes_of w ≤ 2048
aligned_fits Word a e = omega arith
aligned_fits Half a e = omega arith
aligned_fits Byte a e = omega arith

pub off_is : (b : Bool) (x : ℕ) → b ≡ not (eqb x 0) → b ≡ true → x ≡ 0 → ⊥
off_is b x e t z = let k : not true ≡ true = ap not (sym (eq-eqb x 0 z)) ∙ sym e ∙ t in absurd (let y : ◌≡◌ {A = ℕ} 0 1 = cc in omega arith)

pub on_is : (b : Bool) (x : ℕ) → b ≡ not (eqb x 0) → b ≡ false → x ≡ 0
on_is b x e t = go (eqb x 0) refl (sym e ∙ t)
  where
    go : (y : Bool) → eqb x 0 ≡ y → not y ≡ false → x ≡ 0
    go true k q = eqb-true x 0 k
    go false k q = absurd (let z : ◌≡◌ {A = ℕ} 0 1 = cc in omega arith)

-- one byte
module _ (mem map : List ℕ) (acc : Access) (a r k : ℕ) (found : Look) (e : found ≡ look_of map (length mem) acc a) (f : found ≡ At r k) where
  pub byte_inside : r < length mem
  byte_inside = found_less map (length mem) acc a found r k e f

  pub byte_read : (map' : List ℕ) → map' ≡ accessed_at map a → get_or mem r 0 ≡ read_byte (framed_of mem map') a
  unfolding read_byte accessed_at
  byte_read map' m =
      ap (read_at mem)
      (sym
      (ap (λ (x : List ℕ). look_of x (length mem) Load a) m
      ∙ look_quiet accessed accessed_quiet map (page_of a) (length mem) Load a
      ∙ any_load map (length mem) acc a r k (sym e ∙ f)))

pub byte_write : (mem map : List ℕ) (a r k : ℕ) (found : Look) → found ≡ look_of map (length mem) Store a → found ≡ At r k
    → (map' map'' mem' : List ℕ) (v : ℕ) → map' ≡ accessed_at map a → mem' ≡ set mem r v → map'' ≡ written_at map' a
    → framed_of mem' map'' ≡ write_byte (framed_of mem map') a v
unfolding write_byte accessed_at
byte_write mem map a r k found e f map' map'' mem' v m em en =
    ap (λ (x : List ℕ). framed_of x map'') em
    ∙ ap (framed_of (set mem r v)) en
    ∙ ap (write_at (framed_of mem map') a v)
    (sym
    (ap (λ (x : List ℕ). look_of x (length mem) Store a) m
    ∙ look_quiet accessed accessed_quiet map (page_of a) (length mem) Store a
    ∙ sym e
    ∙ f))

-- what an executor has in hand: the width as a number of bytes
pub width_some : (w : Width) → 0 < bytes_of w
width_some Word = omega arith
width_some Half = omega arith
width_some Byte = omega arith

pub len_is : (map : List ℕ) (size : ℕ) (acc : Access) (a n m : ℕ) (found : Look) → found ≡ look_one map size acc a n → n ≡ m → found ≡ look_one map size acc a m
len_is map size acc a n m found e k = e ∙ ap (look_one map size acc a) k
