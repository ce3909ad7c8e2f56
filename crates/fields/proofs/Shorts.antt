-- Short stretches by real address: moved by their two ends, and compared word by word.
use Rattle.std.proofs.Common.{◌≡◌, ℕ, zero, suc, ◌+◌, ◌-◌, ◌*◌, ◌/◌, ◌<◌, ◌≤◌, Bool, true, false, eqb, ltb, leb, ◌≢◌, List, [], ◌∷◌, ◌++◌, length, take, drop, get_or, set, sym, refl, ap, ◌∙◌, arith, get_or-set_other, length-set, w8, w32, Fits, ltb-false, ltb-true, le-ltb, lt-ltb, eq-eqb, ne_eqb, le-leb, leb-true}
use Rattle.std.proofs.lemmas.List.{drop_more}
use borrow.Rule.Slice.PartMut.{put_mid}
use native.Mathlib.Numerals.{unary_clauses}
use borrow.Author.Tests.{lt-leb}
use Rattle.words.specs.Pick.{pick}
use Rattle.words.specs.Codes.{compare_bits}
use Rattle.fields.specs.Direct.{flat, flat_move, flat_compare}
use Rattle.fields.specs.Apart.{apart}
use Rattle.fields.proofs.Stretches.{flat_compare_on, alike_fewer, alike_more, alike_first, alike_flat, flat_alike}

-- n bytes of one memory laid into another
unfoldable pub laid : List ℕ → List ℕ → ℕ → ℕ → ℕ → List ℕ
laid m mem a b zero = m
laid m mem a b (suc n) = laid (set m a (get_or mem b 0)) mem (a + 1) (b + 1) n

-- one store twice is one store; stores at two places may change places
set_twice : (m : List ℕ) (i x : ℕ) → set (set m i x) i x ≡ set m i x
set_twice [] i x = refl
set_twice (y ∷ ys) zero x = refl
set_twice (y ∷ ys) (suc i) x = ap (λ (r : List ℕ). y ∷ r) (set_twice ys i x)

set_swap : (m : List ℕ) (i j x y : ℕ) → i < j → set (set m i x) j y ≡ set (set m j y) i x
set_swap [] i j x y h = refl
set_swap (z ∷ zs) i zero x y h = absurd (omega arith)
set_swap (z ∷ zs) zero (suc j) x y h = refl
set_swap (z ∷ zs) (suc i) (suc j) x y h = ap (λ (r : List ℕ). z ∷ r) (set_swap zs i j x y (omega arith))

laid_set : (n : ℕ) (m mem : List ℕ) (a b i x : ℕ) → i < a → set (laid m mem a b n) i x ≡ laid (set m i x) mem a b n
unfolding laid
laid_set zero m mem a b i x h = refl
laid_set (suc n) m mem a b i x h =
    laid_set n (set m a (get_or mem b 0)) mem (a + 1) (b + 1) i x (omega arith)
    ∙ ap (λ (y : List ℕ). laid y mem (a + 1) (b + 1) n) (sym (set_swap m i a x (get_or mem b 0) h))

-- what lies there already, laid once more with more behind it
laid_over : (p : ℕ) (m mem : List ℕ) (a b q : ℕ) → p ≤ q → laid (laid m mem a b p) mem a b q ≡ laid m mem a b q
unfolding laid
laid_over zero m mem a b q h = refl
laid_over (suc p) m mem a b zero h = absurd (omega arith)
laid_over (suc p) m mem a b (suc q) h =
    ap (λ (y : List ℕ). laid y mem (a + 1) (b + 1) q)
    (laid_set p (set m a (get_or mem b 0)) mem (a + 1) (b + 1) a (get_or mem b 0) (omega arith)
    ∙ ap (λ (y : List ℕ). laid y mem (a + 1) (b + 1) p) (set_twice m a (get_or mem b 0)))
    ∙ laid_over p (set m a (get_or mem b 0)) mem (a + 1) (b + 1) q (omega arith)

-- two stretches that meet or lap over each other are one
laid_on : (k : ℕ) (m mem : List ℕ) (a b p q : ℕ) → k ≤ p → p ≤ k + q
    → laid (laid m mem a b p) mem (a + k) (b + k) q ≡ laid m mem a b (k + q)
unfolding laid
laid_on zero m mem a b p q h l =
    let e : zero + q ≡ q = omega arith in
    rw e (simp unary_clauses (laid_over p m mem a b q (omega arith)))
laid_on (suc k) m mem a b zero q h l = absurd (omega arith)
laid_on (suc k) m mem a b (suc p) q h l =
    let i : a + suc k ≡ a + 1 + k = omega arith in
    let j : b + suc k ≡ b + 1 + k = omega arith in
    let e : suc k + q ≡ suc (k + q) = omega arith in
    rw (i, j, e) (laid_on k (set m a (get_or mem b 0)) mem (a + 1) (b + 1) p q (omega arith) (omega arith))

-- what is laid, as surgery on lists
length-laid : (n : ℕ) (m mem : List ℕ) (a b : ℕ) → length (laid m mem a b n) ≡ length m
unfolding laid
length-laid zero m mem a b = refl
length-laid (suc n) m mem a b = length-laid n (set m a (get_or mem b 0)) mem (a + 1) (b + 1) ∙ length-set m a (get_or mem b 0)

laid_behind : (n y : ℕ) (ys mem : List ℕ) (a b : ℕ) → laid (y ∷ ys) mem (suc a) b n ≡ y ∷ laid ys mem a b n
unfolding laid
laid_behind zero y ys mem a b = refl
laid_behind (suc n) y ys mem a b =
    let i : suc a + 1 ≡ suc (a + 1) = omega arith in
    rw i (laid_behind n y (set ys a (get_or mem b 0)) mem (a + 1) (b + 1))

laid_in_front : (n : ℕ) (m mem : List ℕ) (b : ℕ) → n ≤ length m → b + n ≤ length mem → laid m mem 0 b n ≡ take n (drop b mem) ++ drop n m
unfolding laid
laid_in_front zero m mem b h l = refl
laid_in_front (suc n) [] mem b h l = absurd (omega arith)
laid_in_front (suc n) (y ∷ ys) mem b h l =
    laid_behind n (get_or mem b 0) ys mem 0 (b + 1)
    ∙ ap (λ (r : List ℕ). get_or mem b 0 ∷ r) (laid_in_front n ys mem (b + 1) (omega arith) (omega arith))
    ∙ ap (λ (r : List ℕ). take (suc n) r ++ drop n ys) (sym (drop_more mem b 0 (omega arith)))

laid_is_put : (a n : ℕ) (m mem : List ℕ) (b : ℕ) → a + n ≤ length m → b + n ≤ length mem
    → laid m mem a b n ≡ put_mid a n m (take n (drop b mem))
laid_is_put zero n m mem b h l = laid_in_front n m mem b (omega arith) l
laid_is_put (suc a) n [] mem b h l = absurd (omega arith)
laid_is_put (suc a) n (y ∷ ys) mem b h l =
    laid_behind n y ys mem a b ∙ ap (λ (r : List ℕ). y ∷ r) (laid_is_put a n ys mem b (omega arith) l)

pub apart_left : (to from n : ℕ) → to ≤ from → true ≡ apart to from n
unfolding apart
apart_left to from n h = rw (le-leb to from h)

pub apart_past : (to from n : ℕ) → from < to → leb (from + n) to ≡ apart to from n
unfolding apart
apart_past to from n h = rw (lt-leb to from h)

-- a move does not run into itself: its first byte is stored at no place that is read after it
apart_off : (to from n : ℕ) → apart to from n ≡ true → (d : ℕ) → 0 < d → d < n → from + d ≢ to
unfolding apart
apart_off to from n h d l u e = go (leb to from) refl (leb (from + n) to) refl h
  where
    go : (p : Bool) → leb to from ≡ p → (q : Bool) → leb (from + n) to ≡ q → pick p true q ≡ true → ⊥
    go true f q g k = omega (arith, leb-true to from f)
    go false f true g k = omega (arith, leb-true (from + n) to g)
    go false f false g k = absurd (let z : ◌≡◌ {A = ℕ} 0 1 = cc in omega arith)

off_laid : (n : ℕ) (m mem : List ℕ) (to from : ℕ) → ((d : ℕ) → 0 < d → d < n → from + d ≢ to)
    → ((d : ℕ) → d < n → get_or m (from + d) 0 ≡ get_or mem (from + d) 0) → flat_move m to from n ≡ laid m mem to from n
unfolding flat_move laid
off_laid zero m mem to from h k = refl
off_laid (suc n) m mem to from h k =
    let z : from + 0 ≡ from = omega arith in
    ap (λ (x : ℕ). flat_move (set m to x) (to + 1) (from + 1) n) (rw z at (k 0 (omega arith)))
    ∙ off_laid n (set m to (get_or mem from 0)) mem (to + 1) (from + 1) (λ d l u e. h d l (omega arith) (omega arith))
    (λ d l.
    get_or-set_other m to (from + 1 + d) (get_or mem from 0) 0 (λ e. h (d + 1) (omega arith) (omega arith) (omega arith))
    ∙ (let i : from + 1 + d ≡ from + (d + 1) = omega arith in rw i (k (d + 1) (omega arith))))

move_is_laid : (n : ℕ) (mem : List ℕ) (to from : ℕ) → apart to from n ≡ true → flat_move mem to from n ≡ laid mem mem to from n
move_is_laid n mem to from h = off_laid n mem mem to from (apart_off to from n h) (λ d l. refl)

-- p bytes from each end of n, read before any is stored
pub ends_met : (n p i j : ℕ) (mem xs ys : List ℕ) (to from : ℕ) → p ≤ n → n ≤ p + p → apart to from n ≡ true
    → to + n ≤ length mem → from + n ≤ length mem → p ≡ i → p ≡ j
    → xs ≡ take p (drop from mem) → ys ≡ take p (drop (from + (n - p)) mem)
    → put_mid (to + (n - p)) j (put_mid to i mem xs) ys ≡ flat_move mem to from n
ends_met n p i j mem xs ys to from h l e t f ei ej ex ey =
    let k = n - p in
    let m = laid mem mem to from p in
    let one : put_mid to i mem xs ≡ m =
    rw (← ei, ex) (sym (laid_is_put to p mem mem from (omega arith) (omega arith))) in
    let two : put_mid (to + k) j m ys ≡ laid m mem (to + k) (from + k) p =
    rw (← ej, ey) (sym (laid_is_put (to + k) p m mem (from + k) (omega (arith, length-laid p mem mem to from)) (omega arith))) in
    let all : k + p ≡ n = omega arith in
    ap (λ (z : List ℕ). put_mid (to + k) j z ys) one
    ∙ two
    ∙ laid_on k mem mem to from p p (omega arith) (omega arith)
    ∙ rw all (sym (move_is_laid n mem to from e))

-- the code of two numbers
module _ (x y : ℕ) where
  pub order_low : x < y → 1 ≡ compare_bits x y
  unfolding compare_bits
  order_low h = rw (lt-ltb x y h)

  pub order_high : y < x → 2 ≡ compare_bits x y
  unfolding compare_bits
  order_high h = rw (le-ltb x y (omega arith), lt-ltb y x h)

  pub order_same : y ≤ x → x ≤ y → 0 ≡ compare_bits x y
  unfolding compare_bits
  order_same h l = rw (le-ltb x y h, le-ltb y x l)

  -- or c where they are equal
  code_low : (c : ℕ) → x < y → pick (eqb x y) c (compare_bits x y) ≡ 1
  code_low c h = rw (ne_eqb x y (omega arith)) (sym (order_low h))

  code_high : (c : ℕ) → y < x → pick (eqb x y) c (compare_bits x y) ≡ 2
  code_high c h = rw (ne_eqb x y (omega arith)) (sym (order_high h))

  code_same : (c : ℕ) → y ≤ x → x ≤ y → pick (eqb x y) c (compare_bits x y) ≡ c
  code_same c h l = rw (eq-eqb x y (omega arith))

  code_none : compare_bits x y ≡ pick (eqb x y) 0 (compare_bits x y)
  code_none = go (ltb x y) refl (ltb y x) refl
    where
      go : (p : Bool) → ltb x y ≡ p → (q : Bool) → ltb y x ≡ q → compare_bits x y ≡ pick (eqb x y) 0 (compare_bits x y)
      go true f q g = let l = ltb-true x y f in sym (order_low l) ∙ sym (code_low 0 l)
      go false f true g = let l = ltb-true y x g in sym (order_high l) ∙ sym (code_high 0 l)
      go false f false g =
          let k = ltb-false x y f in
          let l = ltb-false y x g in
          sym (order_same k l) ∙ sym (code_same 0 k l)

-- one more digit on each number
by_digit : (v w x y : ℕ) → x < 256 → y < 256 → (c : ℕ)
    → pick (eqb (v * 256 + x) (w * 256 + y)) c (compare_bits (v * 256 + x) (w * 256 + y))
    ≡ pick (eqb v w) (pick (eqb x y) c (compare_bits x y)) (compare_bits v w)
by_digit v w x y hx hy c = go (ltb v w) refl (ltb w v) refl (ltb x y) refl (ltb y x) refl
  where
    m : ℕ
    m = v * 256 + x

    n : ℕ
    n = w * 256 + y

    d : ℕ
    d = pick (eqb x y) c (compare_bits x y)

    go : (p : Bool) → ltb v w ≡ p → (q : Bool) → ltb w v ≡ q → (r : Bool) → ltb x y ≡ r → (t : Bool) → ltb y x ≡ t
        → pick (eqb m n) c (compare_bits m n) ≡ pick (eqb v w) d (compare_bits v w)
    go true f q g r i t j = let l = ltb-true v w f in code_low m n c (omega arith) ∙ sym (code_low v w d l)
    go false f true g r i t j = let l = ltb-true w v g in code_high m n c (omega arith) ∙ sym (code_high v w d l)
    go false f false g true i t j =
        let e = ltb-false v w f in
        let l = ltb-false w v g in
        let k = ltb-true x y i in
        code_low m n c (omega arith) ∙ sym (code_same v w d e l ∙ code_low x y c k)
    go false f false g false i true j =
        let e = ltb-false v w f in
        let l = ltb-false w v g in
        let k = ltb-true y x j in
        code_high m n c (omega arith) ∙ sym (code_same v w d e l ∙ code_high x y c k)
    go false f false g false i false j =
        let e = ltb-false v w f in
        let l = ltb-false w v g in
        let k = ltb-false x y i in
        let o = ltb-false y x j in
        code_same m n c (omega arith) (omega arith) ∙ sym (code_same v w d e l ∙ code_same x y c k o)

-- the code of two numbers of n bytes is that of the bytes
flat_order : (n : ℕ) (mem : List ℕ) (a b v w : ℕ) → ((i : ℕ) → get_or mem i 0 < 256)
    → compare_bits (flat mem a n v) (flat mem b n w) ≡ pick (eqb v w) (flat_compare mem a b n) (compare_bits v w)
unfolding flat flat_compare
flat_order zero mem a b v w k = code_none v w
flat_order (suc n) mem a b v w k =
    flat_order n mem (a + 1) (b + 1) (v * 256 + get_or mem a 0) (w * 256 + get_or mem b 0) k
    ∙ by_digit v w (get_or mem a 0) (get_or mem b 0) (k a) (k b) (flat_compare mem (a + 1) (b + 1) n)

word_order : (mem : List ℕ) (a b : ℕ) → ((i : ℕ) → get_or mem i 0 < 256)
    → compare_bits (flat mem a 4 0) (flat mem b 4 0) ≡ flat_compare mem a b 4
word_order mem a b k = flat_order 4 mem a b 0 0 k

byte_order : (mem : List ℕ) (a b : ℕ) → compare_bits (get_or mem a 0) (get_or mem b 0) ≡ flat_compare mem a b 1
unfolding flat_compare
byte_order mem a b = code_none (get_or mem a 0) (get_or mem b 0)

-- stretches that begin unlike compare as they begin
pub unlike_on : (s : ℕ) (mem : List ℕ) (a b n : ℕ) → flat_compare mem a b s ≢ 0 → s ≤ n → flat_compare mem a b s ≡ flat_compare mem a b n
unfolding flat_compare
unlike_on zero mem a b n e h = absurd (e refl)
unlike_on (suc s) mem a b zero e h = absurd (omega arith)
unlike_on (suc s) mem a b (suc n) e h =
    go (eqb (get_or mem a 0) (get_or mem b 0)) refl (λ k. unlike_on s mem (a + 1) (b + 1) n k (omega arith)) e
  where
    go : (q : Bool) → eqb (get_or mem a 0) (get_or mem b 0) ≡ q
        → (flat_compare mem (a + 1) (b + 1) s ≢ 0 → flat_compare mem (a + 1) (b + 1) s ≡ flat_compare mem (a + 1) (b + 1) n)
        → pick q (flat_compare mem (a + 1) (b + 1) s) (compare_bits (get_or mem a 0) (get_or mem b 0)) ≢ 0
        → pick q (flat_compare mem (a + 1) (b + 1) s) (compare_bits (get_or mem a 0) (get_or mem b 0))
        ≡ pick q (flat_compare mem (a + 1) (b + 1) n) (compare_bits (get_or mem a 0) (get_or mem b 0))
    go true f rest k = rest k
    go false f rest k = refl

-- where s bytes are alike, a stretch that begins in them or just behind them tells the rest
pub alike_then : (s : ℕ) (mem : List ℕ) (a b k q : ℕ) → flat_compare mem a b s ≡ 0 → k ≤ s
    → flat_compare mem (a + k) (b + k) q ≡ flat_compare mem a b (k + q)
alike_then s mem a b k q e h =
    let j : k + q - k ≡ q = omega arith in
    rw j at (sym (flat_compare_on k mem a b (k + q) (alike_fewer k mem a b s e h) (omega arith)))

-- the code of the first bytes that differ, at i
module _ (mem : List ℕ) (a b i : ℕ) (e : flat_compare mem a b i ≡ 0) where
  unlike_at : (n : ℕ) → i < n → get_or mem (a + i) 0 ≢ get_or mem (b + i) 0
      → compare_bits (get_or mem (a + i) 0) (get_or mem (b + i) 0) ≡ flat_compare mem a b n
  unlike_at n h d =
      byte_order mem (a + i) (b + i)
      ∙ unlike_on 1 mem (a + i) (b + i) (n - i) (λ z. d (alike_first mem (a + i) (b + i) 1 z (omega arith))) (omega arith)
      ∙ sym (flat_compare_on i mem a b n e (omega arith))

-- one to three bytes
module _ (mem : List ℕ) (a b n : ℕ) (p : 0 < n) (h : n ≤ 3) where
  pub ones_first_lem : get_or mem a 0 ≢ get_or mem b 0 → compare_bits (get_or mem a 0) (get_or mem b 0) ≡ flat_compare mem a b n
  ones_first_lem d = byte_order mem a b ∙ unlike_on 1 mem a b n (λ z. d (alike_first mem a b 1 z (omega arith))) (omega arith)

  module _ (e : get_or mem a 0 ≡ get_or mem b 0) where
    ones_begun : flat_compare mem a b (n / 2) ≡ 0
    ones_begun =
        alike_fewer (n / 2) mem a b 1
        (sym (byte_order mem a b) ∙ sym (order_same (get_or mem a 0) (get_or mem b 0) (omega arith) (omega arith)))
        (omega arith)

    pub ones_middle : get_or mem (a + n / 2) 0 ≢ get_or mem (b + n / 2) 0
        → compare_bits (get_or mem (a + n / 2) 0) (get_or mem (b + n / 2) 0) ≡ flat_compare mem a b n
    ones_middle = unlike_at mem a b (n / 2) ones_begun n (omega arith)

    pub ones_last : get_or mem (a + n / 2) 0 ≡ get_or mem (b + n / 2) 0
        → compare_bits (get_or mem (a + n - 1) 0) (get_or mem (b + n - 1) 0) ≡ flat_compare mem a b n
    ones_last f =
        let i : a + n - 1 ≡ a + (n - 1) = omega arith in
        let j : b + n - 1 ≡ b + (n - 1) = omega arith in
        let l : n - 1 + 1 ≡ n = omega arith in
        rw (i, j)
        (byte_order mem (a + (n - 1)) (b + (n - 1))
        ∙ alike_then (n / 2 + 1) mem a b (n - 1) 1 (alike_more mem a b (n / 2) ones_begun f) (omega arith)
        ∙ ap (flat_compare mem a b) l)

-- two words, k bytes from one to the other
module _ (mem : List ℕ) (a b k : ℕ) (bytes : (i : ℕ) → get_or mem i 0 < 256) (h : k ≤ 4) where
  pub four_first : (x y r : ℕ) → x ≡ flat mem a 4 0 → y ≡ flat mem b 4 0 → x ≢ y → r ≡ compare_bits x y → r ≡ flat_compare mem a b (k + 4)
  four_first x y r ex ey d er =
      let z : compare_bits x y ≡ flat_compare mem a b 4 = rw (ex, ey) (word_order mem a b bytes) in
      er ∙ z ∙ unlike_on 4 mem a b (k + 4) (λ q. d (ex ∙ alike_flat 4 mem a b 0 q ∙ sym ey)) (omega arith)

  pub four_second : (x y v w r : ℕ) → x ≡ flat mem a 4 0 → y ≡ flat mem b 4 0 → x ≡ y → v ≡ flat mem (a + k) 4 0 → w ≡ flat mem (b + k) 4 0
      → r ≡ compare_bits v w → r ≡ flat_compare mem a b (k + 4)
  four_second x y v w r ex ey e ev ew er =
      let z : compare_bits v w ≡ flat_compare mem (a + k) (b + k) 4 = rw (ev, ew) (word_order mem (a + k) (b + k) bytes) in
      er ∙ z ∙ alike_then 4 mem a b k 4 (flat_alike 4 mem a b 0 0 bytes (sym ex ∙ e ∙ ey)).1 h

pub wider : (n : ℕ) → Fits w8 n → Fits w32 n
wider n h = record { fits = omega (arith, h.fits) }
