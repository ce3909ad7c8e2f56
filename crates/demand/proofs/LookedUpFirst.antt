-- Every byte that a step gets or puts was looked up before, in the same step, and the look-up found it: for storing, where it is put.
-- A store's reads and writes are total (pages/specs/Framed), so this is what shows that no look-up was forgotten.
use Prim.Native.Nat.{ℕ, zero, suc, ◌+◌, ◌*◌, ◌%◌}
use native.Mathlib.Omega.{arith}
use mathlib.Core.Path.{◌≡◌, refl, sym, subst}
use mathlib.Core.Bool.{Bool, true, false}
use lib.Dec.{eqb}
use Rattle.std.specs.Prelude.{Ok, Err, Option, Some, None}
use Rattle.words.specs.Pick.{pick}
use Rattle.words.specs.Codes.{compare_bits}
use Rattle.words.specs.Wide.{Paired, pair_of}
use Rattle.pages.specs.declared.Access.{Access}
use Rattle.pages.specs.declared.Access.TheVariants.{Fetch, Load, Store}
use Rattle.pages.specs.Word.{next}
use Rattle.code.specs.declared.Action.{Action}
use Rattle.code.specs.declared.Action.TheVariants.{Rr, Rx, Rs, Si, Ss}
use Rattle.code.specs.declared.RrFields.{RrFields}
use Rattle.code.specs.declared.RrAction.{RrAction}
use Rattle.code.specs.declared.RrAction.TheVariants.{Registers, RegisterBranch, PairAndRegister}
use Rattle.code.specs.declared.RxFields.{RxFields}
use Rattle.code.specs.declared.RxAction.{RxAction}
use Rattle.code.specs.declared.RxAction.TheVariants.{Taking, Storing, LoadAddress, AddressBranch, PairAndWord}
use Rattle.code.specs.declared.RsFields.{RsFields}
use Rattle.code.specs.declared.RsAction.{RsAction}
use Rattle.code.specs.declared.RsAction.TheVariants.{LoadMultiple, StoreMultiple, ShiftLeft, ShiftRight, BranchHigh, BranchLowEqual, ShiftSigned, ShiftDouble}
use Rattle.code.specs.declared.SiFields.{SiFields}
use Rattle.code.specs.declared.SiAction.{SiAction}
use Rattle.code.specs.declared.SiAction.TheVariants.{CompareByte, TestMask, BitsByte, MoveByte}
use Rattle.code.specs.declared.SsFields.{SsFields}
use Rattle.code.specs.declared.SsAction.{SsAction}
use Rattle.code.specs.declared.SsAction.TheVariants.{MoveField, CompareField}
use Rattle.code.specs.Table.{action_of}
use Rattle.code.specs.Formats.{op_of, rr_of, rx_of, rs_of, si_of, ss_of}
use Rattle.machine.specs.Prog.{Prog, done, fail, look, get, put}
use Rattle.machine.specs.Fields.{looks, gets, puts, moves, compares, bytes_of, loading, storing, halfword}
use Rattle.machine.specs.Cpu.{Cpu, reg, with_reg, onward, ahead}
use Rattle.machine.specs.Pairs.{pair, into_pair}
use Rattle.machine.specs.Rr.{rr}
use Rattle.machine.specs.Rx.{rx, width_of, rx_address}
use Rattle.machine.specs.Rs.{rs, fills, spills, next_reg, next_word, how_many, rs_address}
use Rattle.machine.specs.Si.{si}
use Rattle.machine.specs.Ss.{ss, first_address, second_address}
use Rattle.machine.specs.Step.{act, known, step}

-- some addresses
abbrev pub Addresses : Type 1
Addresses = ℕ → Type 0

abbrev pub nowhere : Addresses
nowhere b = ⊥

-- these and a
pub data Also (a : ℕ) (L : Addresses) : ℕ → Type 0 where
  this : Also a L a
  that : {b : ℕ} → L b → Also a L b

-- the addresses looked up for storing, after one more look
abbrev pub for_store : Access → ℕ → Addresses → Addresses
for_store Fetch a S = S
for_store Load a S = S
for_store Store a S = Also a S

-- L: the addresses looked up so far, for whatever access; S: those looked up for storing. A get's byte is one of L, a put's one of S
unfoldable pub Behind : {R : Type 0} → Addresses → Addresses → Prog R → Type 0
Behind L S (done r) = Unit {0}
Behind L S (fail n a) = Unit {0}
Behind L S (look acc a k) = Behind (Also a L) (for_store acc a S) k
Behind L S (get a k) = L a × ((v : ℕ) → Behind L S (k v))
Behind L S (put a v k) = S a × Behind L S k

-- the n bytes from a on are all among L
unfoldable pub All : Addresses → ℕ → ℕ → Type 0
All L a zero = Unit {0}
All L a (suc n) = L a × All L (next a) n

all_more : (L L' : Addresses) → ((b : ℕ) → L b → L' b) → (a n : ℕ) → All L a n → All L' a n
unfolding All
all_more L L' w a zero h = tt
all_more L L' w a (suc n) h = (w a h.0, all_more L L' w (next a) n h.1)

still_stored : (acc : Access) (a : ℕ) (S : Addresses) (b : ℕ) → S b → for_store acc a S b
still_stored Fetch a S b h = h
still_stored Load a S b h = h
still_stored Store a S b h = that h

-- what stands behind the looks of a field has all its bytes, and what was looked up before
module _ {R : Type 0} where
  looks_behind : (acc : Access) (a n : ℕ) (k : Prog R) (L S : Addresses)
      → ((L' S' : Addresses) → ((b : ℕ) → L b → L' b) → ((b : ℕ) → S b → S' b)
      → All L' a n → (acc ≡ Store → All S' a n) → Behind L' S' k)
      → Behind L S (looks acc a n k)
  unfolding Behind All looks
  looks_behind acc a zero k L S go = go L S (λ b h. h) (λ b h. h) tt (λ e. tt)
  looks_behind acc a (suc n) k L S go =
      looks_behind acc (next a) n k (Also a L) (for_store acc a S)
      (λ L' S' l s h t.
      go L' S' (λ b x. l b (that x)) (λ b x. s b (still_stored acc a S b x)) (l a this, h)
      (λ e. (s a (subst (λ (x : Access). for_store x a S a) (sym e) this), t e)))

  module _ (L S : Addresses) where
    gets_behind : (a n v : ℕ) (k : ℕ → Prog R) → All L a n → ((w : ℕ) → Behind L S (k w)) → Behind L S (gets a n v k)
    unfolding Behind All gets
    gets_behind a zero v k h b = b v
    gets_behind a (suc n) v k h b = (h.0, λ x. gets_behind (next a) n (v * 256 + x) k h.1 b)

    puts_behind : (a n v : ℕ) (k : Prog R) → All S a n → Behind L S k → Behind L S (puts a n v k)
    unfolding Behind All puts
    puts_behind a zero v k h b = b
    puts_behind a (suc n) v k h b = (h.0, puts_behind (next a) n v k h.1 b)

    moves_behind : (a b n : ℕ) (k : Prog R) → All S a n → All L b n → Behind L S k → Behind L S (moves a b n k)
    unfolding Behind All moves
    moves_behind a b zero k s l h = h
    moves_behind a b (suc n) k s l h = (l.0, λ v. (s.0, moves_behind (next a) (next b) n k s.1 l.1 h))

    pick_behind : (t : Bool) (p q : Prog R) → Behind L S p → Behind L S q → Behind L S (pick t p q)
    pick_behind true p q x y = x
    pick_behind false p q x y = y

    compares_behind : (a b n : ℕ) (k : ℕ → Prog R) → All L a n → All L b n → ((w : ℕ) → Behind L S (k w)) → Behind L S (compares a b n k)
    unfolding Behind All compares
    compares_behind a b zero k l m h = h 0
    compares_behind a b (suc n) k l m h = (
      l.0,
      λ x. (
        m.0,
        λ y. pick_behind (eqb x y) (compares (next a) (next b) n k) (k (compare_bits x y))
            (compares_behind (next a) (next b) n k l.1 m.1 h) (h (compare_bits x y)),
      ),
    )

    -- a field off its boundary, an odd register where a pair is needed
    tested_behind : (t : Bool) (a : ℕ) (k : Prog R) → Behind L S k → Behind L S (pick t k (fail 2 a))
    unfolding Behind
    tested_behind t a k h = pick_behind t k (fail 2 a) h tt

  module _ (L S : Addresses) where
    loading_behind : (n a : ℕ) (k : ℕ → Prog R) → ((L' S' : Addresses) (v : ℕ) → Behind L' S' (k v)) → Behind L S (loading n a k)
    unfolding loading
    loading_behind n a k h =
        tested_behind L S (eqb (a % n) 0) a (looks Load a n (gets a n 0 k))
        (looks_behind Load a n (gets a n 0 k) L S (λ L' S' l s x t. gets_behind L' S' a n 0 k x (h L' S')))

    storing_behind : (n a v : ℕ) (k : Prog R) → ((L' S' : Addresses) → Behind L' S' k) → Behind L S (storing n a v k)
    unfolding storing
    storing_behind n a v k h =
        tested_behind L S (eqb (a % n) 0) a (looks Store a n (puts a n v k))
        (looks_behind Store a n (puts a n v k) L S (λ L' S' l s x t. puts_behind L' S' a n v k (t refl) (h L' S')))

    halfword_behind : (a : ℕ) (k : ℕ → Prog R) → ((L' S' : Addresses) (v : ℕ) → Behind L' S' (k v)) → Behind L S (halfword a k)
    unfolding halfword
    halfword_behind a k h =
        looks_behind Fetch a 2 (gets a 2 0 k) L S (λ L' S' l s x t. gets_behind L' S' a 2 0 k x (h L' S'))

-- a word is four bytes, also where addresses wrap
four : (a : ℕ) → next (next (next (next a))) ≡ next_word a
unfolding next
four a = omega arith

word_of : (L : Addresses) (a n : ℕ) → All L a (suc n * 4) → All L a 4 × All L (next_word a) (n * 4)
unfolding All
word_of L a n h = split (subst (λ (m : ℕ). All L a m) more h)
  where
    more : suc n * 4 ≡ suc (suc (suc (suc (n * 4))))
    more = omega arith

    split : All L a (suc (suc (suc (suc (n * 4))))) → All L a 4 × All L (next_word a) (n * 4)
    split x = (
      (x.0, (x.1.0, (x.1.1.0, (x.1.1.1.0, tt)))),
      subst (λ (b : ℕ). All L b (n * 4)) (four a) x.1.1.1.1,
    )

module _ (L S : Addresses) where
  fills_behind : (n r a : ℕ) (c : Cpu) → All L a (n * 4) → Behind L S (fills n r a c)
  unfolding Behind fills
  fills_behind zero r a c h = tt
  fills_behind (suc n) r a c h =
      gets_behind L S a 4 0 (λ v. fills n (next_reg r) (next_word a) (with_reg c r v)) (word_of L a n h).0
      (λ v. fills_behind n (next_reg r) (next_word a) (with_reg c r v) (word_of L a n h).1)

  spills_behind : (n r a : ℕ) (c : Cpu) (k : Prog Cpu) → All S a (n * 4) → Behind L S k → Behind L S (spills n r a c k)
  unfolding spills
  spills_behind zero r a c k h b = b
  spills_behind (suc n) r a c k h b =
      puts_behind L S a 4 (reg c r) (spills n (next_reg r) (next_word a) c k) (word_of S a n h).0
      (spills_behind n (next_reg r) (next_word a) c k (word_of S a n h).1 b)

  into_behind : (x : Paired) (len r : ℕ) (c : Cpu) → Behind L S (into_pair x len r c)
  unfolding Behind into_pair
  into_behind (Ok v) len r c = tt
  into_behind (Err x) len r c = tt

module _ (L S : Addresses) where
  rr_behind : (x : RrAction) (f : RrFields) (c : Cpu) → Behind L S (rr x f c)
  unfolding Behind rr
  rr_behind (Registers op) f c = tt
  rr_behind (RegisterBranch b) f c = tt
  rr_behind (PairAndRegister op) f c =
      tested_behind L S (eqb (f.r1 % 2) 0) c.pc _ (into_behind L S (pair_of op (pair c f.r1) (reg c f.r2)) 2 f.r1 c)

  rx_behind : (x : RxAction) (f : RxFields) (c : Cpu) → Behind L S (rx x f c)
  unfolding Behind rx
  rx_behind (Taking op) f c = loading_behind L S (bytes_of (width_of op)) (rx_address f c) _ (λ L' S' v. tt)
  rx_behind (Storing w) f c =
      storing_behind L S (bytes_of w) (rx_address f c) (reg c f.r1) (done (onward c 4)) (λ L' S'. tt)
  rx_behind LoadAddress f c = tt
  rx_behind (AddressBranch b) f c = tt
  rx_behind (PairAndWord op) f c =
      tested_behind L S (eqb (f.r1 % 2) 0) c.pc _
      (loading_behind L S 4 (rx_address f c) _ (λ L' S' v. into_behind L' S' (pair_of op (pair c f.r1) v) 4 f.r1 c))

  rs_behind : (x : RsAction) (f : RsFields) (c : Cpu) → Behind L S (rs x f c)
  unfolding Behind rs
  rs_behind LoadMultiple f c =
      tested_behind L S (eqb (rs_address f c % 4) 0) (rs_address f c) _
      (looks_behind Load (rs_address f c) (how_many f * 4) _ L S
      (λ L' S' l s h t. fills_behind L' S' (how_many f) f.r1 (rs_address f c) (onward c 4) h))
  rs_behind StoreMultiple f c =
      tested_behind L S (eqb (rs_address f c % 4) 0) (rs_address f c) _
      (looks_behind Store (rs_address f c) (how_many f * 4) _ L S
      (λ L' S' l s h t. spills_behind L' S' (how_many f) f.r1 (rs_address f c) c (done (onward c 4)) (t refl) tt))
  rs_behind ShiftLeft f c = tt
  rs_behind ShiftRight f c = tt
  rs_behind BranchHigh f c = tt
  rs_behind BranchLowEqual f c = tt
  rs_behind (ShiftSigned d) f c = tt
  rs_behind (ShiftDouble d) f c = tested_behind L S (eqb (f.r1 % 2) 0) c.pc _ tt

  si_behind : (x : SiAction) (f : SiFields) (c : Cpu) → Behind L S (si x f c)
  unfolding Behind si
  si_behind CompareByte f c = (this, λ v. tt)
  si_behind TestMask f c = (this, λ v. tt)
  si_behind (BitsByte l) f c = (this, λ v. (this, tt))
  si_behind MoveByte f c = (this, tt)

  ss_behind : (x : SsAction) (f : SsFields) (c : Cpu) → Behind L S (ss x f c)
  unfolding Behind ss
  ss_behind MoveField f c =
      looks_behind Store (first_address f c) (suc f.l) _ L S
      (λ L' S' l s h t.
      looks_behind Load (second_address f c) (suc f.l) _ L' S'
      (λ L'' S'' l' s' h' t'.
      moves_behind L'' S'' (first_address f c) (second_address f c) (suc f.l) (done (onward c 6))
      (all_more S' S'' s' (first_address f c) (suc f.l) (t refl)) h' tt))
  ss_behind CompareField f c =
      looks_behind Load (first_address f c) (suc f.l) _ L S
      (λ L' S' l s h t.
      looks_behind Load (second_address f c) (suc f.l) _ L' S'
      (λ L'' S'' l' s' h' t'.
      compares_behind L'' S'' (first_address f c) (second_address f c) (suc f.l) _
      (all_more L' L'' l' (first_address f c) (suc f.l) h) h' (λ w. tt)))

module _ (L S : Addresses) where
  act_behind : (x : Action) (h1 : ℕ) (c : Cpu) → Behind L S (act x h1 c)
  unfolding act
  act_behind (Rr x) h1 c = rr_behind L S x (rr_of h1) c
  act_behind (Rx x) h1 c = halfword_behind L S (ahead c 2) _ (λ L' S' h2. rx_behind L' S' x (rx_of h1 h2) c)
  act_behind (Rs x) h1 c = halfword_behind L S (ahead c 2) _ (λ L' S' h2. rs_behind L' S' x (rs_of h1 h2) c)
  act_behind (Si x) h1 c = halfword_behind L S (ahead c 2) _ (λ L' S' h2. si_behind L' S' x (si_of h1 h2) c)
  act_behind (Ss x) h1 c =
      halfword_behind L S (ahead c 2) _
      (λ L' S' h2. halfword_behind L' S' (ahead c 4) _ (λ L'' S'' h3. ss_behind L'' S'' x (ss_of h1 h2 h3) c))

  known_behind : (x : Option Action) (h1 : ℕ) (c : Cpu) → Behind L S (known x h1 c)
  unfolding Behind
  known_behind (Some x) h1 c = act_behind x h1 c
  known_behind None h1 c = tt

-- at a step's start nothing is looked up
pub step_behind : (c : Cpu) → Behind nowhere nowhere (step c)
unfolding Behind step
step_behind c =
    pick_behind nowhere nowhere (eqb (c.pc % 2) 1) (fail 2 c.pc) _ tt
    (halfword_behind nowhere nowhere c.pc _ (λ L S h1. known_behind L S (action_of (op_of h1)) h1 c))
