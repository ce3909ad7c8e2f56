-- How an action can end, once through all actions. Its refusals have demand 1's numbers; what it is done with is a state in range; it looks
-- bytes up for operands only, so a refusal hands back what it would have handed back when the action began.
use Prim.Native.Nat.{ℕ, zero, suc, ◌+◌, ◌*◌, ◌%◌, ◌<◌}
use native.Mathlib.Omega.{arith}
use mathlib.Core.Path.{◌≡◌, refl, ◌∙◌}
use mathlib.Core.Logic.{inl, inr}
use mathlib.Core.Bool.{Bool, true, false, not}
use lib.Dec.{eqb, ltb}
use lib.Bits.{bit_and}
use lib.IntN.{ℤ, pos}
use lib.Signed.{lt_z}
use lib.ListN.{length, length-set}
use Rattle.std.specs.Prelude.{Ok, Err}
use Rattle.words.specs.Pick.{pick, both}
use Rattle.words.specs.declared.Alu.{Alu}
use Rattle.words.specs.declared.Alu.TheVariants.{Load, Test, Complement, Positive, Negative, Add, Subtract, Compare, AddLogical, SubtractLogical, CompareLogical, Bits, LowProduct}
use Rattle.words.specs.declared.Res.{Res}
use Rattle.words.specs.declared.Direction.{Direction}
use Rattle.words.specs.declared.Direction.TheVariants.{Left, Right}
use Rattle.words.specs.Whole.{word_top, double_top, overflows}
use Rattle.words.specs.Codes.{sign_code, compare_signed, compare_bits, zero_code, mask_code}
use Rattle.words.specs.Combine.{combine_of, signed_result, carried}
use Rattle.words.specs.Wide.{Paired, pair_of}
use Rattle.words.specs.SignedShifts.{leftward, rightward, shifted_of}
use Rattle.pages.specs.declared.Access.{Access}
use Rattle.pages.specs.declared.Access.TheVariants as access
use Rattle.pages.specs.declared.Cause.{Cause}
use Rattle.pages.specs.declared.Cause.TheVariants.{Addressing, PagingQueue, PagingError}
use Rattle.pages.specs.Tests.{Verdict, fine, bad, number_of}
use Rattle.pages.specs.Word.{next}
use Rattle.code.specs.declared.Operand.{Operand}
use Rattle.code.specs.declared.Operand.TheVariants.{WordWith, HalfWith, ByteInserted}
use Rattle.code.specs.declared.Branch.{Branch}
use Rattle.code.specs.declared.Branch.TheVariants.{OnCondition, AndLink, OnCount}
use Rattle.code.specs.declared.RrFields.{RrFields}
use Rattle.code.specs.declared.RrAction.{RrAction}
use Rattle.code.specs.declared.RrAction.TheVariants.{Registers, RegisterBranch, PairAndRegister}
use Rattle.code.specs.declared.RxFields.{RxFields}
use Rattle.code.specs.declared.RxAction.{RxAction}
use Rattle.code.specs.declared.RxAction.TheVariants.{Taking, Storing, LoadAddress, AddressBranch, PairAndWord}
use Rattle.code.specs.declared.RsFields.{RsFields}
use Rattle.code.specs.declared.RsAction.{RsAction}
use Rattle.code.specs.declared.RsAction.TheVariants.{LoadMultiple, StoreMultiple, ShiftLeft, ShiftRight, BranchHigh, BranchLowEqual, ShiftSigned, ShiftDouble}
use Rattle.code.specs.declared.SiFields.{SiFields}
use Rattle.code.specs.declared.SiAction.{SiAction}
use Rattle.code.specs.declared.SiAction.TheVariants.{CompareByte, TestMask, BitsByte, MoveByte}
use Rattle.code.specs.declared.SsFields.{SsFields}
use Rattle.code.specs.declared.SsAction.{SsAction}
use Rattle.code.specs.declared.SsAction.TheVariants.{MoveField, CompareField}
use Rattle.machine.specs.Prog.{Prog, done, fail, look, get, put, Ops, Answer, finished, refused, keeps, after, interp}
use Rattle.machine.specs.Fields.{looks, gets, puts, moves, compares, bytes_of, loading, storing}
use Rattle.machine.specs.Cpu.{Cpu, reg, with_reg, with_code, with_pc, with_res, ahead, onward, address, target}
use Rattle.machine.specs.Pairs.{pair, with_pair, into_pair}
use Rattle.machine.specs.Branches.{going, chosen, link, less_one, branch}
use Rattle.machine.specs.Rr.{rr}
use Rattle.machine.specs.Rx.{taken, rx, width_of, rx_address}
use Rattle.machine.specs.Rs.{rs, fills, spills, next_reg, next_word, how_many, rs_address, is_high, index_sum, shifted_word, shifted_pair}
use Rattle.machine.specs.Si.{si}
use Rattle.machine.specs.Ss.{ss, first_address, second_address}
use Rattle.machine.proofs.Operands.{ForOperand, keeps_none}
use Rattle.demand.specs.DemandOne.{Refusal}

-- a state in range, as number 6 asks for it
pub record Sound (c : Cpu) : Type 0 where
  pub regs : length c.regs ≡ 16
  pub pc : c.pc < 16777216
  pub code : c.code < 4
  pub mask : c.mask < 16

pub caused : (c : Cause) → Refusal (number_of c)
caused Addressing = inl (omega arith, omega arith)
caused PagingQueue = inl (omega arith, omega arith)
caused PagingError = inl (omega arith, omega arith)

pub two : Refusal 2
two = inl (omega arith, omega arith)

pub five : Refusal 5
five = inl (omega arith, omega arith)

eight : Refusal 8
eight = inr refl

-- every way out of a program that fetches nothing: refused by itself with such a number, or done with such a result
unfoldable pub Ends : {R : Type 0} → (R → Type 0) → Prog R → Type 0
Ends D (done r) = D r
Ends D (fail n a) = Refusal n
Ends D (look acc a k) = ForOperand acc × Ends D k
Ends D (get a k) = (v : ℕ) → Ends D (k v)
Ends D (put a v k) = Ends D k

module _ {R : Type 0} (D : R → Type 0) where
  looks_ends : (acc : Access) → ForOperand acc → (a n : ℕ) (k : Prog R) → Ends D k → Ends D (looks acc a n k)
  unfolding Ends looks
  looks_ends acc f a zero k h = h
  looks_ends acc f a (suc n) k h = (f, looks_ends acc f (next a) n k h)

  gets_ends : (a n v : ℕ) (k : ℕ → Prog R) → ((w : ℕ) → Ends D (k w)) → Ends D (gets a n v k)
  unfolding Ends gets
  gets_ends a zero v k h = h v
  gets_ends a (suc n) v k h = λ b. gets_ends (next a) n (v * 256 + b) k h

  puts_ends : (a n v : ℕ) (k : Prog R) → Ends D k → Ends D (puts a n v k)
  unfolding Ends puts
  puts_ends a zero v k h = h
  puts_ends a (suc n) v k h = puts_ends (next a) n v k h

  moves_ends : (a b n : ℕ) (k : Prog R) → Ends D k → Ends D (moves a b n k)
  unfolding Ends moves
  moves_ends a b zero k h = h
  moves_ends a b (suc n) k h = λ v. moves_ends (next a) (next b) n k h

  pick_ends : (t : Bool) (p q : Prog R) → Ends D p → Ends D q → Ends D (pick t p q)
  pick_ends true p q h i = h
  pick_ends false p q h i = i

  -- a field off its boundary, an odd register where a pair is needed
  tested_ends : (t : Bool) (a : ℕ) (k : Prog R) → Ends D k → Ends D (pick t k (fail 2 a))
  unfolding Ends
  tested_ends t a k h = pick_ends t k (fail 2 a) h two

  loading_ends : (n a : ℕ) (k : ℕ → Prog R) → ((v : ℕ) → Ends D (k v)) → Ends D (loading n a k)
  unfolding loading
  loading_ends n a k h = tested_ends (eqb (a % n) 0) a _ (looks_ends access.Load tt a n _ (gets_ends a n 0 k h))

  storing_ends : (n a v : ℕ) (k : Prog R) → Ends D k → Ends D (storing n a v k)
  unfolding storing
  storing_ends n a v k h = tested_ends (eqb (a % n) 0) a _ (looks_ends access.Store tt a n _ (puts_ends a n v k h))

-- codes are below 4
pick_small : (n : ℕ) (b : Bool) (x y : ℕ) → x < n → y < n → pick b x y < n
pick_small n true x y h i = h
pick_small n false x y h i = i

sign_small : (z : ℤ) → sign_code z < 4
unfolding sign_code
sign_small z = pick_small 4 (lt_z z (pos 0)) 1 _ (omega arith) (pick_small 4 (lt_z (pos 0) z) 2 0 (omega arith) (omega arith))

signed_small : (y z : ℤ) → compare_signed y z < 4
unfolding compare_signed
signed_small y z = pick_small 4 (lt_z y z) 1 _ (omega arith) (pick_small 4 (lt_z z y) 2 0 (omega arith) (omega arith))

bits_small : (x y : ℕ) → compare_bits x y < 4
unfolding compare_bits
bits_small x y = pick_small 4 (ltb x y) 1 _ (omega arith) (pick_small 4 (ltb y x) 2 0 (omega arith) (omega arith))

zero_small : (n : ℕ) → zero_code n < 2
unfolding zero_code
zero_small n = pick_small 2 (eqb n 0) 0 1 (omega arith) (omega arith)

zero_four : (n : ℕ) → zero_code n < 4
zero_four n = omega (arith, zero_small n)

mask_small : (b m : ℕ) → mask_code b m < 4
unfolding mask_code
mask_small b m =
    pick_small 4 (eqb (bit_and b m) 0) 0 _ (omega arith) (pick_small 4 (eqb (bit_and b m) m) 3 1 (omega arith) (omega arith))

three_small : (over : Bool) (z : ℤ) → pick over 3 (sign_code z) < 4
three_small over z = pick_small 4 over 3 (sign_code z) (omega arith) (sign_small z)

result_small : (z : ℤ) → (signed_result z).code < 4
unfolding signed_result
result_small z = three_small (overflows word_top z) z

left_small : (top a : ℕ) (z : ℤ) → (leftward top a z).code < 4
unfolding leftward
left_small top a z = three_small (overflows top z) z

shifted_small : (d : Direction) (top a n : ℕ) → (shifted_of d top a n).code < 4
unfolding shifted_of rightward
shifted_small Left top a n = left_small top a _
shifted_small Right top a n = sign_small _

carried_small : (s : ℕ) → (carried s).code < 4
unfolding carried
carried_small s =
    omega (arith, pick_small 3 (ltb s 4294967296) 0 2 (omega arith) (omega arith), zero_small (s % 4294967296))

combine_small : (op : Alu) (a b k : ℕ) → k < 4 → (combine_of op a b k).code < 4
unfolding combine_of
combine_small Load a b k h = h
combine_small Test a b k h = result_small _
combine_small Complement a b k h = result_small _
combine_small Positive a b k h = result_small _
combine_small Negative a b k h = result_small _
combine_small Add a b k h = result_small _
combine_small Subtract a b k h = result_small _
combine_small Compare a b k h = signed_small _ _
combine_small AddLogical a b k h = carried_small _
combine_small SubtractLogical a b k h = carried_small _
combine_small CompareLogical a b k h = bits_small a b
combine_small (Bits l) a b k h = zero_four _
combine_small LowProduct a b k h = h

taken_small : (op : Operand) (a v k : ℕ) → k < 4 → (taken op a v k).code < 4
unfolding taken
taken_small (WordWith op) a v k h = combine_small op a v k h
taken_small (HalfWith op) a v k h = combine_small op a _ k h
taken_small ByteInserted a v k h = h

-- a state in range stays so
pub reg_sound : (c : Cpu) (i v : ℕ) → Sound c → Sound (with_reg c i v)
reg_sound c i v h =
    record { regs = length-set c.regs i v ∙ h.regs; pc = h.pc; code = h.code; mask = h.mask }

pair_sound : (c : Cpu) (r v : ℕ) → Sound c → Sound (with_pair c r v)
pair_sound c r v h = reg_sound (with_reg c r _) (r + 1) _ (reg_sound c r _ h)

code_sound : (c : Cpu) (k : ℕ) → k < 4 → Sound c → Sound (with_code c k)
code_sound c k l h = record { regs = h.regs; pc = h.pc; code = l; mask = h.mask }

pc_sound : (c : Cpu) (a : ℕ) → a < 16777216 → Sound c → Sound (with_pc c a)
pc_sound c a l h = record { regs = h.regs; pc = l; code = h.code; mask = h.mask }

ahead_sound : (c : Cpu) (n : ℕ) → Sound c → Sound (onward c n)
unfolding ahead
ahead_sound c n h = pc_sound c (ahead c n) (omega arith) h

res_sound : (c : Cpu) (i : ℕ) (r : Res ℕ) → r.code < 4 → Sound c → Sound (with_res c i r)
res_sound c i r l h = code_sound (with_reg c i r.value) r.code l (reg_sound c i r.value h)

going_sound : (b : Bool) (a : ℕ) (c : Cpu) → a < 16777216 → Sound c → Sound (going b a c)
going_sound true a c l h = pc_sound c a l h
going_sound false a c l h = h

address_small : (c : Cpu) (x b d : ℕ) → address c x b d < 16777216
unfolding address
address_small c x b d = omega arith

branch_sound : (x : Branch) (len r a : ℕ) (may : Bool) (c : Cpu) → a < 16777216 → Sound c → Sound (branch x len r a may c)
unfolding branch
branch_sound OnCondition len r a may c l h =
    going_sound (both may (chosen r c.code)) a (onward c len) l (ahead_sound c len h)
branch_sound AndLink len r a may c l h =
    going_sound may a (with_reg (onward c len) r (link c len)) l (reg_sound (onward c len) r (link c len) (ahead_sound c len h))
branch_sound OnCount len r a may c l h =
    going_sound (both may (ltb 0 (less_one (reg c r)))) a (with_reg (onward c len) r (less_one (reg c r))) l
    (reg_sound (onward c len) r (less_one (reg c r)) (ahead_sound c len h))

-- the code that a compare of fields hands on is below 4
compares_ends : (D : Cpu → Type 0) (a b n : ℕ) (k : ℕ → Prog Cpu) → ((w : ℕ) → w < 4 → Ends D (k w)) → Ends D (compares a b n k)
unfolding Ends compares
compares_ends D a b zero k h = h 0 (omega arith)
compares_ends D a b (suc n) k h =
    λ x y. pick_ends D (eqb x y) _ _ (compares_ends D (next a) (next b) n k h) (h (compare_bits x y) (bits_small x y))

fills_ends : (n r a : ℕ) (c : Cpu) → Sound c → Ends Sound (fills n r a c)
unfolding Ends fills
fills_ends zero r a c h = h
fills_ends (suc n) r a c h =
    gets_ends Sound a 4 0 (λ v. fills n (next_reg r) (next_word a) (with_reg c r v))
    (λ v. fills_ends n (next_reg r) (next_word a) (with_reg c r v) (reg_sound c r v h))

spills_ends : (n r a : ℕ) (c : Cpu) (k : Prog Cpu) → Ends Sound k → Ends Sound (spills n r a c k)
unfolding spills
spills_ends zero r a c k h = h
spills_ends (suc n) r a c k h =
    puts_ends Sound a 4 (reg c r) _ (spills_ends n (next_reg r) (next_word a) c k h)

module _ (c : Cpu) (h : Sound c) where
  into_ends : (x : Paired) (len r : ℕ) → Ends Sound (into_pair x len r c)
  unfolding Ends into_pair
  into_ends (Ok v) len r = pair_sound (onward c len) r v (ahead_sound c len h)
  into_ends (Err x) len r = eight

  pub rr_ends : (x : RrAction) (f : RrFields) → Ends Sound (rr x f c)
  unfolding Ends rr
  rr_ends (Registers op) f =
      res_sound (onward c 2) f.r1 (combine_of op (reg c f.r1) (reg c f.r2) c.code)
      (combine_small op (reg c f.r1) (reg c f.r2) c.code h.code) (ahead_sound c 2 h)
  rr_ends (RegisterBranch b) f = branch_sound b 2 f.r1 (target c f.r2) (ltb 0 f.r2) c (omega arith) h
  rr_ends (PairAndRegister op) f =
      tested_ends Sound (eqb (f.r1 % 2) 0) c.pc _ (into_ends (pair_of op (pair c f.r1) (reg c f.r2)) 2 f.r1)

  pub rx_ends : (x : RxAction) (f : RxFields) → Ends Sound (rx x f c)
  unfolding Ends rx
  rx_ends (Taking op) f =
      loading_ends Sound (bytes_of (width_of op)) (rx_address f c) _
      (λ v. res_sound (onward c 4) f.r1 (taken op (reg c f.r1) v c.code)
      (taken_small op (reg c f.r1) v c.code h.code) (ahead_sound c 4 h))
  rx_ends (Storing w) f =
      storing_ends Sound (bytes_of w) (rx_address f c) (reg c f.r1) (done (onward c 4)) (ahead_sound c 4 h)
  rx_ends LoadAddress f = reg_sound (onward c 4) f.r1 (rx_address f c) (ahead_sound c 4 h)
  rx_ends (AddressBranch b) f =
      branch_sound b 4 f.r1 (rx_address f c) true c (address_small c f.x2 f.b2 f.d2) h
  rx_ends (PairAndWord op) f =
      tested_ends Sound (eqb (f.r1 % 2) 0) c.pc _
      (loading_ends Sound 4 (rx_address f c) _ (λ v. into_ends (pair_of op (pair c f.r1) v) 4 f.r1))

  index_sound : (b : Bool) (f : RsFields) → Sound (going b (rs_address f c) (with_reg (onward c 4) f.r1 (index_sum f c)))
  index_sound b f =
      going_sound b (rs_address f c) (with_reg (onward c 4) f.r1 (index_sum f c)) (address_small c 0 f.b2 f.d2)
      (reg_sound (onward c 4) f.r1 (index_sum f c) (ahead_sound c 4 h))

  pub rs_ends : (x : RsAction) (f : RsFields) → Ends Sound (rs x f c)
  unfolding Ends rs shifted_word shifted_pair
  rs_ends LoadMultiple f =
      tested_ends Sound (eqb (rs_address f c % 4) 0) (rs_address f c) _
      (looks_ends Sound access.Load tt (rs_address f c) (how_many f * 4) _
      (fills_ends (how_many f) f.r1 (rs_address f c) (onward c 4) (ahead_sound c 4 h)))
  rs_ends StoreMultiple f =
      tested_ends Sound (eqb (rs_address f c % 4) 0) (rs_address f c) _
      (looks_ends Sound access.Store tt (rs_address f c) (how_many f * 4) _
      (spills_ends (how_many f) f.r1 (rs_address f c) c (done (onward c 4)) (ahead_sound c 4 h)))
  rs_ends ShiftLeft f = reg_sound (onward c 4) f.r1 _ (ahead_sound c 4 h)
  rs_ends ShiftRight f = reg_sound (onward c 4) f.r1 _ (ahead_sound c 4 h)
  rs_ends BranchHigh f = index_sound (is_high f c) f
  rs_ends BranchLowEqual f = index_sound (not (is_high f c)) f
  rs_ends (ShiftSigned d) f =
      code_sound (with_reg (onward c 4) f.r1 (shifted_word d f c).value) (shifted_word d f c).code
      (shifted_small d word_top (reg c f.r1) (rs_address f c)) (reg_sound (onward c 4) f.r1 _ (ahead_sound c 4 h))
  rs_ends (ShiftDouble d) f =
      tested_ends Sound (eqb (f.r1 % 2) 0) c.pc _
      (code_sound (with_pair (onward c 4) f.r1 (shifted_pair d f c).value) (shifted_pair d f c).code
      (shifted_small d double_top (pair c f.r1) (rs_address f c)) (pair_sound (onward c 4) f.r1 _ (ahead_sound c 4 h)))

  pub si_ends : (x : SiAction) (f : SiFields) → Ends Sound (si x f c)
  unfolding Ends si
  si_ends CompareByte f = (tt, λ v. code_sound (onward c 4) _ (bits_small v f.i2) (ahead_sound c 4 h))
  si_ends TestMask f = (tt, λ v. code_sound (onward c 4) _ (mask_small v f.i2) (ahead_sound c 4 h))
  si_ends (BitsByte l) f = (tt, λ v. code_sound (onward c 4) _ (zero_four _) (ahead_sound c 4 h))
  si_ends MoveByte f = (tt, ahead_sound c 4 h)

  pub ss_ends : (x : SsAction) (f : SsFields) → Ends Sound (ss x f c)
  unfolding Ends ss
  ss_ends MoveField f =
      looks_ends Sound access.Store tt (first_address f c) (suc f.l) _
      (looks_ends Sound access.Load tt (second_address f c) (suc f.l) _
      (moves_ends Sound (first_address f c) (second_address f c) (suc f.l) (done (onward c 6)) (ahead_sound c 6 h)))
  ss_ends CompareField f =
      looks_ends Sound access.Load tt (first_address f c) (suc f.l) _
      (looks_ends Sound access.Load tt (second_address f c) (suc f.l) _
      (compares_ends Sound (first_address f c) (second_address f c) (suc f.l) _
      (λ k l. code_sound (onward c 6) k l (ahead_sound c 6 h))))

-- what a program came to: done with such a result, or refused with such a number and this store
abbrev pub Came : {R S : Type 0} → (R → Type 0) → S → Answer R S → Type 0
Came D kept (finished r t) = D r
Came D kept (refused n a t) = Refusal n × (t ≡ kept)

module _ {R S : Type 0} (o : Ops S) (D : R → Type 0) (kept : S) where
  by_verdict : (v : Verdict) (go : S → Answer R S) (t : S) (a : ℕ) → Came D kept (go t) → Came D kept (after v go t a kept)
  by_verdict fine go t a h = h
  by_verdict (bad c) go t a h = (caused c, refl)

  pub came : (p : Prog R) (s : S) → Ends D p → Came D kept (interp o p kept s)
  unfolding Ends interp
  came (done r) s h = h
  came (fail n a) s h = (h, refl)
  came (look acc a k) s h =
      by_verdict (o.looked s acc a) (λ t. interp o k (keeps o acc a kept) t) (o.noted s acc a) a
      (rw (keeps_none o acc h.0 a kept) (came k (o.noted s acc a) h.1))
  came (get a k) s h = came (k (o.read s a)) s (h (o.read s a))
  came (put a v k) s h = came k (o.wrote s a v) h
