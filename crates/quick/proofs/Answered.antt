-- What the pieces of a row promise, from what they have in hand: done, or nothing done.
use Prim.Native.Nat.{ℕ, ◌+◌, ◌%◌, ◌≤◌, ◌<◌}
use native.Mathlib.Omega.{arith}
use mathlib.Core.Path.{◌≡◌, refl, sym, ◌∙◌, ap, subst}
use mathlib.Core.Bool.{Bool, true, false}
use mathlib.Core.List.{List}
use lib.Dec.{eqb}
use Rattle.words.specs.Pick.{pick}
use Rattle.pages.specs.declared.Access.{Access}
use Rattle.pages.specs.declared.Spot.{Spot}
use Rattle.pages.specs.Look.{spot}
use Rattle.pages.proofs.ReachLaws.{reach_inside}
use Rattle.lookup.specs.Marked.{MarkedLook}
use Rattle.machine.specs.Prog.{Prog, done, fail, look, get, put}
use Rattle.words.specs.declared.PairOp.{PairOp}
use Rattle.words.specs.declared.Direction.{Direction}
use Rattle.words.specs.declared.Direction.TheVariants.{Left, Right}
use Rattle.words.specs.Wide.{Paired, pair_of}
use Rattle.code.specs.declared.RsFields.{RsFields}
use Rattle.code.specs.declared.RrAction.TheVariants.{PairAndRegister}
use Rattle.code.specs.declared.RsAction.TheVariants.{ShiftDouble}
use Rattle.code.specs.Formats.{left_of, right_of, rr_of}
use Rattle.machine.specs.Cpu.{Cpu, reg, ahead}
use Rattle.machine.specs.Pairs.{pair, into_pair}
use Rattle.machine.specs.Rr.{rr}
use Rattle.machine.specs.Rs.{rs}
use Rattle.actions.specs.declared.Now.{Now}
use Rattle.std.specs.Prelude.{Option, Some, None, Ok, Err}
use Rattle.actions.specs.declared.Stop.{Stop}
use Rattle.actions.specs.Answered.{Out, cpu_of, AnswersTo}
use Rattle.rs_ss.specs.Logical.{logical_shift}
use Rattle.quick.specs.declared.Here.{Here}
use Rattle.quick.specs.declared.Turn.{Turn}
use Rattle.quick.specs.declared.Turn.TheVariants.{On, Away, Undone}
use Rattle.quick.specs.Places.{counter_at, now_at}
use Rattle.quick.specs.Turns.{now_of, Same, Ended, Gone, FieldLook, Lies, Did}
use Rattle.quick.proofs.Onward.{stands_on, ahead_on}

-- nothing done
pub same_here : (p : Here) → Same p (counter_at p.window p.at) p.code
same_here p = record { counter = refl; still = refl }

module _ (p : Here) (r : Turn) (e : r ≡ Undone (counter_at p.window p.at) p.code) where
  pub did_not : (found : Option Spot) (n len : ℕ) (work : ℕ → List ℕ × ℕ) (before : List ℕ) → Did r p found n len work before before
  unfolding Did
  did_not found n len work before = rw e (same_here p, refl)

  pub ended_not : (prog : Cpu → Prog Cpu) (regs regs' : List ℕ) → regs' ≡ regs → Ended r p prog regs regs'
  unfolding Ended
  ended_not prog regs regs' er = rw e (same_here p, er)

-- a row with one operand, done
pub did_on : (p : Here) (found : Option Spot) (n len : ℕ) (work : ℕ → List ℕ × ℕ) (before after : List ℕ) (k i reach : ℕ)
    → found ≡ Some (spot i reach) → n ≤ reach → after ≡ (work i).0 → k ≡ (work i).1 → Did (On (p.at + len) k) p found n len work before after
unfolding Did
did_on p found n len work before after k i reach e h c d =
    record { i = i; reach = reach; there = e; far = h; on = refl; changed = c; coded = d }

-- what was found can be read and stored there
pub lies_room : (found : Option Spot) (size i k n : ℕ) → Lies found size → found ≡ Some (spot i k) → n ≤ k → i + n ≤ size
lies_room found size i k n l e h = let z : i + k ≤ size = rw e at l in omega (arith, z, h)

-- the counter and the mask that a program ends with
abbrev pc_of : Prog Cpu → ℕ
pc_of (done c) = c.pc
pc_of (fail n a) = 0
pc_of (look acc a k) = 0
pc_of (get a k) = 0
pc_of (put a v k) = 0

abbrev mask_of : Prog Cpu → ℕ
mask_of (done c) = c.mask
mask_of (fail n a) = 0
mask_of (look acc a k) = 0
mask_of (get a k) = 0
mask_of (put a v k) = 0

-- what SLL and SRL end with
pub shift_pc : (to : Direction) (f : RsFields) (c : Cpu) → pc_of (rs (logical_shift to) f c) ≡ ahead c 4
unfolding rs
shift_pc Left f c = refl
shift_pc Right f c = refl

pub shift_mask : (to : Direction) (f : RsFields) (c : Cpu) → mask_of (rs (logical_shift to) f c) ≡ c.mask
unfolding rs
shift_mask Left f c = refl
shift_mask Right f c = refl

-- a program without storage that goes on behind the instruction
module _ (p : Here) (regs regs' : List ℕ) (len : ℕ) (ev : len % 2 ≡ 0) (l : len ≤ 6) (n : Now) where
  pub goes_on_lem : (prog : Cpu → Prog Cpu) → done (cpu_of regs' n) ≡ prog (cpu_of regs (now_of p)) → n.pc ≡ ahead (cpu_of regs (now_of p)) len
      → n.mask ≡ p.mask → Ended (On (p.at + len) n.code) p prog regs regs'
  unfolding Ended
  goes_on_lem prog e ep em = (go ∙ e, stands_on p len ev l)
    where
      counter : counter_at p.window (p.at + len) ≡ n.pc
      counter = sym (ahead_on p regs len l) ∙ sym ep

      go : done (cpu_of regs' (now_at p.window (p.at + len) n.code p.mask)) ≡ done (cpu_of regs' n)
      go =
          λ i. done (record { regs = regs'; pc = counter i; code = n.code; mask = sym em i })

  pub settled : {F : Type 0} (prog : F → Cpu → Prog Cpu) (f g : F) → f ≡ g → (c : Now) → c ≡ now_of p → done (cpu_of regs' n) ≡ prog f (cpu_of regs c)
      → pc_of (prog g (cpu_of regs (now_of p))) ≡ ahead (cpu_of regs (now_of p)) len → mask_of (prog g (cpu_of regs (now_of p))) ≡ p.mask
      → Ended (On (p.at + len) n.code) p (prog g) regs regs'
  settled {F} prog f g ef c ec e ep em =
      let k : done (cpu_of regs' n) ≡ prog g (cpu_of regs (now_of p)) = e ∙ ap (λ (x : F). prog x (cpu_of regs c)) ef ∙ ap (λ (x : Now). prog g (cpu_of regs x)) ec in
      goes_on_lem (prog g) k (ap pc_of k ∙ ep) (ap mask_of k ∙ em)

  -- the same of one whose answer may be a refusal
  into_ends : (q : Paired) (r : ℕ) (c d : Cpu) → done d ≡ into_pair q len r c → (d.pc ≡ ahead c len) × (d.mask ≡ c.mask)
  unfolding into_pair
  into_ends (Ok v) r c d e = (ap pc_of e, ap mask_of e)
  into_ends (Err x) r c d e = absurd (let z : ◌≡◌ {A = ℕ} 0 1 = cc in omega arith)

-- of a program that wants an even register, one that ends has had it
pub even_ends : (b : Bool) (k : Prog Cpu) (x y : ℕ) (d : Cpu) → done d ≡ pick b k (fail x y) → done d ≡ k
even_ends true k x y d e = e
even_ends false k x y d e = absurd (let z : ◌≡◌ {A = ℕ} 0 1 = cc in omega arith)

pub out_done : (o : Out) (n : Now) (regs regs' : List ℕ) (q : Prog Cpu) → AnswersTo o regs regs' q → o ≡ Ok n → done (cpu_of regs' n) ≡ q
unfolding AnswersTo
out_done o n regs regs' q h e = rw e at h

pub out_stopped : (o : Out) (k : Stop) (regs regs' : List ℕ) (q : Prog Cpu) → AnswersTo o regs regs' q → o ≡ Err k → regs' ≡ regs
unfolding AnswersTo
out_stopped o k regs regs' q h e = (rw e at h).1

module _ (p : Here) (regs regs' : List ℕ) (len : ℕ) (ev : len % 2 ≡ 0) (l : len ≤ 6) (o : Out) (n : Now) (eo : o ≡ Ok n) (c : Now) (ec : c ≡ now_of p) where
  -- into a pair
  pub paired_plain : (prog : Cpu → Prog Cpu) (r : ℕ) (q : Paired) → prog (cpu_of regs (now_of p)) ≡ into_pair q len r (cpu_of regs (now_of p))
      → AnswersTo o regs regs' (prog (cpu_of regs c)) → Ended (On (p.at + len) n.code) p prog regs regs'
  paired_plain prog r q ep a =
      let f : done (cpu_of regs' n) ≡ prog (cpu_of regs (now_of p)) = out_done o n regs regs' _ a eo ∙ ap (λ (z : Now). prog (cpu_of regs z)) ec in
      let g = into_ends p regs regs' len ev l n q r (cpu_of regs (now_of p)) (cpu_of regs' n) (f ∙ ep) in
      goes_on_lem p regs regs' len ev l n prog f g.0 g.1

  pub paired_on : (prog : Cpu → Prog Cpu) (b : Bool) (x y r : ℕ) (q : Paired)
      → prog (cpu_of regs (now_of p)) ≡ pick b (into_pair q len r (cpu_of regs (now_of p))) (fail x y)
      → AnswersTo o regs regs' (prog (cpu_of regs c)) → Ended (On (p.at + len) n.code) p prog regs regs'
  paired_on prog b x y r q ep a =
      let f : done (cpu_of regs' n) ≡ prog (cpu_of regs (now_of p)) = out_done o n regs regs' _ a eo ∙ ap (λ (z : Now). prog (cpu_of regs z)) ec in
      let g = into_ends p regs regs' len ev l n q r (cpu_of regs (now_of p)) (cpu_of regs' n) (even_ends b _ x y (cpu_of regs' n) (f ∙ ep)) in
      goes_on_lem p regs regs' len ev l n prog f g.0 g.1

  pub doubled_on : (prog : Cpu → Prog Cpu) (b : Bool) (x y : ℕ) (d : Cpu) → prog (cpu_of regs (now_of p)) ≡ pick b (done d) (fail x y)
      → d.pc ≡ ahead (cpu_of regs (now_of p)) len → d.mask ≡ p.mask
      → AnswersTo o regs regs' (prog (cpu_of regs c)) → Ended (On (p.at + len) n.code) p prog regs regs'
  doubled_on prog b x y d ep e1 e2 a =
      let f : done (cpu_of regs' n) ≡ prog (cpu_of regs (now_of p)) = out_done o n regs regs' _ a eo ∙ ap (λ (z : Now). prog (cpu_of regs z)) ec in
      let g = even_ends b _ x y (cpu_of regs' n) (f ∙ ep) in
      goes_on_lem p regs regs' len ev l n prog f (ap pc_of g ∙ e1) (ap mask_of g ∙ e2)

  -- MR DR, SLDA SRDA
  pub rr_paired : (op : PairOp) (h1 : ℕ) → AnswersTo o regs regs' (rr (PairAndRegister op) (rr_of h1) (cpu_of regs c)) → len ≡ 2
      → Ended (On (p.at + len) n.code) p (rr (PairAndRegister op) (rr_of h1)) regs regs'
  unfolding rr
  rr_paired op h1 a e =
      paired_on (rr (PairAndRegister op) (rr_of h1)) (eqb (left_of h1 % 2) 0) 2 (now_of p).pc (left_of h1)
      (pair_of op (pair (cpu_of regs (now_of p)) (left_of h1)) (reg (cpu_of regs (now_of p)) (right_of h1)))
      (ap (λ (x : ℕ). pick (eqb (left_of h1 % 2) 0) (into_pair (pair_of op (pair (cpu_of regs (now_of p)) (left_of h1)) (reg (cpu_of regs (now_of p)) (right_of h1))) x (left_of h1) (cpu_of regs (now_of p))) (fail 2 (now_of p).pc)) (sym e)) a

  pub rs_doubled : (d : Direction) (f g : RsFields) → f ≡ g → AnswersTo o regs regs' (rs (ShiftDouble d) f (cpu_of regs c)) → len ≡ 4
      → Ended (On (p.at + len) n.code) p (rs (ShiftDouble d) g) regs regs'
  unfolding rs
  rs_doubled d f g ef a e =
      doubled_on (rs (ShiftDouble d) g) (eqb (g.r1 % 2) 0) 2 (now_of p).pc _ refl (ap (ahead (cpu_of regs (now_of p))) (sym e)) refl
      (subst (λ (x : RsFields). AnswersTo o regs regs' (rs (ShiftDouble d) x (cpu_of regs c))) ef a)

-- where a branch goes
module _ (p : Here) (regs' : List ℕ) (d : Cpu) (er : d.regs ≡ regs') (to : ℕ) (ep : d.pc ≡ to) (ek : d.code ≡ p.code) (em : d.mask ≡ p.mask) where
  same_cpu : (q k : ℕ) → q ≡ to → k ≡ p.code → done (cpu_of regs' (record { pc = q; code = k; mask = p.mask })) ≡ done d
  same_cpu q k eq e =
      λ i. done (record { regs = sym er i; pc = (eq ∙ sym ep) i; code = (e ∙ sym ek) i; mask = sym em i })

  pub gone_ends : (prog : Cpu → Prog Cpu) (regs : List ℕ) (t : Turn) → prog (cpu_of regs (now_of p)) ≡ done d → Gone t p.window to p.code
      → Ended t p prog regs regs'
  unfolding Ended Gone
  gone_ends prog regs (On a k) e (ec, (eco, st)) = (same_cpu (counter_at p.window a) k ec eco ∙ sym e, st)
  gone_ends prog regs (Away q k) e (ec, eco) = same_cpu q k ec eco ∙ sym e
  gone_ends prog regs (Undone q k) e g = absurd g

-- a look-up for an operand
pub field_off : (map : List ℕ) (size : ℕ) (acc : Access) (n a : ℕ) → FieldLook None map size acc n a
unfolding FieldLook
field_off map size acc n a = record {}

pub field_on : (found : Option Spot) (map : List ℕ) (size : ℕ) (acc : Access) (n a : ℕ) → a % n ≡ 0 → MarkedLook found map size acc a → FieldLook found map size acc n a
unfolding FieldLook
field_on (Some s) map size acc n a e m = (e, m)
field_on None map size acc n a e m = m

pub field_lies : (found : Option Spot) (map : List ℕ) (size : ℕ) (acc : Access) (n a : ℕ) → FieldLook found map size acc n a → Lies found size
unfolding FieldLook
field_lies (Some s) map size acc n a (e, m) = reach_inside map size acc a s.at s.reach m.there
field_lies None map size acc n a m = m

pub lies_byte : (found : Option Spot) (size i k : ℕ) → Lies found size → found ≡ Some (spot i k) → 1 ≤ k → i < size
lies_byte found size i k l e h = let z : i + k ≤ size = rw e at l in omega (arith, z, h)

pub field_at : (found : Option Spot) (map : List ℕ) (size : ℕ) (acc : Access) (n a b : ℕ) → a ≡ b → FieldLook found map size acc n a → FieldLook found map size acc n b
field_at found map size acc n a b e h = subst (λ (x : ℕ). FieldLook found map size acc n x) e h
