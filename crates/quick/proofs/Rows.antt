-- The arms of the table, a law for each kind of row: with the row's code and the table's action for it, what the pieces promise is the
-- instruction's meaning.
use Prim.Native.Nat.{ℕ, suc, ◌+◌, ◌*◌, ◌%◌}
use native.Mathlib.Omega.{arith}
use mathlib.Core.Path.{◌≡◌, refl, sym, ◌∙◌, ap, subst}
use mathlib.Core.Bool.{Bool, true}
use mathlib.Core.List.{List}
use lib.Dec.{ltb}
use lib.ListN.{length, get_or}
use Rattle.std.specs.Prelude.{Option, Some, Ok}
use Rattle.words.specs.declared.Logic.{Logic}
use Rattle.words.specs.declared.PairOp.{PairOp}
use Rattle.pages.specs.declared.Access.TheVariants.{Load, Store}
use Rattle.pages.specs.declared.Spot.{Spot}
use Rattle.pages.specs.Look.{At}
use Rattle.code.specs.declared.Action.{Action}
use Rattle.code.specs.declared.Action.TheVariants.{Rr, Rx, Rs, Si, Ss}
use Rattle.code.specs.declared.Branch.{Branch}
use Rattle.code.specs.declared.Operand.{Operand}
use Rattle.code.specs.declared.Width.{Width}
use Rattle.code.specs.declared.RrAction.TheVariants.{RegisterBranch}
use Rattle.code.specs.declared.RxAction.TheVariants.{Taking, Storing, AddressBranch, PairAndWord}
use Rattle.code.specs.declared.RsAction.TheVariants.{LoadMultiple, StoreMultiple}
use Rattle.code.specs.declared.SiAction.TheVariants.{CompareByte, TestMask, BitsByte, MoveByte}
use Rattle.code.specs.declared.SsAction.TheVariants.{MoveField, CompareField}
use Rattle.code.specs.Table.{action_of}
use Rattle.code.specs.Formats.{op_of, left_of, right_of, byte_of, rr_of, rx_of, rs_of, si_of, ss_of}
use Rattle.machine.specs.Prog.{Prog, done}
use Rattle.machine.specs.Fields.{bytes_of}
use Rattle.machine.specs.Cpu.{Cpu, reg, ahead}
use Rattle.machine.specs.Branches.{branch}
use Rattle.machine.specs.Rr.{rr}
use Rattle.machine.specs.Rx.{rx, width_of}
use Rattle.machine.specs.Rs.{rs}
use Rattle.machine.specs.Si.{si}
use Rattle.machine.specs.Ss.{ss}
use Rattle.fields.specs.Direct.{flat}
use Rattle.actions.specs.declared.Now.{Now}
use Rattle.actions.specs.Answered.{cpu_of}
use Rattle.actions.specs.Whole.{whole, act_whole}
use Rattle.rs_ss.proofs.Ways.{move_ended, compare_ended}
use Rattle.quick.specs.declared.Here.{Here}
use Rattle.quick.specs.declared.Turn.{Turn}
use Rattle.quick.specs.declared.Turn.TheVariants.{On, Away, Undone}
use Rattle.quick.specs.Places.{counter_at, Stands}
use Rattle.quick.specs.Turns.{now_of, address_at, Turned, Ended, FieldLook, Did, PairDid, Moved, Compared}
use Rattle.quick.specs.Work.{loads, stores, compares_byte, tests_byte, changes_byte, puts_byte, many_of, fills, spills}
use Rattle.quick.proofs.Onward.{stands_on, ahead_on}
use Rattle.quick.proofs.RowKinds.{free_row, as_whole_lem, found_is, into_registers, into_memory, load_comes, store_comes, compare_comes, test_comes, bits_comes, put_comes, fill_comes, spill_comes, pair_comes}

-- nothing done
pub turned_not : (t : Turn) (p : Here) (prog : Cpu → Prog Cpu) (regs mem map : List ℕ) → t ≡ Undone (counter_at p.window p.at) p.code
    → Turned t p prog regs mem map regs mem map
unfolding Turned
turned_not t p prog regs mem map e = rw e (record { counter = refl; still = refl }, (refl, (refl, refl)))

ended_same : (t : Turn) (p : Here) (prog prog' : Cpu → Prog Cpu) (regs regs' : List ℕ) → prog (cpu_of regs (now_of p)) ≡ prog' (cpu_of regs (now_of p))
    → Ended t p prog regs regs' → Ended t p prog' regs regs'
unfolding Ended
ended_same (On a k) p prog prog' regs regs' e (h, s) = (h ∙ e, s)
ended_same (Away q k) p prog prog' regs regs' e h = h ∙ e
ended_same (Undone q k) p prog prog' regs regs' e h = h

module _ (t : Turn) (p : Here) (regs mem map : List ℕ) (code : ℕ) (eo : op_of p.text ≡ code) where
  abbrev h2 : ℕ
  h2 = flat mem (p.at + 2) 2 0

  abbrev h3 : ℕ
  h3 = flat mem (p.at + 4) 2 0

  -- the action's program is the instruction's
  acted : (x : Action) → action_of code ≡ Some x → (regs' mem' map' : List ℕ) → Turned t p (act_whole (Some x) p.text h2 h3) regs mem map regs' mem' map'
      → Turned t p (whole p.text h2 h3) regs mem map regs' mem' map'
  acted x ea regs' mem' map' h =
      as_whole_lem t p h2 h3 code (act_whole (Some x) p.text h2 h3) regs mem map regs' mem' map' eo (λ c. ap (λ (y : Option Action). act_whole y p.text h2 h3 c) ea) h

  pub free_arm : (x : Action) → action_of code ≡ Some x → (regs' : List ℕ) → Ended t p (act_whole (Some x) p.text h2 h3) regs regs'
      → Turned t p (whole p.text h2 h3) regs mem map regs' mem map
  free_arm x ea regs' h = acted x ea regs' mem map (free_row t p _ regs mem map regs' h)

  pub rr_branch_arm : (b : Branch) → action_of code ≡ Some (Rr (RegisterBranch b)) → (to : ℕ) (may : Bool) (regs' : List ℕ) → to ≡ get_or regs (right_of p.text) 0 % 16777216
      → may ≡ ltb 0 (right_of p.text) → Ended t p (λ c. done (branch b 2 (left_of p.text) to may c)) regs regs'
      → Turned t p (whole p.text h2 h3) regs mem map regs' mem map
  unfolding rr reg
  rr_branch_arm b ea to may regs' et em h =
      free_arm (Rr (RegisterBranch b)) ea regs' (ended_same t p _ (rr (RegisterBranch b) (rr_of p.text)) regs regs' (rw (et, em)) h)

  pub rx_branch_arm : (b : Branch) → action_of code ≡ Some (Rx (AddressBranch b)) → (to : ℕ) (regs' : List ℕ) → ((c : Now) → to ≡ address_at regs c mem p.text (p.at + 2))
      → Ended t p (λ c. done (branch b 4 (left_of p.text) to true c)) regs regs' → Turned t p (whole p.text h2 h3) regs mem map regs' mem map
  unfolding rx
  rx_branch_arm b ea to regs' et h =
      free_arm (Rx (AddressBranch b)) ea regs' (ended_same t p _ (rx (AddressBranch b) (rx_of p.text h2)) regs regs' (rw (et (now_of p))) h)

  -- an operand in storage
  module _ (found : Option Spot) where
    pub load_arm : (op : Operand) → action_of code ≡ Some (Rx (Taking op)) → ((c : Now) → FieldLook found map (length mem) Load (bytes_of (width_of op)) (address_at regs c mem p.text (p.at + 2)))
        → (regs' : List ℕ) → Did t p found (bytes_of (width_of op)) 4 (loads op p.text p.code mem regs) regs regs' → Turned t p (whole p.text h2 h3) regs mem map regs' mem map
    load_arm op ea fl regs' d =
        acted (Rx (Taking op)) ea regs' mem map
        (into_registers t p found (bytes_of (width_of op)) 4 refl (omega arith) _ (rx (Taking op) (rx_of p.text h2)) regs mem map
        (λ i k e far. let f = found_is found map (length mem) Load (bytes_of (width_of op)) _ i k (fl (now_of p)) e in load_comes p regs mem map op h2 _ i k refl f.0 f.1 far) regs' d)

    pub store_arm : (w : Width) → action_of code ≡ Some (Rx (Storing w)) → ((c : Now) → FieldLook found map (length mem) Store (bytes_of w) (address_at regs c mem p.text (p.at + 2)))
        → (mem' : List ℕ) → Did t p found (bytes_of w) 4 (stores w p.text p.code regs mem) mem mem' → Turned t p (whole p.text h2 h3) regs mem map regs mem' map
    store_arm w ea fl mem' d =
        acted (Rx (Storing w)) ea regs mem' map
        (into_memory t p found (bytes_of w) 4 refl (omega arith) _ (rx (Storing w) (rx_of p.text h2)) regs mem map
        (λ i k e far. let f = found_is found map (length mem) Store (bytes_of w) _ i k (fl (now_of p)) e in store_comes p regs mem map w h2 _ i k refl f.0 f.1 far) mem' d)

    pub compare_arm : action_of code ≡ Some (Si CompareByte) → ((c : Now) → FieldLook found map (length mem) Load 1 (address_at regs c mem 0 (p.at + 2)))
        → Did t p found 1 4 (compares_byte p.text mem) mem mem → Turned t p (whole p.text h2 h3) regs mem map regs mem map
    compare_arm ea fl d =
        acted (Si CompareByte) ea regs mem map
        (into_memory t p found 1 4 refl (omega arith) _ (si CompareByte (si_of p.text h2)) regs mem map
        (λ i k e far. let f = found_is found map (length mem) Load 1 _ i k (fl (now_of p)) e in compare_comes p regs mem map h2 _ i k refl f.1) mem d)

    pub test_arm : action_of code ≡ Some (Si TestMask) → ((c : Now) → FieldLook found map (length mem) Load 1 (address_at regs c mem 0 (p.at + 2)))
        → Did t p found 1 4 (tests_byte p.text mem) mem mem → Turned t p (whole p.text h2 h3) regs mem map regs mem map
    test_arm ea fl d =
        acted (Si TestMask) ea regs mem map
        (into_memory t p found 1 4 refl (omega arith) _ (si TestMask (si_of p.text h2)) regs mem map
        (λ i k e far. let f = found_is found map (length mem) Load 1 _ i k (fl (now_of p)) e in test_comes p regs mem map h2 _ i k refl f.1) mem d)

    pub bits_arm : (l : Logic) → action_of code ≡ Some (Si (BitsByte l)) → ((c : Now) → FieldLook found map (length mem) Store 1 (address_at regs c mem 0 (p.at + 2)))
        → (mem' : List ℕ) → Did t p found 1 4 (changes_byte l p.text mem) mem mem' → Turned t p (whole p.text h2 h3) regs mem map regs mem' map
    bits_arm l ea fl mem' d =
        acted (Si (BitsByte l)) ea regs mem' map
        (into_memory t p found 1 4 refl (omega arith) _ (si (BitsByte l) (si_of p.text h2)) regs mem map
        (λ i k e far. let f = found_is found map (length mem) Store 1 _ i k (fl (now_of p)) e in bits_comes p regs mem map l h2 _ i k refl f.1) mem' d)

    pub put_arm : action_of code ≡ Some (Si MoveByte) → ((c : Now) → FieldLook found map (length mem) Store 1 (address_at regs c mem 0 (p.at + 2)))
        → (mem' : List ℕ) → Did t p found 1 4 (puts_byte p.text p.code mem) mem mem' → Turned t p (whole p.text h2 h3) regs mem map regs mem' map
    put_arm ea fl mem' d =
        acted (Si MoveByte) ea regs mem' map
        (into_memory t p found 1 4 refl (omega arith) _ (si MoveByte (si_of p.text h2)) regs mem map
        (λ i k e far. let f = found_is found map (length mem) Store 1 _ i k (fl (now_of p)) e in put_comes p regs mem map h2 _ i k refl f.1) mem' d)

    pub fill_arm : action_of code ≡ Some (Rs LoadMultiple) → ((c : Now) → FieldLook found map (length mem) Load 4 (address_at regs c mem 0 (p.at + 2)))
        → (regs' : List ℕ) → Did t p found (many_of p.text * 4) 4 (fills p.text p.code mem regs) regs regs' → Turned t p (whole p.text h2 h3) regs mem map regs' mem map
    fill_arm ea fl regs' d =
        acted (Rs LoadMultiple) ea regs' mem map
        (into_registers t p found (many_of p.text * 4) 4 refl (omega arith) _ (rs LoadMultiple (rs_of p.text h2)) regs mem map
        (λ i k e far. let f = found_is found map (length mem) Load 4 _ i k (fl (now_of p)) e in fill_comes p regs mem map h2 _ i k refl f.0 f.1 far) regs' d)

    pub spill_arm : action_of code ≡ Some (Rs StoreMultiple) → ((c : Now) → FieldLook found map (length mem) Store 4 (address_at regs c mem 0 (p.at + 2)))
        → (mem' : List ℕ) → Did t p found (many_of p.text * 4) 4 (spills p.text p.code regs mem) mem mem' → Turned t p (whole p.text h2 h3) regs mem map regs mem' map
    spill_arm ea fl mem' d =
        acted (Rs StoreMultiple) ea regs mem' map
        (into_memory t p found (many_of p.text * 4) 4 refl (omega arith) _ (rs StoreMultiple (rs_of p.text h2)) regs mem map
        (λ i k e far. let f = found_is found map (length mem) Store 4 _ i k (fl (now_of p)) e in spill_comes p regs mem map h2 _ i k refl f.0 f.1 far) mem' d)

-- M D, MVC, CLC: by what came of them
module _ (p : Here) (regs mem map : List ℕ) where
  pair_turned : (t : Turn) (found : Option Spot) (op : PairOp) → ((c : Now) → FieldLook found map (length mem) Load 4 (address_at regs c mem p.text (p.at + 2))) → (regs' : List ℕ)
      → PairDid t p found op p.text mem regs regs' → Turned t p (rx (PairAndWord op) (rx_of p.text (flat mem (p.at + 2) 2 0))) regs mem map regs' mem map
  unfolding PairDid Turned
  pair_turned (On a k) found op fl regs' d =
      let f = found_is found map (length mem) Load 4 _ d.i d.reach (fl (now_of p)) d.there in (
        pair_comes p regs mem map op (flat mem (p.at + 2) 2 0) _ d.i d.reach a k regs' refl f.0 f.1 d.far d.even d.comes,
        subst (Stands p.window) (sym d.on) (stands_on p 4 refl (omega arith)),
      )
  pair_turned (Away q k) found op fl regs' d = absurd d
  pair_turned (Undone q k) found op fl regs' (s, e) = (s, (e, (refl, refl)))

  pub pair_arm : (t : Turn) (code : ℕ) → op_of p.text ≡ code → (found : Option Spot) (op : PairOp) → action_of code ≡ Some (Rx (PairAndWord op))
      → ((c : Now) → FieldLook found map (length mem) Load 4 (address_at regs c mem p.text (p.at + 2))) → (regs' : List ℕ) → PairDid t p found op p.text mem regs regs'
      → Turned t p (whole p.text (flat mem (p.at + 2) 2 0) (flat mem (p.at + 4) 2 0)) regs mem map regs' mem map
  pair_arm t code eo found op ea fl regs' d = acted t p regs mem map code eo (Rx (PairAndWord op)) ea regs' mem map (pair_turned t found op fl regs' d)

  next_six : counter_at p.window (p.at + 6) ≡ ahead (cpu_of regs (now_of p)) 6
  next_six = sym (ahead_on p regs 6 (omega arith))

  move_turned : (t : Turn) (mem' map' : List ℕ)
      → Moved t p (address_at regs (now_of p) mem 0 (p.at + 2)) (address_at regs (now_of p) mem 0 (p.at + 4)) (suc (byte_of p.text)) mem map mem' map'
      → Turned t p (ss MoveField (ss_of p.text (flat mem (p.at + 2) 2 0) (flat mem (p.at + 4) 2 0))) regs mem map regs mem' map'
  unfolding Moved Turned ss
  move_turned (On a k) mem' map' d = (
    rw (d.on, d.still, next_six)
        (move_ended regs mem map (now_of p) _ _ (suc (byte_of p.text)) (omega arith) (At d.i d.reach) (sym d.there) mem' map' d.held _ refl),
    subst (Stands p.window) (sym d.on) (stands_on p 6 refl (omega arith)),
  )
  move_turned (Away q k) mem' map' d = absurd d
  move_turned (Undone q k) mem' map' (s, (e, f)) = (s, (refl, (e, f)))

  pub move_arm : (t : Turn) (code : ℕ) → op_of p.text ≡ code → action_of code ≡ Some (Ss MoveField) → (mem' map' : List ℕ)
      → Moved t p (address_at regs (now_of p) mem 0 (p.at + 2)) (address_at regs (now_of p) mem 0 (p.at + 4)) (suc (byte_of p.text)) mem map mem' map'
      → Turned t p (whole p.text (flat mem (p.at + 2) 2 0) (flat mem (p.at + 4) 2 0)) regs mem map regs mem' map'
  move_arm t code eo ea mem' map' d = acted t p regs mem map code eo (Ss MoveField) ea regs mem' map' (move_turned t mem' map' d)

  compares_turned : (t : Turn) (map' : List ℕ)
      → Compared t p (address_at regs (now_of p) mem 0 (p.at + 2)) (address_at regs (now_of p) mem 0 (p.at + 4)) (suc (byte_of p.text)) mem map map'
      → Turned t p (ss CompareField (ss_of p.text (flat mem (p.at + 2) 2 0) (flat mem (p.at + 4) 2 0))) regs mem map regs mem map'
  unfolding Compared Turned ss
  compares_turned (On a k) map' d = (
    rw (d.on, next_six)
        (compare_ended regs mem map (now_of p) _ _ (suc (byte_of p.text)) (omega arith) (At d.i d.reach) (sym d.there) (Ok k) (ap Ok d.order) map' d.marks _ refl),
    subst (Stands p.window) (sym d.on) (stands_on p 6 refl (omega arith)),
  )
  compares_turned (Away q k) map' d = absurd d
  compares_turned (Undone q k) map' (s, e) = (s, (refl, (refl, e)))

  pub compares_arm : (t : Turn) (code : ℕ) → op_of p.text ≡ code → action_of code ≡ Some (Ss CompareField) → (map' : List ℕ)
      → Compared t p (address_at regs (now_of p) mem 0 (p.at + 2)) (address_at regs (now_of p) mem 0 (p.at + 4)) (suc (byte_of p.text)) mem map map'
      → Turned t p (whole p.text (flat mem (p.at + 2) 2 0) (flat mem (p.at + 4) 2 0)) regs mem map regs mem map'
  compares_arm t code eo ea map' d = acted t p regs mem map code eo (Ss CompareField) ea regs mem map' (compares_turned t map' d)
