-- A row for each kind of row: what its pieces promise is the definition's step.
use Prim.Native.Nat.{ℕ, ◌+◌, ◌*◌, ◌%◌, ◌<◌, ◌≤◌}
use native.Mathlib.Omega.{arith}
use mathlib.Core.Path.{◌≡◌, refl, sym, ◌∙◌, ap, subst}
use mathlib.Core.List.{List}
use lib.ListN.{length, get_or}
use Rattle.std.specs.Prelude.{Option, Some}
use Rattle.words.specs.declared.Logic.{Logic}
use Rattle.words.specs.declared.PairOp.{PairOp}
use Rattle.words.specs.Wide.{pair_of}
use Rattle.pages.specs.declared.Access.{Access}
use Rattle.pages.specs.declared.Access.TheVariants.{Load, Store}
use Rattle.pages.specs.declared.Spot.{Spot}
use Rattle.pages.specs.Look.{spot, At}
use Rattle.pages.specs.Framed.{framed_of}
use Rattle.lookup.specs.Marked.{Found}
use Rattle.code.specs.declared.Operand.{Operand}
use Rattle.code.specs.declared.Width.{Width}
use Rattle.code.specs.declared.Width.TheVariants.{Word}
use Rattle.code.specs.declared.RxAction.TheVariants.{Taking, Storing, PairAndWord}
use Rattle.code.specs.declared.RsAction.TheVariants.{LoadMultiple, StoreMultiple}
use Rattle.code.specs.declared.SiAction.TheVariants.{CompareByte, TestMask, BitsByte, MoveByte}
use Rattle.code.specs.Table.{action_of}
use Rattle.code.specs.Formats.{op_of, left_of, rx_of, rs_of, si_of}
use Rattle.machine.specs.Prog.{Prog, done, interp}
use Rattle.machine.specs.Run.{one}
use Rattle.machine.specs.Store.{framed}
use Rattle.machine.specs.Fields.{bytes_of, loading, storing}
use Rattle.machine.specs.Cpu.{Cpu, reg, ahead}
use Rattle.machine.specs.Rx.{rx, rx_address, width_of, taken}
use Rattle.machine.specs.Pairs.{pair, into_pair}
use Rattle.machine.specs.Rs.{rs, rs_address}
use Rattle.machine.specs.Si.{si, si_address}
use Rattle.fields.specs.Direct.{look_one, note_field}
use Rattle.fields.proofs.Found.{aligned_fits, width_some, found_read, found_write, byte_read, byte_write}
use Rattle.fields.proofs.Reached.{reach_one}
use Rattle.actions.specs.Answered.{cpu_of}
use Rattle.actions.specs.Whole.{whole, act_whole}
use Rattle.actions.proofs.Executed.{no_storage, operand_go, loaded, stored, byte_yes, taken_done}
use Rattle.actions.proofs.OnPairs.{even_pair}
use Rattle.rs_ss.proofs.BothReached.{field_noted}
use Rattle.rs_ss.proofs.Multiples.{fills_done, spills_done}
use Rattle.rs_ss.proofs.MultiplesReached.{words_filled, words_spilled}
use Rattle.quick.specs.declared.Here.{Here}
use Rattle.quick.specs.declared.Turn.{Turn}
use Rattle.quick.specs.declared.Turn.TheVariants.{On, Away, Undone}
use Rattle.quick.specs.Places.{counter_at, now_at, Stands}
use Rattle.quick.specs.Turns.{now_of, Comes, Turned, Ended, FieldLook, Did, pairs}
use Rattle.quick.specs.Work.{taken_at, loads, stores, compares_byte, tests_byte, changes_byte, puts_byte, many_of, fills, spills}
use Rattle.quick.proofs.Onward.{stands_on, ahead_on}

-- no storage: memory and map stay
pub free_row : (t : Turn) (p : Here) (prog : Cpu → Prog Cpu) (regs mem map regs' : List ℕ) → Ended t p prog regs regs'
    → Turned t p prog regs mem map regs' mem map
unfolding Turned Ended
free_row (On a k) p prog regs mem map regs' (e, s) = (no_storage regs regs' (now_of p) _ _ (framed_of mem map) e, s)
free_row (Away q k) p prog regs mem map regs' e = no_storage regs regs' (now_of p) _ _ (framed_of mem map) e
free_row (Undone q k) p prog regs mem map regs' (s, e) = (s, (e, (refl, refl)))

-- the program of the row is the instruction's
pub as_whole_lem : (t : Turn) (p : Here) (h2 h3 op : ℕ) (prog : Cpu → Prog Cpu) (regs mem map regs' mem' map' : List ℕ) → op_of p.text ≡ op
    → ((c : Cpu) → act_whole (action_of op) p.text h2 h3 c ≡ prog c) → Turned t p prog regs mem map regs' mem' map'
    → Turned t p (whole p.text h2 h3) regs mem map regs' mem' map'
unfolding Turned whole
as_whole_lem (On a k) p h2 h3 op prog regs mem map regs' mem' map' e f (h, s) =
    (h ∙ ap (λ (q : Prog Cpu). one (cpu_of regs (now_of p)) (interp framed q (framed_of mem map) (framed_of mem map))) (sym (ap (λ (x : ℕ). act_whole (action_of x) p.text h2 h3 (cpu_of regs (now_of p))) e ∙ f (cpu_of regs (now_of p)))), s)
as_whole_lem (Away q k) p h2 h3 op prog regs mem map regs' mem' map' e f h =
    h ∙ ap (λ (q : Prog Cpu). one (cpu_of regs (now_of p)) (interp framed q (framed_of mem map) (framed_of mem map))) (sym (ap (λ (x : ℕ). act_whole (action_of x) p.text h2 h3 (cpu_of regs (now_of p))) e ∙ f (cpu_of regs (now_of p))))
as_whole_lem (Undone q k) p h2 h3 op prog regs mem map regs' mem' map' e f h = h

-- what was found, by the look-up of the operand
pub found_is : (found : Option Spot) (map : List ℕ) (size : ℕ) (acc : Access) (n a i k : ℕ) → FieldLook found map size acc n a → found ≡ Some (spot i k)
    → (a % n ≡ 0) × Found map size acc a i k
unfolding FieldLook
found_is found map size acc n a i k h e = rw e at h

-- a row whose work changes registers, and one whose work changes memory
module _ (t : Turn) (p : Here) (found : Option Spot) (n len : ℕ) (ev : len % 2 ≡ 0) (l : len ≤ 6) (work : ℕ → List ℕ × ℕ) (prog : Cpu → Prog Cpu) (regs mem map : List ℕ) where
  pub into_registers : ((i k : ℕ) → found ≡ Some (spot i k) → n ≤ k → Comes prog (now_of p) (now_at p.window (p.at + len) (work i).1 p.mask) regs mem map (work i).0 mem map)
      → (regs' : List ℕ) → Did t p found n len work regs regs' → Turned t p prog regs mem map regs' mem map
  unfolding Did Turned
  into_registers f regs' = go t
    where
      go : (t : Turn) → Did t p found n len work regs regs' → Turned t p prog regs mem map regs' mem map
      go (On a k) d =
          subst (λ (x : ℕ). Comes prog (now_of p) (now_at p.window x k p.mask) regs mem map regs' mem map × Stands p.window x) (sym d.on) (
            subst (λ (x : ℕ). Comes prog (now_of p) (now_at p.window (p.at + len) x p.mask) regs mem map regs' mem map) (sym d.coded)
                (subst (λ (x : List ℕ). Comes prog (now_of p) (now_at p.window (p.at + len) (work d.i).1 p.mask) regs mem map x mem map) (sym d.changed)
                (f d.i d.reach d.there d.far)),
            stands_on p len ev l,
          )
      go (Away q k) d = absurd d
      go (Undone q k) (s, e) = (s, (e, (refl, refl)))

  pub into_memory : ((i k : ℕ) → found ≡ Some (spot i k) → n ≤ k → Comes prog (now_of p) (now_at p.window (p.at + len) (work i).1 p.mask) regs mem map regs (work i).0 map)
      → (mem' : List ℕ) → Did t p found n len work mem mem' → Turned t p prog regs mem map regs mem' map
  unfolding Did Turned
  into_memory f mem' = go t
    where
      go : (t : Turn) → Did t p found n len work mem mem' → Turned t p prog regs mem map regs mem' map
      go (On a k) d =
          subst (λ (x : ℕ). Comes prog (now_of p) (now_at p.window x k p.mask) regs mem map regs mem' map × Stands p.window x) (sym d.on) (
            subst (λ (x : ℕ). Comes prog (now_of p) (now_at p.window (p.at + len) x p.mask) regs mem map regs mem' map) (sym d.coded)
                (subst (λ (x : List ℕ). Comes prog (now_of p) (now_at p.window (p.at + len) (work d.i).1 p.mask) regs mem map regs x map) (sym d.changed)
                (f d.i d.reach d.there d.far)),
            stands_on p len ev l,
          )
      go (Away q k) d = absurd d
      go (Undone q k) (s, e) = (s, (refl, (e, refl)))

-- the operand a, found at i: marked, looked up, and no mark is missing
module _ (mem map : List ℕ) (acc : Access) (a i k n : ℕ) (f : Found map (length mem) acc a i k) (some : 0 < n) (far : n ≤ k) where
  looked : At i k ≡ look_one map (length mem) acc a n
  looked = reach_one map (length mem) acc a i k f.there n far

  noted : map ≡ note_field map a n
  noted = field_noted map (length mem) acc a i k n (At i k) (sym f.there) refl some far map map f.accessed

-- where the instruction ends
module _ (p : Here) (regs : List ℕ) where
  next_is : counter_at p.window (p.at + 4) ≡ ahead (cpu_of regs (now_of p)) 4
  next_is = sym (ahead_on p regs 4 (omega arith))

  -- L .. X, LH .. MH, IC
  pub load_comes : (mem map : List ℕ) (op : Operand) (h2 a i k : ℕ) → a ≡ rx_address (rx_of p.text h2) (cpu_of regs (now_of p)) → a % bytes_of (width_of op) ≡ 0
      → Found map (length mem) Load a i k → bytes_of (width_of op) ≤ k
      → Comes (rx (Taking op) (rx_of p.text h2)) (now_of p) (now_at p.window (p.at + 4) (loads op p.text p.code mem regs i).1 p.mask) regs mem map (loads op p.text p.code mem regs i).0 mem map
  unfolding rx loading
  load_comes mem map op h2 a i k ea on f far =
      rw (← ea)
      (operand_go regs (now_of p) mem map (bytes_of (width_of op)) a Load (bytes_of (width_of op)) _ tt on (At i k) (looked mem map Load a i k (bytes_of (width_of op)) f some far) i k map _ (framed_of mem map) _ refl (noted mem map Load a i k (bytes_of (width_of op)) f some far)
      (loaded _ _ _ (framed_of mem map) a (bytes_of (width_of op)) _
      (taken_done regs _ (now_of p) op (left_of p.text) (get_or regs (left_of p.text) 0) (bytes_of (width_of op)) a _ (taken_at op p.text p.code mem regs i) (framed_of mem map) refl
      (ap (λ (v : ℕ). taken op (get_or regs (left_of p.text) 0) v p.code)
      (found_read mem map Load a (bytes_of (width_of op)) i k (At i k) (looked mem map Load a i k (bytes_of (width_of op)) f some far) refl some (aligned_fits (width_of op) a on) map (noted mem map Load a i k (bytes_of (width_of op)) f some far)))
      refl refl next_is)))
    where
      some : 0 < bytes_of (width_of op)
      some = width_some (width_of op)

  -- ST STH STC
  pub store_comes : (mem map : List ℕ) (w : Width) (h2 a i k : ℕ) → a ≡ rx_address (rx_of p.text h2) (cpu_of regs (now_of p)) → a % bytes_of w ≡ 0
      → Found map (length mem) Store a i k → bytes_of w ≤ k
      → Comes (rx (Storing w) (rx_of p.text h2)) (now_of p) (now_at p.window (p.at + 4) p.code p.mask) regs mem map regs (stores w p.text p.code regs mem i).0 map
  unfolding rx storing reg
  store_comes mem map w h2 a i k ea on f far =
      rw (← ea, next_is)
      (operand_go regs (now_of p) mem map (bytes_of w) a Store (bytes_of w) _ tt on (At i k) (looked mem map Store a i k (bytes_of w) f (width_some w) far) i k map regs (framed_of (stores w p.text p.code regs mem i).0 map) _ refl (noted mem map Store a i k (bytes_of w) f (width_some w) far)
      (stored regs _ _ (framed_of mem map) (framed_of (stores w p.text p.code regs mem i).0 map) a (bytes_of w) (get_or regs (left_of p.text) 0) _
      (found_write mem map a (bytes_of w) i k (At i k) (looked mem map Store a i k (bytes_of w) f (width_some w) far) refl (width_some w) (aligned_fits w a on) map map _ _ (noted mem map Store a i k (bytes_of w) f (width_some w) far) refl (f.written refl)) refl))

  -- CLI TM
  pub compare_comes : (mem map : List ℕ) (h2 a i k : ℕ) → a ≡ si_address (si_of p.text h2) (cpu_of regs (now_of p)) → Found map (length mem) Load a i k
      → Comes (si CompareByte (si_of p.text h2)) (now_of p) (now_at p.window (p.at + 4) (compares_byte p.text mem i).1 p.mask) regs mem map regs mem map
  unfolding si
  compare_comes mem map h2 a i k ea f =
      rw (← ea, next_is)
      (byte_yes regs (now_of p) mem map Load tt a _ (At i k) (sym f.there) i k map (framed_of mem map) _ refl f.accessed
      (unfold interp in rw (← byte_read mem map Load a i k (At i k) (sym f.there) refl map f.accessed)))

  pub test_comes : (mem map : List ℕ) (h2 a i k : ℕ) → a ≡ si_address (si_of p.text h2) (cpu_of regs (now_of p)) → Found map (length mem) Load a i k
      → Comes (si TestMask (si_of p.text h2)) (now_of p) (now_at p.window (p.at + 4) (tests_byte p.text mem i).1 p.mask) regs mem map regs mem map
  unfolding si
  test_comes mem map h2 a i k ea f =
      rw (← ea, next_is)
      (byte_yes regs (now_of p) mem map Load tt a _ (At i k) (sym f.there) i k map (framed_of mem map) _ refl f.accessed
      (unfold interp in rw (← byte_read mem map Load a i k (At i k) (sym f.there) refl map f.accessed)))

  -- NI OI XI, MVI
  pub bits_comes : (mem map : List ℕ) (l : Logic) (h2 a i k : ℕ) → a ≡ si_address (si_of p.text h2) (cpu_of regs (now_of p)) → Found map (length mem) Store a i k
      → Comes (si (BitsByte l) (si_of p.text h2)) (now_of p) (now_at p.window (p.at + 4) (changes_byte l p.text mem i).1 p.mask) regs mem map regs (changes_byte l p.text mem i).0 map
  unfolding si
  bits_comes mem map l h2 a i k ea f =
      rw (← ea, next_is)
      (byte_yes regs (now_of p) mem map Store tt a _ (At i k) (sym f.there) i k map (framed_of (changes_byte l p.text mem i).0 map) _ refl f.accessed
      (unfold interp in rw (← byte_read mem map Store a i k (At i k) (sym f.there) refl map f.accessed, ← byte_write mem map a i k (At i k) (sym f.there) refl map map (changes_byte l p.text mem i).0 _ f.accessed refl (f.written refl))))

  pub put_comes : (mem map : List ℕ) (h2 a i k : ℕ) → a ≡ si_address (si_of p.text h2) (cpu_of regs (now_of p)) → Found map (length mem) Store a i k
      → Comes (si MoveByte (si_of p.text h2)) (now_of p) (now_at p.window (p.at + 4) p.code p.mask) regs mem map regs (puts_byte p.text p.code mem i).0 map
  unfolding si
  put_comes mem map h2 a i k ea f =
      rw (← ea, next_is)
      (byte_yes regs (now_of p) mem map Store tt a _ (At i k) (sym f.there) i k map (framed_of (puts_byte p.text p.code mem i).0 map) _ refl f.accessed
      (unfold interp in rw (← byte_write mem map a i k (At i k) (sym f.there) refl map map (puts_byte p.text p.code mem i).0 _ f.accessed refl (f.written refl))))

  -- LM STM
  pub fill_comes : (mem map : List ℕ) (h2 a i k : ℕ) → a ≡ rs_address (rs_of p.text h2) (cpu_of regs (now_of p)) → a % 4 ≡ 0 → Found map (length mem) Load a i k → many_of p.text * 4 ≤ k
      → Comes (rs LoadMultiple (rs_of p.text h2)) (now_of p) (now_at p.window (p.at + 4) p.code p.mask) regs mem map (fills p.text p.code mem regs i).0 mem map
  unfolding rs
  fill_comes mem map h2 a i k ea on f far =
      rw (← ea, next_is)
      (operand_go regs (now_of p) mem map 4 a Load (many_of p.text * 4) _ tt on (At i k) (looked mem map Load a i k (many_of p.text * 4) f some far) i k map _ (framed_of mem map) _ refl (noted mem map Load a i k (many_of p.text * 4) f some far)
      (fills_done (many_of p.text) (left_of p.text) a regs _ _ (framed_of mem map) (framed_of mem map) _ refl
      (words_filled mem map a (many_of p.text) i k (At i k) (looked mem map Load a i k (many_of p.text * 4) f some far) refl far map (noted mem map Load a i k (many_of p.text * 4) f some far) (left_of p.text) regs _ refl)))
    where
      some : 0 < many_of p.text * 4
      some = omega arith

  pub spill_comes : (mem map : List ℕ) (h2 a i k : ℕ) → a ≡ rs_address (rs_of p.text h2) (cpu_of regs (now_of p)) → a % 4 ≡ 0 → Found map (length mem) Store a i k → many_of p.text * 4 ≤ k
      → Comes (rs StoreMultiple (rs_of p.text h2)) (now_of p) (now_at p.window (p.at + 4) p.code p.mask) regs mem map regs (spills p.text p.code regs mem i).0 map
  unfolding rs
  spill_comes mem map h2 a i k ea on f far =
      rw (← ea, next_is)
      (operand_go regs (now_of p) mem map 4 a Store (many_of p.text * 4) _ tt on (At i k) (looked mem map Store a i k (many_of p.text * 4) f some far) i k map regs (framed_of (spills p.text p.code regs mem i).0 map) _ refl (noted mem map Store a i k (many_of p.text * 4) f some far)
      (spills_done (many_of p.text) (left_of p.text) a regs _ _ _ (framed_of mem map) (framed_of mem map) _
      (words_spilled mem map a (many_of p.text) i k (At i k) (looked mem map Store a i k (many_of p.text * 4) f some far) refl far map (noted mem map Store a i k (many_of p.text * 4) f some far) (omega arith) (left_of p.text) regs _ map refl (f.written refl)) refl))
    where
      some : 0 < many_of p.text * 4
      some = omega arith

  -- M D
  pub pair_comes : (mem map : List ℕ) (op : PairOp) (h2 a i k a' k' : ℕ) (regs' : List ℕ) → a ≡ rx_address (rx_of p.text h2) (cpu_of regs (now_of p)) → a % 4 ≡ 0 → Found map (length mem) Load a i k → 4 ≤ k
      → left_of p.text % 2 ≡ 0 → done (cpu_of regs' (now_at p.window a' k' p.mask)) ≡ pairs op p.text mem i (cpu_of regs (now_of p))
      → Comes (rx (PairAndWord op) (rx_of p.text h2)) (now_of p) (now_at p.window a' k' p.mask) regs mem map regs' mem map
  unfolding rx loading
  pair_comes mem map op h2 a i k a' k' regs' ea on f far even e =
      rw (← ea, ← even_pair (left_of p.text) (cpu_of regs (now_of p)) _ even)
      (operand_go regs (now_of p) mem map 4 a Load 4 _ tt on (At i k) (looked mem map Load a i k 4 f (omega arith) far) i k map regs' (framed_of mem map) _ refl (noted mem map Load a i k 4 f (omega arith) far)
      (loaded regs' _ _ (framed_of mem map) a 4 _
      (e ∙ ap (λ (v : ℕ). into_pair (pair_of op (pair (cpu_of regs (now_of p)) (left_of p.text)) v) 4 (left_of p.text) (cpu_of regs (now_of p)))
      (found_read mem map Load a 4 i k (At i k) (looked mem map Load a i k 4 f (omega arith) far) refl (omega arith) (aligned_fits Word a on) map (noted mem map Load a i k 4 f (omega arith) far)))))
