-- How a move and a compare end is what their programs come to; and the contract of an executor has one answer, so that two ways that meet it
-- are the same.
use Prim.Native.Nat.{ℕ, ◌<◌, ◌≤◌}
use native.Mathlib.Omega.{arith}
use mathlib.Core.Path.{◌≡◌, refl, sym, ◌∙◌, ap}
use mathlib.Core.List.{List}
use Rattle.std.specs.Prelude.{Ok, Err}
use lib.ListN.{length}
use Rattle.pages.specs.declared.Access.{Access}
use Rattle.pages.specs.declared.Access.TheVariants.{Load, Store}
use Rattle.pages.specs.declared.Refusal.{Refusal}
use Rattle.pages.specs.Look.{Look, At, look_of}
use Rattle.pages.specs.Framed.{Framed, framed_of, accessed_at, written_at}
use Rattle.pages.specs.Word.{page_of, accessed}
use Rattle.pages.proofs.Marks.{changed_comm}
use Rattle.machine.specs.Prog.{Prog, done, interp}
use Rattle.machine.specs.Run.{Result, one}
use Rattle.machine.specs.Fields.{looks, moves, compares}
use Rattle.machine.specs.Store.{framed}
use Rattle.machine.specs.Cpu.{Cpu, with_code, onward, ahead}
use Rattle.machine.proofs.Operands.{ForOperand}
use Rattle.fields.specs.Direct.{flat_move, flat_compare}
use Rattle.fields.specs.Both.{look_both, moved_by, Order, order_of, noted_by}
use Rattle.actions.specs.declared.Now.{Now}
use Rattle.actions.specs.declared.Stop.{Stop}
use Rattle.actions.specs.Answered.{Out, cpu_of, told, refusal_of}
use Rattle.actions.proofs.Stops.{same_stop}
use Rattle.actions.proofs.Executed.{two_no, two_yes, moved, compared}
use Rattle.rs_ss.proofs.BothReached.{first_refused, both_found, field_noted, both_moved, both_compared}
use Rattle.rs_ss.specs.Ended.{ends_move, ends_compare}

module _ (regs mem map : List ℕ) (c : Now) (a b n : ℕ) (h : 0 < n) where
  pub move_ended : (found : Look) → found ≡ look_both map (length mem) Store a b n → (mem' map' : List ℕ)
      → framed_of mem' map' ≡ moved_by found mem map a b n → (out : Out) → out ≡ ends_move found regs c
      → told out regs c (framed_of mem' map')
      ≡ one (cpu_of regs c) (interp framed (looks Store a n (looks Load b n (moves a b n (done (onward (cpu_of regs c) 6))))) (framed_of mem map) (framed_of mem map))
  move_ended (Ok s) e mem' map' m out o =
      rw o
      (two_yes _ _ _ _ (record { access = Store; at = a; len = n }) (record { access = Load; at = b; len = n }) tt tt _ h (Ok s) e s.at s.reach _ _ (framed_of mem' map') _ refl refl refl
      (moved _ _ _ _ _ a b n _ m refl))
  move_ended (Err q) e mem' map' m out o =
      rw o
      (ap (told (Err (refusal_of q)) regs c) m
      ∙ two_no _ _ _ _ (record { access = Store; at = a; len = n }) (record { access = Load; at = b; len = n }) tt tt _ h (Err q) e (refusal_of q) q refl refl)

  pub compare_ended : (look : Look) → look ≡ look_both map (length mem) Load a b n → (order : Order) → order ≡ order_of look mem map a b n
      → (map' : List ℕ) → map' ≡ noted_by look map a b n → (out : Out) → out ≡ ends_compare order regs c
      → told out regs c (framed_of mem map')
      ≡ one (cpu_of regs c) (interp framed (looks Load a n (looks Load b n (compares a b n (λ k. done (with_code (onward (cpu_of regs c) 6) k))))) (framed_of mem map) (framed_of mem map))
  compare_ended (Ok s) e order f map' m out o =
      rw (o, f, m)
      (two_yes _ _ _ _ (record { access = Load; at = a; len = n }) (record { access = Load; at = b; len = n }) tt tt _ h (Ok s) e s.at s.reach _ _ _ _ refl refl refl
      (compared _ _ _ _ a b n _ _ refl refl))
  compare_ended (Err q) e order f map' m out o =
      rw (o, f, m)
      (two_no _ _ _ _ (record { access = Load; at = a; len = n }) (record { access = Load; at = b; len = n }) tt tt _ h (Err q) e (refusal_of q) q refl refl)

  -- refused at the first byte of the first field
  module _ (acc : Access) (op : ForOperand acc) (k : Prog Cpu) (one-look : Look) (e : one-look ≡ look_of map (length mem) acc a) where
    pub first_ended : (q : Refusal) → one-look ≡ Err q → (out : Stop) → out ≡ refusal_of q
        → told (Err out) regs c (framed_of mem map) ≡ one (cpu_of regs c) (interp framed (looks acc a n (looks Load b n k)) (framed_of mem map) (framed_of mem map))
    first_ended q f out o =
        two_no _ _ _ _ (record { access = acc; at = a; len = n }) (record { access = Load; at = b; len = n }) op tt k h one-look
        (first_refused map (length mem) (record { access = acc; at = a; len = n }) (record { access = Load; at = b; len = n }) one-look e h _ q.cause q.place f) out q o f

  -- both reached by the look-ups of their first bytes
  module _ (here : Look) (d : here ≡ look_of map (length mem) Load b) (x r y q : ℕ) (u : here ≡ At y q) (far : n ≤ r) (far' : n ≤ q)
      (map' map'' : List ℕ) (m1 : map' ≡ accessed_at map a) (m2 : map'' ≡ accessed_at map' b) (there : Look) (t : there ≡ At x r) (p : ℕ) (ep : p ≡ ahead (cpu_of regs c) 6) where
    pub move_quick : there ≡ look_of map (length mem) Store a → (mem' map''' : List ℕ) → mem' ≡ flat_move mem x y n → map''' ≡ written_at map'' a
        → told (Ok (record { pc = p; code = c.code; mask = c.mask })) regs c (framed_of mem' map''')
        ≡ one (cpu_of regs c) (interp framed (looks Store a n (looks Load b n (moves a b n (done (onward (cpu_of regs c) 6))))) (framed_of mem map) (framed_of mem map))
    move_quick e mem' map''' em en =
        let n1 = field_noted map (length mem) Store a x r n there e t h far map map' m1 in
        let n2 = field_noted map (length mem) Load b y q n here d u h far' map' map'' m2 in
        rw ep
        (two_yes _ _ _ _ (record { access = Store; at = a; len = n }) (record { access = Load; at = b; len = n }) tt tt _ h there
        (both_found map (length mem) (record { access = Store; at = a; len = n }) (record { access = Load; at = b; len = n }) there e x r t far here d y q u far')
        x r _ _ (framed_of mem' map''') _ t n1 n2
        (moved _ _ _ _ _ a b n _ (both_moved mem map a b n there here d x r y q t u far far' map' map'' n1 n2 e h mem' map''' em en) refl))

    pub compare_quick : there ≡ look_of map (length mem) Load a → (v : ℕ) → v ≡ flat_compare mem x y n
        → told (Ok (record { pc = p; code = v; mask = c.mask })) regs c (framed_of mem map'')
        ≡ one (cpu_of regs c) (interp framed (looks Load a n (looks Load b n (compares a b n (λ k. done (with_code (onward (cpu_of regs c) 6) k))))) (framed_of mem map) (framed_of mem map))
    compare_quick e v ev =
        let n1 = field_noted map (length mem) Load a x r n there e t h far map map' m1 in
        let n2 = field_noted map (length mem) Load b y q n here d u h far' map' map'' m2 in
        rw ep
        (two_yes _ _ _ _ (record { access = Load; at = a; len = n }) (record { access = Load; at = b; len = n }) tt tt _ h there
        (both_found map (length mem) (record { access = Load; at = a; len = n }) (record { access = Load; at = b; len = n }) there e x r t far here d y q u far')
        x r _ _ (framed_of mem map'') _ t n1 n2
        (compared _ _ _ _ a b n v _ (both_compared mem map a b n there here d x r y q t u far far' map' map'' n1 n2 e v ev) refl))

-- the read field marked first, and then the stored one, W with G
pub marked_both : (map map' map'' : List ℕ) (a b : ℕ) → map' ≡ accessed_at map b → map'' ≡ written_at (accessed_at map' a) a
    → map'' ≡ written_at (accessed_at (accessed_at map a) b) a
marked_both map map' map'' a b m n =
    n
    ∙ ap (λ (x : List ℕ). written_at (accessed_at x a) a) m
    ∙ ap (λ (x : List ℕ). written_at x a) (unfold accessed_at in changed_comm accessed accessed (λ w. refl) (page_of a) (page_of b) map)

-- one answer, one store
pub told_once : (regs : List ℕ) (c : Now) (o p : Out) (s t : Framed) → told o regs c s ≡ told p regs c t → (o ≡ p) × (s ≡ t)
unfolding told
told_once regs c (Ok m) (Ok n) s t e = (ap Ok (ap (λ (r : Result Cpu Framed). record { pc = r.cpu.pc; code = r.cpu.code; mask = r.cpu.mask }) e), ap (λ (r : Result Cpu Framed). r.held) e)
told_once regs c (Ok m) (Err k) s t e = absurd (let z : ◌≡◌ {A = ℕ} 1 0 = ap (λ (r : Result Cpu Framed). r.count) e in omega arith)
told_once regs c (Err k) (Ok n) s t e = absurd (let z : ◌≡◌ {A = ℕ} 0 1 = ap (λ (r : Result Cpu Framed). r.count) e in omega arith)
told_once regs c (Err k) (Err j) s t e =
    (ap Err (same_stop k j (ap (λ (r : Result Cpu Framed). r.stop) e) (ap (λ (r : Result Cpu Framed). r.place) e)), ap (λ (r : Result Cpu Framed). r.held) e)

pub same_ways : (meaning : Framed → Result Cpu Framed) (regs : List ℕ) (c : Now) (o p : Out) (mem map mem' map' m q m' q' : List ℕ) → m ≡ m' → q ≡ q'
    → told o regs c (framed_of mem map) ≡ meaning (framed_of m q) → told p regs c (framed_of mem' map') ≡ meaning (framed_of m' q')
    → (o ≡ p) × (mem ≡ mem') × (map ≡ map')
same_ways meaning regs c o p mem map mem' map' m q m' q' em eq e f =
    let r = told_once regs c o p (framed_of mem map) (framed_of mem' map') (e ∙ ap (λ (x : List ℕ). meaning (framed_of x q)) em ∙ ap (λ (x : List ℕ). meaning (framed_of m' x)) eq ∙ sym f) in
    (r.0, ap (λ (s : Framed). s.mem) r.1, ap (λ (s : Framed). s.map) r.1)
