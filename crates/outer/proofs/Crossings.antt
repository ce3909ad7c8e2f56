-- What crosses, from what the engine and the bench answered.
use Prim.Native.Nat.{ℕ, ◌<◌}
use native.Mathlib.Omega.{arith}
use mathlib.Core.Path.{◌≡◌, refl, ◌∙◌, ap}
use mathlib.Core.List.{List, [], ◌∷◌}
use borrow.Author.Tests.{eq-eqb, ne_eqb}
use lib.Dec.{eqb}
use lib.ListN.{length, set}
use lib.Seq.{lt-length-sets}
use Rattle.words.specs.Pick.{pick}
use Rattle.machine.specs.declared.Reply.{Reply}
use Rattle.machine.specs.Machine.{Outcome, outcome, step_outcome, run_outcome}
use Rattle.demand.proofs.Calls.{run_clean, step_clean, run_pages, step_pages}
use Rattle.printing.specs.declared.Text.{Text}
use Rattle.printing.specs.Answer.{text_of}
use Rattle.reading.specs.Setting.{Setting}
use Rattle.reading.specs.Sheet.{good, reading_of}
use Rattle.sheet.specs.Sheet.{machine_of, printed, answer_to, answer_of}
use Rattle.outer.specs.Crossing.{Crossed, crossed, six, lent, handed_back, read_off, step_crossed, StepMeets, run_crossed, RunMeets, sheet_crossed, SheetMeets}

-- six stores into six places
all_six : (l : List ℕ) (a b c d e f : ℕ) → length l ≡ 6 → set (set (set (set (set (set l 0 a) 1 b) 2 c) 3 d) 4 e) 5 f ≡ a ∷ b ∷ c ∷ d ∷ e ∷ f ∷ []
all_six [] a b c d e f h = absurd (omega arith)
all_six (u ∷ []) a b c d e f h = absurd (omega arith)
all_six (u ∷ v ∷ []) a b c d e f h = absurd (omega arith)
all_six (u ∷ v ∷ w ∷ []) a b c d e f h = absurd (omega arith)
all_six (u ∷ v ∷ w ∷ x ∷ []) a b c d e f h = absurd (omega arith)
all_six (u ∷ v ∷ w ∷ x ∷ y ∷ []) a b c d e f h = absurd (omega arith)
all_six (u ∷ v ∷ w ∷ x ∷ y ∷ z ∷ []) a b c d e f h = refl
all_six (u ∷ v ∷ w ∷ x ∷ y ∷ z ∷ t ∷ l) a b c d e f h = absurd (omega arith)

-- after some stores there are still six places
pub fifth_in : (l : List ℕ) (a b c d : ℕ) → length l ≡ 6 → 4 < length (set (set (set (set l 0 a) 1 b) 2 c) 3 d)
fifth_in l a b c d h =
    let k : 4 < length l = omega arith in
    lt-length-sets l 0 (a ∷ b ∷ c ∷ d ∷ []) k

pub sixth_in : (l : List ℕ) (a b c d e : ℕ) → length l ≡ 6 → 5 < length (set (set (set (set (set l 0 a) 1 b) 2 c) 3 d) 4 e)
sixth_in l a b c d e h =
    let k : 5 < length l = omega arith in
    lt-length-sets l 0 (a ∷ b ∷ c ∷ d ∷ e ∷ []) k

module _ (reply : List ℕ) (r : Reply) where
  pub put_six : length reply ≡ 6
      → set (set (set (set (set (set reply 0 r.number) 1 r.place) 2 r.count) 3 r.pc) 4 r.code) 5 r.mask ≡ pick (eqb (length reply) 6) (six r) reply
  put_six h = rw (eq-eqb (length reply) 6 h) (all_six reply _ _ _ _ _ _ h)

  pub put_none : (length reply ≡ 6 → ⊥) → reply ≡ pick (eqb (length reply) 6) (six r) reply
  put_none h = rw (ne_eqb (length reply) 6 h)

module _ (mem map regs reply : List ℕ) where
  pub step_away : (length reply ≡ 6 → ⊥) → crossed 6 mem map regs reply ≡ step_crossed mem map regs reply
  unfolding step_crossed
  step_away h = rw (ne_eqb (length reply) 6 h)

  pub run_away : (budget : ℕ) → (length reply ≡ 6 → ⊥) → crossed 6 mem map regs reply ≡ run_crossed budget mem map regs reply
  unfolding run_crossed
  run_away budget h = rw (ne_eqb (length reply) 6 h)

  module _ (h : length reply ≡ 6) (r : Reply) (mem' map' regs' reply' : List ℕ) (p : reply' ≡ pick (eqb (length reply) 6) (six r) reply) where
    back : crossed r.number mem' map' regs' reply' ≡ handed_back (outcome r mem' map' regs')
    back = ap (crossed r.number mem' map' regs') (p ∙ rw (eq-eqb (length reply) 6 h))

    pub step_back : outcome r mem' map' regs' ≡ step_outcome (lent mem map regs reply)
        → crossed r.number mem' map' regs' reply' ≡ step_crossed mem map regs reply
    unfolding step_crossed
    step_back o = back ∙ rw (eq-eqb (length reply) 6 h) (ap handed_back o)

    pub run_back : (budget : ℕ) → outcome r mem' map' regs' ≡ run_outcome budget (lent mem map regs reply)
        → crossed r.number mem' map' regs' reply' ≡ run_crossed budget mem map regs reply
    unfolding run_crossed
    run_back budget o = back ∙ rw (eq-eqb (length reply) 6 h) (ap handed_back o)

-- what a caller reads off, where the reply has six places, is the outcome; so demands 1 and 3 hold of it
abbrev read : Crossed → Outcome
read x = read_off x.mem x.map x.regs x.reply

module _ (mem map regs reply mem' map' regs' reply' : List ℕ) (n : ℕ) where
  pub step_meets : crossed n mem' map' regs' reply' ≡ step_crossed mem map regs reply
      → length reply ≡ 6 → StepMeets (lent mem map regs reply) (read_off mem' map' regs' reply')
  step_meets e h =
      let o : read_off mem' map' regs' reply' ≡ step_outcome (lent mem map regs reply) =
      ap read e ∙ unfold step_crossed in rw (eq-eqb (length reply) 6 h) in
      record {
        clean = step_clean (lent mem map regs reply) (read_off mem' map' regs' reply') o;
        pages = step_pages (lent mem map regs reply) (read_off mem' map' regs' reply') o;
      }

  pub run_meets : (budget : ℕ) → crossed n mem' map' regs' reply' ≡ run_crossed budget mem map regs reply
      → length reply ≡ 6 → RunMeets budget (lent mem map regs reply) (read_off mem' map' regs' reply')
  run_meets budget e h =
      let o : read_off mem' map' regs' reply' ≡ run_outcome budget (lent mem map regs reply) =
      ap read e ∙ unfold run_crossed in rw (eq-eqb (length reply) 6 h) in
      record {
        clean = run_clean budget (lent mem map regs reply) (read_off mem' map' regs' reply') o;
        pages = run_pages budget (lent mem map regs reply) (read_off mem' map' regs' reply') o;
      }

module _ (sheet room : List ℕ) where
  pub room_away : (length room ≡ 8192 → ⊥) → record { bytes = room; len = 0 } ≡ sheet_crossed sheet room
  unfolding sheet_crossed
  room_away h = rw (ne_eqb (length room) 8192 h)

  pub room_filled : (room' : List ℕ) (t : Text) → length room ≡ 8192 → room' ≡ t.bytes → t ≡ text_of (answer_of sheet)
      → record { bytes = room'; len = t.len } ≡ sheet_crossed sheet room
  unfolding sheet_crossed
  room_filled room' t h k a = ap (λ (b : List ℕ). text b t.len) k ∙ a ∙ rw (eq-eqb (length room) 8192 h)
    where
      text : List ℕ → ℕ → Text
      text b n = record { bytes = b; len = n }

  -- a good sheet's answer is the text of its run's outcome; so demands 1 and 3 hold of what it tells
  pub sheet_meets : (room' : List ℕ) (n : ℕ) → record { bytes = room'; len = n } ≡ sheet_crossed sheet room
      → length room ≡ 8192 → (h : Setting) → reading_of sheet ≡ good h → SheetMeets h (record { bytes = room'; len = n })
  sheet_meets room' n e l h g =
      let o : Outcome = run_outcome h.budget (machine_of h) in
      record {
        from = o;
        meets = record { clean = run_clean h.budget (machine_of h) o refl; pages = run_pages h.budget (machine_of h) o refl };
        text = e ∙ told l ∙ ap text_of (answered h g);
      }
    where
      told : length room ≡ 8192 → sheet_crossed sheet room ≡ text_of (answer_of sheet)
      told l = unfold sheet_crossed in rw (eq-eqb (length room) 8192 l)

      answered : (h : Setting) → reading_of sheet ≡ good h → answer_of sheet ≡ printed h.map (run_outcome h.budget (machine_of h))
      answered h g = unfold answer_of in ap answer_to g
