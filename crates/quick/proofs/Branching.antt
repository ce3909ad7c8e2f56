-- Rows that branch: to a target, or on behind the instruction.
use Prim.Native.Nat.{ℕ, ◌+◌, ◌-◌, ◌%◌, ◌<◌, ◌≤◌}
use mathlib.Core.Path.{◌≡◌, refl, sym, ◌∙◌}
use mathlib.Core.Bool.{Bool, true, false, not, beq}
use mathlib.Core.List.{List}
use lib.Dec.{ltb}
use lib.ListN.{get_or, set}
use Rattle.words.specs.Pick.{pick, both}
use Rattle.code.specs.declared.Branch.TheVariants.{OnCondition, AndLink, OnCount}
use Rattle.code.specs.declared.RsFields.{RsFields}
use Rattle.code.specs.declared.RsAction.TheVariants.{BranchHigh, BranchLowEqual}
use Rattle.machine.specs.Prog.{Prog, done}
use Rattle.machine.specs.Cpu.{Cpu, reg, ahead}
use Rattle.machine.specs.Branches.{going, chosen, link, less_one, branch}
use Rattle.machine.specs.Rs.{rs, rs_address, index_sum, is_high}
use Rattle.actions.specs.Answered.{cpu_of}
use Rattle.quick.specs.declared.Window.{Window}
use Rattle.quick.specs.declared.Here.{Here}
use Rattle.quick.specs.declared.Turn.{Turn}
use Rattle.quick.specs.declared.Turn.TheVariants.{On, Away}
use Rattle.quick.specs.Turns.{now_of, Ended, Gone}
use Rattle.quick.proofs.Onward.{target_place, target_stands}
use Rattle.quick.proofs.Answered.{goes_on_lem, gone_ends}

pub gone_in : (w : Window) (to code : ℕ) → to % 2 ≡ 0 → w.first ≤ to → to < 4294967296 → Gone (On (w.base + (to - w.first)) code) w to code
unfolding Gone
gone_in w to code e h l = (target_place w to h, (refl, target_stands w to h e l))

pub gone_out : (w : Window) (to code : ℕ) → Gone (Away to code) w to code
unfolding Gone
gone_out w to code = (refl, refl)

-- registers at exit are those of d, a state behind the instruction; it goes, or it doesn't
module _ (p : Here) (regs regs' : List ℕ) (prog : Cpu → Prog Cpu) (b : Bool) (to len : ℕ) (eb : prog (cpu_of regs (now_of p)) ≡ done (going b to (record { regs = regs'; pc = ahead (cpu_of regs (now_of p)) len; code = p.code; mask = p.mask }))) where
  pub went : b ≡ true → (t : Turn) → Gone t p.window to p.code → Ended t p prog regs regs'
  went e t g =
      gone_ends p regs' (record { regs = regs'; pc = to; code = p.code; mask = p.mask }) refl to refl refl refl prog regs t (eb ∙ rw e) g

  pub stayed : len % 2 ≡ 0 → len ≤ 6 → b ≡ false → Ended (On (p.at + len) p.code) p prog regs regs'
  stayed ev l e =
      goes_on_lem p regs regs' len ev l (record { pc = ahead (cpu_of regs (now_of p)) len; code = p.code; mask = p.mask }) prog (sym (eb ∙ rw e)) refl refl

module _ (p : Here) (regs : List ℕ) (len r to : ℕ) (may : Bool) where
  pub on_condition : (done (branch OnCondition len r to may (cpu_of regs (now_of p)))) ≡ done (going (both may (chosen r p.code)) to (record { regs = regs; pc = ahead (cpu_of regs (now_of p)) len; code = p.code; mask = p.mask }))
  unfolding branch
  on_condition = refl

  module _ (regs' : List ℕ) where
    pub and_link : (word : ℕ) → word ≡ link (cpu_of regs (now_of p)) len → regs' ≡ set regs r word
        → done (branch AndLink len r to may (cpu_of regs (now_of p))) ≡ done (going may to (record { regs = regs'; pc = ahead (cpu_of regs (now_of p)) len; code = p.code; mask = p.mask }))
    unfolding branch
    and_link word ew er = rw (er, ew)

    pub on_count : (x v : ℕ) → x ≡ get_or regs r 0 → v ≡ less_one x → regs' ≡ set regs r v
        → done (branch OnCount len r to may (cpu_of regs (now_of p))) ≡ done (going (both may (ltb 0 v)) to (record { regs = regs'; pc = ahead (cpu_of regs (now_of p)) len; code = p.code; mask = p.mask }))
    unfolding branch reg
    on_count x v ex ev er = rw (er, ev, ex)

pub both_true : (b c : Bool) → b ≡ true → c ≡ true → both b c ≡ true
both_true b c e f = rw (e, f)

pub both_left : (b c : Bool) → b ≡ false → both b c ≡ false
both_left b c e = rw e

pub both_right : (b c : Bool) → b ≡ true → c ≡ false → both b c ≡ false
both_right b c e f = rw (e, f)

-- BXH BXLE
alike : (is : Bool) → beq is true ≡ is
alike true = refl
alike false = refl

unlike : (is : Bool) → beq is false ≡ not is
unlike true = refl
unlike false = refl

module _ (p : Here) (regs regs' : List ℕ) (f g : RsFields) (ef : f ≡ g) (sum : ℕ) (es : sum ≡ index_sum f (cpu_of regs (now_of p))) (er : regs' ≡ set regs f.r1 sum)
    (is : Bool) (ei : is ≡ is_high f (cpu_of regs (now_of p))) (to : ℕ) (et : to ≡ rs_address g (cpu_of regs (now_of p))) where
  pub on_index : (high : Bool) → rs (pick high BranchHigh BranchLowEqual) g (cpu_of regs (now_of p))
      ≡ done (going (beq is high) to (record { regs = regs'; pc = ahead (cpu_of regs (now_of p)) 4; code = p.code; mask = p.mask }))
  unfolding rs
  on_index true = rw (alike is, et, er, ei, es, ef)
  on_index false = rw (unlike is, et, er, ei, es, ef)
