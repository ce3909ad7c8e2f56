-- Actions of the RR format: no storage.
use Rattle.std.specs.Prelude.{ltb}
use Rattle.words.specs.Combine.{combine_of}
use Rattle.words.specs.Wide.{pair_of}
use Rattle.code.specs.declared.RrFields.{RrFields}
use Rattle.code.specs.declared.RrAction.{RrAction}
use Rattle.code.specs.declared.RrAction.TheVariants.{Registers, RegisterBranch, PairAndRegister}
use Rattle.machine.specs.Prog.{Prog, done}
use Rattle.machine.specs.Cpu.{Cpu, reg, with_res, onward, target}
use Rattle.machine.specs.Pairs.{pair, even_only, into_pair}
use Rattle.machine.specs.Branches.{branch}

unfoldable pub rr : RrAction → RrFields → Cpu → Prog Cpu
-- LR LTR LCR LPR LNR AR SR CR ALR SLR CLR NR OR XR
rr (Registers op) f c =
    done (with_res (onward c 2) f.r1 (combine_of op (reg c f.r1) (reg c f.r2) c.code))
-- BCR BALR BCTR: register 0 as target means no branch
rr (RegisterBranch b) f c = done (branch b 2 f.r1 (target c f.r2) (ltb 0 f.r2) c)
-- MR DR: R2 may be a register of the pair, and is read before the pair is stored (001, L3870; of a divide L3272 excludes the same
-- register and does not say what becomes of it)
rr (PairAndRegister op) f c =
    even_only f.r1 c (into_pair (pair_of op (pair c f.r1) (reg c f.r2)) 2 f.r1 c)
