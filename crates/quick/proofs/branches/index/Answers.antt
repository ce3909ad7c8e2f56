use native.Mathlib.Omega.{arith}
use Prim.Native.Nat.{◌+◌}
use mathlib.Core.Path.{refl, ◌∙◌, ap}
use Rattle.words.specs.Pick.{pick}
use Rattle.code.specs.declared.RsAction.TheVariants.{BranchHigh, BranchLowEqual}
use Rattle.code.specs.Formats.{rs_of}
use Rattle.fields.specs.Direct.{flat}
use Rattle.machine.specs.Rs.{rs, index_sum, is_high}
use Rattle.actions.specs.declared.Now.{Now}
use Rattle.actions.specs.Answered.{cpu_of}
use Rattle.quick.specs.Turns.{now_of}
use Rattle.quick.proofs.Onward.{place_fits}
use Rattle.quick.proofs.Branching.{went, stayed, on_index}
use Rattle.quick.proofs.branches.index.Goals as goal

pub go-requires : goal.go-requires
go-requires c = c.args.p.placed.fits

pub returns-then-is-high : goal.returns-then-is-high
returns-then-is-high c = went c.args.p c.args.regs.now _ (rs (pick c.args.high BranchHigh BranchLowEqual) (rs_of c.args.p.text (flat c.args.mem.now (c.args.p.at + 2) 2 0))) _ c.address-to.result 4 (on_index c.args.p c.args.regs.now _ _ (rs_of c.args.p.text (flat c.args.mem.now (c.args.p.at + 2) 2 0)) (c.split_rs-f.ensures ∙ ap (rs_of c.args.p.text) c.half_of.ensures) _ (c.index_sum-sum.ensures ∙ ap (λ (x : Now). index_sum c.split_rs-f.result (cpu_of c.args.regs.now x)) c.state-c.ensures) c.put_reg.ensures _ (c.is_high-is.ensures ∙ ap (λ (x : Now). is_high c.split_rs-f.result (cpu_of c.args.regs.now x)) c.state-c.ensures) _ (c.address-to.ensures (now_of c.args.p)) c.args.high) c.if-is-high.true _ c.go.ensures

pub overflow_add-result : goal.overflow_add-result
overflow_add-result c = record { fits = omega (arith, place_fits c.args.p) }

pub returns : goal.returns
returns c = stayed c.args.p c.args.regs.now _ (rs (pick c.args.high BranchHigh BranchLowEqual) (rs_of c.args.p.text (flat c.args.mem.now (c.args.p.at + 2) 2 0))) _ c.address-to.result 4 (on_index c.args.p c.args.regs.now _ _ (rs_of c.args.p.text (flat c.args.mem.now (c.args.p.at + 2) 2 0)) (c.split_rs-f.ensures ∙ ap (rs_of c.args.p.text) c.half_of.ensures) _ (c.index_sum-sum.ensures ∙ ap (λ (x : Now). index_sum c.split_rs-f.result (cpu_of c.args.regs.now x)) c.state-c.ensures) c.put_reg.ensures _ (c.is_high-is.ensures ∙ ap (λ (x : Now). is_high c.split_rs-f.result (cpu_of c.args.regs.now x)) c.state-c.ensures) _ (c.address-to.ensures (now_of c.args.p)) c.args.high) refl (omega arith) c.if-is-high.false
