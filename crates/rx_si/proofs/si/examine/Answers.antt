use Rattle.std.proofs.lemmas.Result.{err_from_is_err_and}
use mathlib.Core.Bool.{Bool, true, false}
use mathlib.Core.Path.{◌≡◌, refl, ◌∙◌}
use Rattle.words.specs.Pick.{pick}
use Rattle.words.specs.Codes.{compare_bits, mask_code}
use Rattle.code.specs.declared.SiFields.{SiFields}
use Rattle.code.specs.declared.SiAction.TheVariants.{CompareByte, TestMask}
use Rattle.pages.specs.declared.Access.TheVariants.{Load}
use Rattle.actions.proofs.Executed.{byte_no, byte_yes}
use Rattle.fields.proofs.Found.{byte_inside, byte_read}
use Rattle.machine.specs.Cpu.{Cpu, with_code, onward}
use Rattle.machine.specs.Si.{si, si_address}
use Rattle.machine.specs.Prog.{done, look, get, interp}
use Rattle.rx_si.proofs.si.examine.Goals as goal

-- the two differ in the code alone
either : (masked : Bool) (f : SiFields) (c : Cpu)
    → si (pick masked TestMask CompareByte) f c
    ≡ look Load (si_address f c) (get (si_address f c) (λ v. done (with_code (onward c 4) (pick masked (mask_code v f.i2) (compare_bits v f.i2)))))
unfolding si
either true f c = refl
either false f c = refl

pub returns-in_err-found : goal.returns-in_err-found
returns-in_err-found c = let p = err_from_is_err_and c.from_residual.result c.from_residual.ensures.1 in rw p.1 (rw (either, ← c.operand_address-at.ensures) (byte_no _ _ _ _ _ tt _ _ _ c.look_up.ensures _ _ p.2 c.in_err-found.was))

pub byte_of-b-requires : goal.byte_of-b-requires
byte_of-b-requires c = byte_inside (c.args.mem.now) _ Load _ _ _ _ c.look_up.ensures c.in_ok-found.was

pub returns : goal.returns
returns c = rw (either, ← c.operand_address-at.ensures, ← c.ahead_of-pc.ensures) (byte_yes _ _ _ _ _ tt _ _ _ c.look_up.ensures _ _ _ _ _ c.in_ok-found.was c.mark.ensures (unfold interp in rw (← (c.byte_of-b.ensures ∙ byte_read (c.args.mem.now) _ Load _ _ _ _ c.look_up.ensures c.in_ok-found.was _ c.mark.ensures), c.code_of-code.ensures)))
