-- Actions of the SS format: two fields of storage, of one byte more than L says. Every byte of both is looked up first.
use Rattle.std.specs.Prelude.{ℕ, suc}
use Rattle.pages.specs.declared.Access.TheVariants.{Load, Store}
use Rattle.code.specs.declared.SsFields.{SsFields}
use Rattle.code.specs.declared.SsAction.{SsAction}
use Rattle.code.specs.declared.SsAction.TheVariants.{MoveField, CompareField}
use Rattle.machine.specs.Prog.{Prog, done}
use Rattle.machine.specs.Fields.{looks, moves, compares}
use Rattle.machine.specs.Cpu.{Cpu, with_code, onward, address}

abbrev pub first_address : SsFields → Cpu → ℕ
first_address f c = address c 0 f.b1 f.d1

abbrev pub second_address : SsFields → Cpu → ℕ
second_address f c = address c 0 f.b2 f.d2

unfoldable pub ss : SsAction → SsFields → Cpu → Prog Cpu
-- MVC: L4635
ss MoveField f c =
    looks Store (first_address f c) (suc f.l)
    (looks Load (second_address f c) (suc f.l)
    (moves (first_address f c) (second_address f c) (suc f.l) (done (onward c 6))))
-- CLC: L4759
ss CompareField f c =
    looks Load (first_address f c) (suc f.l)
    (looks Load (second_address f c) (suc f.l)
    (compares (first_address f c) (second_address f c) (suc f.l) (λ k. done (with_code (onward c 6) k))))
