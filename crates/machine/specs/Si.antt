-- Actions of the SI format: a byte of storage and an immediate byte.
use Rattle.std.specs.Prelude.{ℕ}
use Rattle.words.specs.Codes.{compare_bits, mask_code, zero_code}
use Rattle.words.specs.Combine.{logic_of}
use Rattle.pages.specs.declared.Access.TheVariants.{Load, Store}
use Rattle.code.specs.declared.SiFields.{SiFields}
use Rattle.code.specs.declared.SiAction.{SiAction}
use Rattle.code.specs.declared.SiAction.TheVariants.{CompareByte, TestMask, BitsByte, MoveByte}
use Rattle.machine.specs.Prog.{Prog, done, look, get, put}
use Rattle.machine.specs.Cpu.{Cpu, with_code, onward, address}

abbrev pub si_address : SiFields → Cpu → ℕ
si_address f c = address c 0 f.b1 f.d1

unfoldable pub si : SiAction → SiFields → Cpu → Prog Cpu
-- CLI: L4759. TM: L4975
si CompareByte f c =
    look Load (si_address f c) (get (si_address f c) (λ v. done (with_code (onward c 4) (compare_bits v f.i2))))
si TestMask f c =
    look Load (si_address f c) (get (si_address f c) (λ v. done (with_code (onward c 4) (mask_code v f.i2))))
-- NI: L4803. OI: L4863. XI: L4919
si (BitsByte l) f c =
    look Store (si_address f c)
    (get (si_address f c)
    (λ v. put (si_address f c) (logic_of l v f.i2) (done (with_code (onward c 4) (zero_code (logic_of l v f.i2))))))
-- MVI: L4635
si MoveByte f c = look Store (si_address f c) (put (si_address f c) f.i2 (done (onward c 4)))
