-- Load Multiple and Store Multiple: their programs come to the registers and the store word by word.
use Prim.Native.Nat.{ℕ, zero, suc}
use mathlib.Core.Path.{◌≡◌, refl, sym, ◌∙◌, ap}
use mathlib.Core.List.{List}
use lib.ListN.{get_or, set}
use Rattle.pages.specs.Framed.{Framed}
use Rattle.machine.specs.Prog.{Prog, done, finished, interp}
use Rattle.machine.specs.Store.{framed}
use Rattle.machine.specs.Cpu.{Cpu, reg, with_reg}
use Rattle.machine.specs.Rs.{fills, spills, next_reg, next_word}
use Rattle.fields.specs.Direct.{read_field, write_field}
use Rattle.fields.proofs.Bridge.{gets_is, puts_is}
use Rattle.actions.specs.declared.Now.{Now}
use Rattle.actions.specs.Answered.{cpu_of}
use Rattle.rs_ss.specs.Multiple.{words, filled, spilled}

-- n registers filled from storage, and stored there
fills_is : (n r a : ℕ) (regs : List ℕ) (next : Now) (kept s : Framed)
    → interp framed (fills n r a (cpu_of regs next)) kept s ≡ finished (cpu_of (filled s n r a regs) next) s
unfolding fills interp words filled
fills_is zero r a regs next kept s = refl
fills_is (suc n) r a regs next kept s =
    gets_is a 4 0 (λ v. fills n (next_reg r) (next_word a) (with_reg (cpu_of regs next) r v)) kept s
    ∙ fills_is n (next_reg r) (next_word a) (set regs r (read_field s a 4 0)) next kept s

pub fills_done : (n r a : ℕ) (regs regs' : List ℕ) (next : Now) (kept s : Framed) (c : Cpu) → cpu_of regs next ≡ c → regs' ≡ filled s n r a regs
    → interp framed (fills n r a c) kept s ≡ finished (cpu_of regs' next) s
fills_done n r a regs regs' next kept s c ec er =
    ap (λ (d : Cpu). interp framed (fills n r a d) kept s) (sym ec)
    ∙ fills_is n r a regs next kept s
    ∙ ap (λ (x : List ℕ). finished (cpu_of x next) s) (sym er)

pub spills_is : (n r a : ℕ) (regs : List ℕ) (c : Now) (k : Prog Cpu) (kept s : Framed)
    → interp framed (spills n r a (cpu_of regs c) k) kept s ≡ interp framed k kept (spilled regs n r a s)
unfolding spills words spilled reg
spills_is zero r a regs c k kept s = refl
spills_is (suc n) r a regs c k kept s =
    puts_is a 4 (get_or regs r 0) (spills n (next_reg r) (next_word a) (cpu_of regs c) k) kept s
    ∙ spills_is n (next_reg r) (next_word a) regs c k kept (write_field s a 4 (get_or regs r 0))

pub spills_done : (n r a : ℕ) (regs : List ℕ) (c next : Now) (k : Prog Cpu) (kept s t : Framed) → t ≡ spilled regs n r a s → done (cpu_of regs next) ≡ k
    → interp framed (spills n r a (cpu_of regs c) k) kept s ≡ finished (cpu_of regs next) t
unfolding interp
spills_done n r a regs c next k kept s t et ek =
    spills_is n r a regs c k kept s
    ∙ ap (λ (u : Framed). interp framed k kept u) (sym et)
    ∙ ap (λ (p : Prog Cpu). interp framed p kept t) (sym ek)
