-- No second answer meets the same words: what a linked function hands back are the parts of one record.
use Prim.Native.Nat.{ℕ}
use mathlib.Core.Path.{◌≡◌, sym, ◌∙◌, ap}
use mathlib.Core.List.{List}
use Rattle.printing.specs.declared.Text.{Text}
use Rattle.outer.specs.Crossing.{Crossed, crossed, CrossedList, crossed_list}

pub only_crossed : (n n' : ℕ) (mem mem' map map' regs regs' reply reply' : List ℕ) (x : Crossed)
    → crossed n mem map regs reply ≡ x → crossed n' mem' map' regs' reply' ≡ x
    → (n ≡ n') × (mem ≡ mem') × (map ≡ map') × (regs ≡ regs') × (reply ≡ reply')
only_crossed n n' mem mem' map map' regs regs' reply reply' x e e' =
    let s = e ∙ sym e' in
    (ap (λ (c : Crossed). c.number) s, ap (λ (c : Crossed). c.mem) s, ap (λ (c : Crossed). c.map) s, ap (λ (c : Crossed). c.regs) s, ap (λ (c : Crossed). c.reply) s)

-- `record { bytes = room.new; len = result } ≡ ..`: spectra46_sheet
pub only_sheet : (n n' : ℕ) (room room' : List ℕ) (x : Text) → record { bytes = room; len = n } ≡ x → record { bytes = room'; len = n' } ≡ x
    → (room ≡ room') × (n ≡ n')
only_sheet n n' room room' x e e' =
    let s = e ∙ sym e' in (ap (λ (t : Text). t.bytes) s, ap (λ (t : Text). t.len) s)

-- `crossed_list result out.new told.new ≡ ..`: spectra46_list
pub only_list : (n n' : ℕ) (out out' told told' : List ℕ) (x : CrossedList) → crossed_list n out told ≡ x → crossed_list n' out' told' ≡ x
    → (n ≡ n') × (out ≡ out') × (told ≡ told')
only_list n n' out out' told told' x e e' =
    let s = e ∙ sym e' in
    (ap (λ (c : CrossedList). c.number) s, ap (λ (c : CrossedList). c.out) s, ap (λ (c : CrossedList). c.told) s)
