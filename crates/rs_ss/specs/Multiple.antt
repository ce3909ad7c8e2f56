-- Working definitions for Load Multiple and Store Multiple: the registers, and the store, word by word. Nobody has to believe them:
-- proofs/Multiples ties them to the programs.
use Rattle.std.specs.Prelude.{ℕ, zero, suc, ◌+◌, List, get_or, set}
use Rattle.pages.specs.Framed.{Framed}
use Rattle.machine.specs.Rs.{next_reg, next_word}
use Rattle.fields.specs.Direct.{read_field, write_field, flat, flat_put}

-- n registers from r on, with the words from a on, of which `on` gives the next one's address: what `each` makes of x, one by one
unfoldable pub words : {X : Type 0} → (ℕ → ℕ) → (ℕ → ℕ → X → X) → ℕ → ℕ → ℕ → X → X
words on each zero r a x = x
words on each (suc n) r a x = words on each n (next_reg r) (on a) (each r a x)

-- n registers from r on take the words from a on
unfoldable pub filled : Framed → ℕ → ℕ → ℕ → List ℕ → List ℕ
filled s n r a regs = words next_word (λ r a regs. set regs r (read_field s a 4 0)) n r a regs

-- the words from a on take n registers from r on
unfoldable pub spilled : List ℕ → ℕ → ℕ → ℕ → Framed → Framed
spilled regs n r a s = words next_word (λ r a s. write_field s a 4 (get_or regs r 0)) n r a s

-- the same by real address
abbrev pub four_on : ℕ → ℕ
four_on a = a + 4

unfoldable pub filled_at : List ℕ → ℕ → ℕ → ℕ → List ℕ → List ℕ
filled_at mem n r a regs = words four_on (λ r a regs. set regs r (flat mem a 4 0)) n r a regs

unfoldable pub spilled_at : List ℕ → ℕ → ℕ → ℕ → List ℕ → List ℕ
spilled_at regs n r a mem = words four_on (λ r a mem. flat_put mem a 4 (get_or regs r 0)) n r a mem
