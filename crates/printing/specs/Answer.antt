-- The whole answer: STOP, the registers that are not zero, START, the page words that were altered.
use Rattle.std.specs.Prelude.{List, [], ◌∷◌, ◌++◌, ℕ, suc, ◌-◌, eqb, length, replicate}
use Rattle.words.specs.Pick.{pick}
use Rattle.printing.specs.declared.Text.{Text}
use Rattle.printing.specs.Lines.{stop_line, reg_line, start_line, page_line}

-- register n, where it holds v
unfoldable pub reg_part : ℕ → ℕ → List ℕ
reg_part n v = pick (eqb v 0) [] (reg_line n v)

-- page n, whose word was b and is a
unfoldable pub page_part : ℕ → ℕ → ℕ → List ℕ
page_part n b a = pick (eqb b a) [] (page_line n a)

-- the registers from number n on
unfoldable pub regs_from : ℕ → List ℕ → List ℕ
regs_from n [] = []
regs_from n (v ∷ vs) = reg_part n v ++ regs_from (suc n) vs

-- the pages from number n on: their words at the start, and at the end
unfoldable pub pages_from : ℕ → List ℕ → List ℕ → List ℕ
pages_from n [] after = []
pages_from n (b ∷ bs) [] = []
pages_from n (b ∷ bs) (a ∷ after) = page_part n b a ++ pages_from (suc n) bs after

-- `regs` are the registers at the end, `before` and `after` the page words at the start and at the end
unfoldable pub answer_text : (number place count pc code mask : ℕ) → (regs before after : List ℕ) → List ℕ
answer_text number place count pc code mask regs before after =
    stop_line number place count ++ regs_from 0 regs ++ start_line pc code mask ++ pages_from 0 before after

-- a text in its buffer: zeros follow it
unfoldable pub text_of : List ℕ → Text
text_of l = record { bytes = l ++ replicate (8192 - length l) 0; len = length l }
