-- What the answer of Multiply and Divide says in the papers' terms it says once.
use mathlib.Core.Path.{◌≡◌, refl, sym, ◌∙◌, ap}
use mathlib.Core.List.{List, [], ◌∷◌}
use Prim.Native.Nat.{ℕ}
use Rattle.std.specs.Prelude.{Ok, Err}
use Rattle.words.specs.Said.{Said}
use Rattle.words.specs.Wide.{Paired, no_quotient, paired_says}

-- the one double word, or none
abbrev as_paired : List ℕ → Paired
as_paired [] = no_quotient
as_paired (v ∷ vs) = Ok v

back : (p : Paired) → as_paired (paired_says p).values ≡ p
back (Ok v) = refl
back (Err e) = refl

pub paired_once : (p q : Paired) → paired_says p ≡ paired_says q → p ≡ q
paired_once p q e = sym (back p) ∙ ap (λ (s : Said (List ℕ)). as_paired s.values) e ∙ back q
