-- What a refusal is, by its number and place; and a look-up's, handed on.
use Prim.Native.Nat.{ℕ, zero, suc}
use mathlib.Core.Path.{◌≡◌, refl, sym, ◌∙◌, ap}
use Rattle.pages.specs.declared.Cause.{Cause}
use Rattle.pages.specs.declared.Cause.TheVariants as cause
use Rattle.pages.specs.Tests.{number_of}
use Rattle.machine.specs.Prog.{Answer, refused}
use Rattle.actions.specs.declared.Stop.{Stop}
use Rattle.actions.specs.declared.Stop.TheVariants.{Addressing, Boundary, PagingQueue, PagingError, Unknown, Divide}
use Rattle.actions.specs.Answered.{number, place, stop_of}

pub handed_on : {R S : Type 0} (c : Cause) (a : ℕ) (s : S)
    → ◌≡◌ {A = Answer R S} (refused (number (stop_of c a)) (place (stop_of c a)) s) (refused (number_of c) a s)
handed_on cause.Addressing a s = refl
handed_on cause.PagingQueue a s = refl
handed_on cause.PagingError a s = refl

-- number and place say which refusal it is
unfoldable pub numbered : ℕ → ℕ → Stop
numbered (suc zero) a = Addressing a
numbered (suc (suc zero)) a = Boundary a
numbered (suc (suc (suc zero))) a = PagingQueue a
numbered (suc (suc (suc (suc zero)))) a = PagingError a
numbered (suc (suc (suc (suc (suc zero))))) a = Unknown a
numbered n a = Divide a

pub numbered_is : (k : Stop) → numbered (number k) (place k) ≡ k
unfolding numbered
numbered_is (Addressing a) = refl
numbered_is (Boundary a) = refl
numbered_is (PagingQueue a) = refl
numbered_is (PagingError a) = refl
numbered_is (Unknown a) = refl
numbered_is (Divide a) = refl

pub same_stop : (k l : Stop) → number k ≡ number l → place k ≡ place l → k ≡ l
same_stop k l n p = sym (numbered_is k) ∙ ap (λ (m : ℕ). numbered m (place k)) n ∙ ap (numbered (number l)) p ∙ numbered_is l
