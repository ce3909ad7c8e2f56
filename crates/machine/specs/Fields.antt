-- Programs over a field of bytes. Byte addresses wrap at 2^24, each alone; integers are big-endian.
use Rattle.std.specs.Prelude.{ℕ, zero, suc, ◌+◌, ◌*◌, ◌/◌, ◌%◌, ◌^◌, eqb}
use Rattle.words.specs.Pick.{pick}
use Rattle.words.specs.Codes.{compare_bits}
use Rattle.pages.specs.declared.Access.{Access}
use Rattle.pages.specs.declared.Access.TheVariants.{Fetch, Load, Store}
use Rattle.pages.specs.Word.{next}
use Rattle.code.specs.declared.Width.{Width}
use Rattle.code.specs.declared.Width.TheVariants.{Word, Half, Byte}
use Rattle.machine.specs.Prog.{Prog, fail, look, get, put}

-- look n bytes up, from a onward
unfoldable pub looks : {R : Type 0} → Access → ℕ → ℕ → Prog R → Prog R
looks acc a zero k = k
looks acc a (suc n) k = look acc a (looks acc (next a) n k)

-- the integer of the n bytes from a, behind what v holds already
unfoldable pub gets : {R : Type 0} → ℕ → ℕ → ℕ → (ℕ → Prog R) → Prog R
gets a zero v k = k v
gets a (suc n) v k = get a (λ b. gets (next a) n (v * 256 + b) k)

-- the low n bytes of v, to the bytes from a
unfoldable pub puts : {R : Type 0} → ℕ → ℕ → ℕ → Prog R → Prog R
puts a zero v k = k
puts a (suc n) v k = put a (v / 256 ^ n % 256) (puts (next a) n v k)

-- n bytes from b to a, one after the other, left to right (document 01's house rule for all overlap)
unfoldable pub moves : {R : Type 0} → ℕ → ℕ → ℕ → Prog R → Prog R
moves a b zero k = k
moves a b (suc n) k = get b (λ v. put a v (moves (next a) (next b) n k))

-- the code of n bytes at a against n bytes at b, by the first two that differ (001, L4764)
unfoldable pub compares : {R : Type 0} → ℕ → ℕ → ℕ → (ℕ → Prog R) → Prog R
compares a b zero k = k 0
compares a b (suc n) k =
    get a (λ x. get b (λ y. pick (eqb x y) (compares (next a) (next b) n k) (k (compare_bits x y))))

-- words lie on multiples of 4, halfwords on multiples of 2, else number 2 at the operand address
abbrev pub bytes_of : Width → ℕ
bytes_of Word = 4
bytes_of Half = 2
bytes_of Byte = 1

abbrev pub aligned : {R : Type 0} → ℕ → ℕ → Prog R → Prog R
aligned n a k = pick (eqb (a % n) 0) k (fail 2 a)

-- an operand of n bytes that is loaded, and one that is stored: boundary, look-up, then the bytes
unfoldable pub loading : {R : Type 0} → ℕ → ℕ → (ℕ → Prog R) → Prog R
loading n a k = aligned n a (looks Load a n (gets a n 0 k))

unfoldable pub storing : {R : Type 0} → ℕ → ℕ → ℕ → Prog R → Prog R
storing n a v k = aligned n a (looks Store a n (puts a n v k))

-- a halfword of the instruction
unfoldable pub halfword : {R : Type 0} → ℕ → (ℕ → Prog R) → Prog R
halfword a k = looks Fetch a 2 (gets a 2 0 k)
