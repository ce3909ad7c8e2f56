-- A byte's look-up: a real address and how far the look-up reaches, or a refusal with its cause and its place, which is the byte's address.
use Rattle.std.specs.Prelude.{ℕ, ◌-◌, List, [], ◌∷◌, ltb, Result, Ok, Err}
use Rattle.words.specs.Pick.{pick}
use Rattle.words.specs.Said.{Said, says}
use Rattle.pages.specs.declared.Access.{Access}
use Rattle.pages.specs.declared.Cause.{Cause}
use Rattle.pages.specs.declared.Cause.TheVariants.{Addressing}
use Rattle.pages.specs.declared.Spot.{Spot}
use Rattle.pages.specs.declared.Refusal.{Refusal}
use Rattle.pages.specs.Word.{page_of, disp_of, size, real, word_of}
use Rattle.pages.specs.Tests.{Verdict, fine, bad, number_of, tests}

-- what a look-up answers, and short names for its two cases
abbrev pub Look : Type 0
Look = Result Spot Refusal

abbrev pub spot : ℕ → ℕ → Spot
spot r k = record { at = r; reach = k }

abbrev pub At : ℕ → ℕ → Look
At r k = Ok (spot r k)

abbrev pub Refused : Cause → ℕ → Look
Refused c a = Err (record { cause = c; place = a })

-- the cases in document 01's terms: no refusal, the real address and the reach; or the refusal's number and its place
abbrev pub look_says : Look → Said (List ℕ)
look_says (Ok s) = says 0 (s.at ∷ s.reach ∷ [])
look_says (Err e) = says (number_of e.cause) (e.place ∷ [])

-- of two numbers, the one that is not above the other
abbrev pub fewer : ℕ → ℕ → ℕ
fewer x y = pick (ltb y x) y x

-- how many bytes from displacement d on lie in the same page and in a memory of n bytes: those that are left in the page, and in memory.
-- Their right is the same, since it is the page's.
unfoldable pub reach : ℕ → ℕ → ℕ → ℕ
reach w d n = fewer (size w - d) (n - real w d)

-- test 7: the real address r lies within a memory of n bytes; found there, the look-up reaches k bytes
abbrev pub test_seven : Verdict → ℕ → ℕ → ℕ → ℕ → Look
test_seven fine r k n a = pick (ltb r n) (At r k) (Refused Addressing a)
test_seven (bad c) r k n a = Refused c a

-- in a memory of n bytes, with the word of its page
abbrev pub look_with : ℕ → ℕ → Access → ℕ → Look
look_with w n acc a = test_seven (tests acc a w) (real w (disp_of a)) (reach w (disp_of a) n) n a

-- in a memory of n bytes, under this map
unfoldable pub look_of : List ℕ → ℕ → Access → ℕ → Look
look_of map n acc a = look_with (word_of map (page_of a)) n acc a

-- whether it was refused, and why
abbrev pub verdict_of : Look → Verdict
verdict_of (Ok s) = fine
verdict_of (Err e) = bad e.cause
