-- How a step can end: done with a state in range, or refused with one of demand 1's numbers; and then the store is as it was, but for G on
-- the pages from which a halfword was fetched.
use Prim.Native.Nat.{ℕ, ◌+◌, ◌*◌, ◌%◌}
use native.Mathlib.Omega.{arith}
use native.Mathlib.Nat.{zero-add}
use mathlib.Core.Path.{◌≡◌, refl, ◌∙◌, ap}
use mathlib.Core.Bool.{Bool, true, false}
use mathlib.Core.List.{List, [], ◌∷◌}
use borrow.Author.Tests.{eqb-false}
use lib.Dec.{eqb}
use lib.ListN.{length}
use Rattle.std.specs.Prelude.{Option, Some, None, Ok, Err}
use Rattle.words.specs.Pick.{pick, both}
use Rattle.pages.specs.declared.Access.TheVariants.{Fetch}
use Rattle.pages.specs.Word.{next}
use Rattle.pages.specs.Look.{Look, At, verdict_of}
use Rattle.pages.specs.Framed.{Framed, framed_of, look_in, noted, read_byte}
use Rattle.pages.proofs.Marks.{accessed_again}
use Rattle.code.specs.declared.Action.{Action}
use Rattle.code.specs.declared.Action.TheVariants.{Rr, Rx, Rs, Si, Ss}
use Rattle.code.specs.Table.{action_of}
use Rattle.code.specs.Formats.{op_of, rr_of, rx_of, rs_of, si_of, ss_of}
use Rattle.machine.specs.Prog.{Prog, fail, interp}
use Rattle.machine.specs.Fields.{halfword}
use Rattle.machine.specs.Store.{framed}
use Rattle.machine.specs.Cpu.{Cpu, ahead}
use Rattle.machine.specs.Rr.{rr}
use Rattle.machine.specs.Rx.{rx}
use Rattle.machine.specs.Rs.{rs}
use Rattle.machine.specs.Si.{si}
use Rattle.machine.specs.Ss.{ss}
use Rattle.machine.specs.Step.{act, known, step}
use Rattle.machine.proofs.MarksLast.{blind, read_noted}
use Rattle.machine.proofs.Fetches.{half_refused, half_fetched}
use Rattle.demand.specs.FetchedFrom.{is_found, halfword_at, halfwords_of, up_to_refused, fetched_in, all_accessed}
use Rattle.demand.proofs.ActionEnds.{Sound, Came, came, caused, two, five, rr_ends, rx_ends, rs_ends, si_ends, ss_ends}
use Rattle.demand.proofs.HalfwordFound.{found_page, second_found}

-- the store with G on the pages of these addresses
abbrev pub marked : Framed → List ℕ → Framed
marked s bs = framed_of s.mem (all_accessed s.map bs)

-- no look-up sees a mark: what can be fetched before it can be fetched after it
up_to_blind : (s : Framed) (b : ℕ) (bs : List ℕ) → up_to_refused (noted s b) bs ≡ up_to_refused s bs
unfolding up_to_refused
up_to_blind s b [] = refl
up_to_blind s b (a ∷ bs) = rw (blind s b Fetch a, blind s b Fetch (next a), up_to_blind s b bs)

-- a halfword on its boundary, and what follows it
module _ (s : Framed) (a : ℕ) (even : a % 2 ≡ 0) (size : length s.mem % 2 ≡ 0) (k : ℕ → Prog Cpu) (bs : List ℕ) where
  -- fetched, it has marked its one page
  went_on : (r j : ℕ) → look_in s Fetch a ≡ At r j
      → interp framed (halfword a k) s s ≡ interp framed (k (halfword_at s a)) (noted s a) (noted s a)
  went_on r j e =
      half_fetched framed a k s (ap verdict_of e)
      (ap verdict_of (blind s a Fetch (next a) ∙ second_found s a even size r j e))
      ∙ ap (λ (h : ℕ). interp framed (k h) (noted (noted s a) (next a)) (noted (noted s a) (next a))) value
      ∙ ap (λ (t : Framed). interp framed (k (halfword_at s a)) t t) one_mark
    where
      one_mark : noted (noted s a) (next a) ≡ noted s a
      one_mark = ap (framed_of s.mem) (accessed_again s.map a (next a) (found_page s a even size r j e))

      byte : (b : ℕ) → read_byte (noted (noted s a) (next a)) b ≡ read_byte s b
      byte b = read_noted (noted s a) (next a) b ∙ read_noted s a b

      value : (0 * 256 + read_byte (noted (noted s a) (next a)) a) * 256 + read_byte (noted (noted s a) (next a)) (next a) ≡ halfword_at s a
      value = rw (byte a, byte (next a), zero-add (read_byte s a))

  pub half_came : Came Sound (marked (noted s a) (up_to_refused (noted s a) bs)) (interp framed (k (halfword_at s a)) (noted s a) (noted s a))
      → Came Sound (marked s (up_to_refused s (a ∷ bs))) (interp framed (halfword a k) s s)
  unfolding up_to_refused all_accessed
  half_came h = go (look_in s Fetch a) refl
    where
      go : (l : Look) → look_in s Fetch a ≡ l
          → Came Sound (marked s (pick (both (is_found l) (is_found (look_in s Fetch (next a)))) (a ∷ up_to_refused s bs) [])) (interp framed (halfword a k) s s)
      go (Err f) e = rw (half_refused framed a k s f.cause (ap verdict_of e)) (caused f.cause, refl)
      go (Ok t) e = rw (second_found s a even size t.at t.reach e, went_on t.at t.reach e, ← up_to_blind s a bs) h

-- the halfwords after the first
abbrev further : Option Action → Cpu → List ℕ
further None c = []
further (Some (Rr x)) c = []
further (Some (Rx x)) c = ahead c 2 ∷ []
further (Some (Rs x)) c = ahead c 2 ∷ []
further (Some (Si x)) c = ahead c 2 ∷ []
further (Some (Ss x)) c = ahead c 2 ∷ ahead c 4 ∷ []

first_of : (f : Option Action) (c : Cpu) → halfwords_of f c ≡ c.pc ∷ further f c
first_of None c = refl
first_of (Some (Rr x)) c = refl
first_of (Some (Rx x)) c = refl
first_of (Some (Rs x)) c = refl
first_of (Some (Si x)) c = refl
first_of (Some (Ss x)) c = refl

module _ (c : Cpu) (h : Sound c) (even : c.pc % 2 ≡ 0) where
  ahead_even : (n : ℕ) → n % 2 ≡ 0 → ahead c n % 2 ≡ 0
  unfolding ahead
  ahead_even n e = omega arith

  -- an instruction of four bytes: its second halfword, and then an action that fetches nothing
  two_halves : (s : Framed) → length s.mem % 2 ≡ 0 → (k : ℕ → Prog Cpu)
      → ((h2 : ℕ) → Came Sound (noted s (ahead c 2)) (interp framed (k h2) (noted s (ahead c 2)) (noted s (ahead c 2))))
      → Came Sound (marked s (up_to_refused s (ahead c 2 ∷ []))) (interp framed (halfword (ahead c 2) k) s s)
  unfolding up_to_refused all_accessed
  two_halves s size k rest =
      half_came s (ahead c 2) (ahead_even 2 (omega arith)) size k [] (rest (halfword_at s (ahead c 2)))

  known_came : (f : Option Action) (h1 : ℕ) (s : Framed) → length s.mem % 2 ≡ 0
      → Came Sound (marked s (up_to_refused s (further f c))) (interp framed (known f h1 c) s s)
  unfolding act interp up_to_refused all_accessed
  known_came None h1 s size = (five, refl)
  known_came (Some (Rr x)) h1 s size = came framed Sound s (rr x (rr_of h1) c) s (rr_ends c h x (rr_of h1))
  known_came (Some (Rx x)) h1 s size =
      two_halves s size (λ h2. rx x (rx_of h1 h2) c) (λ h2. came framed Sound _ (rx x (rx_of h1 h2) c) _ (rx_ends c h x (rx_of h1 h2)))
  known_came (Some (Rs x)) h1 s size =
      two_halves s size (λ h2. rs x (rs_of h1 h2) c) (λ h2. came framed Sound _ (rs x (rs_of h1 h2) c) _ (rs_ends c h x (rs_of h1 h2)))
  known_came (Some (Si x)) h1 s size =
      two_halves s size (λ h2. si x (si_of h1 h2) c) (λ h2. came framed Sound _ (si x (si_of h1 h2) c) _ (si_ends c h x (si_of h1 h2)))
  known_came (Some (Ss x)) h1 s size =
      half_came s (ahead c 2) (ahead_even 2 (omega arith)) size (λ h2. halfword (ahead c 4) (λ h3. ss x (ss_of h1 h2 h3) c)) (ahead c 4 ∷ [])
      (third (halfword_at s (ahead c 2)) (noted s (ahead c 2)) size)
    where
      third : (h2 : ℕ) (t : Framed) → length t.mem % 2 ≡ 0
          → Came Sound (marked t (up_to_refused t (ahead c 4 ∷ []))) (interp framed (halfword (ahead c 4) (λ h3. ss x (ss_of h1 h2 h3) c)) t t)
      third h2 t size =
          half_came t (ahead c 4) (ahead_even 4 (omega arith)) size (λ h3. ss x (ss_of h1 h2 h3) c) []
          (came framed Sound _ (ss x (ss_of h1 h2 (halfword_at t (ahead c 4))) c) _ (ss_ends c h x _))

pub step_leaves : (c : Cpu) (s : Framed) → Sound c → length s.mem % 2 ≡ 0 → Came Sound (marked s (fetched_in s c)) (interp framed (step c) s s)
unfolding step fetched_in interp all_accessed
step_leaves c s h size = go (eqb (c.pc % 2) 1) refl
  where
    f : Option Action
    f = action_of (op_of (halfword_at s c.pc))

    go : (b : Bool) → eqb (c.pc % 2) 1 ≡ b
        → Came Sound (marked s (pick b [] (up_to_refused s (halfwords_of f c)))) (interp framed (pick b (fail 2 c.pc) (halfword c.pc (λ h1. known (action_of (op_of h1)) h1 c))) s s)
    go true e = (two, refl)
    go false e =
        let even : c.pc % 2 ≡ 0 = omega (arith, eqb-false (c.pc % 2) 1 e) in
        rw (first_of f c)
        (half_came s c.pc even size (λ h1. known (action_of (op_of h1)) h1 c) (further f c) (known_came c h even f (halfword_at s c.pc) (noted s c.pc) size))
