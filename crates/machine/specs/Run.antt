-- A run: at most a budget of steps, up to the first refusal. Its count is the number of completed steps, and what it hands back is the
-- state and the store after exactly that many; after a refusal, the store as the refused instruction left it.
use Rattle.std.specs.Prelude.{ℕ, zero, suc}
use Rattle.machine.specs.Prog.{Prog, Ops, Answer, finished, refused, interp}

pub record Result (C S : Type 0) : Type 0 where
  pub stop : ℕ
  pub place : ℕ
  pub count : ℕ
  pub cpu : C
  pub held : S

-- one step: 0 and count 1 where it completed; where it was refused, the number, the place, the state as it was and the store that the
-- refusal hands back
abbrev pub one : {C S : Type 0} → C → Answer C S → Result C S
one c (finished c' s) = record { stop = 0; place = 0; count = 1; cpu = c'; held = s }
one c (refused n a s) = record { stop = n; place = a; count = 0; cpu = c; held = s }

abbrev pub one_more : {C S : Type 0} → Result C S → Result C S
one_more r = record { stop = r.stop; place = r.place; count = suc r.count; cpu = r.cpu; held = r.held }

abbrev pub after_step : {C S : Type 0} → C → Answer C S → (C → S → Result C S) → Result C S
after_step c (finished c' s) go = one_more (go c' s)
after_step c (refused n a s) go = one c (refused n a s)

-- a store's operations go by the state (later, by its privilege)
unfoldable pub run : {C S : Type 0} → (C → Ops S) → (C → Prog C) → ℕ → C → S → Result C S
run o step zero c s = record { stop = 7; place = 0; count = 0; cpu = c; held = s }
run o step (suc b) c s = after_step c (interp (o c) (step c) s s) (λ c' s'. run o step b c' s')
