-- M D: the word at the operand's address, and what is made of it and the pair, in the terms that `pair` has in hand at each way out.
use Prim.Native.Nat.{ℕ, ◌+◌, ◌%◌, ◌≤◌}
use native.Mathlib.Omega.{arith}
use mathlib.Core.Path.{◌≡◌, refl, ◌∙◌, ap}
use mathlib.Core.List.{List}
use lib.ListN.{length}
use Rattle.words.specs.declared.PairOp.{PairOp}
use Rattle.words.specs.Wide.{pair_of}
use Rattle.pages.specs.declared.Access.TheVariants.{Load}
use Rattle.pages.specs.declared.Refusal.{Refusal}
use Rattle.pages.specs.Look.{Look, At}
use Rattle.pages.specs.Framed.{Framed, framed_of, accessed_at}
use Rattle.code.specs.declared.Width.TheVariants.{Word}
use Rattle.code.specs.declared.RxFields.{RxFields}
use Rattle.code.specs.declared.RxAction.TheVariants.{PairAndWord}
use Rattle.fields.specs.Direct.{look_one, note_field, read_field, flat}
use Rattle.fields.proofs.Found.{found_inside, found_read, found_note, aligned_fits}
use Rattle.machine.specs.Prog.{Prog, interp}
use Rattle.machine.specs.Run.{Result, one}
use Rattle.machine.specs.Store.{framed}
use Rattle.machine.specs.Fields.{loading}
use Rattle.machine.specs.Cpu.{Cpu}
use Rattle.machine.specs.Pairs.{pair, into_pair}
use Rattle.machine.specs.Rx.{rx, rx_address}
use Rattle.actions.specs.declared.Now.{Now}
use Rattle.std.specs.Prelude.{Ok, Err}
use Rattle.actions.specs.declared.Stop.{Stop}
use Rattle.actions.specs.declared.Stop.TheVariants.{Boundary}
use Rattle.actions.specs.Answered.{Out, cpu_of, told, doing, AnswersTo, refusal_of}
use Rattle.actions.proofs.Executed.{answered, operand_off, operand_stop, operand_go, operand_refused, loaded, loaded_in_vain}
use Rattle.actions.proofs.OnPairs.{odd_pair, even_pair, stop_answers}

-- a word that was found can be read there
pub word_room : (mem map : List ℕ) (a i y : ℕ) (found : Look) → a % 4 ≡ 0 → found ≡ look_one map (length mem) Load a 4 → found ≡ At i y
    → i + 4 ≤ length mem
word_room mem map a i y found on e ef = found_inside mem map Load a 4 i y found e ef (omega arith) (aligned_fits Word a on)

module _ (regs : List ℕ) (c : Now) (mem map : List ℕ) (op : PairOp) (f : RxFields) where
  -- what is made of the operand v
  abbrev made : ℕ → Prog Cpu
  made v = into_pair (pair_of op (pair (cpu_of regs c) f.r1) v) 4 f.r1 (cpu_of regs c)

  pub pair_odd : (f.r1 % 2 ≡ 0 → ⊥)
      → told (Err (Boundary c.pc)) regs c (framed_of mem map) ≡ doing (rx (PairAndWord op) f) regs c (framed_of mem map)
  unfolding rx
  pair_odd l =
      answered regs regs c (Err (Boundary c.pc)) _ (framed_of mem map)
      (stop_answers (Boundary c.pc) regs _ (odd_pair f.r1 (cpu_of regs c) _ l))

  -- R1 is even, and a is the operand's address
  module _ (even : f.r1 % 2 ≡ 0) (a : ℕ) (ea : a ≡ rx_address f (cpu_of regs c)) where
    abbrev wanted : Result Cpu Framed
    wanted = doing (rx (PairAndWord op) f) regs c (framed_of mem map)

    comes : (x : Result Cpu Framed)
        → x ≡ one (cpu_of regs c) (interp framed (loading 4 a made) (framed_of mem map) (framed_of mem map)) → x ≡ wanted
    unfolding rx
    comes x e =
        e
        ∙ ap (λ (p : Prog Cpu). one (cpu_of regs c) (interp framed p (framed_of mem map) (framed_of mem map)))
        (ap (λ (b : ℕ). loading 4 b made) ea ∙ even_pair f.r1 (cpu_of regs c) _ even)

    pub pair_off : (a % 4 ≡ 0 → ⊥) → told (Err (Boundary a)) regs c (framed_of mem map) ≡ wanted
    unfolding loading
    pair_off l = comes _ (operand_off regs c mem map 4 a Load 4 _ l)

    module _ (on : a % 4 ≡ 0) (found : Look) (e : found ≡ look_one map (length mem) Load a 4) where
      pub pair_unfound : (out : Stop) (q : Refusal) → out ≡ refusal_of q → found ≡ Err q
          → told (Err out) regs c (framed_of mem map) ≡ wanted
      unfolding loading
      pair_unfound out q eo ef = comes _ (operand_stop regs c mem map 4 a Load 4 _ tt on found e out q (omega arith) eo ef)

      -- b is the operand, found at i, and o the answer for it
      module _ (i y : ℕ) (ef : found ≡ At i y) (b : ℕ) (eb : b ≡ flat mem i 4 0) (o : Out) (regs' : List ℕ) (h : AnswersTo o regs regs' (made b)) where
        the_word : (map' : List ℕ) → map' ≡ note_field map a 4 → b ≡ read_field (framed_of mem map') a 4 0
        the_word map' em = eb ∙ found_read mem map Load a 4 i y found e ef (omega arith) (aligned_fits Word a on) map' em

        pub pair_done : (n : Now) (map' : List ℕ) → o ≡ Ok n → map' ≡ accessed_at map a
            → told (Ok n) regs' c (framed_of mem map') ≡ wanted
        unfolding loading AnswersTo
        pair_done n map' eo ea' =
            let em = found_note mem map Load a 4 i y found e ef (omega arith) (aligned_fits Word a on) map' ea' in
            let k = rw eo at h in
            comes _
            (operand_go regs c mem map 4 a Load 4 _ tt on found e i y map' regs' _ n ef em
            (loaded regs' n _ _ a 4 made (k ∙ ap made (the_word map' em))))

        pub pair_refused : (p : Stop) → o ≡ Err p → told (Err p) regs' c (framed_of mem map) ≡ wanted
        unfolding loading AnswersTo
        pair_refused p eo =
            let k = rw eo at h in
            rw (k.1)
            (comes _
            (operand_refused regs c mem map 4 a Load 4 _ tt on found e i y (note_field map a 4) p ef refl
            (loaded_in_vain _ _ a 4 _ _ made (k.0 ∙ ap made (the_word (note_field map a 4) refl)))))
