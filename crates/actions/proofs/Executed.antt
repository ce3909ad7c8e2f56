-- What an executor answers is what its program comes to: a law for each way out, in the terms that the code has in hand there.
use Prim.Native.Nat.{ℕ, ◌+◌, ◌<◌, ◌≤◌, ◌%◌}
use native.Mathlib.Omega.{arith}
use mathlib.Core.Path.{◌≡◌, sym, ◌∙◌, ap}
use mathlib.Core.List.{List, [], ◌∷◌}
use lib.ListN.{length, get_or, set}
use Rattle.pages.specs.declared.Access.{Access}
use Rattle.pages.specs.declared.Refusal.{Refusal}
use Rattle.pages.specs.Tests.{number_of}
use Rattle.pages.specs.Look.{Look, At, look_of}
use Rattle.pages.specs.Framed.{Framed, framed_of, accessed_at}
use Rattle.machine.specs.Prog.{Prog, done, fail, look, Answer, finished, refused, interp}
use Rattle.machine.specs.Run.{one}
use Rattle.machine.specs.Fields.{looks, gets, puts, moves, compares, aligned, bytes_of}
use Rattle.machine.specs.Store.{framed}
use Rattle.machine.proofs.Operands.{ForOperand}
use Rattle.machine.specs.Cpu.{Cpu, reg, with_res, onward, ahead}
use Rattle.machine.specs.Rr.{rr}
use Rattle.machine.specs.Rx.{width_of, taken}
use Rattle.code.specs.declared.RrAction.{RrAction}
use Rattle.code.specs.declared.RrFields.{RrFields}
use Rattle.code.specs.Formats.{rr_of}
use Rattle.words.specs.declared.Res.{Res}
use Rattle.code.specs.declared.Operand.{Operand}
use Rattle.code.specs.declared.Operand.TheVariants.{ByteInserted}
use Rattle.code.specs.declared.Width.{Width}
use Rattle.fields.specs.declared.Field.{Field}
use Rattle.fields.specs.Direct.{look_fields, look_one, note_field, read_field, write_field, move_field, compare_field, flat}
use Rattle.fields.proofs.Bridge.{gets_is, puts_is, moves_is, compares_is}
use Rattle.actions.specs.declared.Now.{Now}
use Rattle.std.specs.Prelude.{Ok, Err}
use Rattle.actions.specs.declared.Stop.{Stop}
use Rattle.actions.specs.declared.Stop.TheVariants.{Boundary}
use Rattle.actions.specs.Answered.{Out, number, place, cpu_of, told, AnswersTo, refusal_of}
use Rattle.actions.proofs.Stops.{handed_on}
use Rattle.actions.proofs.Looks.{one_stop, one_go, byte_stop, byte_go, two_is, off_boundary, on_boundary}

-- a program that does no more than set the state
pub no_storage : (regs regs' : List ℕ) (c n : Now) (p : Prog Cpu) (s : Framed) → done (cpu_of regs' n) ≡ p
    → told (Ok n) regs' c s ≡ one (cpu_of regs c) (interp framed p s s)
unfolding told interp
no_storage regs regs' c n p s e = ap (λ (q : Prog Cpu). one (cpu_of regs c) (interp framed q s s)) e

-- the same of an answer that may be a refusal
pub answered : (regs regs' : List ℕ) (c : Now) (o : Out) (p : Prog Cpu) (s : Framed) → AnswersTo o regs regs' p
    → told o regs' c s ≡ one (cpu_of regs c) (interp framed p s s)
unfolding told interp AnswersTo
answered regs regs' c (Ok n) p s e = no_storage regs regs' c n p s e
answered regs regs' c (Err k) p s (e, f) = rw (f, ← e)

-- the state and the store that a program ends in
ends : (regs regs' : List ℕ) (c n : Now) (p : Prog Cpu) (s s' : Framed) → interp framed p s s ≡ finished (cpu_of regs' n) s'
    → told (Ok n) regs' c s' ≡ one (cpu_of regs c) (interp framed p s s)
unfolding told
ends regs regs' c n p s s' e = ap (one (cpu_of regs c)) (sym e)

stops : (regs : List ℕ) (c : Now) (k : Stop) (p : Prog Cpu) (s : Framed) → interp framed p s s ≡ refused (number k) (place k) s
    → told (Err k) regs c s ≡ one (cpu_of regs c) (interp framed p s s)
unfolding told
stops regs c k p s e = ap (one (cpu_of regs c)) (sym e)

-- a refusal that is handed on
hands_on : (regs : List ℕ) (c : Now) (p : Prog Cpu) (s : Framed) (out : Stop) (q : Refusal)
    → out ≡ refusal_of q → interp framed p s s ≡ refused (number_of q.cause) q.place s
    → told (Err out) regs c s ≡ one (cpu_of regs c) (interp framed p s s)
hands_on regs c p s out q eo e = rw eo (stops regs c (refusal_of q) p s (e ∙ sym (handed_on q.cause q.place s)))

module _ (regs : List ℕ) (c : Now) (mem map : List ℕ) where
  -- an operand on a boundary of w, m bytes from a
  module _ (w a : ℕ) (acc : Access) (m : ℕ) (k : Prog Cpu) where
    pub operand_off : (a % w ≡ 0 → ⊥)
        → told (Err (Boundary a)) regs c (framed_of mem map)
        ≡ one (cpu_of regs c) (interp framed (aligned w a (looks acc a m k)) (framed_of mem map) (framed_of mem map))
    unfolding interp
    operand_off h =
        stops regs c (Boundary a) (aligned w a (looks acc a m k)) (framed_of mem map)
        (ap (λ (p : Prog Cpu). interp framed p (framed_of mem map) (framed_of mem map)) (off_boundary w a (looks acc a m k) h))

    module _ (op : ForOperand acc) (h : a % w ≡ 0) (found : Look) (e : found ≡ look_one map (length mem) acc a m) where
      pub operand_stop : (out : Stop) (q : Refusal) → 0 < m → out ≡ refusal_of q → found ≡ Err q
          → told (Err out) regs c (framed_of mem map)
          ≡ one (cpu_of regs c) (interp framed (aligned w a (looks acc a m k)) (framed_of mem map) (framed_of mem map))
      operand_stop out q l eo ef =
          hands_on regs c (aligned w a (looks acc a m k)) (framed_of mem map) out q eo
          (ap (λ (p : Prog Cpu). interp framed p (framed_of mem map) (framed_of mem map)) (on_boundary w a (looks acc a m k) h)
          ∙ one_stop acc op a m k mem map (framed_of mem map) q.cause q.place (sym e ∙ ef) l)

      -- found, what comes after the look-ups decides
      pub operand_comes : (r y : ℕ) (map' : List ℕ) (x : Answer Cpu Framed) → found ≡ At r y → map' ≡ note_field map a m
          → interp framed k (framed_of mem map) (framed_of mem map') ≡ x
          → interp framed (aligned w a (looks acc a m k)) (framed_of mem map) (framed_of mem map) ≡ x
      operand_comes r y map' x ef em ek =
          ap (λ (p : Prog Cpu). interp framed p (framed_of mem map) (framed_of mem map)) (on_boundary w a (looks acc a m k) h)
          ∙ one_go acc op a m k mem map (framed_of mem map) r y (sym e ∙ ef)
          ∙ ap (λ (y : List ℕ). interp framed k (framed_of mem map) (framed_of mem y)) (sym em)
          ∙ ek

      pub operand_go : (r y : ℕ) (map' regs' : List ℕ) (t : Framed) (next : Now) → found ≡ At r y → map' ≡ note_field map a m
          → interp framed k (framed_of mem map) (framed_of mem map') ≡ finished (cpu_of regs' next) t
          → told (Ok next) regs' c t
          ≡ one (cpu_of regs c) (interp framed (aligned w a (looks acc a m k)) (framed_of mem map) (framed_of mem map))
      operand_go r y map' regs' t next ef em ek =
          ends regs regs' c next (aligned w a (looks acc a m k)) (framed_of mem map) t (operand_comes r y map' _ ef em ek)

      -- refused after all, by what comes after the look-ups: the operand's mark is not kept
      pub operand_refused : (r y : ℕ) (map' : List ℕ) (n : Stop) → found ≡ At r y → map' ≡ note_field map a m
          → interp framed k (framed_of mem map) (framed_of mem map') ≡ refused (number n) (place n) (framed_of mem map)
          → told (Err n) regs c (framed_of mem map)
          ≡ one (cpu_of regs c) (interp framed (aligned w a (looks acc a m k)) (framed_of mem map) (framed_of mem map))
      operand_refused r y map' n ef em ek =
          stops regs c n (aligned w a (looks acc a m k)) (framed_of mem map) (operand_comes r y map' _ ef em ek)

  -- one byte
  module _ (acc : Access) (op : ForOperand acc) (a : ℕ) (k : Prog Cpu) (found : Look) (e : found ≡ look_of map (length mem) acc a) where
    pub byte_no : (out : Stop) (q : Refusal) → out ≡ refusal_of q → found ≡ Err q
        → told (Err out) regs c (framed_of mem map) ≡ one (cpu_of regs c) (interp framed (look acc a k) (framed_of mem map) (framed_of mem map))
    byte_no out q eo ef =
        hands_on regs c (look acc a k) (framed_of mem map) out q eo
        (byte_stop acc op a k mem map (framed_of mem map) q.cause q.place (sym e ∙ ef))

    pub byte_yes : (r y : ℕ) (map' : List ℕ) (t : Framed) (next : Now) → found ≡ At r y → map' ≡ accessed_at map a
        → interp framed k (framed_of mem map) (framed_of mem map') ≡ finished (cpu_of regs next) t
        → told (Ok next) regs c t ≡ one (cpu_of regs c) (interp framed (look acc a k) (framed_of mem map) (framed_of mem map))
    byte_yes r y map' t next ef em ek =
        ends regs regs c next (look acc a k) (framed_of mem map) t
        (byte_go acc op a k mem map (framed_of mem map) r y (sym e ∙ ef)
        ∙ ap (λ (m : List ℕ). interp framed k (framed_of mem map) (framed_of mem m)) (sym em)
        ∙ ek)

  -- two fields
  module _ (f g : Field) (op : ForOperand f.access) (op' : ForOperand g.access) (k : Prog Cpu) (h : 0 < f.len) (found : Look) (e : found ≡ look_fields map (length mem) (f ∷ g ∷ []) (look_of map (length mem) f.access f.at)) where
    pub two_no : (out : Stop) (q : Refusal) → out ≡ refusal_of q → found ≡ Err q
        → told (Err out) regs c (framed_of mem map)
        ≡ one (cpu_of regs c) (interp framed (looks f.access f.at f.len (looks g.access g.at g.len k)) (framed_of mem map) (framed_of mem map))
    two_no out q eo ef =
        hands_on regs c (looks f.access f.at f.len (looks g.access g.at g.len k)) (framed_of mem map) out q eo
        (two_is f g op op' k mem map (framed_of mem map) h found e ∙ rw ef)

    pub two_yes : (r y : ℕ) (map' map'' : List ℕ) (t : Framed) (next : Now) → found ≡ At r y
        → map' ≡ note_field map f.at f.len → map'' ≡ note_field map' g.at g.len
        → interp framed k (framed_of mem map) (framed_of mem map'') ≡ finished (cpu_of regs next) t
        → told (Ok next) regs c t
        ≡ one (cpu_of regs c) (interp framed (looks f.access f.at f.len (looks g.access g.at g.len k)) (framed_of mem map) (framed_of mem map))
    two_yes r y map' map'' t next ef em en ek =
        ends regs regs c next (looks f.access f.at f.len (looks g.access g.at g.len k)) (framed_of mem map) t
        (two_is f g op op' k mem map (framed_of mem map) h found e
        ∙ rw ef
        (ap (λ (m : List ℕ). interp framed k (framed_of mem map) (framed_of mem (note_field m g.at g.len))) (sym em)
        ∙ ap (λ (m : List ℕ). interp framed k (framed_of mem map) (framed_of mem m)) (sym en)
        ∙ ek))

-- a load's last state
pub taken_done : (regs regs' : List ℕ) (c : Now) (op : Operand) (r x n a p : ℕ) (res : Res ℕ) (s : Framed) → n ≡ bytes_of (width_of op)
    → res ≡ taken op x (read_field s a (bytes_of (width_of op)) 0) c.code → x ≡ get_or regs r 0 → regs' ≡ set regs r res.value
    → p ≡ ahead (cpu_of regs c) 4
    → done (cpu_of regs' (record { pc = p; code = res.code; mask = c.mask }))
    ≡ done (with_res (onward (cpu_of regs c) 4) r (taken op (reg (cpu_of regs c) r) (read_field s a n 0) c.code))
unfolding reg
taken_done regs regs' c op r x n a p res s en er ex eg ep = rw (eg, er, ex, ep, en)

-- what follows the look-ups: bytes read, written, moved, compared
pub loaded : (regs : List ℕ) (next : Now) (kept s : Framed) (a n : ℕ) (k : ℕ → Prog Cpu) → done (cpu_of regs next) ≡ k (read_field s a n 0)
    → interp framed (gets a n 0 k) kept s ≡ finished (cpu_of regs next) s
unfolding interp
loaded regs next kept s a n k ek =
    gets_is a n 0 k kept s ∙ ap (λ (p : Prog Cpu). interp framed p kept s) (sym ek)

pub loaded_in_vain : (kept s : Framed) (a n p q : ℕ) (k : ℕ → Prog Cpu) → fail p q ≡ k (read_field s a n 0)
    → interp framed (gets a n 0 k) kept s ≡ refused p q kept
unfolding interp
loaded_in_vain kept s a n p q k ek = gets_is a n 0 k kept s ∙ ap (λ (x : Prog Cpu). interp framed x kept s) (sym ek)

pub stored : (regs : List ℕ) (next : Now) (kept s t : Framed) (a n v : ℕ) (k : Prog Cpu) → t ≡ write_field s a n v → done (cpu_of regs next) ≡ k
    → interp framed (puts a n v k) kept s ≡ finished (cpu_of regs next) t
unfolding interp
stored regs next kept s t a n v k et ek =
    puts_is a n v k kept s
    ∙ ap (λ (u : Framed). interp framed k kept u) (sym et)
    ∙ ap (λ (p : Prog Cpu). interp framed p kept t) (sym ek)

pub moved : (regs : List ℕ) (next : Now) (kept s t : Framed) (a b n : ℕ) (k : Prog Cpu) → t ≡ move_field s a b n → done (cpu_of regs next) ≡ k
    → interp framed (moves a b n k) kept s ≡ finished (cpu_of regs next) t
unfolding interp
moved regs next kept s t a b n k et ek =
    moves_is a b n k kept s
    ∙ ap (λ (u : Framed). interp framed k kept u) (sym et)
    ∙ ap (λ (p : Prog Cpu). interp framed p kept t) (sym ek)

pub compared : (regs : List ℕ) (next : Now) (kept s : Framed) (a b n v : ℕ) (k : ℕ → Prog Cpu) → v ≡ compare_field s a b n
    → done (cpu_of regs next) ≡ k v → interp framed (compares a b n k) kept s ≡ finished (cpu_of regs next) s
unfolding interp
compared regs next kept s a b n v k ev ek =
    compares_is a b n k kept s
    ∙ ap (λ (x : ℕ). interp framed (k x) kept s) (sym ev)
    ∙ ap (λ (p : Prog Cpu). interp framed p kept s) (sym ek)

-- an operand that was read where it was found
pub taken_at_lem : (op : Operand) (w : Width) (x code i a : ℕ) (mem : List ℕ) (s : Framed) (res : Res ℕ) → w ≡ width_of op
    → res ≡ taken op x (flat mem i (bytes_of (width_of op)) 0) code → flat mem i (bytes_of w) 0 ≡ read_field s a (bytes_of w) 0
    → res ≡ taken op x (read_field s a (bytes_of (width_of op)) 0) code
taken_at_lem op w x code i a mem s res ew er k =
    let j : flat mem i (bytes_of (width_of op)) 0 ≡ read_field s a (bytes_of (width_of op)) 0 = rw ew at k in
    er ∙ ap (λ (v : ℕ). taken op x v code) j

pub take_room : (op o : Operand) → op ≡ o → (r n : ℕ) → r + bytes_of (width_of op) ≤ n → r + bytes_of (width_of o) ≤ n
take_room op o e r n h = rw e at h

pub take_byte_room : (op : Operand) → op ≡ ByteInserted → (r n : ℕ) → r + bytes_of (width_of op) ≤ n → r < n
take_byte_room op e r n h = let k : r + 1 ≤ n = rw e at h in omega arith

-- the fields of an RR instruction, split where they are used
pub rr_split : (x : RrAction) (f : RrFields) (h : ℕ) (c : Cpu) (p : Prog Cpu) → f ≡ rr_of h → p ≡ rr x f c → p ≡ rr x (rr_of h) c
rr_split x f h c p e k = k ∙ ap (λ (g : RrFields). rr x g c) e
