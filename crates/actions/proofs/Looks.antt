-- A program that begins by looking operands up: what it comes to, by the answer of the field look-up.
use Prim.Native.Nat.{ℕ, zero, suc, ◌<◌, ◌%◌}
use native.Mathlib.Omega.{arith}
use mathlib.Core.Path.{◌≡◌, refl, sym, ◌∙◌, ap}
use mathlib.Core.List.{List, [], ◌∷◌}
use borrow.Author.Tests.{eq-eqb, ne_eqb}
use lib.ListN.{length}
use Rattle.std.specs.Prelude.{Ok, Err}
use Rattle.pages.specs.declared.Access.{Access}
use Rattle.pages.specs.declared.Cause.{Cause}
use Rattle.pages.specs.declared.Refusal.{Refusal}
use Rattle.pages.specs.Word.{next}
use Rattle.pages.specs.Tests.{number_of}
use Rattle.pages.specs.Look.{Look, At, Refused, look_of}
use Rattle.pages.specs.Framed.{Framed, framed_of, accessed_at}
use Rattle.pages.proofs.LookLaws.{refused_place, same_refusal}
use Rattle.machine.specs.Prog.{Prog, fail, look, refused, interp}
use Rattle.machine.specs.Fields.{looks, aligned}
use Rattle.machine.specs.Store.{framed}
use Rattle.machine.proofs.Operands.{ForOperand, keeps_none}
use Rattle.fields.specs.declared.Field.{Field}
use Rattle.fields.specs.Direct.{or_else, look_field, look_fields, look_one, note_field}
use Rattle.fields.proofs.Bridge.{after_look, looks_is, field_blind}

-- a field's look-up is its own refusal, or what comes next
pub field_cases : (map : List ℕ) (size : ℕ) (acc : Access) (a n : ℕ) (rest : Look) (r : ℕ)
    → look_field map size acc a n rest ≡ or_else (look_field map size acc a n (At r 0)) rest
unfolding look_field
field_cases map size acc a zero rest r = refl
field_cases map size acc a (suc n) rest r = go (look_of map size acc a) (field_cases map size acc (next a) n rest r)
  where
    go : (l : Look)
        → look_field map size acc (next a) n rest ≡ or_else (look_field map size acc (next a) n (At r 0)) rest
        → or_else l (look_field map size acc (next a) n rest) ≡ or_else (or_else l (look_field map size acc (next a) n (At r 0))) rest
    go (Ok s) ih = ih
    go (Err e) ih = refl

-- the first byte of a field that is clear is found
first_found : (map : List ℕ) (size : ℕ) (acc : Access) (a n : ℕ) (rest : Look) (r k : ℕ) → 0 < n
    → look_field map size acc a n rest ≡ At r k → (x : ℕ) × (y : ℕ) × (look_of map size acc a ≡ At x y)
unfolding look_field
first_found map size acc a zero rest r k h e = absurd (omega arith)
first_found map size acc a (suc n) rest r k h e = go (look_of map size acc a) refl e
  where
    go : (l : Look) → look_of map size acc a ≡ l → or_else l (look_field map size acc (next a) n rest) ≡ At r k
        → (x : ℕ) × (y : ℕ) × (look_of map size acc a ≡ At x y)
    go (Ok s) f e = (s.at, s.reach, f)
    go (Err refusal) f e = absurd (let z : ◌≡◌ {A = ℕ} 0 1 = cc in omega arith)

module _ {R : Type 0} (acc : Access) (op : ForOperand acc) (a n : ℕ) (k : Prog R) (mem map : List ℕ) (kept : Framed) where
  pub one_stop : (c : Cause) (p : ℕ) → look_one map (length mem) acc a n ≡ Refused c p → 0 < n
      → interp framed (looks acc a n k) kept (framed_of mem map) ≡ refused (number_of c) p kept
  unfolding look_one
  one_stop c p e h = looks_is acc op a n k kept (framed_of mem map) 0 ∙ go (look_field map (length mem) acc a n (At 0 0)) refl
    where
      go : (l : Look) → look_field map (length mem) acc a n (At 0 0) ≡ l
          → after_look l (λ t. interp framed k kept t) (framed_of mem (note_field map a n)) kept ≡ refused (number_of c) p kept
      go (Err refusal) f =
          let j : ◌≡◌ {A = Look} (Err refusal) (Refused c p) = ap (λ (l : Look). or_else l (look_of map (length mem) acc a)) (sym f) ∙ sym (field_cases map (length mem) acc a n (look_of map (length mem) acc a) 0) ∙ e in
          ap (λ (g : Refusal). refused (number_of g.cause) g.place kept) (same_refusal j)
      go (Ok s) f =
          let t = first_found map (length mem) acc a n (At 0 0) s.at s.reach h f in
          let j : look_of map (length mem) acc a ≡ Refused c p = ap (λ (l : Look). or_else l (look_of map (length mem) acc a)) (sym f) ∙ sym (field_cases map (length mem) acc a n (look_of map (length mem) acc a) 0) ∙ e in
          absurd (let z : ◌≡◌ {A = ℕ} 0 1 = cc t.2 in omega arith)

  pub one_go : (r y : ℕ) → look_one map (length mem) acc a n ≡ At r y
      → interp framed (looks acc a n k) kept (framed_of mem map) ≡ interp framed k kept (framed_of mem (note_field map a n))
  unfolding look_one
  one_go r y e = looks_is acc op a n k kept (framed_of mem map) 0 ∙ go (look_field map (length mem) acc a n (At 0 0)) refl
    where
      go : (l : Look) → look_field map (length mem) acc a n (At 0 0) ≡ l
          → after_look l (λ t. interp framed k kept t) (framed_of mem (note_field map a n)) kept ≡ interp framed k kept (framed_of mem (note_field map a n))
      go (Ok s) f = refl
      go (Err refusal) f =
          let j : ◌≡◌ {A = Look} (Err refusal) (At r y) = ap (λ (l : Look). or_else l (look_of map (length mem) acc a)) (sym f) ∙ sym (field_cases map (length mem) acc a n (look_of map (length mem) acc a) 0) ∙ e in
          absurd (let z : ◌≡◌ {A = ℕ} 0 1 = cc in omega arith)

-- a single byte
module _ {R : Type 0} (acc : Access) (op : ForOperand acc) (a : ℕ) (k : Prog R) (mem map : List ℕ) (kept : Framed) where
  pub byte_stop : (c : Cause) (p : ℕ) → look_of map (length mem) acc a ≡ Refused c p
      → interp framed (look acc a k) kept (framed_of mem map) ≡ refused (number_of c) p kept
  unfolding interp
  byte_stop c p e =
      rw e (ap (λ (x : ℕ). refused (number_of c) x kept) (refused_place map (length mem) acc a c p e))

  pub byte_go : (r y : ℕ) → look_of map (length mem) acc a ≡ At r y
      → interp framed (look acc a k) kept (framed_of mem map) ≡ interp framed k kept (framed_of mem (accessed_at map a))
  unfolding interp
  byte_go r y e = rw (keeps_none framed acc op a kept, e)

-- marks of a whole field are not seen either
pub marked_blind : (mem map : List ℕ) (b m : ℕ) (acc : Access) (a n : ℕ) (rest : Look)
    → look_field (note_field map b m) (length mem) acc a n rest ≡ look_field map (length mem) acc a n rest
unfolding note_field
marked_blind mem map b zero acc a n rest = refl
marked_blind mem map b (suc m) acc a n rest =
    marked_blind mem (accessed_at map b) (next b) m acc a n rest ∙ field_blind (framed_of mem map) b acc a n rest

-- two fields
module _ {R : Type 0} (f g : Field) (op : ForOperand f.access) (op' : ForOperand g.access) (k : Prog R) (mem map : List ℕ) (kept : Framed) (h : 0 < f.len) where
  pub two_is : (found : Look) → found ≡ look_fields map (length mem) (f ∷ g ∷ []) (look_of map (length mem) f.access f.at)
      → interp framed (looks f.access f.at f.len (looks g.access g.at g.len k)) kept (framed_of mem map)
      ≡ after_look found (λ t. interp framed k kept t) (framed_of mem (note_field (note_field map f.at f.len) g.at g.len)) kept
  unfolding look_fields
  two_is found e =
      looks_is f.access op f.at f.len (looks g.access g.at g.len k) kept (framed_of mem map) 0
      ∙ first (look_field map (length mem) f.access f.at f.len (At 0 0)) refl
      ∙ sym (ap (λ (l : Look). after_look l (λ t. interp framed k kept t) (framed_of mem (note_field (note_field map f.at f.len) g.at g.len)) kept)
      (e ∙ field_cases map (length mem) f.access f.at f.len (look_field map (length mem) g.access g.at g.len (look_of map (length mem) f.access f.at)) 0))
    where
      second : (x z : ℕ) (l : Look) → look_of map (length mem) f.access f.at ≡ At x z
          → look_field map (length mem) g.access g.at g.len (At 0 0) ≡ l
          → after_look l (λ t. interp framed k kept t) (framed_of mem (note_field (note_field map f.at f.len) g.at g.len)) kept
          ≡ after_look (or_else l (look_of map (length mem) f.access f.at)) (λ t. interp framed k kept t) (framed_of mem (note_field (note_field map f.at f.len) g.at g.len)) kept
      second x z (Ok s) t q = rw t
      second x z (Err e) t q = refl

      first : (l : Look) → look_field map (length mem) f.access f.at f.len (At 0 0) ≡ l
          → after_look l (λ t. interp framed (looks g.access g.at g.len k) kept t) (framed_of mem (note_field map f.at f.len)) kept
          ≡ after_look (or_else l (look_field map (length mem) g.access g.at g.len (look_of map (length mem) f.access f.at))) (λ t. interp framed k kept t) (framed_of mem (note_field (note_field map f.at f.len) g.at g.len)) kept
      first (Err e) q = refl
      first (Ok s) q =
          let t = first_found map (length mem) f.access f.at f.len (At 0 0) s.at s.reach h q in
          looks_is g.access op' g.at g.len k kept (framed_of mem (note_field map f.at f.len)) 0
          ∙ ap (λ (l : Look). after_look l (λ u. interp framed k kept u) (framed_of mem (note_field (note_field map f.at f.len) g.at g.len)) kept)
          (marked_blind mem map f.at f.len g.access g.at g.len (At 0 0))
          ∙ second t.0 t.1 (look_field map (length mem) g.access g.at g.len (At 0 0)) t.2 refl
          ∙ ap (λ (l : Look). after_look l (λ u. interp framed k kept u) (framed_of mem (note_field (note_field map f.at f.len) g.at g.len)) kept)
          (sym (field_cases map (length mem) g.access g.at g.len (look_of map (length mem) f.access f.at) 0))

-- an operand's boundary
pub off_boundary : {R : Type 0} (n a : ℕ) (k : Prog R) → (a % n ≡ 0 → ⊥) → aligned n a k ≡ fail 2 a
off_boundary n a k h = rw (ne_eqb (a % n) 0 h)

pub on_boundary : {R : Type 0} (n a : ℕ) (k : Prog R) → a % n ≡ 0 → aligned n a k ≡ k
on_boundary n a k h = rw (eq-eqb (a % n) 0 h)
