-- The mark of a page that was accessed may be set when all is done: for every program, completed or refused, a mark before is a mark
-- after.
use Prim.Native.Nat.{ℕ}
use mathlib.Core.Path.{◌≡◌, refl, sym, ◌∙◌, ap}
use mathlib.Core.List.{List}
use lib.ListN.{length, set}
use Rattle.std.specs.Prelude.{Ok, Err}
use Rattle.pages.specs.declared.Access.{Access}
use Rattle.pages.specs.declared.Access.TheVariants.{Fetch, Load, Store}
use Rattle.pages.specs.Word.{accessed, written, page_of}
use Rattle.pages.specs.Tests.{Verdict, fine, bad}
use Rattle.pages.specs.Look.{Look, verdict_of}
use Rattle.pages.specs.Framed.{Framed, framed_of, accessed_at, written_at, look_in, noted, read_at, read_byte, write_at, write_byte}
use Rattle.pages.proofs.Marks.{accessed_quiet, look_quiet, changed_comm, accessed_written}
use Rattle.machine.specs.Prog.{Prog, done, fail, look, get, put, Answer, finished, refused, keeps, after, interp}
use Rattle.machine.specs.Store.{framed}

-- no look-up sees a mark
pub blind : (s : Framed) (a : ℕ) (acc : Access) (b : ℕ) → look_in (noted s a) acc b ≡ look_in s acc b
unfolding accessed_at
blind s a acc b = look_quiet accessed accessed_quiet s.map (page_of a) (length s.mem) acc b

-- two marks, in either order
pub noted_noted : (s : Framed) (a b : ℕ) → noted (noted s a) b ≡ noted (noted s b) a
unfolding accessed_at
noted_noted s a b =
    ap (framed_of s.mem) (changed_comm accessed accessed (λ w. refl) (page_of b) (page_of a) s.map)

pub read_noted : (s : Framed) (a b : ℕ) → read_byte (noted s a) b ≡ read_byte s b
unfolding read_byte
read_noted s a b = ap (read_at s.mem) (blind s a Load b)

pub written_noted : (map : List ℕ) (a b : ℕ) → written_at (accessed_at map a) b ≡ accessed_at (written_at map b) a
unfolding accessed_at written_at
written_noted map a b = changed_comm written accessed (λ w. sym (accessed_written w)) (page_of b) (page_of a) map

pub wrote_noted : (s : Framed) (a b v : ℕ) → write_byte (noted s a) b v ≡ noted (write_byte s b v) a
unfolding write_byte
wrote_noted s a b v = ap (write_at (noted s a) b v) (blind s a Store b) ∙ at_look (look_in s Store b)
  where
    at_look : (l : Look) → write_at (noted s a) b v l ≡ noted (write_at s b v l) a
    at_look (Ok t) = ap (framed_of (set s.mem t.at v)) (written_noted s.map a b)
    at_look (Err e) = refl

-- the store that a program leaves, changed
abbrev pub on_store : {R S : Type 0} → (S → S) → Answer R S → Answer R S
on_store f (finished r s) = finished r (f s)
on_store f (refused n a s) = refused n a (f s)

after_store : {R : Type 0} (v : Verdict) (go go' : Framed → Answer R Framed) (f : Framed → Framed) (s s' : Framed) (a : ℕ) (kept : Framed)
    → go s ≡ on_store f (go' s') → after v go s a (f kept) ≡ on_store f (after v go' s' a kept)
after_store fine go go' f s s' a kept h = h
after_store (bad c) go go' f s s' a kept h = refl

-- what a refusal keeps of a look, and a mark, in either order
keeps_noted : (acc : Access) (a b : ℕ) (kept : Framed) → keeps framed acc b (noted kept a) ≡ noted (keeps framed acc b kept) a
keeps_noted Fetch a b kept = noted_noted kept a b
keeps_noted Load a b kept = refl
keeps_noted Store a b kept = refl

pub late : {R : Type 0} (a : ℕ) (p : Prog R) (kept s : Framed)
    → interp framed p (noted kept a) (noted s a) ≡ on_store (λ t. noted t a) (interp framed p kept s)
unfolding interp
late a (done r) kept s = refl
late a (fail n b) kept s = refl
late a (look acc b p) kept s =
    ap
    (λ (l : Look). after (verdict_of l) (λ t. interp framed p (keeps framed acc b (noted kept a)) t) (noted (noted s a) b) b (noted kept a))
    (blind s a acc b)
    ∙ after_store
    (verdict_of (look_in s acc b))
    (λ t. interp framed p (keeps framed acc b (noted kept a)) t)
    (λ t. interp framed p (keeps framed acc b kept) t)
    (λ t. noted t a)
    (noted (noted s a) b)
    (noted s b)
    b
    kept
    (ap (λ (k : Framed). interp framed p k (noted (noted s a) b)) (keeps_noted acc a b kept)
    ∙ ap (λ (t : Framed). interp framed p (noted (keeps framed acc b kept) a) t) (noted_noted s a b)
    ∙ late a p (keeps framed acc b kept) (noted s b))
late a (get b p) kept s =
    ap (λ (v : ℕ). interp framed (p v) (noted kept a) (noted s a)) (read_noted s a b) ∙ late a (p (read_byte s b)) kept s
late a (put b v p) kept s =
    ap (λ (t : Framed). interp framed p (noted kept a) t) (wrote_noted s a b v) ∙ late a p kept (write_byte s b v)
