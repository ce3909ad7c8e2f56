-- What the marks of a list of addresses come to: page by page; set twice they are set once; and no step sees them.
use Prim.Native.Nat.{ℕ, ◌<◌}
use native.Mathlib.Omega.{arith}
use mathlib.Core.Path.{◌≡◌, refl, sym, ◌∙◌, ap}
use mathlib.Core.Logic.{◌≢◌, ◌⊎◌, inl, inr}
use mathlib.Core.List.Memᴰ
use mathlib.Core.List.{List, [], ◌∷◌, Memᴰ}
use lib.ListN.{length, length-set}
use lib.Seq.{get_or-set_same, get_or-set_other}
use Rattle.pages.specs.Word.{page_of, word_of, accessed}
use Rattle.pages.specs.Framed.{Framed, accessed_at, noted}
use Rattle.pages.proofs.Marks.{changed_keeps, changed_comm, accessed_again}
use Rattle.machine.specs.Prog.{Prog, Answer, finished, refused, interp}
use Rattle.machine.specs.Store.{framed}
use Rattle.machine.proofs.MarksLast.{late, on_store}
use Rattle.machine.specs.Machine.{Given, Outcome, cpu_in, store_in}
use Rattle.demand.specs.FetchedFrom.{fetched_in, all_accessed, left_by}
use Rattle.demand.specs.DemandOne.{handed}
use Rattle.demand.proofs.StepLeaves.{marked}

-- one more mark, before the others or after them
mark_comm : (map : List ℕ) (a b : ℕ) → accessed_at (accessed_at map a) b ≡ accessed_at (accessed_at map b) a
unfolding accessed_at
mark_comm map a b = changed_comm accessed accessed (λ w. refl) (page_of b) (page_of a) map

one_more_lem : (map : List ℕ) (a : ℕ) (bs : List ℕ) → accessed_at (all_accessed map bs) a ≡ all_accessed (accessed_at map a) bs
unfolding all_accessed
one_more_lem map a [] = refl
one_more_lem map a (b ∷ bs) = one_more_lem (accessed_at map b) a bs ∙ ap (λ (m : List ℕ). all_accessed m bs) (mark_comm map b a)

pub marked_again : (map : List ℕ) (bs : List ℕ) → all_accessed (all_accessed map bs) bs ≡ all_accessed map bs
unfolding all_accessed
marked_again map [] = refl
marked_again map (a ∷ bs) =
    ap (λ (m : List ℕ). all_accessed m bs) (one_more_lem (accessed_at map a) a bs ∙ ap (λ (m : List ℕ). all_accessed m bs) (accessed_again map a a refl))
    ∙ marked_again (accessed_at map a) bs

-- a program that starts with these marks ends as without them, and with them
on_store_twice : {R : Type 0} (f g : Framed → Framed) (x : Answer R Framed) → on_store g (on_store f x) ≡ on_store (λ t. g (f t)) x
on_store_twice f g (finished r s) = refl
on_store_twice f g (refused n a s) = refl

on_store_same : {R : Type 0} (x : Answer R Framed) → x ≡ on_store (λ t. t) x
on_store_same (finished r s) = refl
on_store_same (refused n a s) = refl

pub late_all : {R : Type 0} (bs : List ℕ) (p : Prog R) (kept s : Framed)
    → interp framed p (marked kept bs) (marked s bs) ≡ on_store (λ t. marked t bs) (interp framed p kept s)
unfolding all_accessed
late_all [] p kept s = on_store_same (interp framed p kept s)
late_all (a ∷ bs) p kept s =
    late_all bs p (noted kept a) (noted s a)
    ∙ ap (on_store (λ (t : Framed). marked t bs)) (late a p kept s)
    ∙ on_store_twice (λ (t : Framed). noted t a) (λ (t : Framed). marked t bs) (interp framed p kept s)

-- page by page: a page of none of the addresses has its word as it was, a page of one has G besides
pub other_page : (map bs : List ℕ) (p : ℕ) → ((a : ℕ) → Memᴰ a bs → page_of a ≢ p) → word_of (all_accessed map bs) p ≡ word_of map p
unfolding all_accessed accessed_at word_of
other_page map [] p h = refl
other_page map (a ∷ bs) p h =
    other_page (accessed_at map a) bs p (λ b m. h b (Memᴰ.tail m))
    ∙ get_or-set_other map (page_of a) p (accessed (word_of map (page_of a))) 0 (λ e. h a (Memᴰ.head refl) (sym e))

accessed_twice : (w : ℕ) → accessed (accessed w) ≡ accessed w
unfolding accessed
accessed_twice w = omega arith

-- a mark more makes no difference to a word that gets the mark
all_accessed_lem : (map bs : List ℕ) (p : ℕ) → accessed (word_of (all_accessed map bs) p) ≡ accessed (word_of map p)
unfolding all_accessed accessed_at
all_accessed_lem map [] p = refl
all_accessed_lem map (b ∷ bs) p =
    all_accessed_lem (accessed_at map b) bs p ∙ changed_keeps accessed accessed accessed_twice map (page_of b) p

all_long : (map bs : List ℕ) → length (all_accessed map bs) ≡ length map
unfolding all_accessed accessed_at
all_long map [] = refl
all_long map (b ∷ bs) = all_long (accessed_at map b) bs ∙ length-set map (page_of b) (accessed (word_of map (page_of b)))

pub marked_page : (map bs : List ℕ) (a : ℕ) → Memᴰ a bs → page_of a < length map
    → word_of (all_accessed map bs) (page_of a) ≡ accessed (word_of map (page_of a))
unfolding all_accessed accessed_at
marked_page map [] a m l = absurd (Memᴰ.not-nil m)
marked_page map (b ∷ bs) a m l =
    go (Memᴰ.cases_cons m)
    (λ k. marked_page (accessed_at map b) bs a k (rw (length-set map (page_of b) (accessed (word_of map (page_of b)))) l))
  where
    here : word_of (accessed_at (all_accessed map bs) a) (page_of a) ≡ accessed (word_of (all_accessed map bs) (page_of a))
    here =
        unfold word_of in
        get_or-set_same (all_accessed map bs) (page_of a) (accessed (word_of (all_accessed map bs) (page_of a))) 0 (rw (all_long map bs) l)

    go : (a ≡ b) ⊎ Memᴰ a bs
        → (Memᴰ a bs → word_of (all_accessed (accessed_at map b) bs) (page_of a) ≡ accessed (word_of (accessed_at map b) (page_of a)))
        → word_of (all_accessed (accessed_at map b) bs) (page_of a) ≡ accessed (word_of map (page_of a))
    go (inl e) later =
        ap (λ (x : ℕ). word_of (all_accessed (accessed_at map x) bs) (page_of a)) (sym e)
        ∙ ap (λ (m : List ℕ). word_of m (page_of a)) (sym (one_more_lem map a bs))
        ∙ here
        ∙ all_accessed_lem map bs (page_of a)
    go (inr k) later = later k ∙ changed_keeps accessed accessed accessed_twice map (page_of b) (page_of a)

-- the same of what a refusal hands back (demand 1's `trace`): the word of a page from which no halfword was fetched, and of one from which
-- one was
module _ (g : Given) (o : Outcome) (left : handed o ≡ left_by g) where
  left_map : o.map ≡ all_accessed g.map (fetched_in (store_in g) (cpu_in g))
  unfolding left_by
  left_map = ap (λ (h : Given). h.map) left

  pub left_other : (p : ℕ) → ((a : ℕ) → Memᴰ a (fetched_in (store_in g) (cpu_in g)) → page_of a ≢ p) → word_of o.map p ≡ word_of g.map p
  left_other p h = ap (λ (m : List ℕ). word_of m p) left_map ∙ other_page g.map (fetched_in (store_in g) (cpu_in g)) p h

  pub left_marked : (a : ℕ) → Memᴰ a (fetched_in (store_in g) (cpu_in g)) → page_of a < length g.map
      → word_of o.map (page_of a) ≡ accessed (word_of g.map (page_of a))
  left_marked a m l = ap (λ (x : List ℕ). word_of x (page_of a)) left_map ∙ marked_page g.map (fetched_in (store_in g) (cpu_in g)) a m l
