-- The window: what holds of it every step keeps, and in it the text needs no look-up and the page no mark.
use Prim.Native.Nat.{ℕ, ◌+◌, ◌-◌, ◌*◌, ◌<◌, ◌≤◌}
use native.Mathlib.Omega.{arith}
use native.Mathlib.Decide.{ℕ_discrete, dec_lt}
use mathlib.Core.Path.{◌≡◌, refl, sym, ◌∙◌, ap, subst}
use mathlib.Core.Bool.{Bool, true}
use mathlib.Core.List.{List}
use borrow.Author.Tests.{eqb-true, leb-true, ltb-true}
use lib.Dec.{eqb, leb, ltb}
use lib.ListN.{length, get_or, set}
use lib.Seq.{get_or-set_same, get_or-set_other, set_out}
use Rattle.pages.specs.declared.Access.TheVariants.{Fetch, Store}
use Rattle.pages.specs.Word.{bit_g, word_of, page_of, accessed, written}
use Rattle.pages.specs.Tests.{Verdict, fine, bad}
use Rattle.pages.specs.Look.{Look, At, look_of, verdict_of}
use Rattle.pages.specs.Framed.{Framed, framed_of, accessed_at, written_at, look_in, noted, read_byte, write_byte, write_at}
use Rattle.words.proofs.Tests.{left_of_lem, right_of_lem}
use Rattle.pages.proofs.LookLaws.{found_small}
use Rattle.pages.proofs.ReachLaws.{reach_behind, reach_fits, reach_page}
use Rattle.pages.proofs.Marks.{changed, accessed_quiet, written_quiet, word_quiet}
use Rattle.lookup.proofs.HasMarks.{seen_marked}
use Rattle.machine.specs.Prog.{Prog, done, fail, look, get, put, finished, keeps, after, interp}
use Rattle.machine.specs.Store.{framed}
use Rattle.machine.specs.Step.{step}
use Rattle.actions.specs.declared.Now.{Now}
use Rattle.std.specs.Prelude.{Ok, Err}
use Rattle.actions.specs.Answered.{Out, cpu_of, told, doing}
use Rattle.quick.specs.declared.Window.{Window}
use Rattle.engine.specs.Entry.{Held, Ready, inside}
use Rattle.engine.proofs.Runs.{was_done}

-- what marks keep of a page's word, every program keeps
module _ (P : ℕ → Type 0) (pa : (w : ℕ) → P w → P (accessed w)) (pw : (w : ℕ) → P w → P (written w)) (q : ℕ) where
  changed_has : (f : ℕ → ℕ) → ((w : ℕ) → P w → P (f w)) → (map : List ℕ) (p : ℕ) → P (word_of map q) → P (word_of (changed f p map) q)
  unfolding word_of
  changed_has f k map p h = same (ℕ_discrete q p)
    where
      in_map : q ≡ p → Dec (p < length map) → P (get_or (set map p (f (get_or map p 0))) q 0)
      in_map e (yes l) =
          subst P
          (sym (ap (λ (x : ℕ). get_or (set map p (f (get_or map p 0))) x 0) e ∙ get_or-set_same map p (f (get_or map p 0)) 0 l))
          (k (get_or map p 0) (subst (λ (x : ℕ). P (get_or map x 0)) e h))
      in_map e (no l) =
          let o : length map ≤ p = omega arith in
          subst P (sym (ap (λ (m : List ℕ). get_or m q 0) (set_out map p (f (get_or map p 0)) o))) h

      same : Dec (q ≡ p) → P (get_or (set map p (f (get_or map p 0))) q 0)
      same (yes e) = in_map e (dec_lt p (length map))
      same (no e) = subst P (sym (get_or-set_other map p q (f (get_or map p 0)) 0 e)) h

  wrote_has : (s : Framed) (a v : ℕ) → P (word_of s.map q) → P (word_of (write_byte s a v).map q)
  unfolding write_byte written_at
  wrote_has s a v h = go (look_in s Store a)
    where
      go : (l : Look) → P (word_of (write_at s a v l).map q)
      go (Ok t) = changed_has written pw s.map (page_of a) h
      go (Err e) = h

  pub kept_by : {R : Type 0} (p : Prog R) (kept s : Framed) (r : R) (t : Framed) → interp framed p kept s ≡ finished r t
      → P (word_of s.map q) → P (word_of t.map q)
  unfolding interp accessed_at
  kept_by (done x) kept s r t e h = let z : s ≡ t = cc in subst (λ (u : Framed). P (word_of u.map q)) z h
  kept_by (fail n a) kept s r t e h = absurd (let z : ◌≡◌ {A = ℕ} 0 1 = cc in omega arith)
  kept_by (look acc a p) kept s r t e h =
      go (verdict_of (look_in s acc a)) e (λ k. kept_by p (keeps framed acc a kept) (noted s a) r t k (changed_has accessed pa s.map (page_of a) h))
    where
      go : (v : Verdict) → after v (λ u. interp framed p (keeps framed acc a kept) u) (noted s a) a kept ≡ finished r t
          → (interp framed p (keeps framed acc a kept) (noted s a) ≡ finished r t → P (word_of t.map q)) → P (word_of t.map q)
      go fine k later = later k
      go (bad c) k later = absurd (let z : ◌≡◌ {A = ℕ} 0 1 = cc in omega arith)
  kept_by (get a p) kept s r t e h = kept_by (p (read_byte s a)) kept s r t e h
  kept_by (put a v p) kept s r t e h = kept_by p kept (write_byte s a v) r t e (wrote_has s a v h)

-- a page in a window stays in it
accessed_seen : (w : ℕ) → bit_g (accessed w) ≡ 1
unfolding accessed bit_g
accessed_seen w = omega arith

written_seen : (w : ℕ) → bit_g (written w) ≡ bit_g w
unfolding written bit_g
written_seen w = omega arith

held_accessed : (first len b size w : ℕ) → Held first len b w size → Held first len b (accessed w) size
held_accessed first len b size w h =
    record { far = h.far; found = word_quiet accessed accessed_quiet size Fetch first w ∙ h.found; room = h.room; seen = accessed_seen w }

held_written : (first len b size w : ℕ) → Held first len b w size → Held first len b (written w) size
held_written first len b size w h =
    record { far = h.far; found = word_quiet written written_quiet size Fetch first w ∙ h.found; room = h.room; seen = written_seen w ∙ h.seen }

-- after a step
module _ (w : Window) (mem map : List ℕ) (ready : Ready w map (length mem)) (regs : List ℕ) (c : Now) where
  pub ready_after : (out : Out) (n : Now) (regs' mem' map' : List ℕ)
      → told out regs' c (framed_of mem' map') ≡ doing step regs c (framed_of mem map) → out ≡ Ok n → length mem' ≡ length mem → Ready w map' (length mem')
  unfolding told
  ready_after out n regs' mem' map' t o e =
      λ l. subst (λ (x : ℕ). Held w.first w.len w.base (word_of map' (page_of w.first)) x) (sym e) (still_held (ready l))
    where
      ended : interp framed (step (cpu_of regs c)) (framed_of mem map) (framed_of mem map) ≡ finished (cpu_of regs' n) (framed_of mem' map')
      ended =
          was_done (cpu_of regs c) (interp framed (step (cpu_of regs c)) (framed_of mem map) (framed_of mem map)) (cpu_of regs' n) (framed_of mem' map')
          (ap (λ (y : Out). told y regs' c (framed_of mem' map')) (sym o) ∙ t)

      still_held : Held w.first w.len w.base (word_of map (page_of w.first)) (length mem) → Held w.first w.len w.base (word_of map' (page_of w.first)) (length mem)
      still_held =
          kept_by (λ (x : ℕ). Held w.first w.len w.base x (length mem)) (held_accessed w.first w.len w.base (length mem)) (held_written w.first w.len w.base (length mem)) (page_of w.first) (step (cpu_of regs c)) (framed_of mem map) (framed_of mem map) (cpu_of regs' n) (framed_of mem' map') ended

-- in the window
module _ (w : Window) (mem map : List ℕ) (ready : Ready w map (length mem)) (pc : ℕ) (b : Bool) (eb : b ≡ inside w pc) (t : b ≡ true) where
  pub not_before : w.first ≤ pc
  not_before = leb-true w.first pc (left_of_lem (leb w.first pc) (ltb (pc - w.first) w.len) (sym eb ∙ t))

  pub not_past : pc - w.first < w.len
  not_past = ltb-true (pc - w.first) w.len (right_of_lem (leb w.first pc) (ltb (pc - w.first) w.len) (sym eb ∙ t))

  open_now : 0 < w.len
  open_now = omega (arith, not_past)

  pub held : Held w.first w.len w.base (word_of map (page_of w.first)) (length mem)
  held = ready open_now

  first_found : look_of map (length mem) Fetch w.first ≡ At w.base held.far
  unfolding look_of
  first_found = held.found

  -- what is reached from the window's first byte
  reached : pc - w.first < held.far
  reached = omega (arith, not_past, held.room)

  there : w.first + (pc - w.first) ≡ pc
  there = omega (arith, not_before)

  pub window_found : look_of map (length mem) Fetch pc ≡ At (w.base + (pc - w.first)) (held.far - (pc - w.first))
  window_found =
      ap (look_of map (length mem) Fetch) (sym there)
      ∙ reach_behind map (length mem) Fetch w.first w.base held.far first_found (pc - w.first) reached

  pub window_six : 6 ≤ held.far - (pc - w.first)
  window_six = omega (arith, not_past, held.room)

  pub window_small : w.base + w.len ≤ 270336
  window_small =
      omega
      (arith, held.room, found_small map (length mem) Fetch w.first (At w.base held.far) w.base held.far (sym first_found) refl, reach_fits map (length mem) Fetch w.first w.base held.far first_found)

  -- the page has its mark
  pub window_marked : map ≡ accessed_at map pc
  window_marked =
      seen_marked map pc (page_of w.first)
      (ap page_of (sym there) ∙ reach_page map (length mem) Fetch w.first w.base held.far first_found (pc - w.first) reached)
      held.seen

-- opened
pub open_ready : (map : List ℕ) (size page first len : ℕ) (s : Bool) (found : Look) (r k : ℕ) → first ≡ page * 4096
    → s ≡ eqb (bit_g (word_of map page)) 1 → s ≡ true → found ≡ look_of map size Fetch first → found ≡ At r k → len + 5 ≤ k
    → Ready (record { first = first; len = len; base = r }) map size
unfolding look_of
open_ready map size page first len s found r k ef es ts el f room =
    λ l. record { far = k; found = sym el ∙ f; room = room; seen = ap (λ (x : ℕ). bit_g (word_of map x)) at_page ∙ eqb-true (bit_g (word_of map page)) 1 (sym es ∙ ts) }
  where
    at_page : page_of first ≡ page
    at_page = unfold page_of in omega (arith, ef)
