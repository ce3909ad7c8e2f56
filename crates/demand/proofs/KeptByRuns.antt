-- What marks and stores keep, every run keeps. The same induction as for two stores: a store beside itself.
use Prim.Native.Nat.{ℕ}
use mathlib.Core.Path.{◌≡◌, refl, sym, ◌∙◌, ap}
use mathlib.Core.Logic.{◌≢◌}
use mathlib.Core.Bool.{Bool, true, false}
use mathlib.Core.List.{List}
use lib.Dec.{ltb}
use lib.ListN.{length, get_or, set, length-set}
use lib.Seq.{get_or-set_other}
use Rattle.pages.specs.declared.Access.{Access}
use Rattle.pages.specs.declared.Access.TheVariants.{Store}
use Rattle.pages.specs.declared.Cause.TheVariants.{Addressing}
use Rattle.words.specs.Pick.{pick}
use Rattle.pages.specs.Word.{real, page_of, disp_of, word_of, Writable, accessed, written}
use Rattle.pages.specs.Tests.{Verdict, fine, bad, tests}
use Rattle.pages.specs.Look.{At, Refused, reach, look_of, test_seven}
use Rattle.pages.specs.Framed.{Framed, framed_of, accessed_at, written_at, write_at, write_byte}
use Rattle.machine.specs.Prog.{Prog, Ops, interp}
use Rattle.machine.specs.Run.{one, run}
use Rattle.machine.specs.Store.{framed}
use Rattle.demand.specs.DemandThree.{Unwritable}
use Rattle.demand.proofs.AlikeStores.{Laws, agree, one_alike, runs_alike}
use Rattle.demand.proofs.PageWords.{size_twin, real_twin, writable_twin, accessed_twin, written_twin, passed}
use Rattle.demand.proofs.FramedAsPlain.{Twins, changed_twins}

pub record Keeps {S : Type 0} (o : Ops S) (I : S → Type 0) : Type 0 where
  pub noted : (s : S) (acc : Access) (a : ℕ) → I s → I (o.noted s acc a)
  pub wrote : (s : S) (a v : ℕ) → I s → I (o.wrote s a v)

-- a store beside itself, with what is kept
abbrev Beside : {S : Type 0} → (S → Type 0) → S → S → Type 0
Beside I s t = (s ≡ t) × I s

beside : {S : Type 0} (o : Ops S) (I : S → Type 0) → Keeps o I → Laws o o (Beside I)
beside o I k =
    record {
      looked = λ s t acc a h. ap (λ u. o.looked u acc a) h.0;
      noted = λ s t acc a h. (ap (λ u. o.noted u acc a) h.0, k.noted s acc a h.1);
      read = λ s t a h. ap (λ u. o.read u a) h.0;
      wrote = λ s t a v h. (ap (λ u. o.wrote u a v) h.0, k.wrote s a v h.1);
    }

module _ {C S : Type 0} (o : C → Ops S) (I : S → Type 0) (k : (c : C) → Keeps (o c) I) (step : C → Prog C) (c : C) (s : S) (h : I s) where
  pub run_keeps : (b : ℕ) → I (run o step b c s).held
  run_keeps b = (runs_alike (Beside I) o o (λ d. beside (o d) I (k d)) step b c s s (refl, h)).held.1

  pub step_keeps : I (one c (interp (o c) (step c) s s)).held
  step_keeps =
      (one_alike (Beside I) c (interp (o c) (step c) s s) (interp (o c) (step c) s s)
      (agree (Beside I) (beside (o c) I (k c)) (step c) s s s s (refl, h) (refl, h))
      ).held.1

-- a byte is written where all tests passed, or nothing is
pub writes_keep : (I : Framed → Type 0) (s : Framed) (a v : ℕ) → I s
    → (tests Store a (word_of s.map (page_of a)) ≡ fine
    → I (framed_of (set s.mem (real (word_of s.map (page_of a)) (disp_of a)) v) (written_at s.map a)))
    → I (write_byte s a v)
unfolding write_byte look_of
writes_keep I s a v h f = by_verdict (tests Store a word) refl
  where
    word : ℕ
    word = word_of s.map (page_of a)

    at : ℕ
    at = real (word_of s.map (page_of a)) (disp_of a)

    far : ℕ
    far = reach (word_of s.map (page_of a)) (disp_of a) (length s.mem)

    by_seventh : (b : Bool) → tests Store a word ≡ fine → I (write_at s a v (pick b (At at far) (Refused Addressing a)))
    by_seventh true e = f e
    by_seventh false e = h

    by_verdict : (t : Verdict) → tests Store a word ≡ t → I (write_at s a v (test_seven t at far (length s.mem) a))
    by_verdict fine e = by_seventh (ltb at (length s.mem)) e
    by_verdict (bad c) e = h

-- memory keeps its length, and marks alone are set in the map
pub record Laid (n : ℕ) (ws : List ℕ) (s : Framed) : Type 0 where
  pub long : length s.mem ≡ n
  pub words : Twins s.map ws

pub layout_kept : (n : ℕ) (ws : List ℕ) → Keeps framed (Laid n ws)
unfolding accessed_at written_at
layout_kept n ws =
    record {
      noted =
          λ s acc a h. record {
            long = h.long;
            words = λ p. changed_twins accessed accessed_twin (page_of a) s.map p ∙ h.words p;
          };
      wrote =
          λ s a v h. writes_keep (Laid n ws) s a v h
          (λ e. record {
            long = length-set s.mem (real (word_of s.map (page_of a)) (disp_of a)) v ∙ h.long;
            words = λ p. changed_twins written written_twin (page_of a) s.map p ∙ h.words p;
          });
    }

-- a byte that lies in no open, writable page is never written
pub byte_kept : (x v : ℕ) (n : ℕ) (ws : List ℕ) → Unwritable ws x → Keeps framed (λ s. Laid n ws s × (get_or s.mem x 0 ≡ v))
byte_kept x v n ws u =
    record {
      noted = λ s acc a h. ((layout_kept n ws).noted s acc a h.0, h.1);
      wrote =
          λ s a b h. (
            (layout_kept n ws).wrote s a b h.0,
            writes_keep (λ t. get_or t.mem x 0 ≡ v) s a b h.1 (λ e. elsewhere s a b h.0 e ∙ h.1),
          );
    }
  where
    elsewhere : (s : Framed) (a b : ℕ) → Laid n ws s → tests Store a (word_of s.map (page_of a)) ≡ fine
        → get_or (set s.mem (real (word_of s.map (page_of a)) (disp_of a)) b) x 0 ≡ get_or s.mem x 0
    elsewhere s a b h e =
        let w = word_of s.map (page_of a) in
        let w₀ = word_of ws (page_of a) in
        let t = h.words (page_of a) in
        let ok = passed Store a w e in
        let free : Writable w = record { open_page = ok.open_page; e = ok.free refl } in
        let apart : real w (disp_of a) ≢ x =
        rw (real_twin w w₀ t (disp_of a))
        (u (page_of a) (disp_of a) (writable_twin w w₀ t free) (rw (size_twin w w₀ t) at ok.near)) in
        get_or-set_other s.mem (real w (disp_of a)) x b 0 (λ k. apart (sym k))
