-- The quick way to a text: six bytes that one look-up reaches hold its halfwords, and their page is marked once.
use Prim.Native.Nat.{ℕ, zero, suc, ◌+◌, ◌-◌, ◌*◌, ◌%◌, ◌<◌, ◌≤◌}
use native.Mathlib.Omega.{arith}
use native.Mathlib.Nat.{add-zero}
use mathlib.Core.Path.{◌≡◌, refl, sym, ◌∙◌, ap}
use mathlib.Core.Bool.{Bool, true, false}
use mathlib.Core.List.{List}
use Rattle.std.specs.Prelude.{Ok, Err}
use lib.Dec.{ltb}
use lib.ListN.{length, get_or}
use Rattle.pages.specs.declared.Access.TheVariants.{Fetch}
use Rattle.pages.specs.declared.Refusal.{Refusal}
use Rattle.pages.specs.Word.{page_of, next}
use Rattle.pages.specs.Look.{Look, At, look_of}
use Rattle.pages.specs.Framed.{Framed, framed_of, accessed_at, noted, read_at, read_byte}
use Rattle.pages.proofs.Marks.{accessed_again}
use Rattle.pages.proofs.LookLaws.{any_load}
use Rattle.pages.proofs.ReachLaws.{reach_behind, reach_inside, reach_below, reach_fits}
use Rattle.machine.specs.Prog.{Prog, done, finished, interp}
use Rattle.machine.specs.Fields.{halfword}
use Rattle.machine.specs.Store.{framed}
use Rattle.machine.proofs.MarksLast.{blind, read_noted}
use Rattle.fields.specs.Direct.{look_field, look_one, read_field, flat}
use Rattle.fields.proofs.Bridge.{gets_is}
use Rattle.actions.specs.declared.Stop.{Stop}
use Rattle.actions.specs.Answered.{refusal_of}
use Rattle.engine.specs.Entry.{past, halves_of, half_marks, wanted_half, further_text, text, fetching, fetched}
use Rattle.engine.proofs.Halfwords.{half_comes, look_first}
use Rattle.actions.proofs.Stops.{handed_on}

-- a read does not see a mark
field_noted : (s : Framed) (b a n v : ℕ) → read_field (noted s b) a n v ≡ read_field s a n v
unfolding read_field
field_noted s b a zero v = refl
field_noted s b a (suc n) v =
    field_noted s b (next a) n (v * 256 + read_byte (noted s b) a)
    ∙ ap (λ (x : ℕ). read_field s (next a) n (v * 256 + x)) (read_noted s b a)

same_page_mark : (map : List ℕ) (a b : ℕ) → page_of b ≡ page_of a → accessed_at map b ≡ accessed_at map a
unfolding accessed_at
same_page_mark map a b h = rw h

-- six bytes of one page, found from r on
module _ (mem map : List ℕ) (pc r j : ℕ) (low : pc + 6 ≤ 2097152) (fit : pc % 4096 + 6 ≤ 4096)
    (six : (d : ℕ) → d < 6 → look_of map (length mem) Fetch (pc + d) ≡ At (r + d) (j - d)) where
  behind : (a d : ℕ) → a ≡ pc + d → d + 2 ≤ 6 → next a ≡ pc + (d + 1)
  unfolding next
  behind a d e h = omega arith

  byte_in : (d : ℕ) → d < 6 → read_byte (framed_of mem map) (pc + d) ≡ get_or mem (r + d) 0
  unfolding read_byte
  byte_in d h = ap (read_at mem) (any_load map (length mem) Fetch (pc + d) (r + d) (j - d) (six d h))

  -- a halfword of them: its value, its look-up and its mark
  module _ (a d : ℕ) (e : a ≡ pc + d) (h : d + 2 ≤ 6) where
    value_in : read_field (framed_of mem map) a 2 0 ≡ flat mem (r + d) 2 0
    unfolding read_field flat
    value_in =
        let f : next a ≡ pc + (d + 1) = behind a d e h in
        let g : r + d + 1 ≡ r + (d + 1) = omega arith in
        rw (e, behind (pc + d) d refl h, g, byte_in d (omega arith), byte_in (d + 1) (omega arith))

    look_in_lem : look_one map (length mem) Fetch a 2 ≡ At (r + d) (j - d)
    unfolding look_one look_field
    look_in_lem = rw (e, behind (pc + d) d refl h, six d (omega arith), six (d + 1) (omega arith))

    mark_in : half_marks map (length mem) a ≡ accessed_at map pc
    unfolding half_marks
    mark_in =
        rw (e, behind (pc + d) d refl h, six d (omega arith), six (d + 1) (omega arith))
        (same_page_mark (accessed_at map (pc + d)) pc (pc + (d + 1)) (unfold page_of in omega arith)
        ∙ ap (λ (m : List ℕ). accessed_at m pc) (same_page_mark map pc (pc + d) (unfold page_of in omega arith))
        ∙ accessed_again map pc pc refl)

    half_in : {R : Type 0} (k : ℕ → Prog R)
        → interp framed (halfword a k) (framed_of mem map) (framed_of mem map)
        ≡ interp framed (k (flat mem (r + d) 2 0)) (framed_of mem (accessed_at map pc)) (framed_of mem (accessed_at map pc))
    half_in k =
        half_comes mem map a k
        ∙ rw (look_in_lem, mark_in)
        (ap (λ (v : ℕ). interp framed (k v) (framed_of mem (accessed_at map pc)) (framed_of mem (accessed_at map pc))) (field_noted (framed_of mem map) pc a 2 0 ∙ value_in))

    -- the same where the page has its mark, and whether the operation has the halfword or lacks it
    wanted_in : {R : Type 0} (k : ℕ → Prog R) (b : Bool) → accessed_at map pc ≡ map
        → interp framed (wanted_half b a k) (framed_of mem map) (framed_of mem map)
        ≡ interp framed (k (flat mem (r + d) 2 0)) (framed_of mem map) (framed_of mem map)
    wanted_in k true m = half_in k ∙ ap (λ (x : List ℕ). interp framed (k (flat mem (r + d) 2 0)) (framed_of mem x) (framed_of mem x)) m
    wanted_in k false m =
        gets_is a 2 0 k (framed_of mem map) (framed_of mem map)
        ∙ ap (λ (v : ℕ). interp framed (k v) (framed_of mem map) (framed_of mem map)) value_in

-- the text of six such bytes
module _ (mem map : List ℕ) (pc r j : ℕ) (low : pc + 6 ≤ 2097152) (fit : pc % 4096 + 6 ≤ 4096)
    (six : (d : ℕ) → d < 6 → look_of map (length mem) Fetch (pc + d) ≡ At (r + d) (j - d)) where
  six_marked : (d : ℕ) → d < 6 → look_of (accessed_at map pc) (length mem) Fetch (pc + d) ≡ At (r + d) (j - d)
  six_marked d h = blind (framed_of mem map) pc Fetch (pc + d) ∙ six d h

  further_in : (h1 n : ℕ)
      → interp framed (further_text n pc h1) (framed_of mem (accessed_at map pc)) (framed_of mem (accessed_at map pc))
      ≡ finished (record { h1 = h1; h2 = flat mem (r + 2) 2 0; h3 = flat mem (r + 4) 2 0 }) (framed_of mem (accessed_at map pc))
  unfolding interp
  further_in h1 n =
      wanted_in mem (accessed_at map pc) pc r j low fit six_marked (past pc 2) 2 (omega arith) (omega arith)
      (λ h2. wanted_half (ltb 2 n) (past pc 4) (λ h3. done (record { h1 = h1; h2 = h2; h3 = h3 }))) (ltb 1 n) (accessed_again map pc pc refl)
      ∙ wanted_in mem (accessed_at map pc) pc r j low fit six_marked (past pc 4) 4 (omega arith) (omega arith)
      (λ h3. done (record { h1 = h1; h2 = flat mem (r + 2) 2 0; h3 = h3 })) (ltb 2 n) (accessed_again map pc pc refl)

  text_in : (h1 h2 h3 : ℕ) (map' : List ℕ) → h1 ≡ flat mem r 2 0 → h2 ≡ flat mem (r + 2) 2 0 → h3 ≡ flat mem (r + 4) 2 0
      → map' ≡ accessed_at map pc → fetched (Ok (record { h1 = h1; h2 = h2; h3 = h3 })) (framed_of mem map') ≡ fetching pc (framed_of mem map)
  unfolding text
  text_in h1 h2 h3 map' e1 e2 e3 m =
      let z : flat mem (r + 0) 2 0 ≡ h1 = ap (λ (x : ℕ). flat mem x 2 0) (add-zero r) ∙ sym e1 in
      sym
      (half_in mem map pc r j low fit six pc 0 (sym (add-zero pc)) (omega arith) (λ h. further_text (halves_of h) pc h)
      ∙ further_in (flat mem (r + 0) 2 0) (halves_of (flat mem (r + 0) 2 0))
      ∙ rw (z, ← e2, ← e3, ← m))

-- six bytes that are reached are such
module _ (mem map : List ℕ) (pc r k : ℕ) (found : Look) (e : found ≡ look_of map (length mem) Fetch pc) (f : found ≡ At r k) (h : 6 ≤ k) where
  first : look_of map (length mem) Fetch pc ≡ At r k
  first = sym e ∙ f

  six_inside : r + 6 ≤ length mem
  six_inside = omega (arith, reach_inside map (length mem) Fetch pc r k first)

  pub first_inside : r + 2 ≤ length mem
  first_inside = omega (arith, six_inside)

  pub second_inside : r + 2 + 2 ≤ length mem
  second_inside = omega (arith, six_inside)

  pub third_inside : r + 4 + 2 ≤ length mem
  third_inside = omega (arith, six_inside)

  pub text_reached : (h1 h2 h3 : ℕ) (map' : List ℕ) → h1 ≡ flat mem r 2 0 → h2 ≡ flat mem (r + 2) 2 0 → h3 ≡ flat mem (r + 4) 2 0
      → map' ≡ accessed_at map pc → fetched (Ok (record { h1 = h1; h2 = h2; h3 = h3 })) (framed_of mem map') ≡ fetching pc (framed_of mem map)
  text_reached =
      text_in mem map pc r k (omega (arith, reach_below map (length mem) Fetch pc r k first)) (omega (arith, reach_fits map (length mem) Fetch pc r k first))
      (λ d l. reach_behind map (length mem) Fetch pc r k first d (omega arith))

-- and where the first byte is refused, the text is
pub text_refused : (mem map : List ℕ) (pc : ℕ) (found : Look) → found ≡ look_of map (length mem) Fetch pc → (q : Refusal) → found ≡ Err q
    → (k : Stop) → k ≡ refusal_of q → fetched (Err k) (framed_of mem map) ≡ fetching pc (framed_of mem map)
unfolding text
text_refused mem map pc found e q f k g =
    let t = look_first map (length mem) pc found e q f in
    rw g (handed_on q.cause q.place (framed_of mem map) ∙ sym (half_comes mem map pc (λ h1. further_text (halves_of h1) pc h1) ∙ rw (← t.0, f, ← t.1)))
