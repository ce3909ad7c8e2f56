-- Marks: a field within a page is noted once.
use Rattle.std.proofs.Common.{◌≡◌, ℕ, zero, suc, ◌+◌, ◌-◌, ◌%◌, ◌<◌, ◌≤◌, List, sym, refl, ap, ◌∙◌, add-zero, arith, le-ltb, lt-ltb}
use Rattle.pages.specs.Word.{page_of, next}
use Rattle.pages.specs.Framed.{accessed_at}
use Rattle.pages.proofs.Marks.{accessed_again}
use Rattle.words.proofs.Choice.{by_order}
use Rattle.fields.specs.Direct.{in_page, note_field}
use Rattle.fields.proofs.Pieces.{note_pieces}

-- noted once for a field within a page
pub note_once : (map : List ℕ) (a k : ℕ) → 0 < k → a % 4096 + k ≤ 4096 → a < 16777216 → accessed_at map a ≡ note_field map a k
unfolding note_field
note_once map a zero p h l = absurd (omega arith)
note_once map a (suc k) p h l = go k 0 (omega arith) ∙ ap (λ (b : ℕ). note_field (accessed_at map a) b k) (ap next (add-zero a))
  where
    go : (j d : ℕ) → a % 4096 + d + j < 4096 → accessed_at map a ≡ note_field (accessed_at map a) (next (a + d)) j
    go zero d q = refl
    go (suc j) d q =
        let n : next (a + d) ≡ a + (d + 1) = unfold next in omega arith in
        let s : page_of (a + (d + 1)) ≡ page_of a = unfold page_of in omega arith in
        go j (d + 1) (omega arith)
        ∙ ap (λ (m : List ℕ). note_field m (next (a + (d + 1))) j) (sym (accessed_again map a (a + (d + 1)) s))
        ∙ ap (λ (b : ℕ). note_field (accessed_at (accessed_at map a) b) (next b) j) (sym n)

-- and on from there, page by page
page_low : (a : ℕ) → a < 16777216 → in_page a ≡ 4096 - a % 4096
unfolding in_page
page_low a h = rw (lt-ltb a 16777216 h)

page_high : (a : ℕ) → 16777216 ≤ a → in_page a ≡ 1
unfolding in_page
page_high a h = rw (le-ltb a 16777216 h)

pub page_some : (a k : ℕ) → k ≡ in_page a → 0 < k
page_some a k e = by_order a 16777216 (λ h. omega (arith, page_low a h)) (λ h. omega (arith, page_high a h))

note_page : (map : List ℕ) (a s : ℕ) → 0 < s → s ≤ in_page a → accessed_at map a ≡ note_field map a s
note_page map a s p l =
    by_order a 16777216
    (λ b. note_once map a s p (omega (arith, page_low a b)) b)
    (λ b. once ∙ ap (note_field map a) (let z : 1 ≡ s = omega (arith, page_high a b) in z))
  where
    once : accessed_at map a ≡ note_field map a 1
    once = unfold note_field in refl

pub note_on : (map : List ℕ) (a n s : ℕ) (map' : List ℕ) → 0 < s → s ≤ n → s ≤ in_page a → map' ≡ accessed_at map a
    → note_field map a n ≡ note_field map' ((a + s) % 16777216) (n - s)
note_on map a n s map' p h l em =
    note_pieces n s p h map a
    ∙ ap (λ (m : List ℕ). note_field m ((a + s) % 16777216) (n - s)) (sym (note_page map a s p l) ∙ sym em)
