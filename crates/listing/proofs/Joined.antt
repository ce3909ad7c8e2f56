-- Operands and lines from their parts. `s` is the writer at the start; each letter after it, the writer after one part more.
use mathlib.Core.Path.{◌≡◌, sym, ap, ap₂, ◌∙◌, subst}
use mathlib.Core.List.{List, [], ◌∷◌, ◌++◌}
use Prim.Native.Nat.{ℕ, ◌+◌}
use lib.ListN.{get_or}
use Rattle.std.specs.Prelude.{Option, Some, None}
use Rattle.code.specs.declared.Action.{Action}
use Rattle.code.specs.declared.RrFields.{RrFields}
use Rattle.code.specs.declared.RxFields.{RxFields}
use Rattle.code.specs.declared.RsFields.{RsFields}
use Rattle.code.specs.declared.SiFields.{SiFields}
use Rattle.code.specs.declared.SsFields.{SsFields}
use Rattle.code.specs.declared.Action.TheVariants.{Rr, Rx, Rs, Si, Ss}
use Rattle.code.specs.declared.RrAction.{RrAction}
use Rattle.code.specs.declared.RxAction.{RxAction}
use Rattle.code.specs.declared.RsAction.{RsAction}
use Rattle.code.specs.declared.SiAction.{SiAction}
use Rattle.code.specs.declared.SsAction.{SsAction}
use Rattle.code.specs.Table.{name_of}
use Rattle.code.specs.Formats.{rr_of, rx_of, rs_of, si_of, ss_of}
use Rattle.printing.specs.Digits.{hex_of, decimal_of}
use Rattle.printing.specs.Lines.{field, LF}
use Rattle.printing.specs.declared.writing.Writer.{Writer}
use Rattle.printing.specs.Writing.{Wrote}
use Rattle.printing.proofs.WrittenText.{after, also_wrote}
use Rattle.lines.specs.Line.{line, based, indexed, hex_bytes, quoted, comma, rr_text, rx_text, rs_text, si_text, ss_text}
use Rattle.lines.specs.Line.{half_at, operands_of, instruction_in, said_of, text_of}

module _ (s a b : Writer) where
  pub marked_joined : (v m : ℕ) → Wrote s a (decimal_of v) → Wrote a b (m ∷ []) → Wrote s b (decimal_of v ++ m ∷ [])
  marked_joined v m = after s a b (decimal_of v) (m ∷ [])

  pub based_joined : (d r : ℕ) → Wrote s a (decimal_of d ++ 40 ∷ []) → Wrote a b (decimal_of r ++ 41 ∷ []) → Wrote s b (based d r)
  unfolding based
  based_joined d r = also_wrote s a b (decimal_of d ++ 40 ∷ []) (decimal_of r) (41 ∷ [])

  pub rr_joined : (f : RrFields) → Wrote s a (decimal_of f.r1 ++ 44 ∷ []) → Wrote a b (decimal_of f.r2) → Wrote s b (rr_text f)
  unfolding rr_text
  rr_joined f = after s a b (decimal_of f.r1 ++ comma) (decimal_of f.r2)

  pub rx_joined : (f : RxFields) → Wrote s a (decimal_of f.r1 ++ 44 ∷ []) → Wrote a b (indexed f.d2 f.x2 f.b2)
      → Wrote s b (rx_text f)
  unfolding rx_text
  rx_joined f = after s a b (decimal_of f.r1 ++ comma) (indexed f.d2 f.x2 f.b2)

  module _ (c : Writer) where
    pub indexed_joined : (d x r : ℕ) → Wrote s a (decimal_of d ++ 40 ∷ []) → Wrote a b (decimal_of x ++ 44 ∷ [])
        → Wrote b c (decimal_of r ++ 41 ∷ [])
        → Wrote s c (indexed d x r)
    unfolding indexed
    indexed_joined d x r h i =
        also_wrote s b c (decimal_of d ++ 40 ∷ [] ++ decimal_of x ++ comma) (decimal_of r) (41 ∷ [])
        (also_wrote s a b (decimal_of d ++ 40 ∷ []) (decimal_of x) comma h i)

    -- x, then y, then z
    three : (x y z : List ℕ) → Wrote s a x → Wrote a b y → Wrote b c z → Wrote s c (x ++ y ++ z)
    three x y z h i = after s b c (x ++ y) z (after s a b x y h i)

    pub quoted_joined : (bs : List ℕ) → Wrote s a (88 ∷ 39 ∷ []) → Wrote a b (hex_bytes bs) → Wrote b c (39 ∷ [])
        → Wrote s c (quoted bs)
    unfolding quoted
    quoted_joined bs = three (88 ∷ 39 ∷ []) (hex_bytes bs) (39 ∷ [])

    pub rs_joined : (f : RsFields) → Wrote s a (decimal_of f.r1 ++ 44 ∷ []) → Wrote a b (decimal_of f.r3 ++ 44 ∷ [])
        → Wrote b c (based f.d2 f.b2) → Wrote s c (rs_text f)
    unfolding rs_text
    rs_joined f h i =
        after s b c (decimal_of f.r1 ++ comma ++ decimal_of f.r3 ++ comma) (based f.d2 f.b2)
        (also_wrote s a b (decimal_of f.r1 ++ comma) (decimal_of f.r3) comma h i)

    pub si_joined : (f : SiFields) → Wrote s a (based f.d1 f.b1) → Wrote a b (44 ∷ []) → Wrote b c (quoted (f.i2 ∷ []))
        → Wrote s c (si_text f)
    unfolding si_text
    si_joined f = three (based f.d1 f.b1) comma (quoted (f.i2 ∷ []))

    pub ss_joined : (f : SsFields) → Wrote s a (indexed f.d1 (f.l + 1) f.b1) → Wrote a b (44 ∷ [])
        → Wrote b c (based f.d2 f.b2)
        → Wrote s c (ss_text f)
    unfolding ss_text
    ss_joined f = three (indexed f.d1 (f.l + 1) f.b1) comma (based f.d2 f.b2)

    pub line_joined : (address : ℕ) (bs : List ℕ) → Wrote s a (hex_of 6 address) → Wrote a b (said_of (instruction_in bs) bs)
        → Wrote b c (10 ∷ [])
        → Wrote s c (text_of (line address bs))
    unfolding text_of
    line_joined address bs = three (hex_of 6 address) (said_of (instruction_in bs) bs) LF

    pub known_joined : (d : Writer) (x : Action) (bs : List ℕ) (op : ℕ) → op ≡ get_or bs 0 0 → Wrote s a (9 ∷ []) → Wrote a b (name_of op)
        → Wrote b c (9 ∷ []) → Wrote c d (operands_of x bs) → Wrote s d (said_of (Some x) bs)
    known_joined d x bs op e h i j k =
        rw (← e)
        (after s b d (field (name_of op)) (field (operands_of x bs)) (after s a b (9 ∷ []) (name_of op) h i) (after b c d (9 ∷ []) (operands_of x bs) j k))

  pub raw_joined : (bs : List ℕ) → Wrote s a (9 ∷ 68 ∷ 67 ∷ 9 ∷ []) → Wrote a b (quoted bs) → Wrote s b (said_of None bs)
  raw_joined bs h i = after s a b (9 ∷ 68 ∷ 67 ∷ 9 ∷ []) (quoted bs) h i

pub said_joined : (s a : Writer) (f g : Option Action) (bs : List ℕ) → f ≡ instruction_in bs → f ≡ g → Wrote s a (said_of g bs)
    → Wrote s a (said_of (instruction_in bs) bs)
said_joined s a f g bs e k h = subst (λ (x : Option Action). Wrote s a (said_of x bs)) (sym k ∙ e) h

-- the operands of an action, by its format
module _ (s b : Writer) (x : Action) (bs : List ℕ) (h1 : ℕ) (e1 : h1 ≡ half_at bs 0) where
  pub rr_operands : (y : RrAction) (f : RrFields) → x ≡ Rr y → f ≡ rr_of h1 → Wrote s b (rr_text f) → Wrote s b (operands_of x bs)
  unfolding operands_of
  rr_operands y f k e g = rw k (subst (λ (h : RrFields). Wrote s b (rr_text h)) (e ∙ ap rr_of e1) g)

  module _ (h2 : ℕ) (e2 : h2 ≡ half_at bs 2) where
    pub rx_operands : (y : RxAction) (f : RxFields) → x ≡ Rx y → f ≡ rx_of h1 h2 → Wrote s b (rx_text f) → Wrote s b (operands_of x bs)
    unfolding operands_of
    rx_operands y f k e g = rw k (subst (λ (h : RxFields). Wrote s b (rx_text h)) (e ∙ ap₂ rx_of e1 e2) g)

    pub rs_operands : (y : RsAction) (f : RsFields) → x ≡ Rs y → f ≡ rs_of h1 h2 → Wrote s b (rs_text f) → Wrote s b (operands_of x bs)
    unfolding operands_of
    rs_operands y f k e g = rw k (subst (λ (h : RsFields). Wrote s b (rs_text h)) (e ∙ ap₂ rs_of e1 e2) g)

    pub si_operands : (y : SiAction) (f : SiFields) → x ≡ Si y → f ≡ si_of h1 h2 → Wrote s b (si_text f) → Wrote s b (operands_of x bs)
    unfolding operands_of
    si_operands y f k e g = rw k (subst (λ (h : SiFields). Wrote s b (si_text h)) (e ∙ ap₂ si_of e1 e2) g)

    pub ss_operands : (h3 : ℕ) → h3 ≡ half_at bs 4 → (y : SsAction) (f : SsFields) → x ≡ Ss y → f ≡ ss_of h1 h2 h3 → Wrote s b (ss_text f)
        → Wrote s b (operands_of x bs)
    unfolding operands_of
    ss_operands h3 e3 y f k e g =
        let fields = e ∙ ap₂ (λ (m n : ℕ). ss_of m n h3) e1 e2 ∙ ap (ss_of (half_at bs 0) (half_at bs 2)) e3 in
        rw k (subst (λ (h : SsFields). Wrote s b (ss_text h)) fields g)
