-- What a test of every row of the table says of an operation, and the names: each tells its code, and is none but letters.
use mathlib.Core.Path.{◌≡◌, refl}
use mathlib.Core.Bool.{Bool, true, false}
use mathlib.Core.List.{List, [], ◌∷◌}
use Prim.Native.Nat.{ℕ}
use native.Mathlib.Omega.{arith}
use lib.Dec.{eqb}
use borrow.Author.Tests.{eqb-true}
use Rattle.std.specs.Prelude.{Some, None}
use Rattle.words.specs.Pick.{pick, both}
use Rattle.words.specs.Ascii.{ascii, same}
use Rattle.words.proofs.Tests.{both_true}
use Rattle.code.specs.declared.Action.{Action}
use Rattle.code.specs.Table.{Row, row, table, find, named, action_of, name_of}
use Rattle.lines.proofs.CutTexts.{all, high}

abbrev pub every_row : (Row → Bool) → List Row → Bool
every_row q [] = true
every_row q (r ∷ rs) = both (q r) (every_row q rs)

found_row : (q : Row → Bool) (rs : List Row) (k : ℕ) (x : Action) → every_row q rs ≡ true → find rs k ≡ Some x
    → q (row k (named rs k) x) ≡ true
found_row q [] k x h e = absurd (let z : ◌≡◌ {A = ℕ} 0 1 = cc in omega arith)
found_row q (r ∷ rs) k x h e =
    let b = both_true (q r) (every_row q rs) h in
    go (eqb k r.code) refl e b.0 (found_row q rs k x b.1)
  where
    go : (t : Bool) → eqb k r.code ≡ t → pick t (Some r.action) (find rs k) ≡ Some x → q r ≡ true
        → (find rs k ≡ Some x → q (row k (named rs k) x) ≡ true) → q (row k (pick t r.name (named rs k)) x) ≡ true
    go true f g b later =
        let a : r.action ≡ x = cc in
        rw (eqb-true k r.code f, ← a) b
    go false f g b later = later g

pub of_row : (q : Row → Bool) → every_row q table ≡ true → (k : ℕ) (x : Action) → action_of k ≡ Some x → q (row k (named table k) x) ≡ true
unfolding action_of
of_row q h k x e = found_row q table k x h e

-- the code of the first row with this name; where no row has it 256, which is no byte
abbrev coded_in : List Row → List ℕ → ℕ
coded_in [] n = 256
coded_in (r ∷ rs) n = let rest = coded_in rs n in pick (same n (ascii r.name)) r.code rest

pub code_named : List ℕ → ℕ
code_named n = coded_in table n

abbrev telling : Row → Bool
telling r = both (eqb (code_named (ascii r.name)) r.code) (all high (ascii r.name))

names_tell : every_row telling table ≡ true
unfolding same table code_named
names_tell = refl

module _ (k : ℕ) (x : Action) (h : action_of k ≡ Some x) where
  told : (code_named (name_of k) ≡ k) × (all high (name_of k) ≡ true)
  unfolding name_of
  told =
      let n = ascii (named table k) in
      let b = both_true (eqb (code_named n) k) (all high n) (of_row telling names_tell k x h) in
      (eqb-true (code_named n) k b.0, b.1)

  pub code_told : code_named (name_of k) ≡ k
  code_told = told.0

  pub high_name : all high (name_of k) ≡ true
  high_name = told.1

-- no operation is called DC
pub raw_name : action_of (code_named (ascii "DC")) ≡ None
unfolding same action_of table code_named
raw_name = refl
