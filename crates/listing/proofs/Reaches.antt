-- How far a line reaches.
use mathlib.Core.Path.{◌≡◌, sym, ap, ◌∙◌, subst}
use mathlib.Core.List.{List}
use Prim.Native.Nat.{ℕ, ◌≤◌, ◌<◌}
use lib.ListN.{length, get_or}
use borrow.Author.Tests.{le-leb, lt-leb}
use Rattle.std.specs.Prelude.{Option, Some, None}
use Rattle.code.specs.declared.Action.{Action}
use Rattle.code.specs.Table.{action_of}
use Rattle.code.specs.Formats.{length_of}
use Rattle.lines.specs.Listing.{raw_size, size_in, size_of}

module _ (code : List ℕ) (op : ℕ) (f : Option Action) (o : op ≡ get_or code 0 0) (e : f ≡ action_of op) where
  is_size : (g : Option Action) → f ≡ g → size_in g (length code) ≡ size_of code
  unfolding size_of
  is_size g k = ap (λ (h : Option Action). size_in h (length code)) (sym k ∙ e ∙ ap action_of o)

  pub size_raw : (n : ℕ) → f ≡ None → n ≡ raw_size (length code) → n ≡ size_of code
  size_raw n k h = h ∙ is_size None k

  module _ (x : Action) (m : ℕ) (k : f ≡ Some x) (l : m ≡ length_of x) where
    pub size_whole : m ≤ length code → m ≡ size_of code
    size_whole h = l ∙ (rw (le-leb (length_of x) (length code) (subst (λ (i : ℕ). i ≤ length code) l h)) at (is_size (Some x) k))

    pub size_cut : (n : ℕ) → length code < m → n ≡ raw_size (length code) → n ≡ size_of code
    size_cut n h r = r ∙ (rw (lt-leb (length_of x) (length code) (subst (λ (i : ℕ). length code < i) l h)) at (is_size (Some x) k))
