-- What a case of an answer says, in document 01's terms: a number of its table (0 where nothing is refused) and the values beside it.
-- Each enum that is an answer has such a definition, one to one.
use Rattle.std.specs.Prelude.{ℕ}

pub record Said (A : Type 0) : Type 0 where
  pub number : ℕ
  pub values : A

abbrev pub says : {A : Type 0} → ℕ → A → Said A
says n v = record { number = n; values = v }
