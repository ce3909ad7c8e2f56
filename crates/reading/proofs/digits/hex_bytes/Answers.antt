use mathlib.Core.Path.{◌≡◌}
use Rattle.std.specs.List.{list_all}
use Rattle.std.proofs.Common.{rules, tests, arith}
use Rattle.std.proofs.lemmas.Iterator.{YieldsList-from_slice}
use Rattle.std.proofs.lemmas.Iterator.Search.{all_from_yields_List}
use Rattle.std.proofs.lemmas.Grind.{common_steps}
use Rattle.reading.specs.Digits.{is_bytes}
use Rattle.reading.proofs.Numbers.{is_digit, all_digits_is}
use Rattle.reading.proofs.digits.hex_bytes.Goals as goal

pub returns-in-2-to-64 : goal.returns-in-2-to-64
unfolding is_bytes
returns-in-2-to-64 c =
    let a : c.all.result ≡ list_all is_digit c.args.s.now =
    all_from_yields_List is_digit _ _ c.all.result c.all.ensures.ran (YieldsList-from_slice c.args.s.now (cc)) (λ x b q k. search (rules, tests)) in
    grind (arith, common_steps, all_digits_is c.args.s.now)
