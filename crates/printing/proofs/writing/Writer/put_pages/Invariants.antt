use Rattle.std.specs.Iterator.Adapters.{enumerate_source, enumerate_count, zip_first, zip_second}
use Rattle.std.specs.Slice.Iter.{iter_rest}
use Rattle.printing.specs.Answer.{pages_from}
use Rattle.printing.proofs.WritingLoops.{Leaves}
use Rattle.printing.proofs.writing.Writer.put_pages.Given as goal

abbrev pub invariant-loop-n : goal.invariant-loop-n
invariant-loop-n l =
    let pairs = enumerate_source l.n-iterator in
    Leaves l.initial.self l.self (pages_from 0 l.before l.after)
    (pages_from (enumerate_count l.n-iterator) (iter_rest (zip_first pairs)) (iter_rest (zip_second pairs)))
