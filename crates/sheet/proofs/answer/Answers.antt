use Rattle.sheet.proofs.Answers.{bad_answer, good_answer}
use Rattle.sheet.proofs.answer.Goals as goal

pub returns-in-Err : goal.returns-in-Err
returns-in-Err c = bad_answer _ _ _ _ _ c.read_sheet-read.ensures _ _ c.in-Err.is c.bad.ensures

pub returns-in-Ok : goal.returns-in-Ok
returns-in-Ok c = good_answer _ _ _ _ _ c.read_sheet-read.ensures _ _ _ _ _ _ c.in-Ok.is c.run-reply.ensures c.answer.ensures
