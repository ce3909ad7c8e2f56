use Rattle.rs_ss.proofs.plain.execute.Goals as goal

pub returns-in-MoveField : goal.returns-in-MoveField
returns-in-MoveField c = rw c.in-MoveField.is c.move_fields.ensures

pub returns-in-CompareField : goal.returns-in-CompareField
returns-in-CompareField c = rw c.in-CompareField.is c.compare_fields.ensures
