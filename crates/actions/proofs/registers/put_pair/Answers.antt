use Rattle.actions.proofs.registers.put_pair.Goals as goal

pub returns : goal.returns
returns c = rw (← c.from-k.ensures, ← c.put_at.ensures) c.put_at-2.ensures
