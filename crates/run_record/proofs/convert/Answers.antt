use Rattle.run_record.proofs.convert.Goals as goal

pub returns-in-Some : goal.returns-in-Some
returns-in-Some c = rw c.in-Some.is c.counted.ensures
