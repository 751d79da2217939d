use Rattle.one_path.specs.Form.{procedure_of}
use Rattle.one_path.proofs.Meeting.{kept_exactly}
use Rattle.one_path.proofs.form.form_of.Goals as goal

pub returns-in_err-unit-clause-exactly : goal.returns-in_err-unit-clause-exactly
returns-in_err-unit-clause-exactly c = kept_exactly (procedure_of c.args.item.now)

pub returns-then-meets-clause-exactly : goal.returns-then-meets-clause-exactly
returns-then-meets-clause-exactly c = kept_exactly (procedure_of c.args.item.now)
