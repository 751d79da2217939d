use Rattle.text_read.specs.Answers.{answer_of}
use Rattle.text_read.specs.Faults.{IsFaultOf}
use Rattle.text_read.specs.Fragments.{IsText}
use Rattle.text_read.proofs.Ends.{ok_is, err_is, only_ok, only_err}
use Rattle.text_read.proofs.Once.{is_answer}
use Rattle.text_read.proofs.reading.read_fragment.Goals as goal

pub returns-clause-node : goal.returns-clause-node
returns-clause-node c =
    let is = is_answer c.args.part c.args.bytes.now c.requires.texts in
    ok_is (IsText c.args.part c.args.bytes.now) (IsFaultOf c.args.part c.args.bytes.now) (answer_of c.args.part c.args.bytes.now) is.node is.fault c.answer.result c.answer.ensures

pub returns-clause-fault : goal.returns-clause-fault
returns-clause-fault c =
    let is = is_answer c.args.part c.args.bytes.now c.requires.texts in
    err_is (IsText c.args.part c.args.bytes.now) (IsFaultOf c.args.part c.args.bytes.now) (answer_of c.args.part c.args.bytes.now) is.node is.fault c.answer.result c.answer.ensures

pub returns-clause-only : goal.returns-clause-only
returns-clause-only c =
    let is = is_answer c.args.part c.args.bytes.now c.requires.texts in
    only_ok (IsText c.args.part c.args.bytes.now) (IsFaultOf c.args.part c.args.bytes.now) (answer_of c.args.part c.args.bytes.now) is.node is.fault c.answer.result c.answer.ensures

pub returns-clause-only_fault : goal.returns-clause-only_fault
returns-clause-only_fault c =
    let is = is_answer c.args.part c.args.bytes.now c.requires.texts in
    only_err (IsText c.args.part c.args.bytes.now) (IsFaultOf c.args.part c.args.bytes.now) (answer_of c.args.part c.args.bytes.now) is.node is.fault c.answer.result c.answer.ensures
