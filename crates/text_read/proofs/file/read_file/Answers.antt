use Rattle.text_read.specs.Files.{IsFile, IsFaultOfFile, file_answer}
use Rattle.text_read.proofs.Ends.{ok_is, err_is, only_ok, only_err}
use Rattle.text_read.proofs.Files.{is_file_answer}
use Rattle.text_read.proofs.file.read_file.Goals as goal

pub returns-clause-node : goal.returns-clause-node
returns-clause-node c =
    let is = is_file_answer c.args.bytes.now in
    ok_is (IsFile c.args.bytes.now) (IsFaultOfFile c.args.bytes.now) (file_answer c.args.bytes.now) is.node is.fault c.file.result c.file.ensures

pub returns-clause-fault : goal.returns-clause-fault
returns-clause-fault c =
    let is = is_file_answer c.args.bytes.now in
    err_is (IsFile c.args.bytes.now) (IsFaultOfFile c.args.bytes.now) (file_answer c.args.bytes.now) is.node is.fault c.file.result c.file.ensures

pub returns-clause-only : goal.returns-clause-only
returns-clause-only c =
    let is = is_file_answer c.args.bytes.now in
    only_ok (IsFile c.args.bytes.now) (IsFaultOfFile c.args.bytes.now) (file_answer c.args.bytes.now) is.node is.fault c.file.result c.file.ensures

pub returns-clause-only_fault : goal.returns-clause-only_fault
returns-clause-only_fault c =
    let is = is_file_answer c.args.bytes.now in
    only_err (IsFile c.args.bytes.now) (IsFaultOfFile c.args.bytes.now) (file_answer c.args.bytes.now) is.node is.fault c.file.result c.file.ensures
