use Rattle.eos_batch.proofs.OpenedTests.{made}
use Rattle.eos_batch.proofs.decode.batch_of.Goals as goal

pub returns-clause-steps : goal.returns-clause-steps
returns-clause-steps c =
    let p = c.in_ok-test_opened.ensures.passes in
    let read = rw c.between-rest.ensures at c.in_ok-records.ensures in
    made c.args.bytes.now c.args.at c.in_ok-opened.opened p.0 c.in_ok-records.records c.records_of.new.rest c.in_ok-opened.ensures.opened p.1 read
