use Rattle.eos_claims.specs.Plain.{plain_source}
use Rattle.eos_lineage.proofs.TableLookups.{tests}
use Rattle.eos_lineage.proofs.tables.tests_of.Goals as goal

pub returns : goal.returns
returns c = λ a are known.
    tests a c.args.tables.now are (plain_source c.args.source.now) c.args.writer c.args.known.now _ known c.has.ensures c.is_passed.ensures c.flags-is_input.ensures
