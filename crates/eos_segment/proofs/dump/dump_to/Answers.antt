use Rattle.eos_segment.proofs.PlainListings.{plain_run}
use Rattle.eos_segment.proofs.dump.dump_to.Goals as goal

pub returns-clause-plain : goal.returns-clause-plain
returns-clause-plain g c e = plain_run c.args.options.now _ _ _ _ c.read_and_dump.result e c.read_and_dump.ensures
