use Rattle.std.proofs.Common.{arith, subst, sym}
use Rattle.std.proofs.lemmas.Grind.{common_steps}
use Rattle.std.proofs.lemmas.List.Elements.{All-tail}
use Rattle.eos_machine.specs.Fitting.{IsFit}
use Rattle.eos_log_writer.proofs.Texts.{within_all}
use Rattle.eos_log_writer.proofs.batches.records_of.Goals as goal

pub record_after-requires-in-loop-i-clause-fits : goal.record_after-requires-in-loop-i-clause-fits
record_after-requires-in-loop-i-clause-fits c =
    subst (IsFit c.args.config) (sym c.index-behind-i.is) (within_all (IsFit c.args.config) c.args.behind.now c.loop-i.i c.index-behind-i.result c.loop-i-test.true (All-tail (IsFit c.args.config) c.args.first.now c.args.behind.now c.requires.fits))

pub loop-i-preserved : goal.loop-i-preserved
loop-i-preserved c = grind (arith, common_steps)
