use Rattle.std.proofs.Common.{◌∙◌, sym, length}
use Rattle.eos_notes.specs.ManifestNotes.{is_gap}
use Rattle.eos_notes.proofs.LeastGaps.{passed_over}
use Rattle.eos_notes.proofs.manifest.least_gap.Goals as goal

pub loop-n-preserved : goal.loop-n-preserved
loop-n-preserved c = passed_over (is_gap c.args.numbers.now) (length c.args.numbers.now) c.loop-n.n _ c.loop-n-test.true (sym c.is_gap.ensures ∙ c.if-is_gap.false) c.loop-n.invariant
