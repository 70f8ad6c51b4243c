use Rattle.std.proofs.Common.{◌*◌, subst, sym}
use Rattle.std.specs.List.{All}
use Rattle.eos_machine.specs.Fitting.{IsFit}
use Rattle.eos_log_writer.proofs.Refusals.{part_fits}
use Rattle.eos_log_writer.proofs.segments.segment_at.Goals as goal

pub items_text-requires-clause-fits : goal.items_text-requires-clause-fits
items_text-requires-clause-fits c =
    subst (All (IsFit c.args.config)) (sym c.taken_from-items.ensures) (part_fits c.args.config c.args.config.segment_records (c.args.i * c.args.config.segment_records) c.args.log.now c.requires.fits)
