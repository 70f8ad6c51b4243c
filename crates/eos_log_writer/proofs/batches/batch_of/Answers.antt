use Rattle.std.proofs.Common.{◌<◌, ◌^◌, ◌∙◌, ap, subst, sym}
use Rattle.eos_machine.specs.Batches.{event_of, last_or}
use Rattle.eos_machine.proofs.FittingTests.{fit_event, fit_last}
use Rattle.eos_log_writer.proofs.batches.batch_of.Goals as goal

pub as_i64-requires-3 : goal.as_i64-requires-3
as_i64-requires-3 c =
    subst (λ n. n < 2 ^ 63) (sym (c.event_of-2.ensures ∙ ap event_of c.last_or.ensures))
    (fit_event c.args.config (last_or c.args.first.now c.args.behind.now) (fit_last c.args.config c.args.first.now c.args.behind.now c.requires.fits))
