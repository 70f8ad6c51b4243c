use Rattle.std.proofs.Common.{ap, ◌∙◌}
use Rattle.eos_batch.specs.Encoding.{tested}
use Rattle.eos_log_writer.proofs.Refusals.{batch_memory}
use Rattle.eos_log_writer.proofs.Texts.{based_tested}
use Rattle.eos_log_writer.proofs.batches.batch_text.Goals as goal

pub of_memory-requires : goal.of_memory-requires
of_memory-requires c =
    batch_memory c.in_ok-batch.batch c.in-Err.fault (ap tested c.in_ok-batch.ensures ∙ based_tested c.args.config c.args.base c.args.first.now c.args.behind.now c.requires.config c.requires.offset c.requires.few c.requires.joined c.requires.fits) c.in-Err.ensures.answer
