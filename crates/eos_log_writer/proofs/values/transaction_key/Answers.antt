use Rattle.std.proofs.Common.{ap, ◌∙◌}
use Rattle.eos_txnlog.specs.Writing.{write_key}
use Rattle.eos_machine.proofs.BatchSizes.{key_written}
use Rattle.eos_log_writer.proofs.Refusals.{only_memory}
use Rattle.eos_log_writer.proofs.values.transaction_key.Goals as goal

pub of_memory-requires : goal.of_memory-requires
of_memory-requires c = only_memory c.in-Err.fault _ _ c.in-Err.ensures.answer (ap write_key c.in_ok-id.ensures ∙ key_written c.args.application)
