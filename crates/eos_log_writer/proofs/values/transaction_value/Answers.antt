use Rattle.std.proofs.Common.{ap, ◌∙◌, pos}
use Rattle.eos_txnlog.specs.Writing.{write_value}
use Rattle.eos_machine.proofs.BatchSizes.{value_written}
use Rattle.eos_log_writer.proofs.Refusals.{only_memory}
use Rattle.eos_log_writer.proofs.values.transaction_value.Goals as goal

pub of_memory-requires : goal.of_memory-requires
of_memory-requires c =
    only_memory c.in-Err.fault _ _ c.in-Err.ensures.answer
    (ap (write_value (pos 1)) c.in_ok-value.ensures ∙ value_written c.args.config c.args.application c.args.entry.now c.args.event c.requires.config c.requires.partitions)
