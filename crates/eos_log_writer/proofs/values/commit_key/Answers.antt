use Rattle.std.proofs.Common.{ap, ◌∙◌}
use Rattle.eos_offsets.specs.Writing.{write_key}
use Rattle.eos_log_writer.proofs.Refusals.{only_memory, source_written}
use Rattle.eos_log_writer.proofs.values.commit_key.Goals as goal

pub of_memory-requires : goal.of_memory-requires
of_memory-requires c = only_memory c.in-Err.fault _ _ c.in-Err.ensures.answer (ap write_key c.source_key-key.ensures ∙ source_written c.args.config c.args.source)
