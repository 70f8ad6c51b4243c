use Rattle.std.proofs.Common.{ap, ◌∙◌, length, List}
use Rattle.eos_batch.specs.declared.record.Record.{Record}
use Rattle.eos_batch.specs.Encoding.{records_text}
use Rattle.eos_batch.specs.steps.Writing.{capped}
use Rattle.eos_batch.proofs.EncodingTests.{is_short_at}
use Rattle.eos_batch.proofs.encode.is_short.Goals as goal

pub returns : goal.returns
returns c = is_short_at c.args.batch.now c.records_size.result (c.records_size.ensures ∙ ap (λ (rs : List Record). capped (length (records_text 0 rs))) c.as_slice.ensures)
