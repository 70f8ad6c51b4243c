-- What the records of a data batch have in common.
use Rattle.std.specs.Prelude.{ℕ, ℤ, length, Option, Some, None, if◌then◌else◌}
use Rattle.eos_batch.specs.declared.head.BatchHead.{BatchHead}
use Rattle.eos_fold.specs.declared.entry.Ending.{Ending}
use Rattle.eos_fold.specs.declared.entry.Ending.TheVariants.{Plain, Waiting}
use Rattle.eos_fold.specs.declared.mark.EndMark.{EndMark}
use Rattle.eos_fold.specs.Batches.{DataBatch}
use Rattle.eos_fold.specs.Settling.{ended}

-- the base offset, the number of records, the producer id and epoch where the batch is transactional, and its ending
pub record DataHead : Type 0 where
  pub offset : ℕ
  pub count : ℕ
  pub writer : Option (ℤ × ℤ)
  pub ending : Ending

abbrev pub data_head : DataBatch → DataHead
data_head b = record { offset = b.offset; count = length b.records; writer = b.writer; ending = b.ending }

-- of a data batch as it is read, before any end marker
abbrev pub head_read : BatchHead → DataHead
head_read h = record {
  offset = h.offset;
  count = h.count;
  writer = if h.is_transactional then Some (h.producer, h.epoch) else None;
  ending = if h.is_transactional then Waiting h.producer else Plain;
}

-- after this marker has ended its transaction
abbrev pub head_ended : EndMark → DataHead → DataHead
head_ended marker h = record h { ending = ended marker }
