-- The transactions of a picture, in the order of their Prepare records (KIP-98, "Transaction Log"), whether or not the transaction log
-- keeps its own rule; and behind them those that no Prepare record decides.
use Rattle.std.specs.Prelude.{◌≡◌, ℕ, ℤ, Option, Some, None, List, [], ◌∷◌, ◌++◌, map}
use Rattle.std.specs.List.{flat_map}
use Rattle.eos_batch.specs.declared.marker.Kind.{Kind}
use Rattle.eos_txnlog.specs.declared.value.TxnValue.{TxnValue}
use Rattle.eos_fold.specs.Parts.{PartLog}
use Rattle.eos_table.specs.TransactionLog.{Id, Unskipped, kind_of_status, transaction_parts, all_steps}
use Rattle.eos_picture.specs.declared.mark.Column.{Column}

-- a Prepare record decides the transaction of the epoch before it
abbrev pub decided_as : ℤ → ℕ → Id → TxnValue → TxnValue → Option Kind → List Column
decided_as n o id before value None = []
decided_as n o id before value (Some kind) = record {
  producer = value.producer;
  epoch = before.epoch;
  decided = Some (record { id = id; partition = n; offset = o; kind = kind; marker_epoch = value.epoch });
} ∷ []

abbrev pub column_between : ℤ → ℕ → Id → Option TxnValue → Option TxnValue → List Column
column_between n o id None value = []
column_between n o id (Some before) None = []
column_between n o id (Some before) (Some value) = decided_as n o id before value (kind_of_status value.status)

abbrev pub column_at : Unskipped → List Column
column_at s = column_between s.partition s.offset s.id s.before s.value

-- in the order of the log
abbrev pub decided_in : List PartLog → List Column
decided_in logs = flat_map column_at (all_steps (transaction_parts logs))

-- of this producer id and epoch
abbrev pub undecided_column : ℤ × ℤ → Column
undecided_column w = record { producer = w.0; epoch = w.1; decided = None }

pub record AreColumns (logs : List PartLog) (columns : List Column) : Type 0 where
  pub others : List (ℤ × ℤ)
  pub are : columns ≡ decided_in logs ++ map undecided_column others
