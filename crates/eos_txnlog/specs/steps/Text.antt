-- Which bytes are a key or a value of `__transaction_state`: Kafka's schemas `TransactionLogKey` (version 0) and
-- `TransactionLogValue` (version 0, and version 1 in KIP-482's flexible form). Fixed numbers are big-endian.
use Rattle.std.specs.Prelude.{FitsSigned, All}
use Rattle.std.specs.Int.{w32}
use Rattle.eos_txnlog.specs.declared.partitions.TopicPartitions.{TopicPartitions}
use Rattle.eos_txnlog.specs.declared.value.TxnValue.{TxnValue}
use Rattle.eos_txnlog.specs.Text.{FitsHead, FitsTail}

-- the numbers of a topic's partitions are INT32
abbrev pub FitNumbers : TopicPartitions → Type 0
FitNumbers topic = All (FitsSigned w32) topic.numbers

-- each number of a value fits its field
pub record IsInRange (value : TxnValue) : Type 0 where
  pub head : FitsHead value
  pub tail : FitsTail value
  pub numbers : All FitNumbers value.partitions
