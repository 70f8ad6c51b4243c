-- What the key and the value of a record of the transaction log say, where they read.
-- Source: KIP-98, "Transaction Log".
use Rattle.std.specs.Prelude.{ℕ, List, Option, Some, None, Result, Ok, Err}
use Rattle.eos_base.specs.declared.record_fault.RecordFault.{RecordFault}
use Rattle.eos_txnlog.specs.declared.value.TxnValue.{TxnValue}
use Rattle.eos_txnlog.specs.Reading.{read_key, read_value}

abbrev pub id_read : Result (Option (List ℕ)) RecordFault → Option (List ℕ)
id_read (Ok id) = id
id_read (Err fault) = None

abbrev pub id_in : Option (List ℕ) → Option (List ℕ)
id_in None = None
id_in (Some key) = id_read (read_key key)

abbrev pub state_read : Result TxnValue RecordFault → Option TxnValue
state_read (Ok state) = Some state
state_read (Err fault) = None

abbrev pub state_in : Option (List ℕ) → Option TxnValue
state_in None = None
state_in (Some value) = state_read (read_value value)
