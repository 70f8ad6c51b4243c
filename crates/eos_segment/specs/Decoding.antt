-- What a data record says, as a line: by the formats' own readings, of which the first refusal in field order is named, a key
-- before its value. A null key is Short: no byte of it can be read.
use Rattle.std.specs.Prelude.{ℕ, ℤ, List, Option, Some, None, Result, Ok, Err, codes}
use Rattle.eos_base.specs.FaultNames.{record_fault_name}
use Rattle.eos_base.specs.Records.{present}
use Rattle.eos_base.specs.Fallible.{◌>>=◌}
use Rattle.eos_base.specs.declared.record_fault.RecordFault.{RecordFault}
use Rattle.eos_batch.specs.declared.record.Record.{Record}
use Rattle.eos_claims.specs.declared.claim.Claim.{Claim}
use Rattle.eos_claims.specs.Headers.{claim_of}
use Rattle.eos_offsets.specs.declared.key.OffsetKey.{OffsetKey}
use Rattle.eos_offsets.specs.Reading as offsets
use Rattle.eos_txnlog.specs.declared.value.TxnValue.{TxnValue}
use Rattle.eos_txnlog.specs.Reading as transactions
use Rattle.eos_segment.specs.declared.reading.Reading.{Reading}
use Rattle.eos_segment.specs.declared.reading.Reading.TheVariants.{Outputs, Transactions, Offsets}
use Rattle.eos_segment.specs.DecodedLines.{claim_line, transaction_line, forgotten_line, commit_line, deleted_line, skipped_line, unread_line}

-- headers that are no claim have the name under which a verdict refuses them
abbrev pub said_by_claim : Option Claim → List ℕ
said_by_claim None = unread_line (codes "BadLineage")
said_by_claim (Some claim) = claim_line claim

-- ---- the transaction log

-- the id under a key, if it is one of an id
abbrev pub id_under : Option (List ℕ) → Result (Option (List ℕ)) RecordFault
id_under key = present key >>= transactions.read_key

abbrev pub said_by_state : List ℕ → Result TxnValue RecordFault → List ℕ
said_by_state id (Ok value) = transaction_line id value
said_by_state id (Err fault) = unread_line (record_fault_name fault)

abbrev pub said_of_id : List ℕ → Option (List ℕ) → List ℕ
said_of_id id None = forgotten_line id
said_of_id id (Some value) = said_by_state id (transactions.read_value value)

abbrev pub said_under_id : Result (Option (List ℕ)) RecordFault → Option (List ℕ) → List ℕ
said_under_id (Err fault) value = unread_line (record_fault_name fault)
said_under_id (Ok None) value = skipped_line
said_under_id (Ok (Some id)) value = said_of_id id value

-- ---- the offsets log

-- the group and partition that a key names, if it is one of a commit
abbrev pub commit_key_under : Option (List ℕ) → Result (Option OffsetKey) RecordFault
commit_key_under key = present key >>= offsets.read_key

abbrev pub said_by_offset : OffsetKey → Result ℤ RecordFault → List ℕ
said_by_offset key (Ok offset) = commit_line key offset
said_by_offset key (Err fault) = unread_line (record_fault_name fault)

abbrev pub said_of_key : OffsetKey → Option (List ℕ) → List ℕ
said_of_key key None = deleted_line key
said_of_key key (Some value) = said_by_offset key (offsets.read_value value)

abbrev pub said_under_key : Result (Option OffsetKey) RecordFault → Option (List ℕ) → List ℕ
said_under_key (Err fault) value = unread_line (record_fault_name fault)
said_under_key (Ok None) value = skipped_line
said_under_key (Ok (Some key)) value = said_of_key key value

-- ---- a record

abbrev pub decoded_line : Reading → Record → List ℕ
decoded_line Outputs r = said_by_claim (claim_of r.headers)
decoded_line Transactions r = said_under_id (id_under r.key) r.value
decoded_line Offsets r = said_under_key (commit_key_under r.key) r.value
