-- The faults of the transaction log, what each of them says, and their order.
use Rattle.std.specs.Prelude.{◌≡◌, ◌≢◌, ◌⊎◌, ◌<◌, ◌<ℤ◌, List, true, Err, unsigned_abs}
use Rattle.std.specs.declared.cmp.Ordering.{Ordering}
use Rattle.eos_base.specs.Members.{Has}
use Rattle.eos_txnlog.specs.Following.{step_verdict}
use Rattle.eos_fold.specs.declared.item.Item.{Item}
use Rattle.eos_fold.specs.Parts.{PartLog}
use Rattle.eos_verdict.specs.declared.log_fault.LogFault.{LogFault}
use Rattle.eos_verdict.specs.declared.log_fault.LogFaultKind.{LogFaultKind}
use Rattle.eos_verdict.specs.declared.log_fault.LogFaultKind.TheVariants.{BadRecord, Step, SplitId, SharedProducer, Unfinished}
use Rattle.eos_verdict.specs.contracts.log_fault.LogFaultOrd.TheImpl.{ghosts}
use Rattle.eos_table.specs.declared.content.Content.TheVariants.{Unreadable}
use Rattle.eos_table.specs.TransactionLog.{Id, content_of, Unskipped, all_steps, last_of, is_unfinished, ShareProducer}

-- a data record at the fault's place
pub record AtItem (log : List PartLog) (fault : LogFault) : Type 0 where
  pub part : PartLog
  pub item : Item
  pub has_part : Has log part
  pub has_item : Has part.items item
  pub partition : part.number ≡ fault.partition
  pub offset : item.offset ≡ fault.offset

-- an unskipped record of this id at the fault's place
pub record AtStep (log : List PartLog) (fault : LogFault) (named : Id) : Type 0 where
  pub step : Unskipped
  pub has : Has (all_steps log) step
  pub partition : step.partition ≡ fault.partition
  pub offset : step.offset ≡ fault.offset
  pub id : step.id ≡ named

-- the end of a partition is the fault's place
pub record AtEnd (log : List PartLog) (fault : LogFault) : Type 0 where
  pub part : PartLog
  pub has : Has log part
  pub partition : part.number ≡ fault.partition
  pub offset : unsigned_abs part.end ≡ fault.offset

-- in a lesser partition, or earlier in the same one
abbrev pub IsBefore : Unskipped → Unskipped → Type 0
IsBefore step next = (step.partition <ℤ next.partition) ⊎ ((step.partition ≡ next.partition) × (step.offset < next.offset))

-- by the kind
abbrev pub StandsAs : List PartLog → LogFault → LogFaultKind → Type 0
StandsAs log fault (BadRecord refusal) = (at : AtItem log fault) × (content_of at.item ≡ Unreadable refusal)
StandsAs log fault (Step id why) = (at : AtStep log fault id) × (step_verdict at.step.before at.step.value ≡ Err why)
StandsAs log fault (SplitId id) = (at : AtStep log fault id) × (other : Unskipped) × Has (all_steps log) other × (other.id ≡ id) × (other.partition <ℤ at.step.partition)
StandsAs log fault (SharedProducer id) = (at : AtStep log fault id) × (other : Unskipped) × Has (all_steps log) other
    × (other.id ≢ id) × ShareProducer other.value at.step.value × IsBefore other at.step
StandsAs log fault (Unfinished id) = (at : AtEnd log fault) × (is_unfinished (last_of at.part.items id) ≡ true)

abbrev pub Stands : List PartLog → LogFault → Type 0
Stands log fault = StandsAs log fault fault.kind

-- the derived order: by the fields as they stand, partition, offset and kind; kinds as they stand there, and those of one kind by
-- transactional id and then by the refusal
abbrev pub log_cmp : LogFault → LogFault → Ordering
log_cmp = ghosts.cmp
