-- What `chain` prints for the bytes of a segment: that the chain is kept, with two counts, or the least fault.
use Rattle.std.specs.Prelude.{◌≡◌, ℕ, List, ◌++◌, codes, ◌⊎◌}
use Rattle.std.specs.Fmt.{decimal}
use Rattle.eos_segment.specs.declared.one_segment.counts.Chain.{Chain}
use Rattle.eos_touch.specs.declared.fault.PartitionFault.{PartitionFault}
use Rattle.eos_touch.specs.FaultNames.{number_of, name_of}
use Rattle.eos_segment.specs.Good.{IsGood}
use Rattle.eos_segment.specs.ChainFaults.{IsLeastFault}
use Rattle.eos_verdict.specs.Details.{details}

unfoldable pub good_line : Chain → List ℕ
good_line chain = (codes "ok batches=" ++ decimal chain.batches) ++ ((codes " producers=" ++ decimal chain.producers) ++ codes "\n")

-- the fault's number and name within the phase of partitions, its offset, and what stood there
unfoldable pub fault_line : PartitionFault → List ℕ
fault_line fault =
    (codes "no 1." ++ decimal (number_of fault.kind))
    ++ ((codes " " ++ name_of fault.kind)
    ++ ((codes " offset=" ++ decimal fault.offset)
    ++ (details fault.kind ++ codes "\n")))

-- the chain is kept, status 0
pub record IsKept (bytes text : List ℕ) (status : ℕ) : Type 0 where
  pub chain : Chain
  pub good : IsGood bytes chain
  pub line : text ≡ good_line chain
  pub exit : status ≡ 0

-- a fault stands, and this is the least, status 1
pub record IsBroken (bytes text : List ℕ) (status : ℕ) : Type 0 where
  pub fault : PartitionFault
  pub least : IsLeastFault bytes fault
  pub line : text ≡ fault_line fault
  pub exit : status ≡ 1

-- the text and the exit status of `chain` for these bytes
abbrev pub IsChainAnswer : List ℕ → List ℕ → ℕ → Type 0
IsChainAnswer bytes text status = IsKept bytes text status ⊎ IsBroken bytes text status
