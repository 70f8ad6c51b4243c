-- The rule that visible records keep: those of the offsets log read, each group's in one partition, and those of output
-- topics are claims.
use Rattle.std.specs.Prelude.{◌≡◌, ℤ, Bool, Some, Ok, Err, List, filter}
use Rattle.std.specs.Ordering.{nat_cmp}
use Rattle.std.specs.Cmp.Lexicographic.{slice_cmp}
use Rattle.eos_base.specs.declared.record_fault.RecordFault.{RecordFault}
use Rattle.eos_base.specs.Members.{is_found}
use Rattle.eos_evidence.specs.declared.application.App.{App}
use Rattle.eos_evidence.specs.SpecFields.{outputs_of}
use Rattle.eos_fold.specs.Parts.{PartLog}
use Rattle.eos_claims.specs.declared.claim.Claim.{Claim}
use Rattle.eos_claims.specs.Headers.{claim_of}
use Rattle.eos_commits.specs.Visible.{VisibleIn}
use Rattle.eos_commits.specs.Commits.{Group, offsets_parts, key_of, value_of, IsUnderGroup}

abbrev pub is_output_part : List App → PartLog → Bool
is_output_part apps p = is_found (slice_cmp nat_cmp) (outputs_of apps) p.topic

-- the partitions of the applications' output topics
abbrev pub output_parts : List App → List PartLog → List PartLog
output_parts apps ps = filter (is_output_part apps) ps

pub record OffsetsKept (apps : List App) (ps : List PartLog) : Type 0 where
  -- every visible key reads
  pub keys : (r : VisibleIn (offsets_parts ps)) (fault : RecordFault) → key_of r.item ≡ Err fault → ⊥
  -- under a group's key of a source topic stands an offset that reads
  pub values : (r : VisibleIn (offsets_parts ps)) (group : Group) → IsUnderGroup apps group r.item → (offset : ℤ) × (value_of r.item ≡ Some (Ok offset))
  -- the records of a group lie in one partition
  pub one_partition : (r s : VisibleIn (offsets_parts ps)) (group : Group) → IsUnderGroup apps group r.item → IsUnderGroup apps group s.item → r.part.number ≡ s.part.number

-- every visible record of an output topic is a claim
abbrev pub OutputsClaim : List App → List PartLog → Type 0
OutputsClaim apps ps = (r : VisibleIn (output_parts apps ps)) → (claim : Claim) × (claim_of r.item.headers ≡ Some claim)

pub record RecordsKept (apps : List App) (ps : List PartLog) : Type 0 where
  pub offsets : OffsetsKept apps ps
  pub outputs : OutputsClaim apps ps
