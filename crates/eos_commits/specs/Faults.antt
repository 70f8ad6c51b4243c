-- The faults of visible records, what each of them says, and their order.
use Rattle.std.specs.Prelude.{◌≡◌, ◌⊎◌, ◌<ℤ◌, Some, None, Err, List}
use Rattle.std.specs.List.{AllPairs}
use Rattle.std.specs.declared.cmp.Ordering.{Ordering}
use Rattle.std.specs.declared.cmp.Ordering.TheVariants.{Less}
use Rattle.eos_base.specs.declared.record_fault.RecordFault.{RecordFault}
use Rattle.eos_base.specs.PartitionNames.{name_cmp}
use Rattle.eos_base.specs.Members.{Has}
use Rattle.eos_evidence.specs.declared.application.App.{App}
use Rattle.eos_fold.specs.declared.item.Item.{Item}
use Rattle.eos_fold.specs.Parts.{part_name, PartLog, Rises}
use Rattle.eos_claims.specs.Headers.{claim_of}
use Rattle.eos_verdict.specs.declared.visible_fault.VisibleFault.{VisibleFault}
use Rattle.eos_verdict.specs.declared.visible_fault.VisibleFaultKind.{VisibleFaultKind}
use Rattle.eos_verdict.specs.declared.visible_fault.VisibleFaultKind.TheVariants.{BadLineage, BadOffset, SplitGroup, OffsetDeleted}
use Rattle.eos_verdict.specs.contracts.visible_fault.VisibleFaultOrd.TheImpl.{ghosts}
use Rattle.eos_commits.specs.Visible.{VisibleIn}
use Rattle.eos_commits.specs.Commits.{Group, offsets_parts, key_of, value_of, IsUnderGroup}
use Rattle.eos_commits.specs.Kept.{output_parts}

-- a visible record of these partitions at the fault's place
pub record AtRecord (parts : List PartLog) (fault : VisibleFault) : Type 0 where
  pub found : VisibleIn parts
  pub partition : part_name found.part ≡ fault.partition
  pub offset : found.item.offset ≡ fault.offset

-- its key doesn't read, or its value under a key that names a group and a source topic
abbrev pub CannotRead : List App → Item → RecordFault → Type 0
CannotRead apps item refusal = (key_of item ≡ Err refusal) ⊎ ((group : Group) × IsUnderGroup apps group item × (value_of item ≡ Some (Err refusal)))

-- a record of the group, and another one in a lesser partition
pub record IsSplit (apps : List App) (parts : List PartLog) (one : VisibleIn (offsets_parts parts)) : Type 0 where
  pub group : Group
  pub here : IsUnderGroup apps group one.item
  pub other : VisibleIn (offsets_parts parts)
  pub there : IsUnderGroup apps group other.item
  pub lesser : other.part.number <ℤ one.part.number

-- by the kind
abbrev pub StandsAs : List App → List PartLog → VisibleFault → VisibleFaultKind → Type 0
StandsAs apps parts fault BadLineage = (at : AtRecord (output_parts apps parts) fault) × (claim_of at.found.item.headers ≡ None)
StandsAs apps parts fault (BadOffset refusal) = (at : AtRecord (offsets_parts parts) fault) × CannotRead apps at.found.item refusal
StandsAs apps parts fault SplitGroup = (at : AtRecord (offsets_parts parts) fault) × IsSplit apps parts at.found
StandsAs apps parts fault OffsetDeleted = (at : AtRecord (offsets_parts parts) fault) × (group : Group) × IsUnderGroup apps group at.found.item × (value_of at.found.item ≡ None)

abbrev pub Stands : List App → List PartLog → VisibleFault → Type 0
Stands apps parts fault = StandsAs apps parts fault fault.kind

-- the derived order: by the fields as they stand, partition, offset and kind; kinds as they stand there, and BadOffset by the
-- refusal that is printed
abbrev pub visible_cmp : VisibleFault → VisibleFault → Ordering
visible_cmp = ghosts.cmp

-- ---- the partitions in order

-- each name below the next, and the offsets of each rise
pub record AreInOrder (parts : List PartLog) : Type 0 where
  pub names : AllPairs (λ part next. name_cmp (part_name part) (part_name next) ≡ Less) parts
  pub offsets : (part : PartLog) → Has parts part → Rises part.items
