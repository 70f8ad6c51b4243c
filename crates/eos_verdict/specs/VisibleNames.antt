-- The faults of visible records by number and name.
use Rattle.std.specs.Prelude.{ℕ, List, codes}
use Rattle.eos_verdict.specs.declared.visible_fault.VisibleFaultKind.{VisibleFaultKind}
use Rattle.eos_verdict.specs.declared.visible_fault.VisibleFaultKind.TheVariants.{BadLineage, BadOffset, SplitGroup, OffsetDeleted}

-- number and name, a line for each kind
abbrev pub row_of : VisibleFaultKind → ℕ × List ℕ
row_of BadLineage = (1, codes "BadLineage")
row_of (BadOffset refusal) = (2, codes "BadOffset")
row_of SplitGroup = (3, codes "SplitGroup")
row_of OffsetDeleted = (4, codes "OffsetDeleted")

abbrev pub number_of : VisibleFaultKind → ℕ
number_of kind = (row_of kind).0

abbrev pub name_of : VisibleFaultKind → List ℕ
name_of kind = (row_of kind).1
