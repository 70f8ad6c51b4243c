-- The faults between decisions and logs by number and name.
use Rattle.std.specs.Prelude.{ℕ, List, codes}
use Rattle.eos_verdict.specs.declared.match_fault.MatchFaultKind.{MatchFaultKind}
use Rattle.eos_verdict.specs.declared.match_fault.MatchFaultKind.TheVariants.{TwiceDecided, Undecided, WrongKind, NotListed, StrayMarker, AbsentPartition, MissingMarker}

-- number and name, a line for each kind
abbrev pub row_of : MatchFaultKind → ℕ × List ℕ
row_of TwiceDecided = (1, codes "TwiceDecided")
row_of Undecided = (2, codes "Undecided")
row_of WrongKind = (3, codes "WrongKind")
row_of NotListed = (4, codes "NotListed")
row_of StrayMarker = (5, codes "StrayMarker")
row_of AbsentPartition = (6, codes "AbsentPartition")
row_of MissingMarker = (7, codes "MissingMarker")

abbrev pub number_of : MatchFaultKind → ℕ
number_of kind = (row_of kind).0

abbrev pub name_of : MatchFaultKind → List ℕ
name_of kind = (row_of kind).1
