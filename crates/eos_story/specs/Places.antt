-- How places are told: TOPIC-N:O byte B of segment S.
use Rattle.std.specs.Prelude.{ℕ, List, [], ◌++◌, Option, Some, None, Bool, true, false, ◌&&◌, ◌==◌, codes}
use Rattle.std.specs.Fmt.{decimal, signed_decimal}
use Rattle.std.specs.Ordering.{int_eq}
use Rattle.eos_base.specs.declared.partition_name.PartitionName.{PartitionName}
use Rattle.eos_claims.specs.declared.place.Place.{Place}
use Rattle.eos_commits.specs.Commits.{is_same}
use Rattle.eos_sought.specs.declared.partition.Placed.{Placed}
use Rattle.eos_verdict.specs.FaultTexts.{name_text}

abbrev pub at_text : PartitionName → ℕ → List ℕ
at_text name offset = name_text name.topic name.partition ++ (codes ":" ++ decimal offset)

abbrev pub spot_text : Option Placed → List ℕ
spot_text None = []
spot_text (Some p) = (codes " byte " ++ decimal p.standing.byte) ++ (codes " of segment " ++ signed_decimal p.segment)

-- whether this is the fault's place
abbrev pub is_there : Option Place → PartitionName → ℕ → Bool
is_there None name offset = false
is_there (Some place) name offset = is_same place.partition.topic name.topic && int_eq place.partition.partition name.partition && place.offset == offset

-- the word before a place
abbrev pub mark_of : Bool → List ℕ → List ℕ
mark_of true role = codes " fault    "
mark_of false role = role
