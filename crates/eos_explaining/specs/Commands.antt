-- The command to run next, with the folder's own path: the dump of the place that a story rests on, or of a segment, or the listing
-- of a folder.
use Rattle.std.specs.Prelude.{ℕ, ℤ, ◌+◌, ◌-◌, ◌^◌, min, List, [], ◌∷◌, ◌++◌, Option, Some, None, Bool, true, false, is_some, ◌&&◌, ◌||◌, not, ◌==◌, nat_lt, nat_le, unsigned_abs, codes, length, if◌then◌else◌}
use Rattle.std.specs.Char.{is_ascii_alphanumeric}
use Rattle.std.specs.Fmt.{decimal}
use Rattle.std.specs.List.{list_any}
use Rattle.eos_base.specs.declared.partition_name.PartitionName.{PartitionName}
use Rattle.eos_claims.specs.declared.place.Place.{Place}
use Rattle.eos_sought.specs.declared.partition.Placed.{Placed}
use Rattle.eos_verdict.specs.FaultTexts.{name_text}
use Rattle.eos_story.specs.declared.row.Row.{Row}
use Rattle.eos_story.specs.declared.row.Row.TheVariants as rows
use Rattle.eos_story.specs.Places.{is_there}

-- ---- paths

-- a shell may read this byte otherwise than as itself: it is no letter, no digit and none of `/._-`, and not of a character beyond ASCII
abbrev pub is_odd : ℕ → Bool
is_odd byte = not (is_ascii_alphanumeric byte || byte == 47 || byte == 46 || byte == 95 || byte == 45 || nat_le 128 byte)

-- a quote, or a control character
abbrev pub is_unsaid : ℕ → Bool
is_unsaid byte = byte == 39 || nat_lt byte 32 || byte == 127

abbrev pub folder_quote : List ℕ → List ℕ
folder_quote folder = if list_any is_odd folder && not (list_any is_unsaid folder) then codes "'" else []

abbrev pub folder_text : List ℕ → List ℕ
folder_text folder = if list_any is_unsaid folder then codes "FOLDER" else folder

-- so many zeros as twenty digits lack
abbrev pub zeros_before : ℕ → List ℕ
zeros_before digits =
    if digits == 1 then codes "0000000000000000000"
    else if digits == 2 then codes "000000000000000000"
    else if digits == 3 then codes "00000000000000000"
    else if digits == 4 then codes "0000000000000000"
    else if digits == 5 then codes "000000000000000"
    else if digits == 6 then codes "00000000000000"
    else if digits == 7 then codes "0000000000000"
    else if digits == 8 then codes "000000000000"
    else if digits == 9 then codes "00000000000"
    else if digits == 10 then codes "0000000000"
    else if digits == 11 then codes "000000000"
    else if digits == 12 then codes "00000000"
    else if digits == 13 then codes "0000000"
    else if digits == 14 then codes "000000"
    else if digits == 15 then codes "00000"
    else if digits == 16 then codes "0000"
    else if digits == 17 then codes "000"
    else if digits == 18 then codes "00"
    else if digits == 19 then codes "0"
    else []

unfoldable pub number_text : ℕ → List ℕ
number_text base = zeros_before (length (decimal base)) ++ decimal base

unfoldable pub path_text : List ℕ → PartitionName → ℕ → List ℕ
path_text folder name base =
    folder_quote folder ++ (folder_text folder ++ ((codes "/" ++ name_text name.topic name.partition) ++ (codes "/" ++ (number_text base ++ (codes ".log" ++ folder_quote folder)))))

unfoldable pub partition_path : List ℕ → PartitionName → List ℕ
partition_path folder name = folder_quote folder ++ (folder_text folder ++ ((codes "/" ++ name_text name.topic name.partition) ++ folder_quote folder))

-- ---- rows

-- the offset behind this one, where there is one
abbrev pub offset_after : ℕ → ℕ
offset_after offset = min (offset + 1) (2 ^ 64 - 1)

unfoldable pub span_text : ℕ → ℕ → List ℕ
span_text from to = (codes "Run: eoscheck dump --decode --from " ++ decimal from) ++ ((codes " --to " ++ decimal to) ++ codes " ")

unfoldable pub place_command : List ℕ → PartitionName → ℕ → ℤ → List ℕ
place_command folder name offset segment = span_text offset (offset_after offset) ++ (path_text folder name (unsigned_abs segment) ++ codes "\n")

abbrev pub spot_command : List ℕ → PartitionName → ℕ → Option Placed → List ℕ
spot_command folder name offset None = []
spot_command folder name offset (Some p) = place_command folder name offset p.segment

abbrev pub first_command : List ℕ → PartitionName → Option Placed → List ℕ
first_command folder name None = []
first_command folder name (Some p) = place_command folder name p.standing.head.offset p.segment

-- all of a segment
unfoldable pub segment_command : List ℕ → PartitionName → ℕ → List ℕ
segment_command folder name base = codes "Run: eoscheck dump " ++ (path_text folder name base ++ codes "\n")

-- which files a partition has
unfoldable pub folder_command : List ℕ → PartitionName → List ℕ
folder_command folder name = codes "Run: ls -l " ++ (partition_path folder name ++ codes "\n")

abbrev pub row_command : List ℕ → Row → List ℕ
row_command folder (rows.Record sought find spot) = spot_command folder find.partition find.item.offset spot
row_command folder (rows.Batch name wanted placed) = place_command folder name placed.standing.head.offset placed.segment
row_command folder (rows.First name wanted placed) = first_command folder name placed
row_command folder (rows.NoRecord sought) = []
row_command folder (rows.MoreRecords shown all sought) = []
row_command folder (rows.MoreBatches name wanted shown all) = []
row_command folder (rows.MorePartitions shown all sought) = []
row_command folder (rows.Segment name base size) = segment_command folder name base
row_command folder (rows.MoreSegments name shown all) = []
row_command folder (rows.End name end) = folder_command folder name
row_command folder (rows.Header at name values) = []

-- the segment is known that holds what a row is of, or that it is
abbrev pub is_spotted : Row → Bool
is_spotted (rows.Record sought find spot) = is_some spot
is_spotted (rows.Batch name wanted placed) = true
is_spotted (rows.First name wanted placed) = is_some placed
is_spotted (rows.NoRecord sought) = false
is_spotted (rows.MoreRecords shown all sought) = false
is_spotted (rows.MoreBatches name wanted shown all) = false
is_spotted (rows.MorePartitions shown all sought) = false
is_spotted (rows.Segment name base size) = true
is_spotted (rows.MoreSegments name shown all) = false
is_spotted (rows.End name end) = false
is_spotted (rows.Header at name values) = false

abbrev pub is_fault_row : Option Place → Row → Bool
is_fault_row place (rows.Record sought find spot) = is_some spot && is_there place find.partition find.item.offset
is_fault_row place (rows.Batch name wanted placed) = is_there place name placed.standing.head.offset
is_fault_row place (rows.First name wanted placed) = false
is_fault_row place (rows.NoRecord sought) = false
is_fault_row place (rows.MoreRecords shown all sought) = false
is_fault_row place (rows.MoreBatches name wanted shown all) = false
is_fault_row place (rows.MorePartitions shown all sought) = false
is_fault_row place (rows.Segment name base size) = false
is_fault_row place (rows.MoreSegments name shown all) = false
is_fault_row place (rows.End name end) = false
is_fault_row place (rows.Header at name values) = false

abbrev pub spotted : List Row → Option Row
spotted [] = None
spotted (row ∷ more) = if is_spotted row then Some row else spotted more

abbrev pub fault_row : Option Place → List Row → Option Row
fault_row place [] = None
fault_row place (row ∷ more) = if is_fault_row place row then Some row else fault_row place more

abbrev pub is_end_row : Row → Bool
is_end_row (rows.Record sought find spot) = false
is_end_row (rows.NoRecord sought) = false
is_end_row (rows.MoreRecords shown all sought) = false
is_end_row (rows.Batch name wanted placed) = false
is_end_row (rows.First name wanted placed) = false
is_end_row (rows.MoreBatches name wanted shown all) = false
is_end_row (rows.MorePartitions shown all sought) = false
is_end_row (rows.Segment name base size) = false
is_end_row (rows.MoreSegments name shown all) = false
is_end_row (rows.End name end) = true
is_end_row (rows.Header at name values) = false

abbrev pub ended : List Row → Option Row
ended [] = None
ended (row ∷ more) = if is_end_row row then Some row else ended more

abbrev pub command_of : List ℕ → Option Row → List ℕ
command_of folder None = []
command_of folder (Some row) = row_command folder row

-- of the first whose place is known, or else of the end of a partition
abbrev pub known_command : List ℕ → Option Row → List Row → List ℕ
known_command folder None told = command_of folder (ended told)
known_command folder (Some row) told = row_command folder row

abbrev pub command_by : List ℕ → Option Row → List Row → List ℕ
command_by folder None told = known_command folder (spotted told) told
command_by folder (Some row) told = row_command folder row

-- of the row of the fault's place, or else of what is known
abbrev pub fault_command : List ℕ → Option Place → List Row → List ℕ
fault_command folder place told = command_by folder (fault_row place told) told

-- of the row that shows the case, where its place is known
abbrev pub command_line : List ℕ → Option Place → List Row → Option Row → List ℕ
command_line folder place told None = fault_command folder place told
command_line folder place told (Some row) = if is_spotted row then row_command folder row else fault_command folder place told
