-- The line of a row.
use Rattle.std.specs.Prelude.{ℕ, ℤ, ◌-◌, List, [], ◌∷◌, ◌++◌, Option, Some, None, Bool, false, ◌==◌, not, nat_le, codes, length, if◌then◌else◌}
use Rattle.std.specs.Fmt.{decimal, signed_decimal}
use Rattle.eos_base.specs.declared.partition_name.PartitionName.{PartitionName}
use Rattle.eos_claims.specs.declared.place.Place.{Place}
use Rattle.eos_sought.specs.declared.partition.Placed.{Placed}
use Rattle.eos_sought.specs.declared.wanted.Wanted.{Wanted}
use Rattle.eos_verdict.specs.FaultTexts.{name_text}
use Rattle.eos_story.specs.declared.headers.HeaderName.{HeaderName}
use Rattle.eos_story.specs.declared.headers.HeaderName.TheVariants.{Topic, Partition, Offset, Output, Of}
use Rattle.eos_story.specs.declared.row.Row.{Row}
use Rattle.eos_story.specs.declared.row.Row.TheVariants as rows
use Rattle.eos_story.specs.HeaderNames.{key_of}
use Rattle.eos_explaining.specs.Records.{role_of, record_line, no_record_line}
use Rattle.eos_explaining.specs.Batches.{kind_role, batch_line, no_batch_line}

unfoldable pub more_line : ℕ → ℕ → List ℕ
more_line shown all = (codes ".. and " ++ decimal (all - shown)) ++ codes " more\n"

unfoldable pub segment_line : PartitionName → ℕ → ℕ → List ℕ
segment_line name base size = (codes " segment  " ++ name_text name.topic name.partition) ++ ((codes " segment " ++ decimal base) ++ ((codes " of bytes=" ++ decimal size) ++ codes "\n"))

unfoldable pub end_line : PartitionName → ℤ → List ℕ
end_line name end = (codes " end      " ++ name_text name.topic name.partition) ++ ((codes " is declared to end at " ++ signed_decimal end) ++ codes "\n")

-- ---- headers

-- so many bytes a header's value has to have; any number of a topic's
abbrev pub width_of : HeaderName → ℕ
width_of Topic = 0
width_of Partition = 4
width_of Offset = 8
width_of Output = 4
width_of Of = 4

abbrev pub is_below_zero : List ℕ → Bool
is_below_zero [] = false
is_below_zero (b ∷ bs) = nat_le 128 b

abbrev pub bytes_text : ℕ → List ℕ → List ℕ
bytes_text width bytes =
    if width == 0 then codes " is there once" else (if not (length bytes == width) then (codes " has bytes=" ++ decimal (length bytes)) ++ (codes ", not " ++ decimal width)
    else (if is_below_zero bytes then codes " is below 0" else codes " is there once"))

abbrev pub value_text : ℕ → Option (List ℕ) → List ℕ
value_text width None = codes " is null"
value_text width (Some bytes) = bytes_text width bytes

abbrev pub values_text : ℕ → List (Option (List ℕ)) → List ℕ
values_text width [] = codes " is absent"
values_text width (value ∷ []) = value_text width value
values_text width (value ∷ other ∷ values) = (codes " is there " ++ decimal (length (value ∷ other ∷ values))) ++ codes " times"

unfoldable pub header_line : HeaderName → List (Option (List ℕ)) → List ℕ
header_line name values = (codes " header   " ++ key_of name) ++ (values_text (width_of name) values ++ codes "\n")

-- ---- all

abbrev pub first_line : Option Place → PartitionName → Wanted → Option Placed → List ℕ
first_line fault name wanted None = no_batch_line name wanted
first_line fault name wanted (Some placed) = batch_line fault name wanted placed

abbrev pub row_line : Option Place → Row → List ℕ
row_line fault (rows.Record sought find spot) = record_line fault sought find spot
row_line fault (rows.NoRecord sought) = no_record_line sought
row_line fault (rows.MoreRecords shown all sought) = role_of sought ++ more_line shown all
row_line fault (rows.Batch name wanted placed) = batch_line fault name wanted placed
row_line fault (rows.First name wanted placed) = first_line fault name wanted placed
row_line fault (rows.MoreBatches name wanted shown all) = kind_role wanted ++ more_line shown all
row_line fault (rows.MorePartitions shown all sought) = codes " listed   " ++ more_line shown all
row_line fault (rows.Segment name base size) = segment_line name base size
row_line fault (rows.MoreSegments name shown all) = codes " segment  " ++ more_line shown all
row_line fault (rows.End name end) = end_line name end
row_line fault (rows.Header place name values) = header_line name values
