-- Where the files of evidence lie in its folder: the manifest, and for each partition a folder TOPIC-N with its segments. Source: Kafka's
-- documentation, "Log" (a partition's folder is named by topic and number, a segment's file by its first offset, in 20 digits).
use Rattle.std.specs.Prelude.{ℕ, ◌^◌, ◌-◌, ℤ, List, ◌++◌, codes}
use Rattle.std.specs.Fmt.{signed_decimal, styled_signed_decimal, format_spec}
use Rattle.std.specs.Str.Lossy.{utf8_lossy}
use Rattle.eos_evidence.specs.declared.ends.End.{End}
use Rattle.eos_evidence.specs.declared.segment.Segment.{Segment}
use Rattle.eos_disk.specs.declared.names.Form.{Form}
use Rattle.eos_disk.specs.declared.names.Form.TheVariants.{Log, Fold}

abbrev pub manifest_path : List ℕ → List ℕ
manifest_path folder = folder ++ codes "/evidence.json"

-- FOLDER/TOPIC-N; a topic that is text, as each of a manifest is, stands there as it is
abbrev pub partition_path : List ℕ → List ℕ → ℤ → List ℕ
partition_path folder topic number = folder ++ (codes "/" ++ (utf8_lossy topic ++ (codes "-" ++ signed_decimal number)))

-- 20 digits, filled up by zeros
abbrev pub padded_base : ℤ → List ℕ
padded_base base = styled_signed_decimal (format_spec 32 0 4 20 (2 ^ 64 - 1)) base

abbrev pub ending_of : Form → List ℕ
ending_of Log = codes ".log"
ending_of Fold = codes ".fold"

-- PARTITION/BASE.log, or .fold
abbrev pub file_path : List ℕ → ℤ → Form → List ℕ
file_path partition base form = partition ++ (codes "/" ++ (padded_base base ++ ending_of form))

-- the folder of the partition of this end
abbrev pub path_of_end : List ℕ → End → List ℕ
path_of_end folder e = partition_path folder e.topic e.partition

-- FOLDER/TOPIC-N/BASE.log, or .fold
abbrev pub segment_path : List ℕ → Segment → Form → List ℕ
segment_path folder name form = file_path (partition_path folder name.topic name.partition) name.base form
