-- What writing evidence does to a disk: folder by folder and file by file, each new, and the manifest after all of them.
use Rattle.std.specs.Prelude.{◌≡◌, ℕ, List, [], ◌∷◌, Ok}
use Rattle.eos_disk.specs.Entries.{Entry}
use Rattle.eos_disk.specs.Changes.{IsMade, IsPut}
use Rattle.eos_disk.specs.Putting.{IsPlaced}
use Rattle.eos_evidence.specs.declared.partition.Partition.{Partition}
use Rattle.eos_evidence.specs.declared.segment.Segment.{Segment}
use Rattle.eos_evidence.specs.Evidence.{EvidenceParts}
use Rattle.eos_evidence.specs.Manifest.{spec_said_by}
use Rattle.eos_disk.specs.Paths.{manifest_path, path_of_end, segment_path}
use Rattle.eos_disk.specs.declared.names.Form.TheVariants.{Log}

-- each of these segments is put as a new log
abbrev pub SegmentsWritten : (List ℕ → Entry) → List ℕ → List Segment → (List ℕ → Entry) → Type 0
SegmentsWritten old folder [] new = new ≡ old
SegmentsWritten old folder (s ∷ ss) new =
    (mid : List ℕ → Entry) × IsPut old (segment_path folder s Log) s.bytes mid × SegmentsWritten mid folder ss new

-- the partition's folder is made, and its segments are put there
abbrev pub IsPartitionWritten : (List ℕ → Entry) → List ℕ → Partition → (List ℕ → Entry) → Type 0
IsPartitionWritten old folder p new = (mid : List ℕ → Entry) × IsMade old (path_of_end folder p.end) mid × SegmentsWritten mid folder p.segments new

abbrev pub PartitionsWritten : (List ℕ → Entry) → List ℕ → List Partition → (List ℕ → Entry) → Type 0
PartitionsWritten old folder [] new = new ≡ old
PartitionsWritten old folder (p ∷ ps) new = (mid : List ℕ → Entry) × IsPartitionWritten old folder p mid × PartitionsWritten mid folder ps new

-- all partitions are written, and then a manifest is placed that says this evidence's spec
pub record IsEvidenceWritten (old : List ℕ → Entry) (folder : List ℕ) (e : EvidenceParts) (new : List ℕ → Entry) : Type 0 where
  pub mid : List ℕ → Entry
  pub text : List ℕ
  pub partitions : PartitionsWritten old folder e.partitions mid
  pub says : spec_said_by text ≡ Ok e.spec
  pub placed : IsPlaced mid (manifest_path folder) text new
