-- The evidence that a folder of logs gives whoever reads all of it: its shape stands there, and each segment has the bytes of its log.
use Rattle.std.specs.Prelude.{◌≡◌, ℕ, List, [], map}
use Rattle.std.specs.List.{AllByRecursion}
use Rattle.eos_disk.specs.Entries.{Entry, HasBytes}
use Rattle.eos_evidence.specs.declared.partition.Partition.{Partition}
use Rattle.eos_evidence.specs.declared.segment.Segment.{Segment}
use Rattle.eos_evidence.specs.Evidence.{EvidenceParts, IsEvidence, segments_of}
use Rattle.eos_disk.specs.declared.names.Form.{Form}
use Rattle.eos_disk.specs.declared.names.Form.TheVariants.{Log}
use Rattle.eos_disk.specs.Paths.{segment_path}
use Rattle.eos_disk.specs.Shapes.{IsShapeAt}

-- the name of a segment, without its bytes
abbrev pub name_of : Segment → Segment
name_of s = record { topic = s.topic; partition = s.partition; base = s.base; bytes = [] }

abbrev pub names_only : Partition → Partition
names_only p = record { end = p.end; segments = map name_of p.segments }

-- the shape of an evidence
abbrev pub shape_of : EvidenceParts → EvidenceParts
shape_of e = record { spec = e.spec; partitions = map names_only e.partitions }

-- all of these stand there as logs
abbrev pub AreAllLogs : List Form → Type 0
AreAllLogs = AllByRecursion (λ form. form ≡ Log)

-- the segment's log has just these bytes
abbrev pub HasItsBytes : (List ℕ → Entry) → List ℕ → Segment → Type 0
HasItsBytes holds folder s = HasBytes (holds (segment_path folder s Log)) s.bytes

pub record IsReadWhole (holds : List ℕ → Entry) (folder : List ℕ) (e : EvidenceParts) : Type 0 where
  pub forms : List Form
  pub is : IsShapeAt holds folder (shape_of e) forms
  pub logs : AreAllLogs forms
  pub is_evidence : IsEvidence e
  pub bytes : AllByRecursion (HasItsBytes holds folder) (segments_of e.partitions)
