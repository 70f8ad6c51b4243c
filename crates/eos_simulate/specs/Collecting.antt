-- What somebody brings who copied the log directories of a cluster and read the ends of its partitions, and made mistakes: files and ends,
-- as a function of those that were there. Source: Kafka's documentation, "Log" (a partition's folder is TOPIC-N, a segment's file has the
-- name of its first offset) and "Record Batch" (its checksum); what goes wrong is what people who copied log directories have told.
use Rattle.std.specs.Prelude.{◌≡◌, ℕ, pos, List, [], ◌∷◌, Bool, true, false, not, ◌&&◌, ◌||◌, ◌==◌, if◌then◌else◌, nat_lt, length, slice_index, flat_map, Option, None, Some, Ok}
use Rattle.std.specs.List.{list_any}
use Rattle.std.specs.Ordering.{int_eq}
use Rattle.eos_evidence.specs.declared.ends.End.{End}
use Rattle.eos_evidence.specs.declared.segment.Segment.{Segment}
use Rattle.eos_evidence.specs.SpecFields.{SpecFields, accepted}
use Rattle.eos_evidence.specs.Evidence.{EvidenceParts, segments_of, without_segments}
use Rattle.eos_machine.specs.Evidences.{adding}
use Rattle.eos_simulate.specs.declared.copied.Copied.{Copied}
use Rattle.eos_simulate.specs.declared.mistake.Mistake.{Mistake}
use Rattle.eos_simulate.specs.declared.mistake.Turned.{Turned}
use Rattle.eos_simulate.specs.declared.mistake.What.{What}
use Rattle.eos_simulate.specs.declared.mistake.What.TheVariants.{LostSegment, CutSegment, RenamedSegment, TurnedByte, RewrittenByte, TwoReplicas, Compacted, WrongEnd, Forgotten, Doubled}
use Rattle.eos_simulate.specs.CopiedFiles.{is_file_of, is_end_of, without_last, with_byte, sealed}
use Rattle.eos_simulate.specs.Cleaning.{cleaned_files}

-- what a replica has in its file that never began another one
abbrev pub all_bytes : Mistake → List Segment → List ℕ
all_bytes m files = flat_map (λ s. if is_file_of m s then s.bytes else []) files

-- ---- files and ends

-- what comes of a file of the partition, of which these are all files
abbrev pub own_file : Mistake → List Segment → Segment → What → List Segment
own_file m files s (LostSegment base) = if int_eq s.base base then [] else s ∷ []
own_file m files s (CutSegment base) = (if int_eq s.base base then record s { bytes = without_last s.bytes } else s) ∷ []
own_file m files s (RenamedSegment base name) = (if int_eq s.base base then record s { base = name } else s) ∷ []
own_file m files s (TurnedByte t) = (if int_eq s.base t.base then record s { bytes = with_byte t.at t.value s.bytes } else s) ∷ []
own_file m files s (RewrittenByte t) = (if int_eq s.base t.base then record s { bytes = sealed (with_byte t.at t.value s.bytes) } else s) ∷ []
own_file m files s TwoReplicas = (if int_eq s.base (pos 0) then record s { bytes = all_bytes m files } else s) ∷ []
own_file m files s Compacted = s ∷ []
own_file m files s (WrongEnd end) = s ∷ []
own_file m files s Forgotten = []
own_file m files s (Doubled number) = s ∷ record s { partition = number } ∷ []

-- what comes of its end
abbrev pub own_end : End → What → List End
own_end e (LostSegment base) = e ∷ []
own_end e (CutSegment base) = e ∷ []
own_end e (RenamedSegment base name) = e ∷ []
own_end e (TurnedByte t) = e ∷ []
own_end e (RewrittenByte t) = e ∷ []
own_end e TwoReplicas = e ∷ []
own_end e Compacted = e ∷ []
own_end e (WrongEnd end) = record e { end = end } ∷ []
own_end e Forgotten = []
own_end e (Doubled number) = e ∷ record e { partition = number } ∷ []

abbrev pub file_after : Mistake → List Segment → Segment → List Segment
file_after m files s = if is_file_of m s then own_file m files s m.what else s ∷ []

abbrev pub end_after : Mistake → End → List End
end_after m e = if is_end_of m e then own_end e m.what else e ∷ []

-- the log cleaner goes over a log as a whole, and any other mistake from file to file
abbrev pub files_after : Mistake → List Segment → What → List Segment
files_after m files (LostSegment base) = flat_map (file_after m files) files
files_after m files (CutSegment base) = flat_map (file_after m files) files
files_after m files (RenamedSegment base name) = flat_map (file_after m files) files
files_after m files (TurnedByte t) = flat_map (file_after m files) files
files_after m files (RewrittenByte t) = flat_map (file_after m files) files
files_after m files TwoReplicas = flat_map (file_after m files) files
files_after m files Compacted = cleaned_files m files
files_after m files (WrongEnd end) = flat_map (file_after m files) files
files_after m files Forgotten = flat_map (file_after m files) files
files_after m files (Doubled number) = flat_map (file_after m files) files

abbrev pub after_mistake : Mistake → Copied → Copied
after_mistake m c = record { ends = flat_map (end_after m) c.ends; files = files_after m c.files m.what }

-- ---- whether a mistake can be made

-- another byte would stand there
abbrev pub turns : Turned → Segment → Bool
turns t s = int_eq s.base t.base && (nat_lt t.at (length s.bytes) && not (slice_index s.bytes t.at == t.value))

-- at this file of the partition
abbrev pub meets_file : Segment → What → Bool
meets_file s (LostSegment base) = int_eq s.base base
meets_file s (CutSegment base) = int_eq s.base base
meets_file s (RenamedSegment base name) = int_eq s.base base && not (int_eq name base)
meets_file s (TurnedByte t) = turns t s
meets_file s (RewrittenByte t) = turns t s
meets_file s TwoReplicas = not (int_eq s.base (pos 0))
meets_file s Compacted = not (int_eq s.base (pos 0))
meets_file s (WrongEnd end) = false
meets_file s Forgotten = false
meets_file s (Doubled number) = false

-- at its end
abbrev pub meets_end : End → What → Bool
meets_end e (LostSegment base) = false
meets_end e (CutSegment base) = false
meets_end e (RenamedSegment base name) = false
meets_end e (TurnedByte t) = false
meets_end e (RewrittenByte t) = false
meets_end e TwoReplicas = false
meets_end e Compacted = false
meets_end e (WrongEnd end) = not (int_eq e.end end)
meets_end e Forgotten = true
meets_end e (Doubled number) = true

abbrev pub meets_a_file : Mistake → List Segment → Bool
meets_a_file m files = list_any (λ s. is_file_of m s && meets_file s m.what) files

abbrev pub meets_an_end : Mistake → List End → Bool
meets_an_end m ends = list_any (λ e. is_end_of m e && meets_end e m.what) ends

abbrev pub can_make : Mistake → Copied → Bool
can_make m c = meets_a_file m c.files || meets_an_end m c.ends

-- ---- the evidence

abbrev pub copied_from : EvidenceParts → Copied
copied_from e = record { ends = e.spec.ends; files = segments_of e.partitions }

-- what is brought after these mistakes, one after the other; nothing where one can't be made
unfoldable pub after_mistakes : List Mistake → Copied → Option Copied
after_mistakes [] c = Some c
after_mistakes (m ∷ ms) c = if can_make m c then after_mistakes ms (after_mistake m c) else None

-- the evidence that is made of it
pub record IsMadeOf (e : EvidenceParts) (c : Copied) (made : EvidenceParts) : Type 0 where
  pub spec : SpecFields
  pub accepted : accepted (record e.spec { ends = c.ends }) ≡ Ok spec
  pub added : adding (without_segments spec) c.files ≡ Ok made

pub record IsCollectedWrong (ms : List Mistake) (e made : EvidenceParts) : Type 0 where
  pub copied : Copied
  pub brought : after_mistakes ms (copied_from e) ≡ Some copied
  pub made_of : IsMadeOf e copied made

-- without a mistake the evidence itself is brought
abbrev pub IsCollected : List Mistake → EvidenceParts → EvidenceParts → Type 0
IsCollected [] e made = made ≡ e
IsCollected (m ∷ ms) e made = IsCollectedWrong (m ∷ ms) e made
