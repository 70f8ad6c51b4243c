-- Evidence that was written into an empty folder stands there, and nothing else.
use Rattle.std.proofs.Common.{◌≡◌, ℕ, List, [], ◌∷◌, ◌++◌, map, sym, ap, ◌∙◌, inl, inr}
use Rattle.std.specs.List.{AllByRecursion}
use Rattle.eos_base.specs.Members.{Has}
use Rattle.eos_base.proofs.Membership.{append_left, append_right}
use Rattle.eos_disk.specs.Entries.{Entry}
use Rattle.eos_disk.specs.Changes.{bare, IsFolder}
use Rattle.eos_disk.proofs.Kept.{absent_same}
use Rattle.eos_evidence.specs.declared.partition.Partition.{Partition}
use Rattle.eos_evidence.specs.declared.segment.Segment.{Segment}
use Rattle.eos_evidence.specs.Evidence.{EvidenceParts, segments_of}
use Rattle.eos_disk.specs.Paths.{manifest_path, path_of_end, segment_path}
use Rattle.eos_disk.specs.Reading.{HasItsBytes}
use Rattle.eos_disk.specs.Writing.{SegmentsWritten, IsPartitionWritten, PartitionsWritten, IsEvidenceWritten}
use Rattle.eos_disk.specs.declared.names.Form.TheVariants.{Log}
use Rattle.eos_disk.specs.Written.{below, IsEmptyAt, places_of, all_places, HoldsJust}
use Rattle.eos_disk.proofs.Staying.{placed_stays, segments_stay, partitions_stay}
use Rattle.eos_disk.proofs.Places.{folder_aside, log_aside}

-- ---- each is there

all_by : {X : Type 0} (P Q : X → Type 0) (xs : List X) → ((x : X) → P x → Q x) → AllByRecursion P xs → AllByRecursion Q xs
all_by P Q [] f h = tt
all_by P Q (x ∷ xs) f h = (f x h.0, all_by P Q xs f h.1)

all_joined : {X : Type 0} (P : X → Type 0) (xs ys : List X) → AllByRecursion P xs → AllByRecursion P ys → AllByRecursion P (xs ++ ys)
all_joined P [] ys h k = k
all_joined P (x ∷ xs) ys h k = (h.0, all_joined P xs ys h.1 k)

abbrev HasFolder : (List ℕ → Entry) → List ℕ → Partition → Type 0
HasFolder holds folder p = IsFolder (holds (path_of_end folder p.end))

segments_there : (old new : List ℕ → Entry) (folder : List ℕ) (ss : List Segment) → SegmentsWritten old folder ss new → AllByRecursion (HasItsBytes new folder) ss
segments_there old new folder [] h = tt
segments_there old new folder (s ∷ ss) h = (
  (segments_stay h.0 new folder ss h.2 (segment_path folder s Log)).bytes s.bytes h.1.at,
  segments_there h.0 new folder ss h.2,
)

logs_there : (old new : List ℕ → Entry) (folder : List ℕ) (ps : List Partition) → PartitionsWritten old folder ps new → AllByRecursion (HasItsBytes new folder) (segments_of ps)
logs_there old new folder [] h = tt
logs_there old new folder (p ∷ ps) h =
    all_joined (HasItsBytes new folder) p.segments (segments_of ps)
    (all_by (HasItsBytes h.0 folder) (HasItsBytes new folder) p.segments
    (λ s i. (partitions_stay h.0 new folder ps h.2 (segment_path folder s Log)).bytes s.bytes i)
    (segments_there h.1.0 h.0 folder p.segments h.1.2))
    (logs_there h.0 new folder ps h.2)

folders_there : (old new : List ℕ → Entry) (folder : List ℕ) (ps : List Partition) → PartitionsWritten old folder ps new → AllByRecursion (HasFolder new folder) ps
folders_there old new folder [] h = tt
folders_there old new folder (p ∷ ps) h = (
  (partitions_stay h.0 new folder ps h.2 (path_of_end folder p.end)).folder ((segments_stay h.1.0 h.0 folder p.segments h.1.2 (path_of_end folder p.end)).folder h.1.1.at),
  folders_there h.0 new folder ps h.2,
)

-- ---- and no other

segments_else : (old new : List ℕ → Entry) (folder : List ℕ) (ss : List Segment) (q : List ℕ) → SegmentsWritten old folder ss new → (Has (map (λ s. segment_path folder s Log) ss) q → ⊥) → bare (new q) ≡ bare (old q)
segments_else old new folder [] q h lacks = ap (λ (x : List ℕ → Entry). bare (x q)) h
segments_else old new folder (s ∷ ss) q h lacks =
    segments_else h.0 new folder ss q h.2 (λ k. lacks (inr k)) ∙ h.1.others q (λ e. lacks (inl (sym e)))

partition_else : (old new : List ℕ → Entry) (folder : List ℕ) (p : Partition) (q : List ℕ) → IsPartitionWritten old folder p new → (Has (places_of folder p) q → ⊥) → bare (new q) ≡ bare (old q)
partition_else old new folder p q h lacks =
    segments_else h.0 new folder p.segments q h.2 (λ k. lacks (inr k)) ∙ h.1.others q (λ e. lacks (inl (sym e)))

partitions_else : (old new : List ℕ → Entry) (folder : List ℕ) (ps : List Partition) (q : List ℕ) → PartitionsWritten old folder ps new → (Has (all_places folder ps) q → ⊥) → bare (new q) ≡ bare (old q)
partitions_else old new folder [] q h lacks = ap (λ (x : List ℕ → Entry). bare (x q)) h
partitions_else old new folder (p ∷ ps) q h lacks =
    partitions_else h.0 new folder ps q h.2 (λ k. lacks (append_right (places_of folder p) (all_places folder ps) q k))
    ∙ partition_else old h.0 folder p q h.1 (λ k. lacks (append_left (places_of folder p) (all_places folder ps) q k))

-- ---- all of it

pub just_written : (old new : List ℕ → Entry) (folder : List ℕ) (e : EvidenceParts) → IsEmptyAt old folder → IsEvidenceWritten old folder e new → HoldsJust new folder e
just_written old new folder e empty h =
    let stay = placed_stays h.mid new (manifest_path folder) h.text h.placed in
    record {
      text = h.text;
      manifest = h.placed.at;
      says = h.says;
      folders = all_by (HasFolder h.mid folder) (HasFolder new folder) e.partitions (λ p i. (stay (path_of_end folder p.end) (folder_aside folder p.end)).folder i) (folders_there old h.mid folder e.partitions h.partitions);
      logs = all_by (HasItsBytes h.mid folder) (HasItsBytes new folder) (segments_of e.partitions) (λ s i. (stay (segment_path folder s Log) (log_aside folder s)).bytes s.bytes i) (logs_there old h.mid folder e.partitions h.partitions);
      nothing_else = λ name lacks apart aside.
          let q = below folder name in
          absent_same (new q) (old q) (h.placed.others q apart aside ∙ partitions_else old h.mid folder e.partitions q h.partitions lacks) (empty name);
    }
