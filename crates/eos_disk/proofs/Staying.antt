-- What stood before evidence was written stands after it.
use Rattle.std.proofs.Common.{◌≡◌, ◌≢◌, ℕ, List, [], ◌∷◌, sym, subst}
use Rattle.eos_disk.specs.Entries.{Entry, Unknown, Absent, File, Folder, HasBytes, MayBeAbsent}
use Rattle.eos_disk.specs.Changes.{bare, IsFolder, SameKnown, IsPut, IsMade}
use Rattle.eos_disk.specs.Putting.{beside, IsPlaced}
use Rattle.eos_disk.proofs.Kept.{bytes_same, unknown_there, by_path}
use Rattle.eos_evidence.specs.declared.partition.Partition.{Partition}
use Rattle.eos_evidence.specs.declared.segment.Segment.{Segment}
use Rattle.eos_disk.specs.Writing.{SegmentsWritten, IsPartitionWritten, PartitionsWritten}

-- a file stays with its bytes, and a folder stays
pub record Stays (old new : Entry) : Type 0 where
  pub bytes : (x : List ℕ) → HasBytes old x → HasBytes new x
  pub folder : IsFolder old → IsFolder new

folder_to_bare : (e : Entry) → IsFolder e → IsFolder (bare e)
folder_to_bare Unknown h = tt
folder_to_bare Absent h = absurd h
folder_to_bare (File b) h = absurd h
folder_to_bare (Folder n) h = tt

folder_of_bare : (e : Entry) → IsFolder (bare e) → IsFolder e
folder_of_bare Unknown h = tt
folder_of_bare Absent h = absurd h
folder_of_bare (File b) h = absurd h
folder_of_bare (Folder n) h = tt

stays_same : (old new : Entry) → bare new ≡ bare old → Stays old new
stays_same old new e = record {
  bytes = λ x h. bytes_same new old x e h;
  folder = λ h. folder_of_bare new (subst (λ (c : Entry). IsFolder c) (sym e) (folder_to_bare old h));
}

unknown_folder : (old new : Entry) → SameKnown old new → MayBeAbsent old → IsFolder old → IsFolder new
unknown_folder Unknown Unknown k h i = tt
unknown_folder Unknown Absent k h i = absurd (k.1 tt)
unknown_folder Unknown (File c) k h i = absurd (k.1 tt)
unknown_folder Unknown (Folder c) k h i = tt
unknown_folder Absent new k h i = absurd i
unknown_folder (File c) new k h i = absurd h
unknown_folder (Folder c) new k h i = absurd h

-- where something new was made
stays_fresh : (old new : Entry) → SameKnown old new → MayBeAbsent old → Stays old new
stays_fresh old new k h = record { bytes = λ x i. unknown_there old new x k h i; folder = λ i. unknown_folder old new k h i }

stays_still : (e : Entry) → Stays e e
stays_still e = record { bytes = λ x h. h; folder = λ h. h }

stays_on : (a b c : Entry) → Stays a b → Stays b c → Stays a c
stays_on a b c h k = record { bytes = λ x i. k.bytes x (h.bytes x i); folder = λ i. k.folder (h.folder i) }

put_stays : (old new : List ℕ → Entry) (path bytes : List ℕ) → IsPut old path bytes new → (q : List ℕ) → Stays (old q) (new q)
put_stays old new path bytes put q = by_path (Stays (old q) (new q)) q path
    (λ (e : q ≡ path). subst (λ (r : List ℕ). Stays (old r) (new r)) (sym e) (stays_fresh (old path) (new path) put.known put.fresh))
    (λ (n : q ≢ path). stays_same (old q) (new q) (put.others q n))

pub made_stays : (old new : List ℕ → Entry) (path : List ℕ) → IsMade old path new → (q : List ℕ) → Stays (old q) (new q)
made_stays old new path made q = by_path (Stays (old q) (new q)) q path
    (λ (e : q ≡ path). subst (λ (r : List ℕ). Stays (old r) (new r)) (sym e) (stays_fresh (old path) (new path) made.known made.fresh))
    (λ (n : q ≢ path). stays_same (old q) (new q) (made.others q n))

pub placed_stays : (old new : List ℕ → Entry) (path bytes : List ℕ) → IsPlaced old path bytes new → (q : List ℕ) → q ≢ beside path → Stays (old q) (new q)
placed_stays old new path bytes placed q aside = by_path (Stays (old q) (new q)) q path
    (λ (e : q ≡ path). subst (λ (r : List ℕ). Stays (old r) (new r)) (sym e) (stays_fresh (old path) (new path) (placed.known path) placed.fresh))
    (λ (n : q ≢ path). stays_same (old q) (new q) (placed.others q n aside))

pub segments_stay : (old new : List ℕ → Entry) (folder : List ℕ) (ss : List Segment) → SegmentsWritten old folder ss new → (q : List ℕ) → Stays (old q) (new q)
segments_stay old new folder [] h q = subst (λ (x : List ℕ → Entry). Stays (old q) (x q)) (sym h) (stays_still (old q))
segments_stay old new folder (s ∷ ss) h q = stays_on (old q) (h.0 q) (new q) (put_stays old h.0 _ s.bytes h.1 q) (segments_stay h.0 new folder ss h.2 q)

partition_stays : (old new : List ℕ → Entry) (folder : List ℕ) (p : Partition) → IsPartitionWritten old folder p new → (q : List ℕ) → Stays (old q) (new q)
partition_stays old new folder p h q = stays_on (old q) (h.0 q) (new q) (made_stays old h.0 _ h.1 q) (segments_stay h.0 new folder p.segments h.2 q)

pub partitions_stay : (old new : List ℕ → Entry) (folder : List ℕ) (ps : List Partition) → PartitionsWritten old folder ps new → (q : List ℕ) → Stays (old q) (new q)
partitions_stay old new folder [] h q = subst (λ (x : List ℕ → Entry). Stays (old q) (x q)) (sym h) (stays_still (old q))
partitions_stay old new folder (p ∷ ps) h q = stays_on (old q) (h.0 q) (new q) (partition_stays old h.0 folder p h.1 q) (partitions_stay h.0 new folder ps h.2 q)
