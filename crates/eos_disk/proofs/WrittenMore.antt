-- One segment and one partition more.
use Rattle.std.proofs.Common.{◌≡◌, ◌<◌, ◌+◌, ℕ, List, [], ◌∷◌, ◌++◌, length, take, refl, sym, ap, ◌∙◌, subst, slice_index_or}
use Rattle.std.proofs.lemmas.List.{take_more}
use Rattle.eos_disk.specs.Entries.{Entry}
use Rattle.eos_disk.specs.Changes.{IsPut}
use Rattle.eos_evidence.specs.declared.partition.Partition.{Partition}
use Rattle.eos_evidence.specs.declared.segment.Segment.{Segment}
use Rattle.eos_disk.specs.Paths.{segment_path}
use Rattle.eos_disk.specs.Writing.{SegmentsWritten, IsPartitionWritten, PartitionsWritten}
use Rattle.eos_disk.specs.declared.names.Form.TheVariants.{Log}

segment_more : (old mid new : List ℕ → Entry) (folder : List ℕ) (ss : List Segment) (s : Segment) → SegmentsWritten old folder ss mid → IsPut mid (segment_path folder s Log) s.bytes new
    → SegmentsWritten old folder (ss ++ s ∷ []) new
segment_more old mid new folder [] s so_far last = (new, subst (λ (h : List ℕ → Entry). IsPut h (segment_path folder s Log) s.bytes new) so_far last, refl)
segment_more old mid new folder (t ∷ ss) s so_far last = (so_far.0, so_far.1, segment_more so_far.0 mid new folder ss s so_far.2 last)

partition_more : (old mid new : List ℕ → Entry) (folder : List ℕ) (ps : List Partition) (p : Partition) → PartitionsWritten old folder ps mid → IsPartitionWritten mid folder p new
    → PartitionsWritten old folder (ps ++ p ∷ []) new
partition_more old mid new folder [] p so_far last = (new, subst (λ (h : List ℕ → Entry). IsPartitionWritten h folder p new) so_far last, refl)
partition_more old mid new folder (q ∷ ps) p so_far last = (so_far.0, so_far.1, partition_more so_far.0 mid new folder ps p so_far.2 last)

pub next_segment : (old mid new : List ℕ → Entry) (folder : List ℕ) (ss : List Segment) (i : ℕ) (d s : Segment) → i < length ss → slice_index_or ss i d ≡ s → SegmentsWritten old folder (take i ss) mid
    → IsPut mid (segment_path folder s Log) s.bytes new → SegmentsWritten old folder (take (i + 1) ss) new
next_segment old mid new folder ss i d s lt e so_far last =
    subst (λ (xs : List Segment). SegmentsWritten old folder xs new) (sym (take_more ss i d lt ∙ ap (λ (x : Segment). take i ss ++ x ∷ []) e)) (segment_more old mid new folder (take i ss) s so_far last)

pub next_partition : (old mid new : List ℕ → Entry) (folder : List ℕ) (ps : List Partition) (i : ℕ) (d p : Partition) → i < length ps → slice_index_or ps i d ≡ p → PartitionsWritten old folder (take i ps) mid
    → IsPartitionWritten mid folder p new → PartitionsWritten old folder (take (i + 1) ps) new
next_partition old mid new folder ps i d p lt e so_far last =
    subst (λ (xs : List Partition). PartitionsWritten old folder xs new) (sym (take_more ps i d lt ∙ ap (λ (x : Partition). take i ps ++ x ∷ []) e)) (partition_more old mid new folder (take i ps) p so_far last)
