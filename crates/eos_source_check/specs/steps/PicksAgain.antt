-- Batches at some places of the segments of a partition, one segment after the other.
use Rattle.std.specs.Prelude.{◌≡◌, ℕ, zero, suc, ℤ, List, [], ◌∷◌, map, Option, Some, None, if◌then◌else◌}
use Rattle.std.specs.Option.{option_flatten}
use Rattle.std.specs.Ordering.{int_eq}
use Rattle.eos_batch.specs.declared.batch.Batch.{Batch}
use Rattle.eos_evidence.specs.declared.partition.Partition.{Partition}
use Rattle.eos_evidence.specs.declared.segment.Segment.{Segment}
use Rattle.eos_sought.specs.declared.partition.Placed.{Placed}
use Rattle.eos_source.specs.Said.{Known}
use Rattle.eos_source_check.specs.Again.{AreLogsAgain, IsAgain}
use Rattle.eos_source_check.specs.Picked.{found_in}
use Rattle.eos_source_check.specs.steps.FaultsAgain.{IsLogOf}
use Rattle.eos_source_check.specs.steps.Picking.{told_at}

-- the byte of a place in the segment of this name
abbrev pub byte_in : ℤ → Option Placed → Option ℕ
byte_in base None = None
byte_in base (Some p) = if int_eq base p.segment then Some p.standing.byte else None

-- the batches at these bytes of a log of which so much is known
pub record AreOfLog (known : Known) (wanted : List (Option ℕ)) (told : List (Option (Option Batch))) : Type 0 where
  pub bytes : List ℕ
  pub of : IsLogOf known bytes
  pub are : told ≡ map (told_at bytes) wanted

-- what was found, and what is now, where this byte was looked for
abbrev pub found_or : Option (Option Batch) → Option ℕ → Option (Option Batch) → Option (Option Batch)
found_or (Some batch) byte told = Some batch
found_or None None told = None
found_or None (Some byte) told = Some (option_flatten told)

-- of so many, and of the others what was found
abbrev pub found_front : ℕ → List (Option ℕ) → List (Option (Option Batch)) → List (Option (Option Batch)) → List (Option (Option Batch))
found_front zero wanted told old = old
found_front (suc i) (byte ∷ wanted) (t ∷ told) (o ∷ old) = found_or o byte t ∷ found_front i wanted told old
found_front (suc i) [] told old = old
found_front (suc i) (byte ∷ wanted) [] old = old
found_front (suc i) (byte ∷ wanted) (t ∷ told) [] = []

-- the batches at these places of the first segments
pub record ArePicksAgain (known : ℕ → Known) (first : ℕ) (names : List Segment) (places : List (Option Placed)) (found : List (Option (Option Batch))) : Type 0 where
  pub segments : List Segment
  pub again : AreLogsAgain known first names segments
  pub are : found ≡ map (found_in segments) places

-- of the partition of this shape
pub record IsPickedAgain (known : ℕ → Known) (first : ℕ) (shape : Partition) (places : List (Option Placed)) (found : List (Option (Option Batch))) : Type 0 where
  pub partition : Partition
  pub again : IsAgain known first shape partition
  pub are : found ≡ map (found_in partition.segments) places
