-- What is made of what is kept of a partition's segments.
use Rattle.std.specs.Prelude.{◌≡◌, ℕ, List, [], Option, Some, None, All, ⊤}
use Rattle.eos_batch.specs.declared.record.Record.{Record}
use Rattle.eos_evidence.specs.declared.segment.Segment.{Segment}
use Rattle.eos_evidence.specs.declared.ends.End.{End}
use Rattle.eos_fold.specs.Standing.{AreOf}
use Rattle.eos_reading.specs.declared.wanted.Wanted.{Wanted}
use Rattle.eos_kept.specs.declared.part.Told.{Told}
use Rattle.eos_kept.specs.Kept.{KeptView, IsKept}
use Rattle.eos_kept.specs.Parts.{IsTold}

-- what is kept of these segments, or there are none
abbrev pub AreKept : {K : Type 0} → (ℕ → Record → K) → List Segment → Option (KeptView K) → Type 0
AreKept keep segments None = segments ≡ []
AreKept keep segments (Some kept) = IsKept keep segments kept

-- of all that is kept
abbrev pub AllKept : {K : Type 0} → (K → Type 0) → Option (KeptView K) → Type 0
AllKept P None = ⊤
AllKept P (Some kept) = All P kept.kept

-- so it is for all segments of this partition of which this is kept
abbrev pub IsMade : {K : Type 0} → Wanted → (ℕ → Record → K) → End → Option (KeptView K) → Told → Type 0
IsMade w keep end run told = (segments : List Segment) → AreKept keep segments run → AreOf end.topic end.partition segments → IsTold w end segments told
