-- How many segments there are, and how many bytes they have.
use Rattle.std.specs.Prelude.{◌≡◌, ℕ, List, length, map, sum}
use Rattle.eos_evidence.specs.declared.segment.Segment.{Segment}
use Rattle.eos_kept.specs.declared.sizes.Sizes.{Sizes}

abbrev pub bytes_in : List Segment → ℕ
bytes_in segments = sum (map (λ s. length s.bytes) segments)

pub record AreSized (segments : List Segment) (sizes : Sizes) : Type 0 where
  pub counted : sizes.segments ≡ length segments
  pub bytes_are : sizes.bytes ≡ bytes_in segments
