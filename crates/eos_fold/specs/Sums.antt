-- The name of the first of some segments, and whether sequences are checked in them.
use Rattle.std.specs.Prelude.{◌≡◌, ℕ, Bool, not, List, [], ◌∷◌}
use Rattle.eos_evidence.specs.Topics.{is_internal}
use Rattle.eos_evidence.specs.declared.segment.Segment.{Segment}
use Rattle.eos_fold.specs.Fronts.{base_of}

-- the first segment has this name
abbrev pub BeginsAt : List Segment → ℕ → Type 0
BeginsAt [] begin = ⊥
BeginsAt (s ∷ ss) begin = base_of s ≡ begin

-- sequences are checked but in the internal topics, in which brokers keep none of their own
abbrev pub is_checked : Segment → Bool
is_checked s = not (is_internal s.topic)

abbrev pub AreChecked : List Segment → Bool → Type 0
AreChecked [] sequenced = ⊥
AreChecked (s ∷ ss) sequenced = sequenced ≡ is_checked s
