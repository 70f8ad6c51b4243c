-- What a summary says of a list of batches.
use Rattle.std.specs.Prelude.{◌≡◌, ℕ, ℤ, Bool, Option, None, if◌then◌else◌}
use Rattle.std.specs.Ordering.{int_eq}
use Rattle.eos_touch.specs.declared.touch.Touch.{Touch}
use Rattle.eos_fold.specs.declared.mark.EndMark.{EndMark}
use Rattle.eos_fold.specs.declared.fault.Fault.{Fault}
use Rattle.eos_fold.specs.Faults.{IsLeastOf, StandsAt}
use Rattle.eos_fold.specs.Earlier.{earlier}
use Rattle.eos_fold.specs.Tables.{ends_at}
use Rattle.eos_fold.specs.Summaries.{BatchSummary, SameEnds}

-- one marker, of one id
abbrev pub only : ℤ → Option EndMark → ℤ → Option EndMark
only producer marker id = if int_eq producer id then marker else None

-- what a fault becomes where one more id is looked at
abbrev pub TakesFault : Bool → ℤ → Option (ℕ × Touch) → Option (ℕ × Touch) → Option Fault → Option Fault → Type 0
TakesFault sequenced producer last first old new =
    (seam : Option Fault) × (new ≡ earlier old seam) × IsLeastOf (λ offset id kind. (id ≡ producer) × StandsAt sequenced last first offset kind) seam

-- the same is known; there may be more room
pub record SameSummary (s t : BatchSummary) : Type 0 where
  pub sequenced : t.sequenced ≡ s.sequenced
  pub items : t.batches ≡ s.batches
  pub ends : (id : ℤ) → SameEnds (ends_at s.producers id) (ends_at t.producers id)
  pub fault : t.fault ≡ s.fault
