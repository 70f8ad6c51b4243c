-- What contracts see of a segment that is read with its batches' seals, as far as it was fed and at its end.
use Rattle.std.specs.Prelude.{ℕ, List}
use Rattle.eos_batch.specs.declared.record.Record.{Record}
use Rattle.eos_reading.specs.steps.Fed.{FedView, IsFed, WholeView, IsWhole}
use Rattle.eos_reading.specs.declared.seals.Seal.{Seal}
use Rattle.eos_reading.specs.Seals.{AreSeals}

pub record SealingView (K : Type 0) : Type 0 where
  pub fold : FedView K
  pub seals : List Seal

pub record IsSealing {K : Type 0} (keep : ℕ → Record → K) (fed waiting : List ℕ) (v : SealingView K) : Type 0 where
  pub folds : IsFed keep fed waiting v.fold
  pub sealed : AreSeals fed v.fold.heads v.seals

pub record SealedView (K : Type 0) : Type 0 where
  pub folded : WholeView K
  pub seals : List Seal

pub record IsSealed {K : Type 0} (keep : ℕ → Record → K) (bytes : List ℕ) (v : SealedView K) : Type 0 where
  pub folds : IsWhole keep bytes v.folded
  pub sealed : AreSeals bytes v.folded.heads v.seals
