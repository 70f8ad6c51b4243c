-- Slots, one for each piece, while they are filled.
use Rattle.std.specs.Prelude.{ℕ, suc, List, [], ◌∷◌, Option, Result, IfSome, IsSome, slice_get, ⊤}
use Rattle.eos_evidence.specs.declared.application.App.{App}
use Rattle.eos_evidence.specs.declared.segment.Segment.{Segment}
use Rattle.eos_kept.specs.declared.kept_run.KeptRun.{KeptRun}
use Rattle.eos_source.specs.Said.{Known}
use Rattle.eos_source.specs.steps.Runs.{IsSlot}

-- what became of those pieces of these names whose slots are filled; the first of them has this number
abbrev pub AreSlotsSoFar : {F : Type 0} → (ℕ → Known) → (ℕ → Option F → Type 0) → List (List ℕ) → List App → ℕ → List Segment → List (Option (Result KeptRun F)) → Type 0
AreSlotsSoFar known outcomes topics apps piece [] [] = ⊤
AreSlotsSoFar known outcomes topics apps piece [] (slot ∷ slots) = ⊥
AreSlotsSoFar known outcomes topics apps piece (name ∷ names) [] = ⊥
AreSlotsSoFar known outcomes topics apps piece (name ∷ names) (slot ∷ slots) =
    IfSome slot (IsSlot known outcomes topics apps piece name) × AreSlotsSoFar known outcomes topics apps (suc piece) names slots

-- the slot of this number, if there is one, is filled
abbrev pub IsFilled : {A : Type 0} → List (Option A) → ℕ → Type 0
IsFilled slots n = IfSome (slice_get slots n) IsSome

-- and each that was filled still is
abbrev pub AreFilledAsWell : {A : Type 0} → List (Option A) → List (Option A) → Type 0
AreFilledAsWell before after = (n : ℕ) → IsFilled before n → IsFilled after n
