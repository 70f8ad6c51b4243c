-- What is kept of pieces, by their numbers, of which so much is known and which said this.
use Rattle.std.specs.Prelude.{◌≡◌, ℕ, suc, ◌+◌, ◌≤◌, ◌<◌, List, [], ◌∷◌, ◌++◌, length, map, Option, Some, None, Result, Ok, Err, IfOk, IfErr, ⊤}
use Rattle.eos_evidence.specs.declared.application.App.{App}
use Rattle.eos_evidence.specs.declared.segment.Segment.{Segment}
use Rattle.eos_reading.specs.Wanted.{wanted_of}
use Rattle.eos_kept.specs.declared.kept_run.KeptRun.{KeptRun}
use Rattle.eos_kept.specs.KeptRuns.{IsKeptRun}
use Rattle.eos_kept.specs.Held.{Asking, IsAsked}
use Rattle.eos_source.specs.Said.{Said, Known, IsAsKnown}
use Rattle.eos_source.specs.Shapes.{IsPiece, ArePieces}

-- for these applications
abbrev pub asking : List (List ℕ) → List App → List ℕ → Asking
asking topics apps topic = record { topics = topics; wanted = wanted_of apps topic; topic = topic }

-- what each of so many pieces from this number on said
abbrev pub AreFrom : (ℕ → Known) → (ℕ → Said) → ℕ → ℕ → Type 0
AreFrom known said first count = (piece : ℕ) → first ≤ piece → piece < first + count → IsAsKnown (known piece) (said piece)

-- what was asked of the pieces of these names, the first of which has this number
pub record IsRead (known : ℕ → Known) (said : ℕ → Said) (a : Asking) (piece : ℕ) (names : List Segment) (run : KeptRun) : Type 0 where
  pub as_known : AreFrom known said piece (length names)
  pub kept : (segments : List Segment) → ArePieces said piece names segments → IsKeptRun a.topics segments run
  pub asked : IsAsked a run

-- or there are none
abbrev pub AreRead : (ℕ → Known) → (ℕ → Said) → Asking → ℕ → List Segment → Option KeptRun → Type 0
AreRead known said a piece names None = names ≡ []
AreRead known said a piece names (Some run) = IsRead known said a piece names run

-- ---- slots

-- what was asked of the piece of this name, which said this
pub record IsTaken (known : Known) (said : Said) (a : Asking) (name : Segment) (run : KeptRun) : Type 0 where
  pub as_known : IsAsKnown known said
  pub kept : (segment : Segment) → IsPiece said name segment → IsKeptRun a.topics (segment ∷ []) run
  pub asked : IsAsked a run

-- what became of the piece of this name, if it said this: what was asked of it, or a refusal
abbrev pub IsSlotOf : {F : Type 0} → Known → Said → List (List ℕ) → List App → Segment → Result KeptRun F → Type 0
IsSlotOf known said topics apps name slot = IfOk slot (IsTaken known said (asking topics apps name.topic) name)

-- what became of the piece of this number and name: what was asked of it, or why it is refused
abbrev pub IsSlot : {F : Type 0} → (ℕ → Known) → (ℕ → Option F → Type 0) → List (List ℕ) → List App → ℕ → Segment → Result KeptRun F → Type 0
IsSlot known outcomes topics apps piece name slot =
    IfOk slot (λ run. (said : Said) × IsTaken (known piece) said (asking topics apps name.topic) name run) × IfOk slot (λ run. outcomes piece None) × IfErr slot (λ why. outcomes piece (Some why))

-- what became of the pieces of these names, the first of which has this number
abbrev pub AreSlots : {F : Type 0} → (ℕ → Known) → (ℕ → Option F → Type 0) → List (List ℕ) → List App → ℕ → List Segment → List (Result KeptRun F) → Type 0
AreSlots known outcomes topics apps piece [] [] = ⊤
AreSlots known outcomes topics apps piece [] (slot ∷ slots) = ⊥
AreSlots known outcomes topics apps piece (name ∷ names) [] = ⊥
AreSlots known outcomes topics apps piece (name ∷ names) (slot ∷ slots) = IsSlot known outcomes topics apps piece name slot × AreSlots known outcomes topics apps (suc piece) names slots

-- the same, if the pieces said this; others follow
abbrev pub AreSlotsOf : {F : Type 0} → (ℕ → Known) → (ℕ → Said) → List (List ℕ) → List App → ℕ → List Segment → List (Result KeptRun F) → Type 0
AreSlotsOf known said topics apps piece [] slots = ⊤
AreSlotsOf known said topics apps piece (name ∷ names) [] = ⊥
AreSlotsOf known said topics apps piece (name ∷ names) (slot ∷ slots) =
    IsSlotOf (known piece) (said piece) topics apps name slot × AreSlotsOf known said topics apps (suc piece) names slots

-- the first refusal among these slots
abbrev pub IsFirstRefused : {F : Type 0} → List (Result KeptRun F) → F → Type 0
IsFirstRefused [] why = ⊥
IsFirstRefused (Ok run ∷ slots) why = IsFirstRefused slots why
IsFirstRefused (Err fault ∷ slots) why = why ≡ fault

-- so many of these slots were passed, none of which is a refusal
abbrev pub ArePassed : {F : Type 0} → ℕ → List (Result KeptRun F) → List (Result KeptRun F) → Type 0
ArePassed count before after = (runs : List KeptRun) × (length runs ≡ count) × (before ≡ map Ok runs ++ after)
