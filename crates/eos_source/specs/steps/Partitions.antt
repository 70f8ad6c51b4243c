-- What is told of partitions of a shape, of whose pieces so much is known and which said this.
use Rattle.std.specs.Prelude.{◌≡◌, ◌⊎◌, ℕ, ◌+◌, List, [], ◌∷◌, ◌++◌, length, take, drop, Result, IfOk, IfErr, Vec, ⊤}
use Rattle.eos_evidence.specs.declared.application.App.{App}
use Rattle.eos_evidence.specs.declared.partition.Partition.{Partition}
use Rattle.eos_evidence.specs.declared.segment.Segment.{Segment}
use Rattle.eos_evidence.specs.Evidence.{segments_of}
use Rattle.eos_kept.specs.declared.kept_run.KeptRun.{KeptRun}
use Rattle.eos_kept.specs.declared.part.Told.{Told}
use Rattle.eos_kept.specs.Parts.{IsTold}
use Rattle.eos_reading.specs.Wanted.{wanted_of}
use Rattle.eos_source.specs.Said.{Said, Known}
use Rattle.eos_source.specs.Shapes.{ArePieces}
use Rattle.eos_source.specs.steps.Runs.{AreFrom, AreSlotsOf, IsFirstRefused, ArePassed}

-- of a partition of this shape, whose first segment is the piece of this number
pub record IsToldOf (known : ℕ → Known) (said : ℕ → Said) (apps : List App) (piece : ℕ) (shape : Partition) (told : Told) : Type 0 where
  pub as_known : AreFrom known said piece (length shape.segments)
  pub is : (segments : List Segment) → ArePieces said piece shape.segments segments → IsTold (wanted_of apps shape.end.topic) shape.end segments told

-- of partitions of these shapes, one by one
abbrev pub AreEachToldOf : (ℕ → Known) → (ℕ → Said) → List App → ℕ → List Partition → List Told → Type 0
AreEachToldOf known said apps piece [] [] = ⊤
AreEachToldOf known said apps piece [] (t ∷ ts) = ⊥
AreEachToldOf known said apps piece (shape ∷ shapes) [] = ⊥
AreEachToldOf known said apps piece (shape ∷ shapes) (t ∷ ts) = IsToldOf known said apps piece shape t × AreEachToldOf known said apps (piece + length shape.segments) shapes ts

-- what is told of partitions of these shapes, if these are the slots of their pieces, whatever these said; or why it isn't
pub record IsToldFrom {F Z : Type 0} (known : ℕ → Known) (topics : List (List ℕ)) (apps : List App) (IsMemory : F → Type 0) (shapes : List Partition) (slots : List (Result KeptRun F)) (told : Result (Vec Told Z) F) : Type 0 where
  pub each : (said : ℕ → Said) (piece : ℕ) → AreSlotsOf known said topics apps piece (segments_of shapes) slots → IfOk told (λ all. AreEachToldOf known said apps piece shapes all.items)
  pub passed : IfOk told (λ all. (rest : List (Result KeptRun F)) × ArePassed (length (segments_of shapes)) slots rest)
  pub refused : IfErr told (λ why. IsFirstRefused slots why ⊎ IsMemory why)

-- partitions and the slots of their pieces, as two parts
pub record AreHalves {F : Type 0} (shapes : List Partition) (slots : List (Result KeptRun F)) (front : List Partition) (fronts : List (Result KeptRun F)) (back : List Partition) (backs : List (Result KeptRun F)) : Type 0 where
  pub both : shapes ≡ front ++ back
  pub first : fronts ≡ take (length (segments_of front)) slots
  pub second : backs ≡ drop (length (segments_of front)) slots
