-- The pictures around the first faults of an evidence, in the order of the list of all.
use Rattle.std.specs.Prelude.{◌≤◌, ◌⊎◌, ⊤, ℕ, suc, List, [], ◌∷◌, length, None, Some}
use Rattle.eos_evidence.specs.declared.partition.Partition.{Partition}
use Rattle.eos_evidence.specs.Evidence.{EvidenceParts}
use Rattle.eos_source.specs.Said.{Known}
use Rattle.eos_drawing.specs.Drawings.{IsDrawing, AreTooFew}

-- the text that `draw` gives of the fault of this number, with times by what is known of these partitions' pieces, where nothing is said of how much is shown around it
pub record IsPictureText (known : ℕ → Known) (partitions : List Partition) (e : EvidenceParts) (number : ℕ) (text : List ℕ) : Type 0 where
  pub status : ℕ
  pub line : List ℕ
  pub is : IsDrawing known partitions e (Some number) None status line text

-- from this number on
abbrev pub ArePictureTexts : (ℕ → Known) → List Partition → EvidenceParts → ℕ → List (List ℕ) → Type 0
ArePictureTexts known partitions e number [] = ⊤
ArePictureTexts known partitions e number (t ∷ ts) = IsPictureText known partitions e number t × ArePictureTexts known partitions e (suc number) ts

-- so many, or all where there are fewer; none of a yes, which has no fault
pub record AreFirstPictures (known : ℕ → Known) (partitions : List Partition) (e : EvidenceParts) (most : ℕ) (texts : List (List ℕ)) : Type 0 where
  pub each : ArePictureTexts known partitions e 1 texts
  pub many : (most ≤ length texts) ⊎ AreTooFew e (Some (suc (length texts))) (length texts)
