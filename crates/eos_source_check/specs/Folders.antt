-- What is so of the evidence that stands in a folder. Where more than its first fault is told, some partitions may have been read again: of a
-- disk of which nothing is known it is then so of an evidence that has these as they were read again.
use Rattle.std.specs.Prelude.{◌≡◌, ℕ, Bool, false, List, [], Option}
use Rattle.eos_disk.specs.Entries.{Entry}
use Rattle.eos_disk.specs.Shapes.{IsShapeAt}
use Rattle.eos_disk.specs.declared.names.Form.{Form}
use Rattle.eos_evidence.specs.declared.partition.Partition.{Partition}
use Rattle.eos_evidence.specs.Evidence.{EvidenceParts, segments_of}
use Rattle.eos_source.specs.Said.{Known}
use Rattle.eos_source.specs.Saying.{known_at}
use Rattle.eos_source.specs.Shapes.{HoldsAsSaid}
use Rattle.eos_source_check.specs.Again.{AreAgain, AreThere}

-- so it is with each evidence of this shape whose segments are such as the pieces said, and, where more than the first fault is told, which
-- has the partitions as they were read again
pub record HoldsAsRead (known : ℕ → Known) (shape : EvidenceParts) (all : Bool) (Holds : EvidenceParts → Type 0) : Type 0 where
  pub again : List (Option Partition)
  pub once : all ≡ false → again ≡ []
  pub read : AreAgain known 0 shape.partitions again
  pub are : HoldsAsSaid known shape (λ e. AreThere again e.partitions → Holds e)

-- a shape stands in this folder, and so it is with it, by what is known of the files of its segments
pub record HoldsIn (holds : List ℕ → Entry) (folder : List ℕ) (Holds : (ℕ → Known) → EvidenceParts → Type 0) : Type 0 where
  pub shape : EvidenceParts
  pub forms : List Form
  pub is : IsShapeAt holds folder shape forms
  pub each : Holds (known_at holds folder (segments_of shape.partitions) forms) shape
