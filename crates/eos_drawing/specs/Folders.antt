-- What `draw` leaves and prints of the evidence that stands in a folder.
use Rattle.std.specs.Prelude.{ℕ, zero, suc, Bool, true, false, List, Option, None, Some}
use Rattle.std.specs.Io.KnownBytes.{Appends}
use Rattle.eos_disk.specs.Entries.{Entry}
use Rattle.eos_disk.specs.Putting.{ChangesOnly, IsPlaced, beside}
use Rattle.eos_evidence.specs.declared.partition.Partition.{Partition}
use Rattle.eos_evidence.specs.Evidence.{EvidenceParts, segments_of}
use Rattle.eos_source.specs.Saying.{known_at, StandsAt}
use Rattle.eos_source.specs.Said.{Known}
use Rattle.eos_source_check.specs.Folders.{HoldsAsRead, HoldsIn}
use Rattle.eos_text.specs.Writing.{WritesFront}
use Rattle.eos_drawing.specs.Drawings.{IsDrawing}

-- a later fault than the first is wanted
abbrev pub is_later : Option ℕ → Bool
is_later None = false
is_later (Some zero) = false
is_later (Some (suc zero)) = false
is_later (Some (suc (suc number))) = true

-- so it is in this folder, by what is known of the files of its partitions, where a later fault than the first is wanted or not
abbrev pub HoldsOf : (List ℕ → Entry) → List ℕ → Bool → ((ℕ → Known) → List Partition → EvidenceParts → Type 0) → Type 0
HoldsOf holds folder later Holds = HoldsIn holds folder (λ known shape. HoldsAsRead known shape later (Holds known shape.partitions))

-- so it is with an evidence that stands in this folder, by what its files are known to say
abbrev pub HoldsAt : (holds : List ℕ → Entry) → (folder : List ℕ) → (e : EvidenceParts) → StandsAt holds folder e → ((ℕ → Known) → List Partition → EvidenceParts → Type 0) → Type 0
HoldsAt holds folder e at Holds = Holds (known_at holds folder (segments_of at.shape.partitions) at.forms) at.shape.partitions e

-- the picture's text is the new file, and the line was printed
pub record IsDrawn (fault around : Option ℕ) (file : List ℕ) (old new : List ℕ → Entry) (before after : Option (List ℕ)) (status : ℕ) (known : ℕ → Known) (partitions : List Partition) (e : EvidenceParts) : Type 0 where
  pub line : List ℕ
  pub text : List ℕ
  pub is : IsDrawing known partitions e fault around status line text
  pub placed : IsPlaced old file text new
  pub printed : Appends before after line

-- the picture's text is the new file, and a front of the line was printed
pub record IsHalfDrawn (fault around : Option ℕ) (file : List ℕ) (old new : List ℕ → Entry) (before after : Option (List ℕ)) (known : ℕ → Known) (partitions : List Partition) (e : EvidenceParts) : Type 0 where
  pub status : ℕ
  pub line : List ℕ
  pub text : List ℕ
  pub is : IsDrawing known partitions e fault around status line text
  pub placed : IsPlaced old file text new
  pub printed : WritesFront before after line

-- no file came, and nothing else changed but what stands beside it, it may be
abbrev pub IsUntouched : List ℕ → (List ℕ → Entry) → (List ℕ → Entry) → Type 0
IsUntouched file old new = ChangesOnly (beside file) old new
