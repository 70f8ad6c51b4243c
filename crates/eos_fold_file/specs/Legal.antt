-- Which values a fold file can have.
use Rattle.std.specs.Prelude.{◌≡◌, ℕ, ◌<◌, ◌^◌, unsigned_abs, FitsSigned, List, [], ◌∷◌, length, Option, Some, None, IsTrue, ⊤}
use Rattle.std.specs.Int.{w16, w32, w64}
use Rattle.std.specs.List.{list_all}
use Rattle.eos_batch.specs.Real.{IsReal}
use Rattle.eos_claims.specs.declared.claim.Claim.{Claim}
use Rattle.eos_fold.specs.declared.stop.Stop.{Stop}
use Rattle.eos_fold.specs.declared.stop.Stop.TheVariants.{AtEnd, NoBatch, Elsewhere}
use Rattle.eos_reading.specs.Outputs.{KeptOutput, Unclaimed, Asked, Foreign}
use Rattle.eos_fold_file.specs.declared.claim.ClaimNumbers.{ClaimNumbers}
use Rattle.eos_reading.specs.declared.epoch.EpochEntry.{EpochEntry}
use Rattle.eos_fold_file.specs.declared.file.FoldFile.{FoldFile}
use Rattle.eos_fold_file.specs.declared.file.FoldKept.{FoldKept}
use Rattle.eos_fold_file.specs.declared.file.FoldKept.TheVariants.{Presence, Claims, Texts}
use Rattle.eos_fold_file.specs.declared.head.BatchKind.{BatchKind}
use Rattle.eos_fold_file.specs.declared.head.BatchKind.TheVariants.{Data, Control, Commit, Abort}
use Rattle.eos_fold_file.specs.declared.head.FoldHead.{FoldHead}
use Rattle.eos_fold_file.specs.Records.{FoldText, is_placed, numbers_of}
use Rattle.eos_fold_file.specs.Heads.{is_possible}
use Rattle.eos_fold_file.specs.Epochs.{are_entries}
use Rattle.eos_fold_file.specs.Files.{data_count, fits_offsets, fits_bytes, stops_inside}

-- of each of a list
abbrev pub Each : {X : Type 0} → (X → Type 0) → List X → Type 0
Each P [] = ⊤
Each P (x ∷ xs) = P x × Each P xs

-- ---- numbers and texts of their widths

abbrev pub IsU64 : ℕ → Type 0
IsU64 n = n < 2 ^ 64

abbrev pub IsU32 : ℕ → Type 0
IsU32 n = n < 2 ^ 32

abbrev pub IsText : List ℕ → Type 0
IsText bytes = length bytes < 2 ^ 63

abbrev pub IsOptionalText : Option (List ℕ) → Type 0
IsOptionalText None = ⊤
IsOptionalText (Some bytes) = IsText bytes

-- ---- records

pub record AreClaimNumbers (n : ClaimNumbers) : Type 0 where
  pub partition : FitsSigned w32 n.partition
  pub offset : IsU64 n.offset
  pub output : IsU32 n.output
  pub of : IsU32 n.of

pub record IsLegalClaim (c : Claim) : Type 0 where
  pub topic : IsText c.topic
  pub numbers : AreClaimNumbers (numbers_of c)

abbrev pub IsLegalOutput : KeptOutput → Type 0
IsLegalOutput Unclaimed = ⊤
IsLegalOutput (Asked partition output of topic offset) = IsU64 topic × AreClaimNumbers (record { partition = partition; offset = offset; output = output; of = of })
IsLegalOutput (Foreign c) = IsLegalClaim c

abbrev pub IsLegalOptionalClaim : Option Claim → Type 0
IsLegalOptionalClaim None = ⊤
IsLegalOptionalClaim (Some c) = IsLegalClaim c

pub record IsLegalText (t : FoldText) : Type 0 where
  pub key : IsOptionalText t.key
  pub value : IsOptionalText t.value
  pub claim : IsLegalOptionalClaim t.claim

-- ---- heads

abbrev pub IsLegalKind : BatchKind → Type 0
IsLegalKind Data = ⊤
IsLegalKind Control = ⊤
IsLegalKind (Commit epoch) = FitsSigned w32 epoch
IsLegalKind (Abort epoch) = FitsSigned w32 epoch

-- a batch can have this head, and each of its numbers is one of its field's width
pub record IsLegalHead (h : FoldHead) : Type 0 where
  pub kind : IsLegalKind h.kind
  pub size : IsU64 h.size
  pub producer : FitsSigned w64 h.producer
  pub epoch : FitsSigned w16 h.epoch
  pub sequence : FitsSigned w32 h.sequence
  pub possible : IsTrue (is_possible h)

pub record IsLegalEntry (e : EpochEntry) : Type 0 where
  pub epoch : FitsSigned w32 e.epoch
  pub start_offset : IsU64 e.start_offset

-- ---- the file

abbrev pub IsLegalStop : Stop → Type 0
IsLegalStop AtEnd = ⊤
IsLegalStop (NoBatch segment byte fault) = IsU64 segment × IsU64 byte × IsReal fault
IsLegalStop (Elsewhere found) = IsU64 found

-- of so many data records
abbrev pub IsLegalKept : ℕ → FoldKept → Type 0
IsLegalKept n Presence = ⊤
IsLegalKept n (Claims topics outputs) =
    IsU64 (length topics) × Each IsText topics × (length outputs ≡ n) × Each IsLegalOutput outputs × IsTrue (list_all (is_placed (length topics)) outputs)
IsLegalKept n (Texts texts) = (length texts ≡ n) × Each IsLegalText texts

pub record IsLegal (f : FoldFile) : Type 0 where
  pub topic : IsText f.topic
  pub partition : FitsSigned w32 f.partition
  pub base : FitsSigned w64 f.base
  pub bytes : IsU64 f.bytes
  pub batches : IsU32 f.batches
  pub few : IsU64 (length f.heads)
  pub heads : Each IsLegalHead f.heads
  pub offsets : IsTrue (fits_offsets f.base f.heads)
  pub sizes : IsTrue (fits_bytes f.bytes f.heads)
  pub few_epochs : IsU64 (length f.epochs)
  pub epochs : Each IsLegalEntry f.epochs
  pub changes : IsTrue (are_entries (unsigned_abs f.base) None f.heads f.epochs)
  pub kept : IsLegalKept (data_count f.heads) f.kept
  pub stop : IsLegalStop f.stop
  pub inside : IsTrue (stops_inside f.base f.bytes f.heads f.stop)

-- ---- what a fold has to keep beside the widths of its numbers, which those of a program have

abbrev pub IsRightStop : Stop → Type 0
IsRightStop AtEnd = ⊤
IsRightStop (NoBatch segment byte fault) = IsReal fault
IsRightStop (Elsewhere found) = ⊤

-- one for each data record, and each claim's place is one of a topic
abbrev pub IsRightKept : ℕ → FoldKept → Type 0
IsRightKept n Presence = ⊤
IsRightKept n (Claims topics outputs) = (length outputs ≡ n) × IsTrue (list_all (is_placed (length topics)) outputs)
IsRightKept n (Texts texts) = length texts ≡ n

pub record IsRight (f : FoldFile) : Type 0 where
  pub heads : Each (λ h. IsTrue (is_possible h)) f.heads
  pub offsets : IsTrue (fits_offsets f.base f.heads)
  pub sizes : IsTrue (fits_bytes f.bytes f.heads)
  pub changes : IsTrue (are_entries (unsigned_abs f.base) None f.heads f.epochs)
  pub kept : IsRightKept (data_count f.heads) f.kept
  pub stop : IsRightStop f.stop
  pub inside : IsTrue (stops_inside f.base f.bytes f.heads f.stop)
