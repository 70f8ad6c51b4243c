-- Each number that was written is one of its field's width.
use Rattle.std.specs.Prelude.{List, FitsSigned, length, ⊤}
use Rattle.std.specs.Int.{w16, w32, w64}
use Rattle.eos_fold.specs.declared.stop.Stop.{Stop}
use Rattle.eos_fold.specs.declared.stop.Stop.TheVariants.{AtEnd, NoBatch, Elsewhere}
use Rattle.eos_reading.specs.declared.epoch.EpochEntry.{EpochEntry}
use Rattle.eos_fold_file.specs.declared.file.FoldFile.{FoldFile}
use Rattle.eos_fold_file.specs.declared.file.FoldKept.{FoldKept}
use Rattle.eos_fold_file.specs.declared.file.FoldKept.TheVariants.{Presence, Claims, Texts}
use Rattle.eos_fold_file.specs.declared.head.FoldHead.{FoldHead}
use Rattle.eos_fold_file.specs.Legal.{Each, IsU64, IsU32, IsText, IsLegalKind, IsLegalEntry, IsLegalOutput, IsLegalText}

pub record HasProducerWidths (h : FoldHead) : Type 0 where
  pub producer : FitsSigned w64 h.producer
  pub epoch : FitsSigned w16 h.epoch
  pub sequence : FitsSigned w32 h.sequence

pub record HasHeadWidths (h : FoldHead) : Type 0 where
  pub kind : IsLegalKind h.kind
  pub size : IsU64 h.size
  pub producer : HasProducerWidths h

pub record HasSegmentWidths (f : FoldFile) : Type 0 where
  pub topic : IsText f.topic
  pub partition : FitsSigned w32 f.partition
  pub base : FitsSigned w64 f.base
  pub bytes : IsU64 f.bytes
  pub batches : IsU32 f.batches

abbrev pub AreHeadWidths : List FoldHead → Type 0
AreHeadWidths heads = IsU64 (length heads) × Each HasHeadWidths heads

abbrev pub AreEpochWidths : List EpochEntry → Type 0
AreEpochWidths epochs = IsU64 (length epochs) × Each IsLegalEntry epochs

abbrev pub HasKeptWidths : FoldKept → Type 0
HasKeptWidths Presence = ⊤
HasKeptWidths (Claims topics outputs) = IsU64 (length topics) × Each IsText topics × Each IsLegalOutput outputs
HasKeptWidths (Texts texts) = Each IsLegalText texts

abbrev pub HasStopWidths : Stop → Type 0
HasStopWidths AtEnd = ⊤
HasStopWidths (NoBatch segment byte fault) = IsU64 segment × IsU64 byte
HasStopWidths (Elsewhere found) = IsU64 found

pub record HasWidths (f : FoldFile) : Type 0 where
  pub segment : HasSegmentWidths f
  pub heads : AreHeadWidths f.heads
  pub epochs : AreEpochWidths f.epochs
  pub kept : HasKeptWidths f.kept
  pub stop : HasStopWidths f.stop
