-- The fold of a segment: its front, of each batch the head, where the leader epoch changes, of each data record what was wanted, why the
-- front ends, and one checksum of those of its batches.
-- Source: Kafka's documentation, "Log" (a segment is a run of record batches, named by its first offset) and Message Format,
-- "Record Batch" and "Record".
use Rattle.std.specs.Prelude.{◌≡◌, ℕ, ◌+◌, List, [], ◌∷◌, ◌++◌, length, take, drop, None, ⊤}
use Rattle.eos_batch.specs.declared.batch.Batch.{Batch}
use Rattle.eos_batch.specs.declared.record.Record.{Record}
use Rattle.eos_batch.specs.Heads.{head_of}
use Rattle.eos_batch.specs.Text.{IsBatchText}
use Rattle.eos_claims.specs.Headers.{claim_of}
use Rattle.eos_evidence.specs.declared.segment.Segment.{Segment}
use Rattle.eos_touch.specs.Front.{records_in, ContinuesFrom}
use Rattle.eos_fold.specs.Fronts.{base_of, StopsAt}
use Rattle.eos_reading.specs.Epochs.{epoch_entries}
use Rattle.eos_reading.specs.Kept.{kept_of}
use Rattle.eos_wire.specs.Crc.{crc32c_of}
use Rattle.eos_reading.specs.Outputs.{kept_output}
use Rattle.eos_reading.specs.declared.wanted.Wanted.{Wanted}
use Rattle.eos_reading.specs.declared.wanted.Wanted.TheVariants as wants
use Rattle.eos_fold_file.specs.Records.{FoldText}
use Rattle.eos_fold_file.specs.declared.file.FoldFile.{FoldFile}
use Rattle.eos_fold_file.specs.declared.file.FoldKept.{FoldKept}
use Rattle.eos_fold_file.specs.declared.file.FoldKept.TheVariants.{Presence, Claims, Texts}
use Rattle.eos_fold_file.specs.declared.head.FoldHead.{FoldHead}
use Rattle.eos_fold_file.specs.Heads.{fold_head}

-- the bytes are texts of these batches, and the rest; each head is its batch's, with the number of its bytes
abbrev pub HasFoldHeads : List ℕ → List Batch → List FoldHead → List ℕ → Type 0
HasFoldHeads bytes [] [] rest = bytes ≡ rest
HasFoldHeads bytes [] (h ∷ hs) rest = ⊥
HasFoldHeads bytes (b ∷ bs) [] rest = ⊥
HasFoldHeads bytes (b ∷ bs) (h ∷ hs) rest =
    (text more : List ℕ) × IsBatchText text b × (bytes ≡ text ++ more) × (h ≡ fold_head (head_of b (length text))) × HasFoldHeads more bs hs rest

-- the checksums of batches with these heads, as the bytes say them, one after the other: each batch has its own at its bytes 17 to 20,
-- of all its bytes behind them
abbrev pub checksums_in : List ℕ → List FoldHead → List ℕ
checksums_in bytes [] = []
checksums_in bytes (h ∷ hs) = take 4 (drop 17 bytes) ++ checksums_in (drop h.size bytes) hs

-- what is kept of a record of Kafka's own logs
abbrev pub fold_text_of : Record → FoldText
fold_text_of r = record { key = r.key; value = r.value; claim = claim_of r.headers }

-- of each data record of these batches what was wanted
abbrev pub IsKeptOf : List Batch → FoldKept → Type 0
IsKeptOf batches Presence = ⊤
IsKeptOf batches (Claims topics outputs) = outputs ≡ kept_of (λ offset r. kept_output topics (claim_of r.headers)) batches
IsKeptOf batches (Texts texts) = texts ≡ kept_of (λ offset r. fold_text_of r) batches

-- what is kept is what was wanted, with these topics where claims are
abbrev pub IsAskedAs : Wanted → List (List ℕ) → FoldKept → Type 0
IsAskedAs wants.Presence asked Presence = ⊤
IsAskedAs wants.Presence asked (Claims topics outputs) = ⊥
IsAskedAs wants.Presence asked (Texts texts) = ⊥
IsAskedAs wants.Claims asked Presence = ⊥
IsAskedAs wants.Claims asked (Claims topics outputs) = topics ≡ asked
IsAskedAs wants.Claims asked (Texts texts) = ⊥
IsAskedAs wants.Texts asked Presence = ⊥
IsAskedAs wants.Texts asked (Claims topics outputs) = ⊥
IsAskedAs wants.Texts asked (Texts texts) = ⊤

-- this is the fold of the segment
pub record IsFoldOf (segment : Segment) (f : FoldFile) : Type 0 where
  pub topic : f.topic ≡ segment.topic
  pub partition : f.partition ≡ segment.partition
  pub base : f.base ≡ segment.base
  pub bytes : f.bytes ≡ length segment.bytes
  pub batches : List Batch
  pub rest : List ℕ
  pub heads : HasFoldHeads segment.bytes batches f.heads rest
  pub continuous : ContinuesFrom (base_of segment) batches
  pub epochs : f.epochs ≡ epoch_entries None batches
  pub checked : f.batches ≡ crc32c_of (checksums_in segment.bytes f.heads)
  pub stops : StopsAt (base_of segment) (base_of segment + records_in batches) segment.bytes rest f.stop
  pub kept : IsKeptOf batches f.kept
