-- A fold whose numbers are of their widths is legal where it is right.
use Rattle.std.proofs.Common.{ℕ, suc, ◌<◌, List, [], ◌∷◌, length, get_or, arith}
use Rattle.std.specs.Prelude.{IsTrue}
use Rattle.eos_fold.specs.declared.stop.Stop.{Stop}
use Rattle.eos_fold.specs.declared.stop.Stop.TheVariants.{AtEnd, NoBatch, Elsewhere}
use Rattle.eos_fold_file.specs.declared.file.FoldFile.{FoldFile}
use Rattle.eos_fold_file.specs.declared.file.FoldKept.{FoldKept}
use Rattle.eos_fold_file.specs.declared.file.FoldKept.TheVariants.{Presence, Claims, Texts}
use Rattle.eos_fold_file.specs.declared.head.FoldHead.{FoldHead}
use Rattle.eos_fold_file.specs.Heads.{is_possible}
use Rattle.eos_fold_file.specs.Legal.{Each, IsLegalHead, IsLegalKept, IsLegalStop, IsLegal, IsRightKept, IsRightStop, IsRight}
use Rattle.eos_fold_file.specs.steps.Widths.{HasHeadWidths, HasKeptWidths, HasStopWidths, HasWidths}

-- what holds at each place holds of each
pub each_from_all : {X : Type 0} (P : X → Type 0) (xs : List X) → ((k : ℕ) (d : X) → k < length xs → P (get_or xs k d)) → Each P xs
each_from_all P [] all = tt
each_from_all P (x ∷ xs) all = (all 0 x (omega arith), each_from_all P xs (λ k d lt. all (suc k) d (omega arith)))

legal_heads : (hs : List FoldHead) → Each HasHeadWidths hs → Each (λ h. IsTrue (is_possible h)) hs → Each IsLegalHead hs
legal_heads [] w r = tt
legal_heads (h ∷ hs) w r = (
  record { kind = w.0.kind; size = w.0.size; producer = w.0.producer.producer; epoch = w.0.producer.epoch; sequence = w.0.producer.sequence; possible = r.0 },
  legal_heads hs w.1 r.1,
)

legal_kept : (n : ℕ) (k : FoldKept) → HasKeptWidths k → IsRightKept n k → IsLegalKept n k
legal_kept n Presence w r = tt
legal_kept n (Claims topics outputs) w r = (w.0, w.1, r.0, w.2, r.1)
legal_kept n (Texts texts) w r = (r, w)

legal_stop : (s : Stop) → HasStopWidths s → IsRightStop s → IsLegalStop s
legal_stop AtEnd w r = tt
legal_stop (NoBatch segment byte fault) w r = (w.0, w.1, r)
legal_stop (Elsewhere found) w r = w

pub legal_from_widths : (f : FoldFile) → HasWidths f → IsRight f → IsLegal f
legal_from_widths f w r = record {
  topic = w.segment.topic;
  partition = w.segment.partition;
  base = w.segment.base;
  bytes = w.segment.bytes;
  batches = w.segment.batches;
  few = w.heads.0;
  heads = legal_heads f.heads w.heads.1 r.heads;
  offsets = r.offsets;
  sizes = r.sizes;
  few_epochs = w.epochs.0;
  epochs = w.epochs.1;
  changes = r.changes;
  kept = legal_kept _ f.kept w.kept r.kept;
  stop = legal_stop f.stop w.stop r.stop;
  inside = r.inside;
}
