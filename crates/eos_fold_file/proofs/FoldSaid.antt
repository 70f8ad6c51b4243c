-- The claims of a fold of a segment are those that its records' headers say.
use Rattle.std.proofs.Common.{ℕ, List, sym, subst}
use Rattle.std.specs.Prelude.{All}
use Rattle.eos_batch.specs.declared.batch.Batch.{Batch}
use Rattle.eos_batch.specs.declared.record.Record.{Record}
use Rattle.eos_claims.specs.Headers.{claim_of}
use Rattle.eos_evidence.specs.declared.segment.Segment.{Segment}
use Rattle.eos_reading.proofs.ClaimHeaders.{back}
use Rattle.eos_reading.specs.Outputs.{KeptOutput, kept_output, claim_kept}
use Rattle.eos_reading.specs.Records.{ReadsBack}
use Rattle.eos_reading.proofs.ExactClaims.{exact_claim}
use Rattle.eos_fold_file.specs.Records.{FoldText}
use Rattle.eos_fold_file.specs.declared.file.FoldFile.{FoldFile}
use Rattle.eos_fold_file.specs.declared.file.FoldKept.{FoldKept}
use Rattle.eos_fold_file.specs.declared.file.FoldKept.TheVariants.{Presence, Claims, Texts}
use Rattle.eos_fold_file.specs.Folds.{fold_text_of, IsKeptOf, IsFoldOf}
use Rattle.eos_kept.proofs.RecordsKept.{kept_all}
use Rattle.eos_fold_file.specs.steps.Kept.{AreReadBack}

kept_said : (batches : List Batch) (kept : FoldKept) → IsKeptOf batches kept → AreReadBack kept
kept_said batches Presence is = tt
kept_said batches (Claims topics outputs) is =
    let P : KeptOutput → Type 0 = λ one. ReadsBack (claim_kept topics one) in
    let each : (n : ℕ) (r : Record) → P (kept_output topics (claim_of r.headers)) = λ n r. subst ReadsBack (sym (exact_claim topics (claim_of r.headers))) (back r.headers) in
    subst (All P) (sym is) (kept_all (λ (n : ℕ) (r : Record). kept_output topics (claim_of r.headers)) P each batches)
kept_said batches (Texts texts) is =
    let P : FoldText → Type 0 = λ t. ReadsBack t.claim in
    subst (All P) (sym is) (kept_all (λ (n : ℕ) (r : Record). fold_text_of r) P (λ n r. back r.headers) batches)

pub segment_said : (segment : Segment) (f : FoldFile) → IsFoldOf segment f → AreReadBack f.kept
segment_said segment f is = kept_said is.batches f.kept is.kept
