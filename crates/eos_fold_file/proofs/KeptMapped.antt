-- A function of what is kept of each data record, and what is kept of the records of Kafka's own logs.
use Rattle.std.proofs.Common.{◌≡◌, ℕ, suc, Option, Bool, true, false, cond, List, [], ◌∷◌, ◌++◌, map, refl, sym, ap, subst, ◌∙◌}
use Rattle.std.specs.Prelude.{All}
use Rattle.std.proofs.lemmas.List.{map-append}
use Rattle.eos_batch.specs.declared.batch.Batch.{Batch}
use Rattle.eos_batch.specs.declared.record.Record.{Record}
use Rattle.eos_batch.specs.Attributes.{is_control}
use Rattle.eos_batch.specs.Offsets.{offset_of}
use Rattle.eos_claims.specs.declared.claim.Claim.{Claim}
use Rattle.eos_claims.specs.Headers.{claim_of}
use Rattle.eos_reading.specs.Kept.{kept_from, kept_in, kept_of}
use Rattle.eos_reading.specs.Records.{wanted_record}
use Rattle.eos_reading.specs.declared.wanted.Wanted.TheVariants as wants
use Rattle.eos_reading.proofs.ClaimHeaders.{back}
use Rattle.eos_kept.proofs.RecordsKept.{kept_all}
use Rattle.eos_fold_file.specs.Folds.{fold_text_of}
use Rattle.eos_fold_file.specs.Records.{FoldText}
use Rattle.eos_fold_file.specs.steps.TextLists.{IsBare}
use Rattle.eos_fold_file.proofs.TextsListed.{pushed_bare}

module _ {K L : Type 0} (keep : ℕ → Record → K) (f : K → L) (other : ℕ → Record → L) (same : (n : ℕ) (r : Record) → f (keep n r) ≡ other n r) where
  from_map : (n : ℕ) (rs : List Record) → map f (kept_from keep n rs) ≡ kept_from other n rs
  from_map n [] = refl
  from_map n (r ∷ rs) = ap (λ (l : L). l ∷ map f (kept_from keep (suc n) rs)) (same n r) ∙ ap (λ (ls : List L). other n r ∷ ls) (from_map (suc n) rs)

  pub of_map : (bs : List Batch) → map f (kept_of keep bs) ≡ kept_of other bs
  of_map [] = refl
  of_map (b ∷ bs) = map-append f (kept_in keep b) (kept_of keep bs) ∙ (ap (λ (ls : List L). ls ++ map f (kept_of keep bs)) (by (is_control b.attributes)) ∙ ap (λ (ls : List L). kept_in other b ++ ls) (of_map bs))
    where
      by : (c : Bool) → map f (cond c [] (kept_from keep (offset_of b) b.records)) ≡ cond c [] (kept_from other (offset_of b) b.records)
      by true = refl
      by false = from_map (offset_of b) b.records

-- reading a log keeps what a fold keeps of it
pub texts_kept : (batches : List Batch) (records : List Record) (texts : List FoldText) → texts ≡ map fold_text_of records
    → records ≡ kept_of (λ (n : ℕ) (r : Record). wanted_record wants.Texts r) batches → texts ≡ kept_of (λ (n : ℕ) (r : Record). fold_text_of r) batches
texts_kept batches records texts e kept =
    let with : (r : Record) → Option Claim → FoldText = λ r c. record { key = r.key; value = r.value; claim = c } in
    e ∙ (ap (map fold_text_of) kept ∙ of_map (λ (n : ℕ) (r : Record). wanted_record wants.Texts r) fold_text_of (λ (n : ℕ) (r : Record). fold_text_of r) (λ n r. ap (with r) (back r.headers)) batches)

pub all_bare : (batches : List Batch) (records : List Record) → records ≡ kept_of (λ (n : ℕ) (r : Record). wanted_record wants.Texts r) batches → All IsBare records
all_bare batches records kept =
    subst (All IsBare) (sym kept) (kept_all (λ (n : ℕ) (r : Record). wanted_record wants.Texts r) IsBare (λ n r. pushed_bare r.key r.value (claim_of r.headers) (back r.headers)) batches)
