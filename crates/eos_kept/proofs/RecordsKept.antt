-- What is kept of the data records of a log's batches, as records, is what is wanted of them.
use Rattle.std.proofs.Common.{◌≡◌, ℕ, suc, ◌+◌, ◌≤◌, ◌^◌, Bool, true, false, not, cond, List, [], ◌∷◌, ◌++◌, length, map, refl, sym, ap, ◌∙◌, arith}
use Rattle.std.specs.Prelude.{All, unsigned_abs}
use Rattle.std.proofs.lemmas.List.{map-append}
use Rattle.std.proofs.lemmas.List.Elements.{All-nil, All-cons, All-append}
use Rattle.eos_batch.specs.declared.batch.Batch.{Batch}
use Rattle.eos_batch.specs.declared.record.Record.{Record}
use Rattle.eos_batch.specs.Attributes.{is_control}
use Rattle.eos_batch.specs.Offsets.{offset_of}
use Rattle.eos_touch.specs.Front.{records_in as count_in, ContinuesFrom}
use Rattle.eos_fold.specs.Batches.{DataBatch}
use Rattle.eos_fold.specs.Heads.{data_head}
use Rattle.eos_fold.specs.Settling.{data_after, data_in}
use Rattle.eos_fold.specs.declared.close.Close.{Close}
use Rattle.eos_fold.specs.Closes.{close_in, closes_in}
use Rattle.eos_reading.specs.Kept.{kept_from, kept_in, kept_of}
use Rattle.eos_kept.specs.Runs.{heads_of}
use Rattle.eos_reading.specs.declared.wanted.Wanted.{Wanted}
use Rattle.eos_reading.specs.Records.{wanted_record}
use Rattle.eos_kept.specs.steps.Closes.{closes_under}
use Rattle.eos_kept.specs.Items.{Fits}
use Rattle.eos_kept.specs.steps.Fronts.{records_of}

module _ {K : Type 0} (keep : ℕ → Record → K) where
  -- what is kept, as records
  batch_records : (w : Wanted) (f : K → Record) → ((n : ℕ) (r : Record) → f (keep n r) ≡ wanted_record w r) → (n : ℕ) (rs : List Record) → map f (kept_from keep n rs) ≡ map (wanted_record w) rs
  batch_records w f h n [] = refl
  batch_records w f h n (r ∷ rs) = rw (h n r, batch_records w f h (suc n) rs) refl

  pub kept_records : (w : Wanted) (f : K → Record) → ((n : ℕ) (r : Record) → f (keep n r) ≡ wanted_record w r) → (bs : List Batch) → map f (kept_of keep bs) ≡ map (wanted_record w) (records_of (data_in bs))
  kept_records w f h [] = refl
  kept_records w f h (b ∷ bs) = by (is_control b.attributes) (kept_records w f h bs)
    where
      g : Record → Record
      g = wanted_record w

      by : (c : Bool) → map f (kept_of keep bs) ≡ map (wanted_record w) (records_of (data_in bs))
          → map f (cond c [] (kept_from keep (offset_of b) b.records) ++ kept_of keep bs) ≡ map (wanted_record w) (records_of (cond (not c) (data_after b bs ∷ []) [] ++ data_in bs))
      by true e = e
      by false e =
          map-append f (kept_from keep (offset_of b) b.records) (kept_of keep bs)
          ∙ (ap (λ (rs : List Record). rs ++ map f (kept_of keep bs)) (batch_records w f h (offset_of b) b.records)
          ∙ (ap (λ (rs : List Record). map (wanted_record w) b.records ++ rs) e
          ∙ sym (map-append (wanted_record w) b.records (records_of (data_in bs)))))

  -- what holds of what is kept of any record holds of all that is kept
  batch_all : (P : K → Type 0) → ((n : ℕ) (r : Record) → P (keep n r)) → (n : ℕ) (rs : List Record) → All P (kept_from keep n rs)
  batch_all P h n [] = All-nil P
  batch_all P h n (r ∷ rs) = All-cons P (keep n r) (kept_from keep (suc n) rs) (h n r) (batch_all P h (suc n) rs)

  pub kept_all : (P : K → Type 0) → ((n : ℕ) (r : Record) → P (keep n r)) → (bs : List Batch) → All P (kept_of keep bs)
  kept_all P h [] = All-nil P
  kept_all P h (b ∷ bs) = All-append P (kept_in keep b) (kept_of keep bs) (by (is_control b.attributes)) (kept_all P h bs)
    where
      by : (c : Bool) → All P (cond c [] (kept_from keep (offset_of b) b.records))
      by true = All-nil P
      by false = batch_all P h (offset_of b) b.records

-- ---- heads

-- the heads of a front's batches fit
pub heads_fit : (n : ℕ) (bs : List Batch) → ContinuesFrom n bs → n + count_in bs ≤ 2 ^ 63 → All Fits (heads_of (data_in bs))
heads_fit n [] h le = All-nil Fits
heads_fit n (b ∷ bs) h le =
    let at : offset_of b ≡ n = ap unsigned_abs h.0 in
    by (is_control b.attributes) (omega (arith, at, le)) (heads_fit (n + length b.records) bs h.1 (omega (arith, le)))
  where
    by : (c : Bool) → offset_of b + length b.records ≤ 2 ^ 63 → All Fits (heads_of (data_in bs)) → All Fits (heads_of (cond (not c) (data_after b bs ∷ []) [] ++ data_in bs))
    by true here h = h
    by false here h = All-cons Fits (data_head (data_after b bs)) (heads_of (data_in bs)) here h

pub closes_told : (ds : List DataBatch) → closes_under (heads_of ds) ≡ closes_in ds
closes_told [] = refl
closes_told (d ∷ ds) = ap (λ (cs : List Close). close_in d.writer d.ending ++ cs) (closes_told ds)
