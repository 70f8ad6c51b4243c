-- The closes and what is open are read off the data batches.
use Rattle.std.proofs.Common.{◌≡◌, Bool, true, false, cond, List, [], ◌∷◌, ◌++◌, Option, Some, None, refl, ℤ}
use Rattle.eos_batch.specs.declared.batch.Batch.{Batch}
use Rattle.eos_batch.specs.Attributes.{is_transactional}
use Rattle.eos_fold.specs.declared.entry.Ending.TheVariants.{Plain, Waiting}
use Rattle.eos_fold.specs.declared.mark.EndMark.{EndMark}
use Rattle.eos_fold.specs.Ends.{is_data, first_marker}
use Rattle.eos_fold.specs.Settling.{ending_by, resolved, data_after, data_in}
use Rattle.eos_fold.specs.Closes.{close_by, close_of, closes_of, close_in, closes_in, open_by, open_of, opens_of, open_in, opens_in}

module _ (f : ℤ → Option EndMark) (id epoch : ℤ) where
  close_is : (x : Bool) → close_in (cond x (Some (id, epoch)) None) (resolved f (cond x (Waiting id) Plain)) ≡ cond x (close_by id epoch (f id)) []
  close_is true = elim (f id) as (λ (m : Option EndMark). close_in (Some (id, epoch)) (ending_by id m) ≡ close_by id epoch m) [ None ↦ refl | Some m ↦ refl ]
  close_is false = refl

  open_is : (x : Bool) → open_in (cond x (Some (id, epoch)) None) (resolved f (cond x (Waiting id) Plain)) ≡ cond x (open_by id epoch (f id)) []
  open_is true = elim (f id) as (λ (m : Option EndMark). open_in (Some (id, epoch)) (ending_by id m) ≡ open_by id epoch m) [ None ↦ refl | Some m ↦ refl ]
  open_is false = refl

pub closes_read : (bs : List Batch) → closes_in (data_in bs) ≡ closes_of bs
closes_read [] = refl
closes_read (b ∷ bs) = by_test (is_data b) (closes_read bs)
  where
    by_test : (x : Bool) → closes_in (data_in bs) ≡ closes_of bs → closes_in (cond x (data_after b bs ∷ []) [] ++ data_in bs) ≡ cond x (close_of b bs) [] ++ closes_of bs
    by_test true ih = rw (close_is (λ id. first_marker id bs) b.producer b.epoch (is_transactional b.attributes), ih) refl
    by_test false ih = ih

pub opens_read : (bs : List Batch) → opens_in (data_in bs) ≡ opens_of bs
opens_read [] = refl
opens_read (b ∷ bs) = by_test (is_data b) (opens_read bs)
  where
    by_test : (x : Bool) → opens_in (data_in bs) ≡ opens_of bs → opens_in (cond x (data_after b bs ∷ []) [] ++ data_in bs) ≡ cond x (open_of b bs) [] ++ opens_of bs
    by_test true ih = rw (open_is (λ id. first_marker id bs) b.producer b.epoch (is_transactional b.attributes), ih) refl
    by_test false ih = ih
