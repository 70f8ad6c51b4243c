-- The batches of a chunk, passed one after the other as far as each begins where the one before ends.
use Rattle.std.specs.Prelude.{◌≡◌, ◌≢◌, ℕ, List, [], ◌∷◌, ◌++◌, ⊤}
use Rattle.eos_batch.specs.declared.batch.Batch.{Batch}
use Rattle.eos_batch.specs.declared.head.BatchHead.{BatchHead}
use Rattle.eos_batch.specs.Offsets.{offset_of}
use Rattle.eos_fold.specs.declared.stop.Stop.{Stop}
use Rattle.eos_fold.specs.declared.stop.Stop.TheVariants.{AtEnd, Elsewhere}
use Rattle.eos_kept.specs.declared.front.Front.{Front}
use Rattle.eos_kept.specs.Passing.{IsRealHead, GoesAlong, data_count}

abbrev pub AreHeads : List Batch → List BatchHead → Type 0
AreHeads [] [] = ⊤
AreHeads [] (h ∷ hs) = ⊥
AreHeads (b ∷ bs) [] = ⊥
AreHeads (b ∷ bs) (h ∷ hs) = IsRealHead b h × AreHeads bs hs

-- all were passed, or the next one begins elsewhere
abbrev pub EndsBefore : List Batch → Stop → ℕ → Type 0
EndsBefore [] stop next = stop ≡ AtEnd
EndsBefore (b ∷ bs) stop next = (stop ≡ Elsewhere (offset_of b)) × (offset_of b ≢ next)

-- the first of these batches were passed, with so many data records
pub record Passes (batches : List Batch) (old new : Front) (count : ℕ) : Type 0 where
  pub passed : List Batch
  pub others : List Batch
  pub parts : batches ≡ passed ++ others
  pub counted : count ≡ data_count passed
  pub ends : EndsBefore others new.stop new.next
  pub along : (before : List Batch) → GoesAlong before old → GoesAlong (before ++ passed) new
