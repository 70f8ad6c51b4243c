-- Batches that have the heads of a fold, one after the other from an offset on.
use Rattle.std.specs.Prelude.{ℕ, ◌+◌, List, [], ◌∷◌, ⊤}
use Rattle.eos_batch.specs.declared.batch.Batch.{Batch}
use Rattle.eos_fold_file.specs.declared.head.FoldHead.{FoldHead}
use Rattle.eos_fold_file.specs.Heads.{batch_head}
use Rattle.eos_kept.specs.Passing.{IsRealHead}

abbrev pub AreFrom : ℕ → List FoldHead → List Batch → Type 0
AreFrom next [] [] = ⊤
AreFrom next [] (b ∷ bs) = ⊥
AreFrom next (h ∷ hs) [] = ⊥
AreFrom next (h ∷ hs) (b ∷ bs) = IsRealHead b (batch_head next h) × AreFrom (next + h.count) hs bs
