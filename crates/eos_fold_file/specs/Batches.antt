-- The batches that the heads of a fold file can be of.
-- Source: Kafka's documentation, Message Format, "Record Batch" and "Control Batches".
use Rattle.std.specs.Prelude.{◌≡◌, ℕ, ◌+◌, List, [], ◌∷◌, ⊤}
use Rattle.eos_batch.specs.declared.batch.Batch.{Batch}
use Rattle.eos_batch.specs.Heads.{head_of}
use Rattle.eos_batch.specs.Rules.{IsCounted, IsControlRight, IsProducerRight, HasWidths}
use Rattle.eos_fold_file.specs.declared.head.FoldHead.{FoldHead}
use Rattle.eos_fold_file.specs.Heads.{batch_head}

-- a batch that a log can have, whose head this is at its offset
pub record HasHead (offset : ℕ) (h : FoldHead) (b : Batch) : Type 0 where
  pub head : batch_head offset h ≡ head_of b h.size
  pub counted : IsCounted b
  pub control : IsControlRight b
  pub producer : IsProducerRight b
  pub widths : HasWidths b

-- batches from this offset on, each of which begins where the one before ends
abbrev pub HaveHeads : ℕ → List FoldHead → List Batch → Type 0
HaveHeads next [] [] = ⊤
HaveHeads next [] (b ∷ bs) = ⊥
HaveHeads next (h ∷ hs) [] = ⊥
HaveHeads next (h ∷ hs) (b ∷ bs) = HasHead next h b × HaveHeads (next + h.count) hs bs
