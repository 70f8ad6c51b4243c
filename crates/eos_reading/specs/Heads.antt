-- The batches at the front of bytes and their heads.
-- Source: Kafka's documentation, "Log" (a segment is a run of record batches).
use Rattle.std.specs.Prelude.{◌≡◌, ℕ, List, [], ◌∷◌, ◌++◌, length}
use Rattle.eos_batch.specs.declared.batch.Batch.{Batch}
use Rattle.eos_batch.specs.declared.head.BatchHead.{BatchHead}
use Rattle.eos_batch.specs.Heads.{head_of}
use Rattle.eos_batch.specs.Text.{IsBatchText}

-- the bytes are texts of these batches, and the rest; each head is its batch's, with the number of its bytes
abbrev pub HasHeads : List ℕ → List Batch → List BatchHead → List ℕ → Type 0
HasHeads bytes [] [] rest = bytes ≡ rest
HasHeads bytes [] (h ∷ hs) rest = ⊥
HasHeads bytes (b ∷ bs) [] rest = ⊥
HasHeads bytes (b ∷ bs) (h ∷ hs) rest =
    (text more : List ℕ) × IsBatchText text b × (bytes ≡ text ++ more) × (h ≡ head_of b (length text)) × HasHeads more bs hs rest
