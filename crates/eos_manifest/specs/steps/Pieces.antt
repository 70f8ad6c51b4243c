-- The first piece of a text that a mark divides, and what was read of a line.
use Rattle.std.specs.Prelude.{◌≡◌, ◌==◌, ◌≤◌, ◌+◌, ℕ, ℤ, pos, List, [], ◌∷◌, ◌++◌, Bool, false, Ok, drop, length, Option, None, Some}
use Rattle.std.specs.List.{list_any}
use Rattle.eos_batch.specs.declared.batch.Batch.{Batch}
use Rattle.eos_batch.specs.Reading.{batch_at}
use Rattle.eos_evidence.specs.declared.ends.End.{End}

abbrev pub has_mark : ℕ → List ℕ → Bool
has_mark mark text = list_any (λ byte. byte == mark) text

-- nothing else than the piece, or the piece, the mark and the rest; no mark is in the piece
abbrev pub IsFirstPiece : ℕ → List ℕ → List ℕ → Option (List ℕ) → Type 0
IsFirstPiece mark text piece None = (piece ≡ text) × (has_mark mark piece ≡ false)
IsFirstPiece mark text piece (Some rest) = (text ≡ piece ++ mark ∷ rest) × (has_mark mark piece ≡ false)

-- what follows the mark, or nothing
abbrev pub or_nothing : Option (List ℕ) → List ℕ
or_nothing None = []
or_nothing (Some rest) = rest

abbrev pub end_of : List ℕ → ℤ → ℤ → End
end_of topic partition offset = record { topic = topic; partition = partition; end = offset }

-- a batch of this offset begins there and has this size, and the offset after its last record is this
pub record IsNext (bytes : List ℕ) (at next size after : ℕ) : Type 0 where
  pub batch : Batch
  pub read : batch_at (drop at bytes) ≡ Ok (batch, size)
  pub stands : batch.base_offset ≡ pos next
  pub goes_on : after ≡ next + length batch.records
  pub some : 1 ≤ size
  pub within : at + size ≤ length bytes
