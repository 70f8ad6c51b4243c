-- What is left of a file that couldn't be ended, after it was taken away as far as it could be.
use Rattle.std.proofs.Common.{◌≡◌, ◌⊎◌, ℕ, List, ◌∙◌, inl, inr}
use Rattle.eos_disk.specs.Entries.{Entry, MayBeAbsent}
use Rattle.eos_disk.specs.Changes.{bare}
use Rattle.eos_disk.specs.Putting.{IsSameOrFront, IsTakenBy, IsLeftBy}
use Rattle.eos_disk.proofs.Kept.{absent_same, bytes_same}
use Rattle.eos_disk.proofs.OnePlace.{only_trans}

after_cleared : (old a new : Entry) (bytes : List ℕ) → IsSameOrFront old bytes a → (bare new ≡ bare a) ⊎ MayBeAbsent new → IsSameOrFront old bytes new
after_cleared old a new bytes left (inr i) = inr (inl i)
after_cleared old a new bytes (inl t) (inl s) = inl (s ∙ t)
after_cleared old a new bytes (inr (inl h)) (inl s) = inr (inl (absent_same new a s h))
after_cleared old a new bytes (inr (inr (front, rest, e, h))) (inl s) = inr (inr (front, rest, e, bytes_same new a front s h))

pub cleared : (old a new : List ℕ → Entry) (by bytes : List ℕ) → IsLeftBy old by bytes a → IsTakenBy a by new → IsLeftBy old by bytes new
cleared old a new by bytes left taken = (only_trans old a new by left.0 taken.0, after_cleared (old by) (a by) (new by) bytes left.1 taken.1)
