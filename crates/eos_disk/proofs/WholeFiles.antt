-- All that was read of a file is what stands there.
use Rattle.std.proofs.Common.{◌≡◌, ℕ, List, Option, IfSome, refl, subst}
use Rattle.std.specs.Io.KnownBytes.{Consumes, IsAtEnd}
use Rattle.std.proofs.KnownBytes.{Consumes-whole}
use Rattle.eos_disk.specs.Entries.{Entry, Unknown, Absent, File, Folder, Leaves, HasBytes}

pub all_left : (old new : Option (List ℕ)) (bytes : List ℕ) → Consumes old new bytes → IsAtEnd new → IfSome old (λ xs. bytes ≡ xs)
all_left old new bytes c end = Consumes-whole old new bytes (λ xs. bytes ≡ xs) c end refl

pub left_stands : (e : Entry) (left : Option (List ℕ)) (bytes : List ℕ) → Leaves e left → IfSome left (λ xs. bytes ≡ xs) → HasBytes e bytes
left_stands Unknown left bytes l h = tt
left_stands Absent left bytes l h = absurd l
left_stands (File known) left bytes l h = subst (λ (o : Option (List ℕ)). IfSome o (λ xs. bytes ≡ xs)) l h
left_stands (Folder names) left bytes l h = absurd l
