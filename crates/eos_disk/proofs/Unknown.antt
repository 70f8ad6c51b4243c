-- Of a disk of which nothing is known.
use Rattle.std.proofs.Common.{ℕ, List, refl, inl}
use Rattle.eos_disk.specs.Entries.{Unknown}
use Rattle.eos_disk.specs.Changes.{SameAll, IsMade, AreMade, AreMadeTo, IsPut, IsPutInPart, IsMoved, IsRemoved}

pub same : SameAll (λ (p : List ℕ). Unknown) (λ (p : List ℕ). Unknown)
same q = refl

pub made : (path : List ℕ) → IsMade (λ (p : List ℕ). Unknown) path (λ (p : List ℕ). Unknown)
made path = record { fresh = tt; at = tt; known = (λ k. k, λ k. k); others = λ q n. refl }

pub made_to : (path : List ℕ) → AreMadeTo (λ (p : List ℕ). Unknown) path (λ (p : List ℕ). Unknown)
made_to path = record { fronts = λ q f. inl refl; known = λ q. (λ k. k, λ k. k); others = λ q n. refl }

pub all_made : (path : List ℕ) → AreMade (λ (p : List ℕ). Unknown) path (λ (p : List ℕ). Unknown)
all_made path = (tt, made_to path)

pub put : (path bytes : List ℕ) → IsPut (λ (p : List ℕ). Unknown) path bytes (λ (p : List ℕ). Unknown)
put path bytes = record { fresh = tt; at = tt; known = (λ k. k, λ k. k); others = λ q n. refl }

pub part : (path bytes : List ℕ) → IsPutInPart (λ (p : List ℕ). Unknown) path bytes (λ (p : List ℕ). Unknown)
part path bytes = inl (λ q. refl)

pub moved : (from to : List ℕ) → IsMoved (λ (p : List ℕ). Unknown) from to (λ (p : List ℕ). Unknown)
moved from to = record { fresh = tt; at = λ bytes h. tt; known = (λ k. k, λ k. k); left = inl refl; others = λ q n m. refl }

pub removed : (path : List ℕ) → IsRemoved (λ (p : List ℕ). Unknown) path (λ (p : List ℕ). Unknown)
removed path = record { at = tt; known = (λ k. k, λ k. k); others = λ q n. refl }
