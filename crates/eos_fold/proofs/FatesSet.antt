-- Steps of the loops over places.
use Rattle.std.proofs.Common.{◌≡◌, ℕ, zero, suc, ◌+◌, ◌<◌, List, [], ◌∷◌, ◌++◌, length, map, refl, sym, ap, ◌∙◌, arith, slice_index_or, slice_set, drop, take}
use Rattle.std.proofs.lemmas.List.Edits.{map_over_more}
use Rattle.eos_fold.specs.declared.entry.Ending.{Ending}
use Rattle.eos_fold.specs.Batches.{DataBatch}
use Rattle.eos_fold.specs.steps.Endings.{set_ending, set_endings}

one_more : (i : ℕ) → suc (i + 1) ≡ suc i + 1
one_more i = omega arith

pub ending_next : (f : Ending) (places : List ℕ) (xs : List DataBatch) (i d : ℕ) → i < length places → set_endings f (drop (i + 1) places) (set_ending f (slice_index_or places i d) xs) ≡ set_endings f (drop i places) xs
ending_next f places xs i d l = ap (λ (ps : List ℕ). set_endings f ps xs) (sym (front places i l))
  where
    front : (ps : List ℕ) (i : ℕ) → i < length ps → drop i ps ≡ slice_index_or ps i d ∷ drop (i + 1) ps
    front [] i l = absurd (omega arith)
    front (p ∷ ps) zero l = refl
    front (p ∷ ps) (suc i) l = front ps i (omega arith) ∙ ap (λ n. slice_index_or ps i d ∷ drop n (p ∷ ps)) (one_more i)

any_default : (ns : List ℕ) (i d e : ℕ) → i < length ns → slice_index_or ns i d ≡ slice_index_or ns i e
any_default [] i d e l = absurd (omega arith)
any_default (n ∷ ns) zero d e l = refl
any_default (n ∷ ns) (suc i) d e l = any_default ns i d e (omega arith)

pub shift_step : (by : ℕ) (ns ms : List ℕ) (i : ℕ) → i < length ns → length ms ≡ length ns → ms ≡ map (λ p. p + by) (take i ns) ++ drop i ns
    → slice_set ms i (slice_index_or ms i 0 + by) ≡ map (λ p. p + by) (take (i + 1) ns) ++ drop (i + 1) ns
shift_step by ns ms i l s e = map_over_more (λ p. p + by) ns ms i (slice_index_or ms i 0) l e (any_default ms i 0 (slice_index_or ms i 0) (omega arith))
