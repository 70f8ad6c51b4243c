-- Batches at the front of bytes, when further bytes follow.
use Rattle.std.proofs.Common.{ℕ, List, [], ◌∷◌, ◌++◌, sym, ap, subst, ◌∙◌, append_assoc}
use Rattle.eos_batch.specs.declared.batch.Batch.{Batch}
use Rattle.eos_batch.specs.Segment.{Splits}

pub splits_more : (fed : List ℕ) (bs : List Batch) (rest more : List ℕ) → Splits fed bs rest → Splits (fed ++ more) bs (rest ++ more)
splits_more fed [] rest more s = ap (λ (xs : List ℕ). xs ++ more) s
splits_more fed (b ∷ bs) rest more s =
    (s.0, s.1 ++ more, s.2, ap (λ (xs : List ℕ). xs ++ more) s.3 ∙ append_assoc s.0 s.1 more, splits_more s.1 bs rest more s.4)

pub splits_join : (fed : List ℕ) (bs cs : List Batch) (rest last : List ℕ) → Splits fed bs rest → Splits rest cs last → Splits fed (bs ++ cs) last
splits_join fed [] cs rest last s t = subst (λ (xs : List ℕ). Splits xs cs last) (sym s) t
splits_join fed (b ∷ bs) cs rest last s t = (s.0, s.1, s.2, s.3, splits_join s.1 bs cs rest last s.4 t)
