-- The segments of a log added one after the other.
use Rattle.std.proofs.Common.{◌≡◌, ◌∷◌, ℕ, ◌+◌, ◌-◌, ◌<◌, suc, List, map, length, Result, Ok, ◌∙◌, sym, ap, arith}
use Rattle.std.specs.List.{range_with_len}
use Rattle.eos_base.specs.Fallible.{◌>>=◌}
use Rattle.eos_evidence.specs.declared.segment.Segment.{Segment}
use Rattle.eos_evidence.specs.declared.fault.AddFault.{AddFault}
use Rattle.eos_evidence.specs.Evidence.{EvidenceParts, added}
use Rattle.eos_machine.specs.declared.config.Config.{Config}
use Rattle.eos_machine.specs.declared.item.Item.{Item}
use Rattle.eos_machine.specs.declared.state.Election.{Election}
use Rattle.eos_machine.specs.Evidences.{segment_count, segment_at, log_segments, adding}

-- the numbers from i on begin with i
pub range_step : (i n : ℕ) → i < n → range_with_len i (n - i) ≡ i ∷ range_with_len (i + 1) (n - (i + 1))
range_step i n l = let e : n - i ≡ suc (n - (i + 1)) = omega (arith, l) in ap (range_with_len i) e

-- what is left to add of the segments of a log
pub one_added : (f : ℕ → Segment) (e g : EvidenceParts) (all : Result EvidenceParts AddFault) (s : Segment) (i n : ℕ) → i < n → all ≡ adding e (map f (range_with_len i (n - i))) → s ≡ f i → added e s ≡ Ok g
    → all ≡ adding g (map f (range_with_len (i + 1) (n - (i + 1))))
one_added f e g all s i n l h is a =
    h ∙ (ap (λ ks. adding e (map f ks)) (range_step i n l) ∙ ap (λ r. r >>= λ k. adding k (map f (range_with_len (i + 1) (n - (i + 1))))) (ap (added e) (sym is) ∙ a))

-- before any of them
pub first_left : (c : Config) (p : ℕ) (es : List Election) (log : List Item) (e : EvidenceParts) (n : ℕ) → n ≡ segment_count c (length log)
    → adding e (log_segments c p es log) ≡ adding e (map (segment_at c p es log) (range_with_len 0 (n - 0)))
first_left c p es log e n h = let k : segment_count c (length log) ≡ n - 0 = omega (arith, h) in ap (λ j. adding e (map (segment_at c p es log) (range_with_len 0 j))) k
