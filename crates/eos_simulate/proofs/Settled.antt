-- A cluster at rest, and the logs that its evidence has.
use Rattle.std.proofs.Common.{◌≡◌, ℕ, zero, suc, ◌+◌, ◌<◌, ◌≤◌, pos, List, [], ◌∷◌, refl, subst, arith, inl, inr}
use Rattle.std.specs.Prelude.{⊤}
use Rattle.std.proofs.lemmas.Bool.{cases_lt}
use Rattle.eos_base.specs.Members.{Has}
use Rattle.eos_batch.specs.declared.batch.Batch.{Batch}
use Rattle.eos_fold.specs.Items.{items_of}
use Rattle.eos_batch.specs.Marker.{markers_of}
use Rattle.eos_fold.specs.Parts.{PartLog, AreCloses}
use Rattle.eos_fold.specs.Closes.{closes_of}
use Rattle.eos_fold.specs.Settling.{data_in}
use Rattle.eos_machine.specs.declared.config.Config.{Config}
use Rattle.eos_machine.specs.LogIndexes.{IsConfig, log_count, topic_of, number_of}
use Rattle.eos_machine.specs.World.{World, log_at}
use Rattle.eos_machine.specs.Rest.{NeighboursFit, AllAtomic, StepsFit, IsAtRest}
use Rattle.eos_machine.proofs.Good.{Good}
use Rattle.eos_machine.specs.Evidences.{HaveTexts}
use Rattle.eos_simulate.proofs.Singles.{singles_from}
use Rattle.eos_simulate.proofs.Placing.{Placed}

-- the log at a place, each item as a batch of its own
abbrev pub log_batches : Config → World → ℕ → List Batch
log_batches c w p = singles_from c 0 (log_at w p)

-- what is known of a cluster at rest and of the bytes of its logs
pub record IsSettled (c : Config) (w : World) : Type 0 where
  pub config : IsConfig c
  pub fit : NeighboursFit c w
  pub atomic : AllAtomic c w
  pub written : (p : ℕ) → p < log_count c → HaveTexts c p w.elections (log_at w p)
  pub steps : StepsFit c w
  pub rest : IsAtRest w
  pub good : Good c w
  pub placed : Placed c w

-- ---- what they hold

pub record IsLog (c : Config) (w : World) (p : ℕ) (l : PartLog) : Type 0 where
  pub topic : l.topic ≡ topic_of c p
  pub number : l.number ≡ pos (number_of c p)
  pub items : l.items ≡ items_of (data_in (log_batches c w p))
  pub markers : l.markers ≡ markers_of (log_batches c w p)
  pub closes : AreCloses (closes_of (log_batches c w p)) l.closes

-- the logs of so many places, from this one on
abbrev pub AreAt : Config → World → ℕ → ℕ → List PartLog → Type 0
AreAt c w a zero [] = ⊤
AreAt c w a zero (l ∷ ls) = ⊥
AreAt c w a (suc n) [] = ⊥
AreAt c w a (suc n) (l ∷ ls) = IsLog c w a l × AreAt c w (a + 1) n ls

pub in_logs : (c : Config) (w : World) (a n : ℕ) (ls : List PartLog) → AreAt c w a n ls → (l : PartLog) → Has ls l → (q : ℕ) × (a ≤ q) × (q < a + n) × IsLog c w q l
in_logs c w a zero [] h l m = absurd m
in_logs c w a zero (k ∷ ls) h l m = absurd h
in_logs c w a (suc n) [] h l m = absurd m
in_logs c w a (suc n) (k ∷ ls) h l (inl e) = (a, omega arith, omega arith, subst (IsLog c w a) e h.0)
in_logs c w a (suc n) (k ∷ ls) h l (inr m) = let r = in_logs c w (a + 1) n ls h.1 l m in (r.0, omega (arith, r.1), omega (arith, r.2), r.3)

pub at_logs : (c : Config) (w : World) (a n : ℕ) (ls : List PartLog) → AreAt c w a n ls → (q : ℕ) → a ≤ q → q < a + n → (l : PartLog) × Has ls l × IsLog c w q l
at_logs c w a zero ls h q x y = absurd (omega (arith, x, y))
at_logs c w a (suc n) [] h q x y = absurd h
at_logs c w a (suc n) (k ∷ ls) h q x y = elim (cases_lt a q) [
  | inl l ↦ let r = at_logs c w (a + 1) n ls h.1 q (omega (arith, l)) (omega (arith, y)) in (r.0, inr r.1, r.2)
  | inr l ↦ let e : a ≡ q = omega (arith, l, x) in (k, inl refl, subst (λ j. IsLog c w j k) e h.0)
]
