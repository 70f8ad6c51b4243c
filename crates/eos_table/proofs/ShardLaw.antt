-- The shards together.
use Rattle.std.proofs.Common.{◌≡◌, ◌<◌, ◌-◌, ◌%◌, ℕ, ℤ, pos, negsuc, List, Option, Some, None, refl, subst, true, arith}
use Rattle.std.specs.Int.{int_rem_euclid}
use Rattle.std.proofs.lemmas.Bool.Decides.{Decides-int_eq}
use Rattle.eos_base.specs.Least.{UpTo, NoneStands, IsLeast}
use Rattle.eos_base.proofs.LeastOf.{upto_trans}
use Rattle.eos_txnlog.specs.declared.decision.Decision.{Decision}
use Rattle.eos_fold.specs.Parts.{PartLog}
use Rattle.eos_verdict.specs.declared.match_fault.MatchFault.{MatchFault}
use Rattle.eos_table.specs.MatchFaults.{fault_cmp, Stands}
use Rattle.eos_table.specs.Shards.{InShard, StandsIn, IsAnswer, AreAnswers}
use Rattle.eos_table.specs.steps.Keys.{mine}
use Rattle.eos_table.proofs.MatchOrder.{fault_total}

pub mine_is : (n s : ℕ) (p : ℤ) → mine n s p ≡ true → int_rem_euclid p (pos n) ≡ pos s
mine_is n s p e = (Decides-int_eq (int_rem_euclid p (pos n)) (pos s)).0 e

pub is_mine : (n s : ℕ) (p : ℤ) → int_rem_euclid p (pos n) ≡ pos s → mine n s p ≡ true
is_mine n s p e = (Decides-int_eq (int_rem_euclid p (pos n)) (pos s)).1 e

-- each number has a shard
pub shard_of : (n : ℕ) (z : ℤ) → 0 < n → (s : ℕ) × (s < n) × (int_rem_euclid z (pos n) ≡ pos s)
shard_of n (pos a) l = (a % n, omega arith, refl)
shard_of n (negsuc a) l = (n - 1 - a % n, omega arith, refl)

in_its_shard : (ds : List Decision) (ps : List PartLog) (n s : ℕ) (f g : MatchFault) (o : Option MatchFault) → IsAnswer ds ps n s o
    → ((h : MatchFault) → o ≡ Some h → UpTo fault_cmp f h) → InShard n s g → Stands ds ps g → UpTo fault_cmp f g
in_its_shard ds ps n s f g None m all inside stands = absurd (m g (inside, stands))
in_its_shard ds ps n s f g (Some h) m all inside stands = upto_trans fault_total f h g (all h refl) (m.least g (inside, stands))

pub least : (ds : List Decision) (ps : List PartLog) (n : ℕ) (a : ℕ → Option MatchFault) (s : ℕ) (f : MatchFault)
    → 0 < n → AreAnswers ds ps n a → s < n → a s ≡ Some f → ((t : ℕ) (g : MatchFault) → t < n → a t ≡ Some g → UpTo fault_cmp f g) → IsLeast fault_cmp (Stands ds ps) f
least ds ps n a s f some answers inside e all =
    let here : IsLeast fault_cmp (StandsIn ds ps n s) f = subst (IsAnswer ds ps n s) e (answers s inside) in record {
      stands = here.stands.1;
      least = λ g stands. let r = shard_of n g.producer some in in_its_shard ds ps n r.0 f g (a r.0) (answers r.0 r.1) (λ h q. all r.0 h r.1 q) r.2 stands;
    }

pub none : (ds : List Decision) (ps : List PartLog) (n : ℕ) (a : ℕ → Option MatchFault) → 0 < n → AreAnswers ds ps n a → ((t : ℕ) → t < n → a t ≡ None) → NoneStands (Stands ds ps)
none ds ps n a some answers all f stands =
    let r = shard_of n f.producer some in
    let here : NoneStands (StandsIn ds ps n r.0) = subst (IsAnswer ds ps n r.0) (all r.0 r.1) (answers r.0 r.1) in
    here f (r.2, stands)
