-- Verdicts that name faults.
use Rattle.std.proofs.Common.{◌≡◌, ℕ, suc, zero, List, [], ◌∷◌, map, slice_get, Some}
use Rattle.eos_verdict.specs.declared.verdict.Fault.{Fault}
use Rattle.eos_verdict.specs.declared.verdict.Verdict.{Verdict}
use Rattle.eos_verdict.specs.declared.verdict.Verdict.TheVariants.{No}

pub named_at : (faults : List Fault) (k : ℕ) (v : Verdict) → slice_get (map No faults) k ≡ Some v → (f : Fault) × (v ≡ No f)
named_at [] k v e = cc
named_at (f ∷ fs) zero v e = let is : v ≡ No f = cc in (f, is)
named_at (f ∷ fs) (suc k) v e = named_at fs k v e
