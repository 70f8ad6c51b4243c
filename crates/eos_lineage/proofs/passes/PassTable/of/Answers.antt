use Rattle.std.proofs.Common.{subst, map, IsPermutation}
use Rattle.std.proofs.lemmas.List.Sorted.{IsPermutation-map}
use Rattle.eos_lineage.specs.steps.Tables.{plain_pass}
use Rattle.eos_lineage.proofs.passes.PassTable.of.Goals as goal

pub returns : goal.returns
returns g c = subst (λ xs. IsPermutation xs (map plain_pass c.sorted.result.items)) c.in_ok-all.ensures (IsPermutation-map plain_pass _ _ c.sorted.ensures.same)
