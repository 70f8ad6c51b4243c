use Rattle.std.proofs.Common.{take, flat_map}
use Rattle.eos_claims.specs.Outputs.{Application}
use Rattle.eos_lineage.specs.steps.Walks.{AreTables, HasWalked, plain_walk, begun, output_claims}
use Rattle.eos_lineage.proofs.claims.take_outputs.Given as goal

abbrev pub invariant-loop-i : goal.invariant-loop-i
invariant-loop-i l = (a : Application) → AreTables a l.tables → HasWalked a begun (plain_walk l.walk) (flat_map output_claims (take l.i l.outputs))
