use Rattle.std.proofs.Common.{take, flat_map}
use Rattle.eos_claims.specs.Outputs.{Application}
use Rattle.eos_lineage.specs.steps.Keys.{plain_keys, no_keys, AreBooks, HasKeyed}
use Rattle.eos_lineage.specs.steps.Walks.{output_claims}
use Rattle.eos_lineage.proofs.keys.take_first.Given as goal

abbrev pub invariant-loop-i : goal.invariant-loop-i
invariant-loop-i l = (a : Application) → AreBooks a l.books → HasKeyed a l.books.names.now no_keys (plain_keys l.keys) (flat_map output_claims (take l.i l.outputs))
