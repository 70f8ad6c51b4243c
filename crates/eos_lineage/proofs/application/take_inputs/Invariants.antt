use Rattle.std.proofs.Common.{◌≡◌, ◌≤◌, take, map, fold, flat_map, option_map, length}
use Rattle.std.specs.List.{filter}
use Rattle.eos_base.specs.Least.{lesser_of}
use Rattle.eos_claims.specs.Outputs.{Application}
use Rattle.eos_claims.specs.Faults.{fault_cmp}
use Rattle.eos_claims.specs.Candidates.{unclaimed, is_committed}
use Rattle.eos_claims.specs.Plain.{plain_place, plain_fault}
use Rattle.eos_lineage.specs.steps.Walks.{AreTables, AreNamed}
use Rattle.eos_lineage.proofs.application.take_inputs.Given as goal

abbrev pub invariant-loop-input : goal.invariant-loop-input
invariant-loop-input l = (l.count ≤ l.input-index)
    × ((a : Application) → AreTables a l.tables → l.count ≡ length (filter (is_committed a) (map plain_place (take l.input-index l.tables.inputs.now))))
    × ((a : Application) → AreTables a l.tables → AreNamed a l.claims
    → option_map plain_fault l.best ≡ fold (lesser_of fault_cmp) (option_map plain_fault l.fn.first) (flat_map (unclaimed a) (map plain_place (take l.input-index l.tables.inputs.now))))
