-- The values so far are those of the rows that were passed.
use Rattle.std.proofs.Common.{◌≡◌, map, take}
use Rattle.serde_json.specs.View.{view}
use Rattle.eos_report.specs.TallyValues.{group_value}
use Rattle.eos_report.proofs.tally.values_of_groups.Given as goal

abbrev pub invariant-loop-group : goal.invariant-loop-group
invariant-loop-group l = map view l.values.items ≡ map group_value (take l.group-index l.groups)
