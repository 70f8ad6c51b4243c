-- The values so far are those of the rows that were passed.
use Rattle.std.proofs.Common.{◌≡◌, map, take}
use Rattle.serde_json.specs.View.{view}
use Rattle.eos_report.specs.TallyValues.{partition_value}
use Rattle.eos_report.proofs.tally.values_of_partitions.Given as goal

abbrev pub invariant-loop-tally : goal.invariant-loop-tally
invariant-loop-tally l = map view l.values.items ≡ map partition_value (take l.tally-index l.tallies)
