-- The values so far are those of the rows that were passed.
use Rattle.std.proofs.Common.{◌≡◌, map, take}
use Rattle.serde_json.specs.View.{view}
use Rattle.eos_report.specs.TallyValues.{source_value}
use Rattle.eos_report.proofs.tally.values_of_sources.Given as goal

abbrev pub invariant-loop-source : goal.invariant-loop-source
invariant-loop-source l = map view l.values.items ≡ map source_value (take l.source-index l.sources)
