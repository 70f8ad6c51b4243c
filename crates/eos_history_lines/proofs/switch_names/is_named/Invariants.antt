-- None of the items that were passed is the name.
use Rattle.std.proofs.Common.{◌≡◌, drop}
use Rattle.serde_json.specs.View.{items_view}
use Rattle.eos_history_lines.specs.steps.Reading.{is_named}
use Rattle.eos_history_lines.proofs.switch_names.is_named.Given as goal

abbrev pub invariant-loop-item : goal.invariant-loop-item
invariant-loop-item l = is_named l.name (items_view (drop l.item-index l.names)) ≡ is_named l.name (items_view l.names)
