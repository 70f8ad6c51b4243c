-- What is added to here is added to at the start, with the items that are left; and where these were read, all were.
use Rattle.std.proofs.Common.{◌≡◌, ◌++◌, false, drop, string_bytes}
use Rattle.serde_json.specs.Written.{items_text}
use Rattle.eos_report.specs.DatedValues.{dated_items}
use Rattle.eos_report.specs.steps.Texts.{AreRead}
use Rattle.eos_report.proofs.json_faults.push_items.Given as goal

abbrev pub invariant-loop-fault : goal.invariant-loop-fault
invariant-loop-fault l =
    (string_bytes l.out ++ items_text l.later (dated_items (drop l.fault-index l.faults) l.left) ≡ string_bytes l.initial.out ++ items_text false (dated_items l.faults l.times))
    × (AreRead (dated_items (drop l.fault-index l.faults) l.left) → AreRead (dated_items l.faults l.times))
