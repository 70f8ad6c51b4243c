-- The items so far are those of the applications that were passed.
use Rattle.std.proofs.Common.{◌≡◌, map, take, drop, true}
use Rattle.std.specs.List.{list_all}
use Rattle.serde_json.specs.View.{view}
use Rattle.eos_evidence.specs.steps.WrittenApps.{are_topics, written_app}
use Rattle.eos_evidence.proofs.manifest_writer.items_of_apps.Given as goal

abbrev pub invariant-loop-app : goal.invariant-loop-app
invariant-loop-app l = record {
  so_far : map view l.items.items ≡ map written_app (take l.app-index l.apps);
  legal : list_all are_topics (drop l.app-index l.apps) ≡ true;
}
