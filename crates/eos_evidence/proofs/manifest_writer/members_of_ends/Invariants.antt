-- The members so far are the ends that were passed.
use Rattle.std.proofs.Common.{◌≡◌, take, drop, true}
use Rattle.std.specs.List.{list_all}
use Rattle.serde_json.specs.View.{members_view}
use Rattle.eos_evidence.specs.Ends.{is_legal_end}
use Rattle.eos_evidence.specs.steps.WrittenEnds.{HoldsEnds}
use Rattle.eos_evidence.proofs.manifest_writer.members_of_ends.Given as goal

abbrev pub invariant-loop-end : goal.invariant-loop-end
invariant-loop-end l = record {
  so_far : HoldsEnds (members_view l.members.entries) (take l.end-index l.ends);
  legal : list_all is_legal_end (drop l.end-index l.ends) ≡ true;
}
