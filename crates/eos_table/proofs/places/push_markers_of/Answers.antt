use Rattle.std.proofs.Common.{◌≡◌, ◌<◌, List, length, get_or, pos, map, fold, subst, ap, ◌∙◌, w64, rules}
use Rattle.std.proofs.lemmas.Int.{to_z-of_z}
use mir.Val.{SFits}
use Rattle.eos_base.specs.declared.partition_name.PartitionName.{PartitionName}
use Rattle.eos_batch.specs.declared.marker.Kind.TheVariants.{Commit}
use Rattle.eos_batch.specs.declared.marker.Marker.{Marker}
use Rattle.eos_fold.specs.Parts.{part_name}
use Rattle.eos_verdict.specs.declared.match_fault.MatchFault.{MatchFault}
use Rattle.eos_table.specs.steps.Keys.{mine, plain_name, plain_ended}
use Rattle.eos_table.specs.steps.Shown.{found, in_shard, marker_by}
use Rattle.eos_table.proofs.FoldMore.{folded_at}
use Rattle.eos_table.proofs.ShardSteps.{own_taken, other_left}
use Rattle.eos_table.proofs.places.push_markers_of.Goals as goal
use Rattle.eos_table.proofs.places.push_markers_of.Goals.{then-has+in_ok-push_marker, else-has}

pub loop-marker-preserved : goal.loop-marker-preserved
loop-marker-preserved c =
    let i = c.loop-marker.marker-index in
    let same = c.markers-marker-items.ensures in
    let none : Marker = record { producer = pos 0; epoch = pos 0; kind = Commit; coordinator_epoch = pos 0 } in
    let n = c.args.shard.of in
    let s = c.args.shard.number in
    let says : PartitionName → Marker → List MatchFault = marker_by (map plain_ended c.args.wanted.now) in
    let shown : PartitionName → Marker → List MatchFault = λ name x. in_shard n s x.producer (says name x) in
    let name = plain_name c.name_of_part-name.result in
    let now = c.loop-marker.faults in
    let next = c.if-has.faults in
    let x : Marker = get_or c.markers-marker-items.result.now i none in
    let fits : SFits w64 x.producer = search rules in
    let own = c.has.ensures ∙ ap (mine n s) (to_z-of_z w64 x.producer fits) in
    let first : next ≡ fold found now (shown name x) = elim c.if-has.branch [
      | then-has+in_ok-push_marker w ↦ own_taken n s x.producer c.has.result (says name x) now next own w.if-has.true (w.faults-is ∙ w.in_ok-push_marker.ensures)
      | else-has w ↦ other_left n s x.producer c.has.result (says name x) now next own w.if-has.false w.faults-is
    ] in
    let lent = subst (λ z. next ≡ fold found now (shown z x)) c.name_of_part-name.ensures first in
    let here = subst (λ (markers : List Marker). next ≡ fold found now (shown (part_name c.args.part.now) (get_or markers i none))) same lent in
    let inside = subst (λ (markers : List Marker). i < length markers) same c.loop-marker-test.true in
    folded_at found (shown (part_name c.args.part.now)) c.args.faults.now now next c.args.part.now.markers i none inside c.loop-marker.invariant here
