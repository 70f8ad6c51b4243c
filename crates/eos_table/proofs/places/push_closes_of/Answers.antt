use Rattle.std.proofs.Common.{◌≡◌, ◌<◌, List, length, get_or, pos, map, fold, subst, ap, ◌∙◌, w64, rules}
use Rattle.std.proofs.lemmas.Int.{to_z-of_z}
use mir.Val.{SFits}
use Rattle.eos_base.specs.declared.partition_name.PartitionName.{PartitionName}
use Rattle.eos_batch.specs.declared.marker.Kind.TheVariants.{Commit}
use Rattle.eos_fold.specs.declared.close.Close.{Close}
use Rattle.eos_fold.specs.Parts.{part_name}
use Rattle.eos_verdict.specs.declared.match_fault.MatchFault.{MatchFault}
use Rattle.eos_table.specs.steps.Keys.{mine, plain_name, plain_listed}
use Rattle.eos_table.specs.steps.Shown.{found, in_shard, close_by}
use Rattle.eos_table.proofs.FoldMore.{folded_at}
use Rattle.eos_table.proofs.ShardSteps.{own_taken, other_left}
use Rattle.eos_table.proofs.places.push_closes_of.Goals as goal
use Rattle.eos_table.proofs.places.push_closes_of.Goals.{then-has+in_ok-push_close, else-has}

pub loop-close-preserved : goal.loop-close-preserved
loop-close-preserved c =
    let i = c.loop-close.close-index in
    let same = c.closes-close-items.ensures.closes in
    let none : Close = record { producer = pos 0; epoch = pos 0; marker_epoch = pos 0; kind = Commit } in
    let n = c.args.shard.of in
    let s = c.args.shard.number in
    let says : PartitionName → Close → List MatchFault = close_by c.args.deciders.now (map plain_listed c.args.listed.now) in
    let shown : PartitionName → Close → List MatchFault = λ name x. in_shard n s x.producer (says name x) in
    let name = plain_name c.name_of_part-name.result in
    let now = c.loop-close.faults in
    let next = c.if-has.faults in
    let x : Close = get_or c.closes-close-items.result.now i none in
    let fits : SFits w64 x.producer = search rules in
    let own = c.has.ensures ∙ ap (mine n s) (to_z-of_z w64 x.producer fits) in
    let first : next ≡ fold found now (shown name x) = elim c.if-has.branch [
      | then-has+in_ok-push_close w ↦ own_taken n s x.producer c.has.result (says name x) now next own w.if-has.true (w.faults-is ∙ w.in_ok-push_close.ensures)
      | else-has w ↦ other_left n s x.producer c.has.result (says name x) now next own w.if-has.false w.faults-is
    ] in
    let lent = subst (λ z. next ≡ fold found now (shown z x)) c.name_of_part-name.ensures first in
    let here = subst (λ (closes : List Close). next ≡ fold found now (shown (part_name c.args.part.now) (get_or closes i none))) same lent in
    let inside = subst (λ (closes : List Close). i < length closes) same c.loop-close-test.true in
    folded_at found (shown (part_name c.args.part.now)) c.args.faults.now now next c.args.part.now.closes i none inside c.loop-close.invariant here
