use Rattle.std.proofs.Common.{sym, subst, ◌∙◌, ap, not, w32, w64, rules}
use Rattle.std.proofs.lemmas.Int.{to_z-of_z}
use mir.Val.{SFits}
use Rattle.eos_evidence.specs.declared.ends.End.{End}
use Rattle.eos_evidence.specs.Topics.{is_internal}
use Rattle.eos_sought.specs.Folded.{AreFoldsOf}
use Rattle.eos_fold.specs.Standing.{IsStanding, fault_cmp}
use Rattle.eos_base.specs.AllOf.{IsAllOf}
use Rattle.eos_faults.specs.steps.Walks.{HasWalked}
use Rattle.eos_faults.proofs.AllFound.{found_sound, found_whole, listed}
use Rattle.eos_faults.proofs.log_faults.faults_of_partition.Goals as goal

pub returns : goal.returns
returns c = λ log folded.
    let p = c.args.folded.now in
    let walk = c.in_ok-walk.walk in
    let stop = c.in_ok-walk.stop in
    let sequenced = not (is_internal p.end.topic) in
    let checks = c.is_checked-is_sequenced.ensures ∙ ap (λ t. not (is_internal t)) c.as_slice.ensures in
    let along : HasWalked c.is_checked-is_sequenced.result log.segments walk stop = c.in_ok-walk.ensures log.segments (subst (AreFoldsOf log.segments) (sym c.as_slice-2.ensures.value) folded.folds) in
    let walked = subst (λ s. HasWalked s log.segments walk stop) checks along in
    let end_fits : SFits w64 p.end.end = search rules in
    let end = to_z-of_z w64 p.end.end end_fits in
    let found_is = rw end at c.in_ok-found_of.ensures in
    let number_fits : SFits w32 p.end.partition = search rules in
    let number = to_z-of_z w32 p.end.partition number_fits in
    let faults_are = rw number at c.in_ok-faults.ensures in
    let found = c.in_ok-found_of.field-0.items in
    let kept = c.distinct_in_order-shown.ensures in
    record {
      batches = walked.batches;
      stop = stop;
      front = walked.front;
      faults = subst (λ (e : End). IsAllOf fault_cmp (IsStanding e.topic e.partition e.end walked.batches stop) c.in_ok-faults.faults.items) folded.end
          (subst (IsAllOf fault_cmp (IsStanding p.end.topic p.end.partition p.end.end walked.batches stop)) (sym faults_are)
          (listed p.end.topic p.end.partition p.end.end walked.batches stop found
          (found_sound sequenced p.end.end walked.batches walk walked.passed stop found found_is)
          (found_whole sequenced p.end.end walked.batches walk walked.passed stop found found_is)
          c.distinct_in_order-shown.result.items kept.rises kept.each kept.all));
    }
