use Rattle.std.proofs.Common.{fold, ap, ◌∙◌, take_all}
use Rattle.std.specs.List.{flat_map}
use Rattle.eos_table.specs.TransactionLog.{state_of}
use Rattle.eos_table.specs.declared.mark.Mark.{Mark}
use Rattle.eos_table.specs.steps.LogCandidates.{taken, open_at}
use Rattle.eos_table.proofs.FoldMore.{folded_at}
use Rattle.eos_table.proofs.log_reading.push_open_ids.Goals as goal

pub loop-mark-preserved : goal.loop-mark-preserved
loop-mark-preserved c =
    let shown = open_at (state_of c.args.last.now) c.args.end.partition c.args.end.offset in
    let now = c.loop-mark.faults in
    folded_at taken shown c.args.faults.now now c.push_open_id.new.faults c.args.marks.now c.loop-mark.mark-index c.mark-item.result
    c.loop-mark-test.true c.loop-mark.invariant (c.in_ok-push_open_id.ensures ∙ ap (λ (m : Mark). fold taken now (shown m)) c.mark-item.is)

pub returns : goal.returns
returns c =
    let shown = open_at (state_of c.args.last.now) c.args.end.partition c.args.end.offset in
    c.loop-mark.invariant ∙ ap (λ ms. fold taken c.args.faults.now (flat_map shown ms)) (take_all c.loop-mark.mark-index c.args.marks.now c.loop-mark-test.false)
