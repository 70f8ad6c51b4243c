use Rattle.std.proofs.Common.{fold, map, ap, ◌∙◌, take_all}
use Rattle.std.specs.List.{flat_map}
use Rattle.eos_fold.specs.Parts.{PartLog}
use Rattle.eos_table.specs.steps.Keys.{plain_listed}
use Rattle.eos_table.specs.steps.Shown.{found, closes_in}
use Rattle.eos_table.proofs.FoldMore.{folded_at}
use Rattle.eos_table.proofs.places.push_closes.Goals as goal

pub loop-part-preserved : goal.loop-part-preserved
loop-part-preserved c =
    let shown = closes_in c.args.shard.of c.args.shard.number c.args.deciders.now (map plain_listed c.args.listed.now) in
    let now = c.loop-part.faults in
    folded_at found shown c.args.faults.now now c.push_closes_of.new.faults c.args.parts.now c.loop-part.part-index c.part-item.result
    c.loop-part-test.true c.loop-part.invariant (c.in_ok-push_closes_of.ensures ∙ ap (λ (p : PartLog). fold found now (shown p)) c.part-item.is)

pub returns : goal.returns
returns c =
    let shown = closes_in c.args.shard.of c.args.shard.number c.args.deciders.now (map plain_listed c.args.listed.now) in
    c.loop-part.invariant ∙ ap (λ ps. fold found c.args.faults.now (flat_map shown ps)) (take_all c.loop-part.part-index c.args.parts.now c.loop-part-test.false)
