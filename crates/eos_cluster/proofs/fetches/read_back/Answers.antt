use Rattle.std.proofs.Common.{◌-◌, ◌∙◌, rules}
use Rattle.eos_machine.specs.LogIndexes.{application_count}
use Rattle.eos_cluster.proofs.Backward.{back_one}
use Rattle.eos_cluster.proofs.Settled.{settled_here}
use Rattle.eos_cluster.proofs.fetches.read_back.Goals as goal

pub returns-then-is_settled : goal.returns-then-is_settled
returns-then-is_settled c =
    settled_here c.args.source (application_count c.args.store.now.config) c.args.store.now.world c.loop-i.fetched c.as_slice.result.now c.loop-i.i c.log-log.result.now c.log-log.ensures.items
    (c.as_slice.ensures.len ∙ c.loop-i.invariant.2) c.log-log.ensures.from (search rules) c.as_slice.ensures.value c.loop-i.invariant.1 (c.is_settled.ensures c.if-is_settled.true) c.loop-i.invariant.0

pub loop-i-preserved : goal.loop-i-preserved
loop-i-preserved c =
    let both = back_one c.args.source (application_count c.args.store.now.config) c.loop-i.fetched c.note_commit-fetched.result c.loop-i.ends.items c.as_slice-in-loop-i.result.now c.note_marker.new.ends.items c.log-log.result.now (c.loop-i.i) (c.loop-i.i - 1) c.index-log-i.result (search rules) c.index-log-i.is (search rules) c.as_slice-in-loop-i.ensures.value (search rules) c.note_commit-fetched.ensures c.note_marker.ensures.kept c.log-log.ensures.from c.loop-i.invariant.0 c.loop-i.invariant.1 in
    (both.0, both.1, c.note_marker.ensures.len ∙ c.loop-i.invariant.2)
