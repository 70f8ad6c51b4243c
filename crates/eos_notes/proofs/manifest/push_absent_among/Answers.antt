use Rattle.std.proofs.Common.{◌++◌, ◌∙◌, flat_map, ap, take_all}
use Rattle.std.specs.Ordering.{nat_cmp}
use Rattle.std.specs.Cmp.Lexicographic.{slice_cmp}
use Rattle.eos_base.specs.Members.{is_found}
use Rattle.eos_notes.specs.ManifestNotes.{absent_topic}
use Rattle.eos_notes.proofs.PushedMore.{pushed_more}
use Rattle.eos_notes.proofs.manifest.push_absent_among.Goals as goal

pub loop-topic-preserved : goal.loop-topic-preserved
loop-topic-preserved c =
    pushed_more (absent_topic (is_found (slice_cmp nat_cmp) c.args.present.now) c.args.group.now) _ _ _ c.args.topics.now c.loop-topic.topic-index c.topic-item.result c.loop-topic-test.true c.topic-item.is c.loop-topic.invariant c.in_ok-push_absent_topic.ensures

pub returns : goal.returns
returns c = c.loop-topic.invariant ∙ ap (λ xs. c.args.all.now.items ++ flat_map (absent_topic (is_found (slice_cmp nat_cmp) c.args.present.now) c.args.group.now) xs) (take_all c.loop-topic.topic-index c.args.topics.now c.loop-topic-test.false)
