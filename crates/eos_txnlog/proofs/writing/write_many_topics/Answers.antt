use Rattle.std.proofs.Common.{◌++◌, ap, subst, ◌∙◌}
use Rattle.eos_txnlog.specs.declared.partitions.TopicPartitions.{TopicPartitions}
use Rattle.eos_txnlog.specs.steps.Text.{FitNumbers}
use Rattle.eos_txnlog.specs.Writing.{topic_text}
use Rattle.eos_txnlog.proofs.Appended.{piece_more, each_more}
use Rattle.eos_txnlog.proofs.writing.write_many_topics.Goals as goal

pub loop-topic-preserved : goal.loop-topic-preserved
loop-topic-preserved c =
    let topics = c.args.topics.now in
    let i = c.loop-topic.topic-index in
    let topic = c.topic-item.result in
    let written = c.in_ok-write_topic.ensures in
    record {
      text = piece_more (topic_text c.args.form) c.args.out.now.items c.loop-topic.out.items _ topics i topic c.loop-topic-test.true c.loop-topic.invariant.text
          (written.text ∙ ap (λ (t : TopicPartitions). c.loop-topic.out.items ++ topic_text c.args.form t) c.topic-item.is);
      fit = each_more FitNumbers topics i topic c.loop-topic-test.true c.loop-topic.invariant.fit (subst FitNumbers c.topic-item.is written.fit);
    }
