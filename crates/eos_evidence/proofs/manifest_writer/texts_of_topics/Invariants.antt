-- The texts so far are those of the topics that were passed.
use Rattle.std.proofs.Common.{◌≡◌, map, take, drop, true}
use Rattle.std.specs.List.{list_all}
use Rattle.serde_json.specs.View.{view}
use Rattle.serde_json.specs.Data.{string}
use Rattle.eos_evidence.specs.Topics.{is_topic}
use Rattle.eos_evidence.proofs.manifest_writer.texts_of_topics.Given as goal

abbrev pub invariant-loop-topic : goal.invariant-loop-topic
invariant-loop-topic l = record {
  so_far : map view l.texts.items ≡ map string (take l.topic-index l.topics);
  legal : list_all is_topic (drop l.topic-index l.topics) ≡ true;
}
