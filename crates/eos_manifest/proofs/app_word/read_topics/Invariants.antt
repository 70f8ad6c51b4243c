-- The topics so far, and the items that are left.
use Rattle.std.proofs.Common.{◌≡◌, ◌++◌, true, option_map}
use Rattle.std.specs.List.{list_all}
use Rattle.eos_evidence.specs.Topics.{is_topic}
use Rattle.eos_manifest.specs.Divided.{items_of}
use Rattle.eos_manifest.proofs.TextPieces.{items_left, left}
use Rattle.eos_manifest.proofs.app_word.read_topics.Given as goal

abbrev pub invariant-loop-rest : goal.invariant-loop-rest
invariant-loop-rest l = record {
  items : items_of l.fn.text ≡ l.topics.items ++ items_left (option_map (λ s. s.now) l.rest);
  topics : list_all is_topic l.topics.items ≡ true;
}

abbrev pub decreases-loop-rest : goal.decreases-loop-rest
decreases-loop-rest l = left (option_map (λ s. s.now) l.rest)
