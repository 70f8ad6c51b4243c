use Rattle.std.proofs.Common.{◌≡◌, ◌++◌, drop, flat_map}
use Rattle.eos_story.specs.Listings.{names_of}
use Rattle.eos_story.proofs.decisions.names_in.Given as goal

abbrev pub invariant-loop-topic : goal.invariant-loop-topic
invariant-loop-topic l = l.names.items ++ flat_map names_of (drop l.topic-index l.topics) ≡ flat_map names_of l.topics
