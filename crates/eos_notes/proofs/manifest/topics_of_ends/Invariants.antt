use Rattle.std.proofs.Common.{◌≡◌, take, map}
use Rattle.eos_notes.proofs.manifest.topics_of_ends.Given as goal

abbrev pub invariant-loop-end : goal.invariant-loop-end
invariant-loop-end l = l.topics.items ≡ map (λ e. e.topic) (take l.end-index l.ends)
