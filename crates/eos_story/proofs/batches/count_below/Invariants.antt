use Rattle.std.proofs.Common.{◌≡◌, take}
use Rattle.eos_story.specs.Answers.{count_below}
use Rattle.eos_story.proofs.batches.count_below.Given as goal

abbrev pub invariant-loop-placed : goal.invariant-loop-placed
invariant-loop-placed l = l.count ≡ count_below l.offset (take l.placed-index l.batches)
