-- The words are as they were; behind those of the alphabet so far all was run.
use Rattle.std.proofs.Common.{◌≡◌, ◌-◌, take}
use Rattle.eos_simulate.specs.Every.{alphabet, AreRun}
use Rattle.eos_simulate.proofs.EachSchedule.{further}
use Rattle.eos_simulate.proofs.exploring.+explore_behind.Given as goal

abbrev pub decreases-explore_behind : goal.decreases-explore_behind
decreases-explore_behind g l = l.left

abbrev pub invariant-loop-word : goal.invariant-loop-word
invariant-loop-word g l = (l.word-items ≡ alphabet) × (l.walk.words.items ≡ l.fn.walk.words.items) × AreRun l.course.config (further (l.left - 1) l.fn.walk.words.items (take l.word-index l.word-items)) l.fn.walk.explored l.walk.explored
