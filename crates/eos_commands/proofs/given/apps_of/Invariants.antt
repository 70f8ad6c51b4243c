-- The words so far give these applications.
use Rattle.std.proofs.Common.{take, map}
use Rattle.eos_commands.proofs.WordsRefused.{GoBefore}
use Rattle.eos_commands.proofs.given.apps_of.Given as goal

abbrev pub invariant-loop-at : goal.invariant-loop-at
invariant-loop-at l = GoBefore (map (λ w. w.now) (take l.at l.words)) l.apps.items
