-- The set has gained the names so far.
use Rattle.eos_commands.specs.steps.Names.{Gains}
use Rattle.eos_commands.proofs.copied.insert_all.Given as goal

abbrev pub invariant-loop-name : goal.invariant-loop-name
invariant-loop-name l = Gains l.fn.names l.yielded l.names
