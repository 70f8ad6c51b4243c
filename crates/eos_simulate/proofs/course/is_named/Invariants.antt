-- None of the words that were passed is the name.
use Rattle.std.proofs.Common.{◌≡◌, drop}
use Rattle.eos_simulate.specs.Settings.{is_named}
use Rattle.eos_simulate.proofs.course.is_named.Given as goal

abbrev pub invariant-loop-name : goal.invariant-loop-name
invariant-loop-name l = is_named (drop l.name-index l.names) l.switch ≡ is_named l.names l.switch
