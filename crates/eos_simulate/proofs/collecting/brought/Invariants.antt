-- The mistakes that are left bring what all bring.
use Rattle.eos_simulate.specs.Collecting.{after_mistakes, copied_from}
use Rattle.eos_simulate.proofs.Brought.{GoesOn}
use Rattle.eos_simulate.proofs.collecting.brought.Given as goal

abbrev pub invariant-loop-mistake : goal.invariant-loop-mistake
invariant-loop-mistake l = GoesOn l.mistakes (after_mistakes l.mistakes (copied_from l.evidence)) l.mistake-index l.copied
