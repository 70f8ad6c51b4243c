-- The labels of the deeds that are left go behind those so far, and these lead to the end.
use Rattle.eos_simulate.proofs.Labelled.{GoBehind, GoesOn}
use Rattle.eos_simulate.proofs.labels.labels_in.Given as goal

abbrev pub invariant-loop-place : goal.invariant-loop-place
invariant-loop-place l = GoBehind l.fn.cluster l.deeds l.place l.cluster l.labels.items × GoesOn l.fn.cluster l.deeds l.place l.cluster
