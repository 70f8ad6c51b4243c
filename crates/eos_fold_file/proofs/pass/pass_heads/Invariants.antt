use Rattle.eos_fold_file.proofs.PassedHeads.{HasPassed}
use Rattle.eos_fold_file.proofs.pass.pass_heads.Given as goal

abbrev pub invariant-loop-head : goal.invariant-loop-head
invariant-loop-head l = HasPassed l.begin l.heads l.head-index l.passed.items l.next l.records
