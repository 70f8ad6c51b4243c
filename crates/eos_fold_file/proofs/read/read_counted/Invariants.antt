use Rattle.std.proofs.Common.{◌≡◌, ◌-◌}
use Rattle.eos_fold_file.specs.Numbers.{many_from}
use Rattle.eos_fold_file.specs.Heads.{head_from}
use Rattle.eos_fold_file.specs.steps.Counts.{IsCountedHeads}
use Rattle.eos_fold_file.proofs.Loop.{with_front}
use Rattle.eos_fold_file.proofs.read.read_counted.Given as goal

abbrev pub invariant-loop : goal.invariant-loop
invariant-loop l = record {
  so_far : with_front l.heads (many_from head_from (l.count - l.counter) l.here) ≡ many_from head_from l.count l.fn.rest;
  counted : IsCountedHeads l.begin l.heads l.counted;
}
