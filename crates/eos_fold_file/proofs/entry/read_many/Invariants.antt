use Rattle.std.proofs.Common.{◌≡◌, ◌-◌}
use Rattle.eos_fold_file.specs.Numbers.{many_from}
use Rattle.eos_fold_file.proofs.Loop.{with_front}
use Rattle.eos_fold_file.proofs.entry.read_many.Given as goal

abbrev pub invariant-loop : goal.invariant-loop
invariant-loop g l = with_front l.entries (many_from g.T.Entry.entry_from (l.count - l.counter) l.here) ≡ many_from g.T.Entry.entry_from l.count l.fn.rest
