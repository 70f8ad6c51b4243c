use Rattle.std.proofs.Common.{drop, fold, ap, sym, refl}
use Rattle.eos_table.specs.TransactionLog.{state_of}
use Rattle.eos_table.specs.steps.LogCandidates.{taken}
use Rattle.eos_table.proofs.SettledIds.{none_open}
use Rattle.eos_table.proofs.log_reading.push_open.Goals as goal

pub returns-then-are_settled-clause-each : goal.returns-then-are_settled-clause-each
returns-then-are_settled-clause-each c = λ each. (
  refl,
  sym (ap (fold taken c.args.faults.now)
      (none_open (state_of c.args.last.now) c.args.end.partition c.args.end.offset (drop c.args.from c.args.held.now.marks.items) (c.are_settled.ensures c.if-are_settled.true))),
)

pub returns-then-are_settled-clause-apart : goal.returns-then-are_settled-clause-apart
returns-then-are_settled-clause-apart c = λ apart. (
  refl,
  λ marks. sym (ap (fold taken c.args.faults.now)
      (none_open (state_of c.args.last.now) c.args.end.partition c.args.end.offset marks (c.are_settled.ensures c.if-are_settled.true))),
)
