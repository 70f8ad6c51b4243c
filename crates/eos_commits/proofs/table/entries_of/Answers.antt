use Rattle.std.proofs.lemmas.Result.{IfOk-weaker}
use Rattle.eos_commits.proofs.table.entries_of.Goals as goal

pub returns-clause-entries : goal.returns-clause-entries
returns-clause-entries c = IfOk-weaker c.sorted_by_group.result _ _ (λ all stable. record { flat = c.in_ok-entries.entries.items; all = c.in_ok-entries.ensures; stable = stable }) c.sorted_by_group.ensures.stable
