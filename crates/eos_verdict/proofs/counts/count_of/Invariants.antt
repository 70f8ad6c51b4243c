use Rattle.std.proofs.Common.{◌≡◌, ◌≤◌, take, length}
use Rattle.std.specs.List.{filter}
use Rattle.eos_verdict.specs.Counts.{has_number}
use Rattle.eos_verdict.proofs.counts.count_of.Given as goal

abbrev pub invariant-loop-verdict : goal.invariant-loop-verdict
invariant-loop-verdict l = (l.count ≤ l.verdict-index) × (l.count ≡ length (filter (has_number l.number) (take l.verdict-index l.told)))
