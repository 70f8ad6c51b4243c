use Rattle.std.proofs.Common.{◌≡◌, drop}
use Rattle.eos_verdict.specs.Counts.{first_with}
use Rattle.eos_verdict.proofs.counts.first_with.Given as goal

abbrev pub invariant-loop-verdict : goal.invariant-loop-verdict
invariant-loop-verdict l = first_with l.number (drop l.verdict-index l.told) ≡ first_with l.number l.told
