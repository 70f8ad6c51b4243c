use Rattle.std.proofs.Common.{◌≡◌, ℕ}
use Rattle.eos_source.specs.Said.{Known}
use Rattle.eos_source_check.proofs.NamedAgain.{IsAhead}
use Rattle.eos_source_check.proofs.PassedAgain.{first_of}
use Rattle.eos_source_check.proofs.again.index_named.Given as goal

abbrev pub invariant-loop-i : goal.invariant-loop-i
invariant-loop-i l = (l.first ≡ first_of l.partitions l.i) × ((known : ℕ → Known) → IsAhead known l.partitions l.name l.first l.i)
