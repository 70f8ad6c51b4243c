use Rattle.std.proofs.Common.{◌≡◌, ℕ, [], ◌∷◌}
use Rattle.eos_source.specs.Said.{known_by}
use Rattle.eos_source_check.proofs.PassedAgain.{first_of}
use Rattle.eos_source_check.proofs.TimesAgain.{IsAhead}
use Rattle.eos_source_check.proofs.times.times_each.Given as goal

abbrev pub invariant-loop-i : goal.invariant-loop-i
invariant-loop-i g l =
    (l.first ≡ first_of l.partitions l.i) × ((offset : ℕ) → IsAhead (known_by (g.S.Source.said l.source) (g.S.Source.is_log l.source)) l.partitions l.name (offset ∷ []) l.first l.i)
