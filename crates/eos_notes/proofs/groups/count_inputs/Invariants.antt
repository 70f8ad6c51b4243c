use Rattle.std.proofs.Common.{◌≡◌, take, map, flat_map, length}
use Rattle.std.specs.List.{filter}
use Rattle.eos_claims.specs.Outputs.{Application, committed_offset}
use Rattle.eos_claims.specs.Candidates.{is_committed}
use Rattle.eos_fold.specs.Parts.{part_name}
use Rattle.eos_commits.specs.Applications.{inputs_in, parts_of}
use Rattle.eos_notes.proofs.groups.count_inputs.Given as goal

abbrev pub invariant-loop-i : goal.invariant-loop-i
invariant-loop-i l = (a : Application) → l.offsets ≡ map (committed_offset a.commits) (map part_name l.parts)
    → (l.count.below ≡ length (filter (is_committed a) (flat_map inputs_in (parts_of l.sources (take l.i l.parts)))))
    × (l.count.inputs ≡ length (flat_map inputs_in (parts_of l.sources (take l.i l.parts))))
