-- A fault by the number of its phase, its number there and its name.
use Rattle.std.specs.Prelude.{ℕ, List}
use Rattle.eos_touch.specs.FaultNames as touches
use Rattle.eos_verdict.specs.LogNames as logs
use Rattle.eos_verdict.specs.MatchNames as matches
use Rattle.eos_verdict.specs.LineageNames as lineage
use Rattle.eos_verdict.specs.declared.verdict.Fault.{Fault}
use Rattle.eos_verdict.specs.declared.verdict.Fault.TheVariants.{Partition as InPartition, Log, Match, Lineage}

abbrev pub phase_of : Fault → ℕ
phase_of (InPartition f) = 1
phase_of (Log f) = 2
phase_of (Match f) = 3
phase_of (Lineage f) = lineage.phase_of f

abbrev pub number_of : Fault → ℕ
number_of (InPartition f) = touches.number_of f.kind
number_of (Log f) = logs.number_of f.kind
number_of (Match f) = matches.number_of f.kind
number_of (Lineage f) = lineage.number_of f

abbrev pub name_of : Fault → List ℕ
name_of (InPartition f) = touches.name_of f.kind
name_of (Log f) = logs.name_of f.kind
name_of (Match f) = matches.name_of f.kind
name_of (Lineage f) = lineage.name_of f
