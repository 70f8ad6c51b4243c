use Rattle.std.proofs.Common.{◌≤◌, ◌-◌, length}
use Rattle.std.specs.List.{All}
use Rattle.eos_source.specs.Said.{known_by}
use Rattle.eos_checking.specs.steps.Tables.{IsTable}
use Rattle.eos_checking.proofs.tables.tables_at.Given as goal

abbrev pub invariant-loop-begin : goal.invariant-loop-begin
invariant-loop-begin g l = record {
  within : l.begin ≤ length l.places;
  are : All (IsTable (known_by (g.S.Source.said l.pieces.source.now) (g.S.Source.is_log l.pieces.source.now)) l.pieces.shape.now.partitions) l.tables.items;
}

abbrev pub decreases-loop-begin : goal.decreases-loop-begin
decreases-loop-begin g l = length l.places - l.begin
