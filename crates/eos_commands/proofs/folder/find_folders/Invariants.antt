-- The folders at the paths so far fit, and the set has their names.
use Rattle.std.proofs.Common.{map, take}
use Rattle.eos_commands.specs.FoldRefusals.{AreFit}
use Rattle.eos_commands.specs.steps.Names.{HasNamesOf}
use Rattle.eos_commands.proofs.folder.find_folders.Given as goal

abbrev pub invariant-loop-path : goal.invariant-loop-path
invariant-loop-path g l = record {
  fit : AreFit (g.D.Disk.holds l.disk) l.ends l.out (map (λ p. p.now) (take l.path-index l.paths)) l.folders.items;
  names : HasNamesOf l.names l.folders.items;
}
