use Rattle.std.specs.Option.{option_copied}
use Rattle.eos_picture.specs.Window.{named_by}
use Rattle.eos_picture.specs.steps.Standing.{IsNearYet}
use Rattle.eos_picture.proofs.Standings.{AreSeen}
use Rattle.eos_picture.proofs.chosen.nearest_of.Given as goal

abbrev pub invariant-loop-i : goal.invariant-loop-i
invariant-loop-i l = record {
  near : IsNearYet l.logs (named_by (option_copied l.fault)) l.column l.nearest l.most;
  seen : AreSeen l.logs (named_by (option_copied l.fault)) l.column l.i l.most;
}
