-- The batches that are left say what all of them say.
use Rattle.std.proofs.Common.{◌≡◌, drop}
use Rattle.std.specs.List.{list_any}
use Rattle.eos_simulate.specs.Cleaning.{is_data_of}
use Rattle.eos_simulate.proofs.cleaning.has_data_of.Given as goal

abbrev pub invariant-loop-other : goal.invariant-loop-other
invariant-loop-other l = list_any (is_data_of l.logged) (drop l.other-index l.later) ≡ list_any (is_data_of l.logged) l.later
