-- The ends that are left say what all of them say.
use Rattle.std.proofs.Common.{◌≡◌, ◌&&◌, drop}
use Rattle.std.specs.List.{list_any}
use Rattle.eos_simulate.specs.CopiedFiles.{is_end_of}
use Rattle.eos_simulate.specs.Collecting.{meets_end}
use Rattle.eos_simulate.proofs.copied.meets_an_end.Given as goal

abbrev pub invariant-loop-end : goal.invariant-loop-end
invariant-loop-end l = list_any (λ x. is_end_of l.mistake x && meets_end x l.mistake.what) (drop l.end-index l.ends) ≡ list_any (λ x. is_end_of l.mistake x && meets_end x l.mistake.what) l.ends
