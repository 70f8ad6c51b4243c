use Rattle.std.proofs.Common.{◌≡◌, ◌++◌, flat_map, drop}
use Rattle.eos_source_check.specs.steps.Rising.{timed_of}
use Rattle.eos_source_check.proofs.rising.push_all_timed.Given as goal

-- those put there, and those that are left
abbrev pub invariant-loop-offset : goal.invariant-loop-offset
invariant-loop-offset l = l.times.items ++ flat_map (timed_of l.batch l.standing) (drop l.offset-index l.offsets) ≡ l.fn.times.items ++ flat_map (timed_of l.batch l.standing) l.offsets
