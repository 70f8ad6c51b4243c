use Rattle.std.proofs.Common.{◌≡◌, ◌++◌, drop, flat_map, string_bytes}
use Rattle.eos_explaining.specs.steps.Kinds.{kind_at}
use Rattle.eos_explaining.proofs.kinds.push_kinds.Given as goal

abbrev pub invariant-loop-number : goal.invariant-loop-number
invariant-loop-number l = string_bytes l.out ++ flat_map (kind_at l.counts) (drop l.number-index l.numbers) ≡ string_bytes l.fn.out ++ flat_map (kind_at l.counts) l.numbers
