use Rattle.std.proofs.Common.{◌≡◌, ◌++◌, drop, flat_map, string_bytes}
use Rattle.eos_verdict.specs.Counts.{kind_text}
use Rattle.eos_verdict.proofs.counts.push_kinds.Given as goal

abbrev pub invariant-loop-number : goal.invariant-loop-number
invariant-loop-number l = string_bytes l.out ++ flat_map (kind_text l.told) (drop l.number-index l.numbers) ≡ string_bytes l.fn.out ++ flat_map (kind_text l.told) l.numbers
