use Rattle.std.proofs.Common.{◌≡◌, ◌++◌, drop, string_bytes}
use Rattle.std.specs.List.{flat_map}
use Rattle.eos_report.specs.Tellings.{telling_text}
use Rattle.eos_report.proofs.tellings.push_items.Given as goal

abbrev pub invariant-loop-telling : goal.invariant-loop-telling
invariant-loop-telling l = string_bytes l.out ++ flat_map telling_text (drop l.telling-index l.tellings) ≡ string_bytes l.fn.out ++ flat_map telling_text l.tellings
