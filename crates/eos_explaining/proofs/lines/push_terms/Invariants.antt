use Rattle.std.proofs.Common.{◌≡◌, ◌++◌, IsUtf8, string_bytes}
use Rattle.eos_explaining.specs.Lines.{terms_before, terms_left, terms_text}
use Rattle.eos_explaining.proofs.lines.push_terms.Given as goal

abbrev pub invariant-loop-left : goal.invariant-loop-left
invariant-loop-left l = (string_bytes l.out ++ terms_before (terms_left l.line) l.left l.rest ≡ string_bytes l.fn.out ++ terms_text l.line) × IsUtf8 l.rest

abbrev pub decreases-loop-left : goal.decreases-loop-left
decreases-loop-left l = l.left
