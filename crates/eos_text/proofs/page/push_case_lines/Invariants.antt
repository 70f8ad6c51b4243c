use Rattle.std.proofs.Common.{◌≡◌, ◌++◌, drop, string_bytes}
use Rattle.eos_text.specs.Pages.{cases_lines}
use Rattle.eos_text.proofs.page.push_case_lines.Given as goal

abbrev pub invariant-loop-case : goal.invariant-loop-case
invariant-loop-case l = string_bytes l.out ++ cases_lines (drop l.case-index l.cases) ≡ string_bytes l.fn.out ++ cases_lines l.cases
