use Rattle.std.proofs.Common.{◌≡◌, ◌++◌, drop, string_bytes}
use Rattle.eos_text.specs.Kinds.{kinds_text}
use Rattle.eos_text.proofs.kinds.push_pages.Given as goal

abbrev pub invariant-loop-page : goal.invariant-loop-page
invariant-loop-page l = string_bytes l.out ++ kinds_text (drop l.page-index l.pages) ≡ string_bytes l.fn.out ++ kinds_text l.pages
