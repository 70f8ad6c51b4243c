use Rattle.std.proofs.Common.{◌≡◌, drop}
use Rattle.eos_text.specs.steps.Found.{page_in}
use Rattle.eos_text.proofs.page.page_in.Given as goal

abbrev pub invariant-loop-page : goal.invariant-loop-page
invariant-loop-page l = page_in (drop l.page-index l.pages) l.code ≡ page_in l.pages l.code
