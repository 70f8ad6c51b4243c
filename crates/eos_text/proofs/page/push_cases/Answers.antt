use Rattle.std.proofs.Common.{string_bytes}
use Rattle.eos_text.specs.Adding.{Adds}
use Rattle.eos_text.proofs.Appended.{then}
use Rattle.eos_text.specs.Pages.{cases_heading, cases_text}
use Rattle.eos_text.proofs.page.push_cases.Goals as goal

pub returns : goal.returns
unfolding cases_text
returns c =
    let heading : Adds (string_bytes c.args.out.now) _ (cases_heading c.args.cases.now) = rw c.cases_heading.ensures at c.in_ok-push_text.ensures in
    then heading c.in_ok-push_case_lines.ensures
