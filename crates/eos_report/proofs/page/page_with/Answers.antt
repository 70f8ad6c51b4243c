use Rattle.eos_text.proofs.Appended.{then}
use Rattle.eos_report.proofs.Fresh.{fresh}
use Rattle.eos_report.proofs.page.page_with.Goals as goal

pub returns : goal.returns
returns c =
    let all = then c.in_ok-push_title.ensures (then c.in_ok-push_text.ensures c.in_ok-push_body.ensures) in
    record { look = c.args.look.now; is = fresh c.new-out.ensures.bytes all }
