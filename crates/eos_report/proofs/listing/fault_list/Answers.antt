use Rattle.eos_text.proofs.Appended.{then}
use Rattle.eos_report.specs.FaultLists.{count_line}
use Rattle.eos_report.proofs.Fresh.{fresh}
use Rattle.eos_report.proofs.listing.fault_list.Goals as goal

pub returns : goal.returns
unfolding count_line
returns c =
    let counted = then c.in_ok-push_text.ensures (then c.in_ok-push_value.ensures c.in_ok-push_text-2.ensures) in
    fresh c.new-text.ensures.bytes (then c.in_ok-push_lines.ensures counted)
