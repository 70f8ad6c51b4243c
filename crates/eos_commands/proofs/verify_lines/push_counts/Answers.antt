use Rattle.eos_text.proofs.Appended.{then}
use Rattle.eos_commands.proofs.verify_lines.push_counts.Goals as goal

pub returns : goal.returns
returns c =
    let right = simp c.count_of-right.ensures at c.in_ok-push_value.ensures in
    let stale = simp c.count_of-stale.ensures at c.in_ok-push_value-2.ensures in
    let forged = simp c.count_of-forged.ensures at c.in_ok-push_value-3.ensures in
    let unmatched = simp c.count_of-unmatched.ensures at c.in_ok-push_value-4.ensures in
    then right (then stale (then forged (then unmatched c.in_ok-push_text.ensures)))
