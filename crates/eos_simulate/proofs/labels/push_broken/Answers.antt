use Rattle.eos_simulate.proofs.Labelled.{with_more}
use Rattle.eos_simulate.proofs.labels.push_broken.Goals as goal

pub returns : goal.returns
returns c =
    with_more c.in_ok-push_if.ensures (with_more c.in_ok-push_if-2.ensures (with_more c.in_ok-push_if-3.ensures (with_more c.in_ok-push_if-4.ensures
    (with_more c.in_ok-push_if-5.ensures (with_more c.in_ok-push_if-6.ensures c.in_ok-push_if-7.ensures)))))
