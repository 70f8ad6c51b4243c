use Rattle.eos_kept.specs.Held.{Asking}
use Rattle.eos_kept.proofs.PartsHeld.{all_told, same_end, were_kept}
use Rattle.eos_kept.proofs.held.told_in.Goals as goal

pub returns : goal.returns
returns c =
    let p = c.args.partition.now in
    let a : Asking = record { topics = c.args.asked.topics.now; wanted = c.args.asked.wanted; topic = p.end.topic } in
    let end = c.in_ok-end.ensures.cases in
    all_told c.told_of.result a.wanted a.topics p c.in_ok-end.end c.in_ok-run.run' c.requires (same_end c.in_ok-end.end p.end end.0 end.1.0 end.1.1)
    (were_kept a p.segments c.in_ok-run.run' c.in_ok-run.ensures) c.told_of.ensures
