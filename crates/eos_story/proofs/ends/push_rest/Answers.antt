use Rattle.eos_story.proofs.EndsTold.{segments_told}
use Rattle.eos_story.proofs.ends.push_rest.Goals as goal

pub returns-in_ok-push_segments-in-Some : goal.returns-in_ok-push_segments-in-Some
returns-in_ok-push_segments-in-Some c =
    segments_told c.args.name.now c.args.offset c.in-Some.partition.now (λ ps seen. c.in-Some.ensures.some ps seen.folded) c.in_ok-push_end-in-Some.ensures c.in_ok-push_segments-in-Some.ensures
