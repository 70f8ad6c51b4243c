use Rattle.std.proofs.Common.{[], ◌∷◌}
use Rattle.eos_story.specs.Questions.{FirstBatch}
use Rattle.eos_story.proofs.RowsTold.{told_each}
use Rattle.eos_story.proofs.batches.push_one.Goals as goal

pub returns : goal.returns
returns c = told_each (FirstBatch c.args.name.now c.args.wanted ∷ []) (λ has ps seen. ((_, has), tt)) c.in_ok-push_first.ensures
