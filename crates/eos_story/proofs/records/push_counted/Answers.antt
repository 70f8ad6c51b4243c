use Rattle.eos_story.specs.Questions.{Records}
use Rattle.eos_story.proofs.RowsTold.{told_each}
use Rattle.std.specs.Prelude.{◌∷◌, []}
use Rattle.eos_story.proofs.records.push_counted.Goals as goal

pub returns-clause-told : goal.returns-clause-told
returns-clause-told c = told_each (Records c.args.sought.now c.args.most ∷ []) (λ shown ps seen. (shown, tt)) c.in_ok-count.ensures.told
