use Rattle.std.proofs.Common.{ℕ, List, [], ◌∷◌, ◌++◌, ap, ◌∙◌}
use Rattle.std.proofs.lemmas.List.{replicate_more}
use Rattle.eos_broker.proofs.store.first_generations.Goals as goal

pub loop-preserved : goal.loop-preserved
loop-preserved c = c.in_ok-push.ensures.items ∙ (ap (λ (ns : List ℕ). ns ++ 0 ∷ []) c.loop.invariant ∙ replicate_more c.loop.counter 0)
