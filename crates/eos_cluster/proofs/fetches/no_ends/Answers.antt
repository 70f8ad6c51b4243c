use Rattle.std.proofs.Common.{List, Option, None, [], ◌∷◌, ◌++◌, ap, ◌∙◌}
use Rattle.std.proofs.lemmas.List.{replicate_more}
use Rattle.eos_batch.specs.declared.marker.Kind.{Kind}
use Rattle.eos_cluster.proofs.fetches.no_ends.Goals as goal

pub loop-preserved : goal.loop-preserved
loop-preserved c = c.in_ok-push.ensures.items ∙ (ap (λ (ends : List (Option Kind)). ends ++ None ∷ []) c.loop.invariant ∙ replicate_more c.loop.counter None)
