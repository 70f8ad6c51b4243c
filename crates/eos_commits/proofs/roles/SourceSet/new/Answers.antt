use Rattle.std.proofs.lemmas.List.Sorted.{IsPermutation-map}
use Rattle.eos_commits.specs.steps.Roles.{plain_source}
use Rattle.eos_commits.proofs.roles.SourceSet.new.Goals as goal

pub returns : goal.returns
returns c = IsPermutation-map plain_source _ _ c.in_order.ensures.same
