use Rattle.std.proofs.Common.{ap, ◌∙◌}
use Rattle.eos_sought.specs.steps.Placing.{wanted_of}
use Rattle.eos_sought.proofs.FoldedNames.{batches_none, batches_some}
use Rattle.eos_sought.proofs.partition.batches_of.Goals as goal

pub returns-in_default : goal.returns-in_default
returns-in_default c = λ ps are. batches_none c.args.name.now c.args.wanted ps c.new.result.items c.new.ensures.items (c.in_default.ensures.none ps are)

pub returns : goal.returns
returns c = λ ps are.
    batches_some c.args.name.now c.args.wanted ps c.in-Some.one.now c.in_ok-all.all.items (c.in_ok-all.ensures ∙ ap (λ fs. wanted_of fs c.args.wanted) c.as_slice.ensures.value) (c.in-Some.ensures.some ps are)
