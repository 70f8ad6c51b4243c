use Rattle.std.proofs.Common.{◌∙◌, sym, subst, IsPermutation}
use Rattle.eos_evidence.specs.SpecFields.{outputs_of}
use Rattle.eos_reading.proofs.TopicSearch.{found_in, wants_claims, wants_presence}
use Rattle.eos_reading.proofs.wants.Wants.of_topic.Goals as goal

pub returns-then-holds : goal.returns-then-holds
returns-then-holds c = λ apps p.
    let same = found_in apps c.self.inside.outputs c.args.topic (subst (IsPermutation (outputs_of apps)) (sym c.self.view_is) p) in
    wants_claims apps c.args.topic.now (sym c.is_internal_topic.ensures ∙ c.if-is_internal_topic.false) (sym same ∙ (sym c.holds.ensures ∙ c.if-holds.true))

pub returns-else-holds : goal.returns-else-holds
returns-else-holds c = λ apps p.
    let same = found_in apps c.self.inside.outputs c.args.topic (subst (IsPermutation (outputs_of apps)) (sym c.self.view_is) p) in
    wants_presence apps c.args.topic.now (sym c.is_internal_topic.ensures ∙ c.if-is_internal_topic.false) (sym same ∙ (sym c.holds.ensures ∙ c.if-holds.false))
