use Rattle.std.proofs.Common.{◌∙◌, sym, ap, not, ◌&&◌, drop, ◌+◌}
use Rattle.eos_evidence.specs.Topics.{are_unequal}
use Rattle.eos_evidence.specs.SpecFields.{groups_of}
use Rattle.eos_evidence.proofs.LegalApps.{groups_step}
use Rattle.eos_evidence.proofs.legal_applications.are_groups_unequal_in_turn.Goals as goal

pub returns-then-has_group : goal.returns-then-has_group
returns-then-has_group c =
    let step = groups_step _ c.loop-i.i _ _ c.loop-i-test.true c.has_group.ensures in
    sym (c.loop-i.invariant ∙ step ∙ ap (λ b. not b && are_unequal (groups_of (drop (c.loop-i.i + 1) c.args.apps.now))) c.if-has_group.true)

pub loop-i-preserved : goal.loop-i-preserved
loop-i-preserved c =
    let step = groups_step _ c.loop-i.i _ _ c.loop-i-test.true c.has_group.ensures in
    c.loop-i.invariant ∙ step ∙ ap (λ b. not b && are_unequal (groups_of (drop (c.loop-i.i + 1) c.args.apps.now))) c.if-has_group.false
