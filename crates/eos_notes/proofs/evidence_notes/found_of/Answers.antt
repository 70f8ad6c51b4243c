use Rattle.std.proofs.Common.{◌∙◌, List, ap, take_all}
use Rattle.eos_commits.proofs.PushedMore.{item_has}
use Rattle.eos_evidence.specs.declared.application.App.{App}
use Rattle.eos_notes.specs.CommitNotes.{past_ends_in, nothing_in, behind_in, past_ends, nothing_committed, behind}
use Rattle.eos_notes.proofs.PushedMore.{made_more}
use Rattle.eos_notes.proofs.evidence_notes.found_of.Goals as goal

pub loop-app-preserved : goal.loop-app-preserved
loop-app-preserved c =
    let logs = c.args.parts.now in
    let apps = c.args.apps.now in
    let i = c.loop-app.app-index in
    let app = c.app-item.result in
    let lt = c.loop-app-test.true in
    let now = c.in_ok-take_app.ensures in
    let so_far = c.loop-app.invariant in (
      λ order. made_more (past_ends_in logs) _ _ apps i app lt c.app-item.is (so_far.0 order) (now.past_ends order),
      made_more (nothing_in logs) _ _ apps i app lt c.app-item.is so_far.1 now.nothing,
      λ order. made_more (behind_in logs) _ _ apps i app lt c.app-item.is (so_far.2 order) (now.behind order),
    )

pub take_app-requires : goal.take_app-requires
take_app-requires c =
    (c.args.apps.now, c.requires, item_has c.args.apps.now c.loop-app.app-index c.app-item.result c.loop-app-test.true c.app-item.is)

pub returns-clause-past_ends : goal.returns-clause-past_ends
returns-clause-past_ends c = λ order. c.loop-app.invariant.0 order ∙ ap (λ (apps : List App). past_ends c.args.parts.now apps) (take_all c.loop-app.app-index c.args.apps.now c.loop-app-test.false)

pub returns-clause-nothing : goal.returns-clause-nothing
returns-clause-nothing c = c.loop-app.invariant.1 ∙ ap (λ (apps : List App). nothing_committed c.args.parts.now apps) (take_all c.loop-app.app-index c.args.apps.now c.loop-app-test.false)

pub returns-clause-behind : goal.returns-clause-behind
returns-clause-behind c = λ order. c.loop-app.invariant.2 order ∙ ap (λ (apps : List App). behind c.args.parts.now apps) (take_all c.loop-app.app-index c.args.apps.now c.loop-app-test.false)
