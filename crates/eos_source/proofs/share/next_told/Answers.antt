use Rattle.std.proofs.Common.{◌≡◌, ◌+◌, ◌++◌, ℕ, List, length, sym, ap, subst, ◌∙◌}
use Rattle.std.specs.Prelude.{All}
use Rattle.std.specs.Vec.Iter.{into_iter_items}
use Rattle.eos_evidence.specs.declared.ends.End.{End}
use Rattle.eos_evidence.specs.declared.segment.Segment.{Segment}
use Rattle.eos_fold.specs.Standing.{AreOf}
use Rattle.eos_kept.specs.Parts.{IsTold}
use Rattle.eos_reading.specs.declared.wanted.Wanted.{Wanted}
use Rattle.eos_reading.specs.Wanted.{wanted_of}
use Rattle.eos_source.specs.Said.{known_by}
use Rattle.eos_kept.specs.KeptRuns.{AreKeptRun, IsWantedBy, HaveClaims}
use Rattle.eos_source.specs.steps.Runs.{asking, AreRead, AreSlotsOf, ArePassed}
use Rattle.eos_source.proofs.ShapesFilled.{of_topic}
use Rattle.eos_kept.proofs.PartsHeld.{same_end}
use Rattle.eos_source.proofs.PartitionsTold.{as_wanted, have_claims, told_of}
use Rattle.eos_source.proofs.share.next_told.Goals as goal

pub next_run-requires : goal.next_run-requires
next_run-requires g c =
    let known = known_by (g.S.Source.said c.args.plan.now.source.now) (g.S.Source.is_log c.args.plan.now.source.now) in
    let topics = c.args.plan.now.topics.now in
    let apps = c.args.plan.now.shape.now.spec.apps in
    let topic = c.args.shape.now.end.topic in
    let r = c.requires.slots in
    let same = sym c.as_slice.ensures in
    let all = subst (λ (xs : List Segment). All (λ s. s.topic ≡ topic) xs) same (of_topic c.args.shape.now c.requires.partition) in
    let at = subst (λ (xs : List Segment). AreSlotsOf known r.0 topics apps r.1 (xs ++ r.2) (into_iter_items c.args.slots.now)) same r.3 in
    (known, r.0, topics, apps, topic, r.1, r.2, all, at)

pub told_of-requires-clause-wanted : goal.told_of-requires-clause-wanted
told_of-requires-clause-wanted g c =
    let known = known_by (g.S.Source.said c.args.plan.now.source.now) (g.S.Source.is_log c.args.plan.now.source.now) in
    let topics = c.args.plan.now.topics.now in
    let apps = c.args.plan.now.shape.now.spec.apps in
    let topic = c.args.shape.now.end.topic in
    let r = c.requires.slots in
    let same = sym c.as_slice.ensures in
    let all = subst (λ (xs : List Segment). All (λ s. s.topic ≡ topic) xs) same (of_topic c.args.shape.now c.requires.partition) in
    let at = subst (λ (xs : List Segment). AreSlotsOf known r.0 topics apps r.1 (xs ++ r.2) (into_iter_items c.args.slots.now)) same r.3 in
    let run = c.in_ok-run.ensures.run known r.0 topics apps topic r.1 r.2 all at in
    let wanted : c.asked_of-asked.result.wanted ≡ wanted_of apps topic = c.asked_of-asked.ensures.wanted ∙ ap (wanted_of apps) c.as_slice-2.ensures in
    subst (λ (w : Wanted). IsWantedBy w c.in_ok-run.run') (sym wanted) (as_wanted known r.0 topics apps topic r.1 c.as_slice.result.now c.in_ok-run.run' run.0)

pub told_of-requires-clause-claims : goal.told_of-requires-clause-claims
told_of-requires-clause-claims g c =
    let known = known_by (g.S.Source.said c.args.plan.now.source.now) (g.S.Source.is_log c.args.plan.now.source.now) in
    let topics = c.args.plan.now.topics.now in
    let apps = c.args.plan.now.shape.now.spec.apps in
    let topic = c.args.shape.now.end.topic in
    let r = c.requires.slots in
    let same = sym c.as_slice.ensures in
    let all = subst (λ (xs : List Segment). All (λ s. s.topic ≡ topic) xs) same (of_topic c.args.shape.now c.requires.partition) in
    let at = subst (λ (xs : List Segment). AreSlotsOf known r.0 topics apps r.1 (xs ++ r.2) (into_iter_items c.args.slots.now)) same r.3 in
    let run = c.in_ok-run.ensures.run known r.0 topics apps topic r.1 r.2 all at in
    let claims = have_claims known r.0 topics apps topic r.1 c.as_slice.result.now c.in_ok-run.run' run.0 in
    subst (λ (names : List (List ℕ)). HaveClaims names c.in_ok-run.run') (sym c.asked_of-asked.ensures.topics) claims

pub returns-clause-told : goal.returns-clause-told
returns-clause-told g c = λ said piece later given.
    let known = known_by (g.S.Source.said c.args.plan.now.source.now) (g.S.Source.is_log c.args.plan.now.source.now) in
    let topics = c.args.plan.now.topics.now in
    let shape = c.args.shape.now in
    let apps = c.args.plan.now.shape.now.spec.apps in
    let topic = shape.end.topic in
    let run = c.in_ok-run.run' in
    let told = c.in_ok-told_of.field-0 in
    let same = sym c.as_slice.ensures in
    let all = subst (λ (xs : List Segment). All (λ s. s.topic ≡ topic) xs) same (of_topic shape c.requires.partition) in
    let at = subst (λ (xs : List Segment). AreSlotsOf known said topics apps piece (xs ++ later) (into_iter_items c.args.slots.now)) same given in
    let both = c.in_ok-run.ensures.run known said topics apps topic piece later all at in
    let read = subst (λ (xs : List Segment). AreRead known said (asking topics apps topic) piece xs run) c.as_slice.ensures both.0 in
    let next = subst (λ (xs : List Segment). AreSlotsOf known said topics apps (piece + length xs) later (into_iter_items c.next_run.new.slots)) c.as_slice.ensures both.1 in
    let wanted : c.asked_of-asked.result.wanted ≡ wanted_of apps topic = c.asked_of-asked.ensures.wanted ∙ ap (wanted_of apps) c.as_slice-2.ensures in
    let cloned : c.in_ok-end.end ≡ shape.end = same_end c.in_ok-end.end shape.end c.in_ok-end.ensures.cases.0 c.in_ok-end.ensures.cases.1.0 c.in_ok-end.ensures.cases.1.1 in
    let is : (segments : List Segment) → AreKeptRun topics segments run → AreOf shape.end.topic shape.end.partition segments → IsTold (wanted_of apps topic) shape.end segments told = λ segments kept of.
    subst (λ (w : Wanted). IsTold w shape.end segments told) wanted
    (subst (λ (e : End). IsTold c.asked_of-asked.result.wanted e segments told) cloned
    (c.in_ok-told_of.ensures segments
    (subst (λ (names : List (List ℕ)). AreKeptRun names segments run) (sym c.asked_of-asked.ensures.topics) kept)
    (subst (λ (e : End). AreOf e.topic e.partition segments) (sym cloned) of))) in
    (told_of known said topics apps piece shape run told c.requires.partition read is, next)

pub returns-clause-passed : goal.returns-clause-passed
returns-clause-passed g c =
    subst (λ (xs : List Segment). ArePassed (length xs) (into_iter_items c.args.slots.now) (into_iter_items c.next_run.new.slots)) c.as_slice.ensures c.in_ok-run.ensures.passed
