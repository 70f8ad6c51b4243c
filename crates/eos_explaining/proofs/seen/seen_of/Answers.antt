use Rattle.std.proofs.Common.{true, false, Option, ap, ◌∙◌, subst}
use Rattle.eos_evidence.specs.SpecFields.{SpecFields}
use Rattle.eos_fold.specs.Parts.{PartLog}
use Rattle.eos_source.specs.Said.{known_by}
use Rattle.eos_explaining.specs.steps.Seen.{AreTextsBy, texts_or}
use Rattle.eos_explaining.proofs.SeenLogs.{judged_as, kept_by, texts_as_seen}
use Rattle.eos_explaining.proofs.seen.seen_of.Goals as goal

pub returns-then-is_judged-clause-seen : goal.returns-then-is_judged-clause-seen
returns-then-is_judged-clause-seen g c =
    let apps = c.as_slice-apps.ensures ∙ (c.apps.ensures.value ∙ ap (λ (s : SpecFields). s.apps) c.spec.ensures.value) in
    let so = judged_as c.as_slice-apps.result.now c.args.pieces.now.shape.now.spec.apps c.as_slice.result.now c.args.part.topic true apps (c.as_slice.ensures ∙ c.topic.ensures) c.if-is_judged.ensures in
    let source = c.args.pieces.now.source.now in
    kept_by (known_by (g.S.Source.said source) (g.S.Source.is_log source)) c.args.pieces.now.shape.now c.args.part so

pub returns-in-Ok-None-clause-seen : goal.returns-in-Ok-None-clause-seen
returns-in-Ok-None-clause-seen g c =
    let apps = c.as_slice-apps.ensures ∙ (c.apps.ensures.value ∙ ap (λ (s : SpecFields). s.apps) c.spec.ensures.value) in
    let so = judged_as c.as_slice-apps.result.now c.args.pieces.now.shape.now.spec.apps c.as_slice.result.now c.args.part.topic false apps (c.as_slice.ensures ∙ c.topic.ensures) c.if-is_judged.ensures in
    let source = c.args.pieces.now.source.now in
    let known = known_by (g.S.Source.said source) (g.S.Source.is_log source) in
    let shape = c.args.pieces.now.shape.now in
    let part = c.args.part in
    texts_as_seen known shape part part so (subst (λ (o : Option PartLog). AreTextsBy known shape part (texts_or part o)) c.in-Ok-None.field-0-is c.in-Ok-None.ensures.seen)

pub returns-in-Ok-Some-clause-seen : goal.returns-in-Ok-Some-clause-seen
returns-in-Ok-Some-clause-seen g c =
    let apps = c.as_slice-apps.ensures ∙ (c.apps.ensures.value ∙ ap (λ (s : SpecFields). s.apps) c.spec.ensures.value) in
    let so = judged_as c.as_slice-apps.result.now c.args.pieces.now.shape.now.spec.apps c.as_slice.result.now c.args.part.topic false apps (c.as_slice.ensures ∙ c.topic.ensures) c.if-is_judged.ensures in
    let source = c.args.pieces.now.source.now in
    let known = known_by (g.S.Source.said source) (g.S.Source.is_log source) in
    let shape = c.args.pieces.now.shape.now in
    let part = c.args.part in
    texts_as_seen known shape part c.in-Ok-Some.texts so (subst (λ (o : Option PartLog). AreTextsBy known shape part (texts_or part o)) c.in-Ok-Some.field-0-is c.in-Ok-Some.ensures.seen)
