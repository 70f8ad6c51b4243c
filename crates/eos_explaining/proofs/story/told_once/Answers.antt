use Rattle.std.proofs.Common.{◌∙◌, List, Option, ℤ, refl, sym, ap, subst}
use Rattle.eos_evidence.specs.SpecFields.{SpecFields}
use Rattle.eos_source.specs.Said.{known_by}
use Rattle.eos_claims.specs.declared.place.Place.{Place}
use Rattle.eos_explaining.specs.steps.Again.{AreHeadersThere}
use Rattle.eos_explaining.specs.steps.Times.{AreRowTimes}
use Rattle.eos_explaining.proofs.StoryThere.{told_settled}
use Rattle.eos_explaining.proofs.story.told_once.Goals as goal

pub returns-clause-told : goal.returns-clause-told
returns-clause-told g c =
    let source = c.args.pieces.now.source.now in
    let known = known_by (g.S.Source.said source) (g.S.Source.is_log source) in
    let shape = c.args.pieces.now.shape.now in
    let apps = c.as_slice.ensures ∙ (c.apps.ensures.value ∙ ap (λ (s : SpecFields). s.apps) c.spec.ensures.value) in
    told_settled known shape c.args.read.now.items c.read_named.new.read.items c.args.about.now c.args.of.verdict.now c.args.of.fault.now _ _ _ _ c.args.of.headers.now c.in_ok-rows.rows.items c.as_slice-3.result.now c.as_slice-4.result.now c.as_slice-6.result.now _
    c.spec.ensures.evidence c.requires.names (c.as_ref-2.ensures.value ∙ c.requires.place) refl refl (c.as_ref-3.ensures.value ∙ sym c.as_ref-2.ensures.value) refl refl c.in_ok-page.ensures
    (record { apps_are = apps; folds = c.as_slice-2.ensures.value; logs_are = refl; place_is = c.as_ref.ensures.value ∙ sym c.as_ref-2.ensures.value; headers_are = refl })
    (record { so = c.in_ok-rows.ensures.so; whole = c.in_ok-rows.ensures.whole }) c.as_slice-3.ensures.value c.as_slice-4.ensures.value c.as_slice-5.ensures.value
    c.in_ok-read_named.ensures.covered c.if-branch.false (subst (λ (o : Option Place). AreHeadersThere known shape c.args.read.now.items o c.args.of.headers.now) (sym c.as_ref-2.ensures.value) c.requires.headers) (subst (λ (ts : List (Option ℤ)). AreRowTimes known shape c.as_slice-4.result.now ts) (sym c.as_slice-6.ensures.value) c.in_ok-times.ensures.times) c.in_ok-text.ensures.text
