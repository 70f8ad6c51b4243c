use Rattle.std.proofs.Common.{◌++◌, ◌∷◌, [], ap, sym, subst, refl, take, map, List, Option, ◌∙◌}
use Rattle.std.proofs.lemmas.List.{map-append, take_all, take_more}
use Rattle.eos_evidence.specs.declared.application.App.{App}
use Rattle.eos_commits.specs.Commits.{Group}
use Rattle.eos_commits.specs.Applications.{application_of}
use Rattle.eos_commits.proofs.PushedMore.{item_has}
use Rattle.eos_verdict.specs.declared.verdict.Fault.{Fault}
use Rattle.eos_verdict.specs.declared.verdict.Fault.TheVariants.{Lineage}
use Rattle.eos_lineage.specs.Faults.{named_group}
use Rattle.eos_lineage.proofs.FirstFault.{unequal_groups}
use Rattle.eos_lineage.proofs.LineageLaw.{reads}
use Rattle.eos_faults.specs.steps.Taken.{in_group, AreTaken}
use Rattle.eos_faults.proofs.AllTaken.{none_taken, taken_more, all_taken}
use Rattle.eos_faults.proofs.every.output_faults.Goals as goal

pub loop-app-init : goal.loop-app-init
loop-app-init g c =
    let laws = g.met.S.FaultSink g.world.𝓛 g.world.𝓜 g.world.𝓡 ((λ s x. x), (λ x. x), (λ x. x), λ x. x) in
    ([], laws.takes_none c.args.sink.now, λ order. none_taken c.as_slice-apps.result.now c.args.parts.now)

pub loop-app-preserved : goal.loop-app-preserved
loop-app-preserved g c =
    let laws = g.met.S.FaultSink g.world.𝓛 g.world.𝓜 g.world.𝓡 ((λ s x. x), (λ x. x), (λ x. x), λ x. x) in
    let apps = c.as_slice-apps.result.now in
    let parts = c.args.parts.now in
    let i = c.loop-app.app-index in
    let app = c.app-item.result in
    let takes = g.S.FaultSink.takes in
    let so_far = c.loop-app.invariant in
    let told = c.in_ok-faults_by_range.ensures in
    let named = map (in_group (named_group apps app)) told.0 in
    let step = subst (λ (group : Option Group). takes c.loop-app.sink (map Lineage (map (in_group group) told.0)) c.faults_by_range.new.sink) c.in_ok-books.ensures.group told.1 in
    let further = ap (λ (t : App). take i apps ++ t ∷ []) c.app-item.is ∙ sym (take_more apps i app c.loop-app-test.true) in (
      so_far.0 ++ named,
      subst (λ (fs : List Fault). takes c.args.sink.now fs c.faults_by_range.new.sink) (sym (map-append Lineage so_far.0 named))
          (laws.takes_both c.args.sink.now c.loop-app.sink c.faults_by_range.new.sink (map Lineage so_far.0) (map Lineage named) so_far.1 step),
      λ order.
          let each = told.2 (application_of app parts) (reads app parts) (c.in_ok-books.ensures.books order) in
          subst (λ (done : List App). AreTaken apps parts done (so_far.0 ++ named)) further (taken_more apps parts (take i apps) app told.0 so_far.0 (so_far.0 ++ named) (so_far.2 order) each refl),
    )

pub returns : goal.returns
returns g c =
    let parts = c.args.parts.now in
    let apps = c.as_slice-apps.result.now in
    let told = c.loop-app.invariant in (
      told.0,
      told.1,
      λ order none.
          let done = subst (λ (xs : List App). AreTaken apps parts xs told.0) (take_all c.loop-app.app-index apps c.loop-app-test.false) (told.2 order) in
          let taken = subst (λ (xs : List App). AreTaken xs parts xs told.0) (c.as_slice-apps.ensures ∙ c.apps.ensures.value) done in
          all_taken c.args.spec.now.apps parts (unequal_groups c.args.spec.now c.apps.ensures.accepted) none told.0 taken,
    )

pub books_of-requires : goal.books_of-requires
books_of-requires g c =
    (c.in_ok-table.ensures, item_has c.as_slice-apps.result.now c.loop-app.app-index c.app-item.result c.loop-app-test.true c.app-item.is)
