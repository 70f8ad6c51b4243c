use Rattle.std.proofs.Common.{◌+◌, ◌∙◌, ap, sym, subst, take, List, Option, None, ℕ}
use Rattle.eos_base.specs.Least.{IsLeast}
use Rattle.eos_evidence.specs.declared.application.App.{App}
use Rattle.eos_fold.specs.Parts.{PartLog}
use Rattle.eos_commits.specs.Tables.{IsTableOf}
use Rattle.eos_commits.proofs.PushedMore.{item_has}
use Rattle.eos_claims.specs.declared.fault.OutputFault.{OutputFault}
use Rattle.eos_claims.specs.Faults as outputs
use Rattle.eos_verdict.specs.declared.lineage_fault.LineageFault.TheVariants.{Output}
use Rattle.eos_commits.specs.Applications.{application_of}
use Rattle.eos_lineage.specs.Faults.{named_group, lineage_cmp, Stands}
use Rattle.eos_lineage.specs.steps.Walks.{IsOutputsAnswer}
use Rattle.eos_lineage.proofs.FirstFault.{PassedSoFar, passed_none, passed_more, all_passed, first_fault, take_all}
use Rattle.eos_lineage.proofs.check.check_each.Goals as goal

pub loop-app-init : goal.loop-app-init
loop-app-init g c = λ are. passed_none c.args.logs.now

pub loop-app-preserved : goal.loop-app-preserved
loop-app-preserved g c = λ are.
    let apps = c.args.apps.now in
    let parts = c.args.logs.now in
    let d = c.app-item.result in
    let tally = c.in_ok-tally.tally in
    let pipe = c.in_ok-pipeline.ensures apps parts (subst (λ (ps : List PartLog). IsTableOf apps ps c.in_ok-table.table) c.parts.ensures c.in_ok-table.ensures) (item_has apps c.loop-app.app-index d c.loop-app-test.true c.app-item.is) in
    let here = subst (λ (o : Option OutputFault). IsOutputsAnswer (application_of d parts) o tally.inputs tally.outputs) c.in_default.is ((rw c.in_ok-tally.was at c.check_application-checked.ensures) d are pipe) in
    let answer = subst (λ (t : App). IsOutputsAnswer (application_of t parts) None tally.inputs tally.outputs) c.app-item.is here in
    let more = passed_more apps parts c.loop-app.app-index d c.loop-app.inputs c.loop-app.outputs tally.inputs tally.outputs c.loop-app-test.true (c.loop-app.invariant are) answer in
    subst (λ (n : ℕ). PassedSoFar (take (c.loop-app.app-index + 1) apps) parts n c.in_ok-outputs.outputs) (sym c.in_ok-inputs.ensures)
    (subst (λ (n : ℕ). PassedSoFar (take (c.loop-app.app-index + 1) apps) parts (c.loop-app.inputs + tally.inputs) n) (sym c.in_ok-outputs.ensures) more)

pub returns-in-Some : goal.returns-in-Some
returns-in-Some g c = λ are none.
    let apps = c.args.apps.now in
    let parts = c.args.logs.now in
    let i = c.loop-app.app-index in
    let d = c.app-item.result in
    let tally = c.in_ok-tally.tally in
    let pipe = c.in_ok-pipeline.ensures apps parts (subst (λ (ps : List PartLog). IsTableOf apps ps c.in_ok-table.table) c.parts.ensures c.in_ok-table.ensures) (item_has apps c.loop-app.app-index d c.loop-app-test.true c.app-item.is) in
    let here = subst (λ (o : Option OutputFault). IsOutputsAnswer (application_of d parts) o tally.inputs tally.outputs) c.in-Some.is ((rw c.in_ok-tally.was at c.check_application-checked.ensures) d are pipe) in
    let least = subst (λ (t : App). IsLeast outputs.fault_cmp (outputs.Stands (application_of t parts)) c.in-Some.fault) c.app-item.is here in
    let first = first_fault apps parts i d c.loop-app.inputs c.loop-app.outputs c.in-Some.fault c.requires c.loop-app-test.true none (c.loop-app.invariant are) least in
    let group = sym (c.in_ok-group.ensures ∙ ap (named_group apps) c.app-item.is) in
    subst (λ (h : Option (List ℕ)). IsLeast (lineage_cmp apps) (Stands apps parts) (Output h c.in-Some.fault)) group first

pub returns : goal.returns
returns g c = λ are none.
    all_passed c.args.apps.now c.args.logs.now c.loop-app.inputs c.loop-app.outputs none
    (subst (λ (ts : List App). PassedSoFar ts c.args.logs.now c.loop-app.inputs c.loop-app.outputs) (take_all c.args.apps.now c.loop-app.app-index c.loop-app-test.false) (c.loop-app.invariant are))
