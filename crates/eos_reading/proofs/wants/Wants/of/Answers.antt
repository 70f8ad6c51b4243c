use Rattle.std.proofs.Common.{◌≡◌, ◌++◌, ◌∙◌, ap, map, take, subst, IsPermutation, arith}
use Rattle.std.proofs.lemmas.List.Sorted.{IsPermutation-map}
use Rattle.std.proofs.lemmas.List.{take_all}
use Rattle.eos_evidence.specs.SpecFields.{outputs_of}
use Rattle.eos_evidence.specs.declared.application.App.{App}
use Rattle.eos_reading.specs.Names.{plain_name}
use Rattle.eos_reading.proofs.TopicSearch.{pushed_more}
use Rattle.eos_reading.proofs.wants.Wants.of.Goals as goal

pub loop-app-preserved : goal.loop-app-preserved
loop-app-preserved c =
    let before = map plain_name c.loop-app.outputs.items in
    pushed_more (λ (app : App). app.outputs) before (map plain_name c.push_topics.new.all.items)
    c.args.apps.now c.loop-app.app-index c.app-item.result c.loop-app-test.true c.app-item.is c.loop-app.invariant (c.in_ok-push_topics.ensures ∙ ap (λ topics. before ++ topics) c.as_slice.ensures)

pub returns : goal.returns
returns c =
    let all : take c.loop-app.app-index c.args.apps.now ≡ c.args.apps.now = take_all c.loop-app.app-index c.args.apps.now (omega (arith, c.loop-app-test.false)) in
    let pushed : map plain_name c.loop-app.outputs.items ≡ outputs_of c.args.apps.now = c.loop-app.invariant ∙ ap outputs_of all in
    subst (λ z. IsPermutation z (map plain_name c.of.result)) pushed (IsPermutation-map plain_name _ _ c.of.ensures)
