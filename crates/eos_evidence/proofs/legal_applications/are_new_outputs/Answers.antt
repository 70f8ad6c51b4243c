use Rattle.std.proofs.Common.{refl, ◌∙◌, sym, ap, not, ◌&&◌, ◌||◌, ◌++◌, ◌+◌, drop}
use Rattle.eos_evidence.specs.Topics.{are_unequal}
use Rattle.eos_evidence.specs.SpecFields.{outputs_of}
use Rattle.eos_evidence.proofs.LegalApps.{names_step, among_outputs, first_holds, second_holds}
use Rattle.eos_evidence.proofs.legal_applications.are_new_outputs.Goals.{then-is_one_of-via-then-is_one_of, then-is_one_of-via-else-is_one_of+then-is_output}
use Rattle.eos_evidence.proofs.legal_applications.are_new_outputs.Goals as goal

pub returns-then-is_one_of : goal.returns-then-is_one_of
returns-then-is_one_of c =
    let left = are_unequal (drop (c.loop-i.i + 1) c.args.topics.now ++ outputs_of c.args.apps.now) in
    elim c.then-is_one_of.branch [
      | then-is_one_of-via-then-is_one_of w ↦
          (let step = names_step _ (outputs_of c.args.apps.now) c.loop-i.i _ _ _ c.loop-i-test.true c.index-topics-i.is c.is_one_of.ensures refl in
          sym (c.loop-i.invariant ∙ step ∙ ap (λ b. not b && left) (first_holds _ _ w.if-is_one_of.true)))
      | then-is_one_of-via-else-is_one_of+then-is_output w ↦
          (let step = names_step _ (outputs_of c.args.apps.now) c.loop-i.i _ _ _ c.loop-i-test.true c.index-topics-i.is c.is_one_of.ensures (w.is_output.ensures ∙ among_outputs c.index-topics-i.result c.args.apps.now) in
          sym (c.loop-i.invariant ∙ step ∙ ap (λ b. not b && left) (second_holds _ _ w.if-is_output.true)))
    ]

pub loop-i-preserved : goal.loop-i-preserved
loop-i-preserved c =
    let left = are_unequal (drop (c.loop-i.i + 1) c.args.topics.now ++ outputs_of c.args.apps.now) in
    let step = names_step _ (outputs_of c.args.apps.now) c.loop-i.i _ _ _ c.loop-i-test.true c.index-topics-i.is c.is_one_of.ensures (c.is_output.ensures ∙ among_outputs c.index-topics-i.result c.args.apps.now) in
    c.loop-i.invariant ∙ step ∙ (λ j. not (c.if-is_one_of.false j || c.if-is_output.false j) && left)
