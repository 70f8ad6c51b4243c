use Rattle.std.proofs.Common.{◌++◌, ◌∷◌, [], ◌∙◌, ℕ, List, map, ap, take_all}
use Rattle.eos_commits.proofs.MappedMore.{mapped_more}
use Rattle.eos_evidence.specs.declared.ends.End.{End}
use Rattle.eos_notes.proofs.manifest.topics_of_ends.Goals as goal

pub loop-end-preserved : goal.loop-end-preserved
loop-end-preserved c =
    let topic = λ (e : End). e.topic in
    let now = c.loop-end.topics.items in
    let row = c.in_ok-clone.ensures.cases ∙ ap topic c.end-item.is in
    mapped_more topic now c.push.new.self.items c.args.ends.now c.loop-end.end-index c.end-item.result c.loop-end-test.true c.loop-end.invariant
    (◌∙◌ {A = List (List ℕ)} c.in_ok-push.ensures.items (ap (λ (t : List ℕ). now ++ t ∷ []) row))

pub returns : goal.returns
returns c = c.loop-end.invariant ∙ ap (map (λ (e : End). e.topic)) (take_all c.loop-end.end-index c.args.ends.now c.loop-end-test.false)
