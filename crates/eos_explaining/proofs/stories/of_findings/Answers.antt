use Rattle.std.proofs.Common.{◌∙◌, List, take, map, sym, subst, string_bytes}
use Rattle.std.proofs.lemmas.List.{take-map}
use Rattle.eos_source.specs.Said.{known_by}
use Rattle.eos_verdict.specs.declared.verdict.Verdict.{Verdict}
use Rattle.eos_verdict.specs.declared.verdict.Verdict.TheVariants.{No}
use Rattle.eos_explaining.specs.declared.story.About.{About}
use Rattle.eos_fold.specs.Parts.{PartLog}
use Rattle.eos_sought.specs.declared.folded.Folded.{Folded}
use Rattle.eos_explaining.specs.steps.Seen.{AreSeenBy}
use Rattle.eos_explaining.specs.steps.Again.{ReadsMore, AreToldBy}
use Rattle.eos_explaining.proofs.Answered.{stories_by}
use Rattle.eos_explaining.proofs.LastCalls.{given}
use Rattle.eos_explaining.proofs.stories.of_findings.Goals as goal

pub told_each-requires-after_bounds : goal.told_each-requires-after_bounds
told_each-requires-after_bounds g c κs within =
    let f = c.requires.1 in
    (take c.requires.0 f.faults, c.as_slice-told.ensures.value ∙ (f.held ∙ take-map No c.requires.0 f.faults))

pub returns-clause-told : goal.returns-clause-told
returns-clause-told g c = given _ _ _ c.told_each.result (λ more texts told most f.
    let source = c.args.pieces.now.source.now in
    let known = known_by (g.S.Source.said source) (g.S.Source.is_log source) in
    let shape = c.args.pieces.now.shape.now in
    let about : About = record { folder = c.args.folder; counts = c.as_str.result; notes = c.as_slice.result; logs = c.as_slice-2.result } in
    stories_by known shape c.args.judged most c.args.found.now c.told_each.new.read.items about _ f c.as_slice.ensures.value c.as_str.ensures.value (subst (λ (fs : List Folded). ReadsMore known shape.partitions fs c.told_each.new.read.items) c.new-read.ensures.items more)
    (subst (λ (ps : List PartLog). AreSeenBy known shape ps c.as_slice-2.result.now) c.parts_of.ensures (subst (AreSeenBy known shape c.parts_of.result.items) (sym c.as_slice-2.ensures.value) c.in_ok-parts.ensures.seen))
    (subst (λ (vs : List Verdict). AreToldBy known shape c.told_each.new.read.items about vs (map string_bytes texts.items)) c.as_slice-told.ensures.value told)) c.told_each.ensures.more c.told_each.ensures.told
