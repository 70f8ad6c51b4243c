use Rattle.std.proofs.Common.{◌≡◌, ◌-◌, ◌∙◌, List, Some, length, ap, subst, refl, sym, arith, slice_get}
use Rattle.std.proofs.lemmas.Option.{slice_get_read}
use Rattle.eos_source.specs.Said.{known_by}
use Rattle.eos_verdict.specs.declared.verdict.Verdict.{Verdict}
use Rattle.eos_fold.specs.Parts.{PartLog}
use Rattle.eos_sought.specs.declared.folded.Folded.{Folded}
use Rattle.eos_explaining.specs.steps.Seen.{AreSeenBy}
use Rattle.eos_explaining.specs.steps.Again.{ReadsMore}
use Rattle.eos_explaining.proofs.Answered.{one_held, held_is, story_by}
use Rattle.eos_explaining.proofs.LastCalls.{given}
use Rattle.eos_explaining.proofs.NamedFaults.{named_at}
use Rattle.eos_explaining.proofs.answer.told_of_number.Goals as goal

pub story_of-requires-clause-names : goal.story_of-requires-clause-names
story_of-requires-clause-names g c κs within =
    let source = c.args.pieces.now.source.now in
    let known = known_by (g.S.Source.said source) (g.S.Source.is_log source) in
    let shape = c.args.pieces.now.shape.now in
    let number = c.args.asked.now.number in
    let found = c.args.found.now in
    let f = c.requires.found in
    let told = c.as_slice-told.result.now in
    let v = c.index-told-0.result in
    let many : length told ≡ 1 = ap length c.as_slice-told.ensures.value ∙ one_held known shape c.args.judged number found f c.requires.first c.requires.inside in
    let at : slice_get found.told.items 0 ≡ Some v = subst (λ (vs : List Verdict). slice_get vs 0 ≡ Some v) c.as_slice-told.ensures.value (slice_get_read told (length told) 0 v refl (omega (arith, many)) c.index-told-0.is) in
    named_at f.faults (number - 1) v (held_is known shape c.args.judged number found v f at)

pub returns-clause-told : goal.returns-clause-told
returns-clause-told g c =
    let source = c.args.pieces.now.source.now in
    let known = known_by (g.S.Source.said source) (g.S.Source.is_log source) in
    let shape = c.args.pieces.now.shape.now in
    let number = c.args.asked.now.number in
    let found = c.args.found.now in
    let f = c.requires.found in
    let told = c.as_slice-told.result.now in
    let v = c.index-told-0.result in
    let many : length told ≡ 1 = ap length c.as_slice-told.ensures.value ∙ one_held known shape c.args.judged number found f c.requires.first c.requires.inside in
    let at : slice_get found.told.items 0 ≡ Some v = subst (λ (vs : List Verdict). slice_get vs 0 ≡ Some v) c.as_slice-told.ensures.value (slice_get_read told (length told) 0 v refl (omega (arith, many)) c.index-told-0.is) in
    given _ _ _ c.story_of.result (λ more text told.
    story_by known shape c.args.judged number found c.story_of.new.read.items (record { folder = c.args.asked.now.folder; counts = c.as_str.result; notes = c.as_slice.result; logs = c.as_slice-2.result }) v _ f c.requires.first at c.as_slice.ensures.value c.as_str.ensures.value
    (subst (λ (fs : List Folded). ReadsMore known shape.partitions fs c.story_of.new.read.items) c.new-read.ensures.items more)
    (subst (λ (ps : List PartLog). AreSeenBy known shape ps c.as_slice-2.result.now) c.parts_of.ensures (subst (AreSeenBy known shape c.parts_of.result.items) (sym c.as_slice-2.ensures.value) c.in_ok-parts.ensures.seen)) told)
    c.story_of.ensures.more c.story_of.ensures.told
