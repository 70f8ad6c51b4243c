use Rattle.std.proofs.Common.{◌≡◌, List, Some, String, Global, length, map, take, ◌+◌, refl, slice_get, subst, sym, string_bytes}
use Rattle.std.proofs.lemmas.Option.{slice_get_read}
use Rattle.eos_source.specs.Said.{known_by}
use Rattle.eos_verdict.specs.declared.verdict.Verdict.{Verdict}
use Rattle.eos_explaining.specs.steps.Again.{AreToldBy}
use Rattle.eos_explaining.proofs.Covered.{more_still}
use Rattle.eos_explaining.proofs.NamedFaults.{named_at}
use Rattle.eos_explaining.proofs.StoriesMore.{told_more}
use Rattle.eos_explaining.proofs.stories.told_each.Goals as goal

pub loop-i-preserved : goal.loop-i-preserved
loop-i-preserved g c =
    let source = c.args.pieces.now.source.now in
    let known = known_by (g.S.Source.said source) (g.S.Source.is_log source) in
    let shape = c.args.pieces.now.shape.now in
    let told = c.args.told.now in
    let i = c.loop-i.i in
    let v = c.index-told-i.result in
    let at = slice_get_read told (length told) i v refl c.loop-i-test.true c.index-told-i.is in
    let more = told_more known shape c.loop-i.read.items c.story_of.new.read.items c.args.about.now told c.loop-i.texts.items i v c.in_ok-text.text c.in_ok-text.ensures.more.kept c.loop-i.invariant.1 at c.in_ok-text.ensures.told in (
      more_still _ _ c.args.read.now.items c.loop-i.read.items c.story_of.new.read.items c.loop-i.invariant.0 c.in_ok-text.ensures.more,
      subst (λ (ts : List (String Global)). AreToldBy known shape c.story_of.new.read.items c.args.about.now (take (i + 1) told) (map string_bytes ts)) (sym c.in_ok-push.ensures.items) more,
    )

pub story_of-requires-clause-names : goal.story_of-requires-clause-names
story_of-requires-clause-names g c κs within =
    let told = c.args.told.now in
    let i = c.loop-i.i in
    let v = c.index-told-i.result in
    named_at c.requires.0 i v (subst (λ (vs : List Verdict). slice_get vs i ≡ Some v) c.requires.1 (slice_get_read told (length told) i v refl c.loop-i-test.true c.index-told-i.is))
