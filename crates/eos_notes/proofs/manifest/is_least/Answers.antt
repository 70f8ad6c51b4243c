use Rattle.std.proofs.Common.{◌∙◌, ap, sym, not}
use Rattle.eos_notes.specs.ManifestNotes.{is_lesser}
use Rattle.eos_notes.proofs.TestsLeft.{any_here, any_next, any_none}
use Rattle.eos_notes.proofs.manifest.is_least.Goals as goal

pub loop-other-preserved : goal.loop-other-preserved
loop-other-preserved c =
    c.loop-other.invariant ∙ ap not (any_next (is_lesser c.args.end.now) c.args.ends.now c.loop-other.other-index c.other-item.result c.other-item.result c.loop-other-test.true c.other-item.is (sym c.is_lesser.ensures ∙ c.if-is_lesser.false))

pub returns-then-is_lesser : goal.returns-then-is_lesser
returns-then-is_lesser c =
    sym (c.loop-other.invariant ∙ ap not (any_here (is_lesser c.args.end.now) c.args.ends.now c.loop-other.other-index c.other-item.result c.other-item.result c.loop-other-test.true c.other-item.is (sym c.is_lesser.ensures ∙ c.if-is_lesser.true)))

pub returns : goal.returns
returns c = sym (c.loop-other.invariant ∙ ap not (any_none (is_lesser c.args.end.now) c.args.ends.now c.loop-other.other-index c.loop-other-test.false))
