use Rattle.std.proofs.Common.{◌≡◌, ◌+◌, ◌∷◌, [], length, ap, arith}
use Rattle.eos_source.specs.Said.{known_by}
use Rattle.eos_source_check.specs.steps.TextsAgain.{texts_asked}
use Rattle.eos_source_check.proofs.EarnedAgain.{of_pieces}
use Rattle.eos_source_check.proofs.TextsAgain.{no_texts, of_topic, one_text, all_texts, own_topic}
use Rattle.eos_source_check.proofs.texts.texts_of.Goals as goal

pub loop-i-init : goal.loop-i-init
loop-i-init g c = no_texts (known_by (g.S.Source.said c.args.source.now) (g.S.Source.is_log c.args.source.now)) c.args.first c.as_slice-names.result.now c.args.shape.now.end.topic

pub longer-requires : goal.longer-requires
longer-requires g c =
    let topic = c.args.shape.now.end.topic in
    let same = own_topic c.args.shape.now c.as_slice-names.result.now c.loop-i.i c.index-names-i.result c.requires.partition c.as_slice-names.ensures c.loop-i-test.true c.index-names-i.is in
    let one = c.in-Ok.ensures.ok in
    let h = c.loop-i.invariant in
    (texts_asked topic, h.segments, one.segment ∷ [], h.held, of_topic (known_by (g.S.Source.said c.args.source.now) (g.S.Source.is_log c.args.source.now) (c.args.first + c.loop-i.i)) c.index-names-i.result topic c.in-Ok.next same one)

pub loop-i-preserved : goal.loop-i-preserved
loop-i-preserved g c =
    let topic = c.args.shape.now.end.topic in
    let same = own_topic c.args.shape.now c.as_slice-names.result.now c.loop-i.i c.index-names-i.result c.requires.partition c.as_slice-names.ensures c.loop-i-test.true c.index-names-i.is in
    let one = c.in-Ok.ensures.ok in
    let h = c.loop-i.invariant in
    one_text (known_by (g.S.Source.said c.args.source.now) (g.S.Source.is_log c.args.source.now)) c.args.first c.as_slice-names.result.now topic c.loop-i.i c.index-names-i.result c.loop-i.run c.in-Ok.next _ c.loop-i-test.true c.index-names-i.is one h
    (c.in_ok-longer-in-Ok.ensures (texts_asked topic) h.segments (one.segment ∷ []) h.held (of_topic (known_by (g.S.Source.said c.args.source.now) (g.S.Source.is_log c.args.source.now) (c.args.first + c.loop-i.i)) c.index-names-i.result topic c.in-Ok.next same one))

pub returns-in-Err-clause-earned : goal.returns-in-Err-clause-earned
returns-in-Err-clause-earned g c =
    let count : length c.as_slice-names.result.now ≡ length c.args.shape.now.segments = ap length c.as_slice-names.ensures in
    of_pieces (g.S.Source.outcomes c.args.source.now) c.args.first (length c.args.shape.now.segments) c.loop-i.i c.in-Err.why (omega (arith, count, c.loop-i-test.true)) c.in-Err.ensures.earned

pub returns-clause-ok : goal.returns-clause-ok
returns-clause-ok g c =
    all_texts (known_by (g.S.Source.said c.args.source.now) (g.S.Source.is_log c.args.source.now)) c.args.first c.as_slice-names.result.now c.args.shape.now.segments c.args.shape.now.end.topic c.loop-i.i c.loop-i.run c.as_slice-names.ensures
    (omega (arith, c.loop-i-test.false)) c.loop-i.invariant
