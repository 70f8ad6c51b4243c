use Rattle.std.proofs.Common.{◌++◌, ◌∙◌, flat_map, ap, take_all}
use Rattle.std.specs.Ordering.{nat_cmp}
use Rattle.std.specs.Cmp.Lexicographic.{slice_cmp}
use Rattle.eos_base.specs.Members.{is_found}
use Rattle.eos_notes.specs.ManifestNotes.{gap_at}
use Rattle.eos_notes.proofs.PushedMore.{pushed_more}
use Rattle.eos_notes.proofs.manifest.push_gaps_by.Goals as goal

pub loop-end-preserved : goal.loop-end-preserved
loop-end-preserved c =
    pushed_more (gap_at (is_found (slice_cmp nat_cmp) c.args.used.now) c.args.ends.now) _ _ _ c.args.ends.now c.loop-end.end-index c.end-item.result c.loop-end-test.true c.end-item.is c.loop-end.invariant c.in_ok-push_gap_at.ensures

pub returns : goal.returns
returns c = c.loop-end.invariant ∙ ap (λ xs. c.args.all.now.items ++ flat_map (gap_at (is_found (slice_cmp nat_cmp) c.args.used.now) c.args.ends.now) xs) (take_all c.loop-end.end-index c.args.ends.now c.loop-end-test.false)
