use Rattle.std.proofs.Common.{◌++◌, ◌∙◌, flat_map, ap, take_all}
use Rattle.std.specs.Ordering.{nat_cmp}
use Rattle.std.specs.Cmp.Lexicographic.{slice_cmp}
use Rattle.eos_base.specs.Members.{is_found}
use Rattle.eos_notes.specs.ManifestNotes.{absent_in}
use Rattle.eos_notes.proofs.PushedMore.{pushed_more}
use Rattle.eos_notes.proofs.manifest.push_absent_by.Goals as goal

pub loop-app-preserved : goal.loop-app-preserved
loop-app-preserved c =
    pushed_more (absent_in (is_found (slice_cmp nat_cmp) c.args.present.now)) _ _ _ c.args.apps.now c.loop-app.app-index c.app-item.result c.loop-app-test.true c.app-item.is c.loop-app.invariant c.in_ok-push_absent_in.ensures

pub returns : goal.returns
returns c = c.loop-app.invariant ∙ ap (λ xs. c.args.all.now.items ++ flat_map (absent_in (is_found (slice_cmp nat_cmp) c.args.present.now)) xs) (take_all c.loop-app.app-index c.args.apps.now c.loop-app-test.false)
