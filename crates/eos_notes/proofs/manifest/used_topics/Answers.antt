use Rattle.std.proofs.Common.{◌∙◌, flat_map, ap, take_all}
use Rattle.eos_notes.specs.ManifestNotes.{topics_of}
use Rattle.eos_notes.proofs.PushedMore.{made_more}
use Rattle.eos_notes.proofs.manifest.used_topics.Goals as goal

pub loop-app-preserved : goal.loop-app-preserved
loop-app-preserved c =
    made_more topics_of _ _ c.args.apps.now c.loop-app.app-index c.app-item.result c.loop-app-test.true c.app-item.is c.loop-app.invariant c.in_ok-push_topics_of.ensures

pub returns : goal.returns
returns c = c.loop-app.invariant ∙ ap (flat_map topics_of) (take_all c.loop-app.app-index c.args.apps.now c.loop-app-test.false)
