use Rattle.std.proofs.Common.{◌≡◌, ◌+◌, List, ◌++◌, None, refl, ap, ◌∙◌, rules}
use Rattle.eos_batch.specs.declared.marker.Marker.{Marker}
use Rattle.eos_reading.specs.declared.epoch.EpochEntry.{EpochEntry}
use Rattle.eos_reading.specs.Epochs.{epoch_behind, entries_behind}
use Rattle.eos_kept.proofs.JoinedKept.{goes_on, along_both}
use Rattle.eos_kept.proofs.front.Front.join.Goals as goal

pub returns-in-Ok-clause-run : goal.returns-in-Ok-clause-run
returns-in-Ok-clause-run c =
    let r = c.requires.before in
    let s = c.requires.after in
    (r.0 ++ s.0, c.in-Ok.ensures.ok r.0 s.0 r.1 s.1)

pub returns-in-Ok-clause-ok : goal.returns-in-Ok-clause-ok
returns-in-Ok-clause-ok c = λ xs ys bs cs h k.
    let f = c.args.before in
    let g = c.args.after in
    let counted : c.in-Some.batches ≡ f.batches + g.batches = search rules in
    let markers = c.add_markers.ensures ∙ ap (λ (ms : List Marker). ms ++ g.markers.items) c.reserve.ensures.items in
    let epochs = c.add_epochs.ensures ∙ (ap (λ (es : List EpochEntry). es ++ entries_behind (epoch_behind None es) c.as_slice.result.now) c.reserve-else-is_err.ensures.items
    ∙ ap (λ (es : List EpochEntry). f.epochs.items ++ entries_behind (epoch_behind None f.epochs.items) es) c.as_slice.ensures.value) in
    goes_on xs ys bs cs f g _ c.requires.end c.requires.next refl refl counted refl markers epochs c.in-Ok.ensures.sequenced (c.in-Ok.ensures.ok bs cs h.keeps.run k.keeps.run) h k

pub returns-in-Ok-clause-along : goal.returns-in-Ok-clause-along
returns-in-Ok-clause-along c = λ bs cs h k.
    let f = c.args.before in
    let g = c.args.after in
    let counted : c.in-Some.batches ≡ f.batches + g.batches = search rules in
    let markers = c.add_markers.ensures ∙ ap (λ (ms : List Marker). ms ++ g.markers.items) c.reserve.ensures.items in
    along_both bs cs f g _ c.requires.next refl refl counted markers (c.in-Ok.ensures.ok bs cs h.keeps.run k.keeps.run) h k
