use Rattle.std.proofs.Common.{◌++◌, ◌∙◌, List, None, ap}
use Rattle.eos_fold.specs.Parts.{part_name}
use Rattle.eos_reading.specs.declared.epoch.EpochEntry.{EpochEntry}
use Rattle.eos_notes.specs.ReplicaNotes.{falls_at, fall_note}
use Rattle.eos_notes.proofs.EpochFalls.{falls_on, falls_out, falls_done}
use Rattle.eos_notes.proofs.replicas.push_falls.Goals as goal

pub loop-i-preserved : goal.loop-i-preserved
loop-i-preserved c =
    let now = c.loop-i.all.items in
    let part = c.index-parts-i.result in
    let pushed = c.in_ok-push_fall.ensures ∙ ap (λ (es : List EpochEntry). now ++ fall_note (part_name part) (falls_at None es)) c.as_slice.ensures in
    falls_on c.args.parts.now c.args.epochs.now c.loop-i.i part c.index-epochs-i.result now c.push_fall.new.all.items _ c.loop-i-test.true c.if-i-epochs.false c.index-parts-i.is c.index-epochs-i.is pushed c.loop-i.invariant

pub returns-then-i-epochs : goal.returns-then-i-epochs
returns-then-i-epochs c = falls_out c.args.parts.now c.args.epochs.now c.loop-i.i c.loop-i.all.items _ c.if-i-epochs.true c.loop-i.invariant

pub returns : goal.returns
returns c = falls_done c.args.parts.now c.args.epochs.now c.loop-i.i c.loop-i.all.items _ c.loop-i-test.false c.loop-i.invariant
