use Rattle.std.proofs.Common.{rules, ◌≡◌, ◌++◌, ◌∙◌, ap, get_or, List, None, pos, w64, to_z, of_z}
use Rattle.eos_fold.specs.Parts.{part_name}
use Rattle.eos_reading.specs.declared.epoch.EpochEntry.{EpochEntry}
use Rattle.eos_notes.specs.ReplacedNotes.{epoch_below, other_note, other_at}
use Rattle.eos_notes.proofs.EpochFalls.{entries_out, entries_done}
use Rattle.eos_notes.proofs.CommittedEpochs.{each_on}
use Rattle.eos_notes.proofs.replaced.push_each.Goals as goal

pub loop-i-preserved : goal.loop-i-preserved
loop-i-preserved c = λ of are.
    let group = c.args.group.now in
    let offsets = c.args.committed.offsets.now in
    let epochs = c.args.committed.epochs.now in
    let name = part_name c.index-parts-i.result in
    let o = to_z w64 (of_z w64 c.offset_at.result) in
    let e = to_z w64 (of_z w64 c.offset_at-in-loop-i.result) in
    let read : o ≡ get_or offsets c.loop-i.i (pos 0) = search rules in
    let read' : e ≡ get_or epochs c.loop-i.i (pos 0) = search rules in
    let pushed = c.in_ok-push_other.ensures ∙ ap (λ (es : List EpochEntry). c.loop-i.all.items ++ other_note group name o e (epoch_below o None es)) c.as_slice.ensures in
    each_on group of c.args.logs.parts.now c.args.logs.epochs.now offsets epochs c.loop-i.i c.index-parts-i.result c.index-epochs-i.result o e c.loop-i.all.items c.push_other.new.all.items _ c.loop-i-test.true
    c.if-i-epochs.false c.index-parts-i.is c.index-epochs-i.is read read' are pushed (c.loop-i.invariant of are)

pub returns : goal.returns
returns c = λ of are. entries_done (other_at c.args.group.now of) c.args.logs.parts.now c.args.logs.epochs.now c.loop-i.i c.loop-i.all.items _ c.loop-i-test.false (c.loop-i.invariant of are)

pub returns-then-i-epochs : goal.returns-then-i-epochs
returns-then-i-epochs c = λ of are. entries_out (other_at c.args.group.now of) c.args.logs.parts.now c.args.logs.epochs.now c.loop-i.i c.loop-i.all.items _ c.if-i-epochs.true (c.loop-i.invariant of are)
