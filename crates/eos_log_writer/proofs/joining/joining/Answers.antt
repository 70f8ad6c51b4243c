use Rattle.std.proofs.Common.{◌∙◌, sym, arith, drop}
use Rattle.eos_log_writer.proofs.Texts.{no_room, none_joins}
use Rattle.eos_log_writer.proofs.joining.joining.Goals.{then-i-room-via-then-i-room, then-i-room-via-else-i-room+then-not-goes_on}
use Rattle.eos_log_writer.proofs.joining.joining.Goals as goal

pub returns-then-i-room : goal.returns-then-i-room
returns-then-i-room c = elim c.then-i-room.branch [
  | then-i-room-via-then-i-room w ↦ sym (c.loop-i.invariant.0 ∙ no_room c.args.room c.loop-i.i c.loop-i.last.now (drop c.loop-i.i c.args.more.now) (omega (arith, w.if-i-room.true)))
  | then-i-room-via-else-i-room+then-not-goes_on w ↦
      sym (c.loop-i.invariant.0 ∙ none_joins c.args.room c.loop-i.i c.loop-i.last.now w.index-more-i.result c.args.more.now c.loop-i-test.true w.index-more-i.is (sym w.goes_on.ensures ∙ w.if-not-goes_on.true))
]
