use Rattle.std.proofs.Common.{Some, None, sym, arith, append-nil}
use Rattle.eos_picture.proofs.Standings.{standings_next, standings_end}
use Rattle.eos_picture.proofs.order.stands_of.Goals.{in-Some+in_ok-push, in_default}
use Rattle.eos_picture.proofs.order.stands_of.Goals as goal

pub loop-i-preserved : goal.loop-i-preserved
loop-i-preserved c =
    let part = c.args.part.now in
    let columns = c.args.columns.now in
    let column = c.index-columns-i.result in
    let old = c.loop-i.stands.items in
    elim c.match-stand_by.branch [
      | in-Some+in_ok-push w ↦ rw w.stands-is (standings_next part columns c.loop-i.i _ column (Some w.in-Some.offset) old w.push.new.self.items _ c.loop-i-test.true c.index-columns-i.is w.in-Some.ensures
          w.in_ok-push.ensures.items c.loop-i.invariant)
      | in_default w ↦ rw w.stands-is (standings_next part columns c.loop-i.i _ column None old old _ c.loop-i-test.true c.index-columns-i.is w.in_default.ensures (sym (append-nil old)) c.loop-i.invariant)
    ]

pub returns : goal.returns
returns c = standings_end c.args.part.now c.args.columns.now c.loop-i.i c.loop-i.stands.items _ (omega (arith, c.loop-i-test.false)) c.loop-i.invariant
