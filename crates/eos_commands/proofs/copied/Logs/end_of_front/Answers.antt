use Rattle.std.proofs.Common.{pos, arith, w64, get_or}
use Rattle.std.proofs.lemmas.Int.{to_z-of_z}
use mir.Val.{to_z, of_z}
use Rattle.eos_disk.specs.Paths.{path_of_end}
use Rattle.eos_commands.proofs.CopiedEnds.{gap_segment, cut_segment, next_segment, all_segments}
use Rattle.std.proofs.lemmas.Result.{err_from_is_err_and}
use Rattle.eos_commands.proofs.CopiesRefused.{read_next, unread_at}
use Rattle.eos_commands.proofs.copied.Logs.end_of_front.Goals as goal

pub returns-then-not-is_at-clause-ok : goal.returns-then-not-is_at-clause-ok
returns-then-not-is_at-clause-ok g c =
    gap_segment (g.D.Disk.holds c.args.self.now.disk.now) (path_of_end c.args.self.now.folder.now c.args.end.now) c.args.bases.now c.loop-base.base-index (pos 0) _ c.loop-base.next
    c.loop-base-test.true (grind (arith, to_z-of_z)) c.loop-base.invariant.goes_on (c.is_at.ensures.no c.if-not-is_at.true)

pub returns-then-not-whole-clause-ok : goal.returns-then-not-whole-clause-ok
returns-then-not-whole-clause-ok g c =
    cut_segment (g.D.Disk.holds c.args.self.now.disk.now) (path_of_end c.args.self.now.folder.now c.args.end.now) c.args.bases.now c.loop-base.base-index (pos 0) _ c.in_ok-bytes.bytes c.loop-base.next
    c.in_ok-after.after c.in_ok-after.whole c.loop-base-test.true (grind (arith, to_z-of_z)) c.loop-base.invariant.goes_on (c.is_at.ensures.yes c.if-not-is_at.false) c.in_ok-bytes.ensures.ok c.in_ok-after.ensures c.if-not-whole.true

pub loop-base-preserved : goal.loop-base-preserved
loop-base-preserved g c = record {
  goes_on = next_segment (g.D.Disk.holds c.args.self.now.disk.now) (path_of_end c.args.self.now.folder.now c.args.end.now) c.args.bases.now c.loop-base.base-index (pos 0) _ c.in_ok-bytes.bytes c.loop-base.next
      c.in_ok-after.after c.in_ok-after.whole c.loop-base-test.true (grind (arith, to_z-of_z)) c.loop-base.invariant.goes_on (c.is_at.ensures.yes c.if-not-is_at.false) c.in_ok-bytes.ensures.ok c.in_ok-after.ensures c.if-not-whole.false;
  read = read_next (g.D.Disk.holds c.args.self.now.disk.now) (path_of_end c.args.self.now.folder.now c.args.end.now) c.args.bases.now c.loop-base.base-index (pos 0)
      (to_z w64 (of_z w64 (get_or c.args.bases.now c.loop-base.base-index (pos 0)))) c.in_ok-bytes.bytes c.loop-base-test.true (grind (arith, to_z-of_z)) c.loop-base.invariant.read c.in_ok-bytes.ensures.ok;
}

pub returns-clause-ok : goal.returns-clause-ok
returns-clause-ok g c =
    all_segments (g.D.Disk.holds c.args.self.now.disk.now) (path_of_end c.args.self.now.folder.now c.args.end.now) c.args.bases.now c.loop-base.base-index c.loop-base.next c.loop-base-test.false
    c.loop-base.invariant.goes_on

pub returns-in_err-bytes-clause-refused : goal.returns-in_err-bytes-clause-refused
returns-in_err-bytes-clause-refused g c =
    let p = err_from_is_err_and c.from_residual.result c.from_residual.ensures.1 in
    let bases = c.args.bases.now in
    let i = c.loop-base.base-index in
    rw (p.1, p.2) (unread_at (g.D.Disk.holds c.args.self.now.disk.now) (path_of_end c.args.self.now.folder.now c.args.end.now) bases i (pos 0) (to_z w64 (of_z w64 (get_or bases i (pos 0))))
    c.in_err-bytes.field-0.0 c.loop-base-test.true (grind (arith, to_z-of_z)) c.loop-base.invariant.read c.in_err-bytes.ensures.refused)
