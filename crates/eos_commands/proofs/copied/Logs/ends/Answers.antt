use Rattle.eos_commands.proofs.CopiedEnds.{next_copied}
use Rattle.std.proofs.lemmas.Result.{err_from_is_err_and}
use Rattle.eos_commands.proofs.CopiesRefused.{copies_at}
use Rattle.eos_commands.proofs.copied.Logs.ends.Goals as goal

pub loop-name-preserved : goal.loop-name-preserved
loop-name-preserved g c =
    let more = c.in_ok-push_end.ensures.ok in
    next_copied (g.D.Disk.holds c.args.self.now.disk.now) c.args.self.now.folder.now c.args.folders.now c.args.names.now c.loop-name.name-index c.name-item.result c.loop-name.ends.items
    more.0 c.push_end.new.ends.items c.loop-name-test.true c.name-item.is c.loop-name.invariant more.1 more.2

pub returns-in_err-push_end-clause-refused : goal.returns-in_err-push_end-clause-refused
returns-in_err-push_end-clause-refused g c =
    let p = err_from_is_err_and c.from_residual.result c.from_residual.ensures.1 in
    rw (p.1, p.2) (copies_at (g.D.Disk.holds c.args.self.now.disk.now) c.args.self.now.folder.now c.args.folders.now c.args.names.now c.loop-name.name-index c.name-item.result c.loop-name.ends.items
    c.in_err-push_end.field-0.0 c.loop-name-test.true c.name-item.is c.loop-name.invariant c.in_err-push_end.ensures.refused)
