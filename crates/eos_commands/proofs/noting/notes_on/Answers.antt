use Rattle.std.proofs.lemmas.Result.{err_from_is_err_and}
use Rattle.std.proofs.Common.{rules}
use Rattle.eos_commands.proofs.CopiesRefused.{noted_at}
use Rattle.eos_commands.proofs.noting.notes_on.Goals as goal

pub returns-in_err-push_note : goal.returns-in_err-push_note
returns-in_err-push_note g c =
    let p = err_from_is_err_and c.from_residual-in_err-push_note.result c.from_residual-in_err-push_note.ensures.1 in
    rw (p.1, p.2) (noted_at (g.D.Disk.holds c.args.logs.now.disk.now) c.args.logs.now.folder.now c.args.spec.now.ends _ c.loop-end.end-index c.end-item.result c.in_err-push_note.field-0.0 c.loop-end-test.true
    c.end-item.is (search rules) c.in_err-push_note.ensures)
