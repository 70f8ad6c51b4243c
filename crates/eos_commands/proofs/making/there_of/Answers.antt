use Rattle.std.proofs.lemmas.Result.{err_from_is_err_and}
use Rattle.eos_commands.proofs.InitRefused.{unread_states}
use Rattle.eos_commands.proofs.making.there_of.Goals as goal

pub returns-in_err-required-clause-refused : goal.returns-in_err-required-clause-refused
returns-in_err-required-clause-refused g c =
    let p = err_from_is_err_and c.from_residual-in_err-required.result c.from_residual-in_err-required.ensures.1 in
    rw (p.1, p.2) (unread_states (g.D.Disk.holds c.args.logs.now.disk.now) c.args.logs.now.folder.now c.args.apps.now c.in_ok-folders.folders _ c.in_err-required.field-0.0 c.in_ok-folders.ensures.ok
    c.as_slice.ensures.items c.in_err-required.ensures.refused)
