use Rattle.std.proofs.Common.{arith, w64, rules}
use Rattle.std.proofs.lemmas.Int.{to_z-of_z}
use Rattle.std.proofs.lemmas.Result.{err_from_is_err_and}
use mir.Val.{to_z, of_z}
use Rattle.eos_disk.specs.Paths.{path_of_end}
use Rattle.eos_commands.proofs.CopiesRefused.{note_unlisted, note_unread}
use Rattle.eos_commands.proofs.noting.seen_of.Goals as goal

pub returns-in_err-bases : goal.returns-in_err-bases
returns-in_err-bases g c =
    let p = err_from_is_err_and c.from_residual.result c.from_residual.ensures.1 in
    rw (p.1, p.2) (note_unlisted (g.D.Disk.holds c.args.logs.now.disk.now) (path_of_end c.args.logs.now.folder.now c.args.end.now) c.in_err-bases.field-0.0 c.in_err-bases.ensures.refused)

pub returns-in_err-bytes : goal.returns-in_err-bytes
returns-in_err-bytes g c =
    let p = err_from_is_err_and c.from_residual-in_err-bytes.result c.from_residual-in_err-bytes.ensures.1 in
    rw (p.1, p.2) (note_unread (g.D.Disk.holds c.args.logs.now.disk.now) (path_of_end c.args.logs.now.folder.now c.args.end.now) c.in_ok-bases.bases.items c.deref.result.now c.in-Some.base.now
    (to_z w64 (of_z w64 c.in-Some.base.now)) c.in_err-bytes.field-0.0 (search rules) c.in-Some.ensures.value (grind (arith, to_z-of_z)) c.in_ok-bases.ensures.ok c.in_err-bytes.ensures.refused)
