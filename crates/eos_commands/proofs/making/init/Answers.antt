use Rattle.std.proofs.Common.{string_bytes}
use Rattle.std.proofs.lemmas.Result.{err_from_is_err_and}
use Rattle.eos_disk.specs.Paths.{manifest_path}
use Rattle.eos_commands.proofs.Placed.{left_nothing, left_there, all_made}
use Rattle.eos_commands.proofs.InitRefused.{there_first, not_made, not_put}
use Rattle.eos_commands.proofs.making.init.Goals as goal

pub returns-clause-ok : goal.returns-clause-ok
returns-clause-ok g c =
    let made = c.in_ok-text.ensures.ok in
    all_made c.args.given (g.D.Disk.holds c.args.disk.now) (g.D.Disk.holds c.write_manifest.new.disk) _ _ (string_bytes c.in_ok-path.path) c.as_slice.result.now _ _ made.0 made.1 c.in_ok-path.ensures
    made.2 c.as_slice.ensures.value c.in_ok-write_manifest.ensures.ok made.3

pub returns-in_err-path-clause-err : goal.returns-in_err-path-clause-err
returns-in_err-path-clause-err g c =
    let p = err_from_is_err_and c.from_residual.result c.from_residual.ensures.1 in
    rw p.1 (left_nothing (g.D.Disk.holds c.args.disk.now) (manifest_path c.args.given.folder.now))

pub returns-then-stands-clause-err : goal.returns-then-stands-clause-err
returns-then-stands-clause-err g c = left_nothing (g.D.Disk.holds c.args.disk.now) (manifest_path c.args.given.folder.now)

pub returns-in_err-text-clause-err : goal.returns-in_err-text-clause-err
returns-in_err-text-clause-err g c =
    let p = err_from_is_err_and c.from_residual-in_err-text.result c.from_residual-in_err-text.ensures.1 in
    rw p.1 (left_nothing (g.D.Disk.holds c.args.disk.now) (manifest_path c.args.given.folder.now))

pub returns-in_err-write_manifest-clause-err : goal.returns-in_err-write_manifest-clause-err
returns-in_err-write_manifest-clause-err g c =
    let p = err_from_is_err_and c.from_residual-in_err-write_manifest.result c.from_residual-in_err-write_manifest.ensures.1 in
    rw p.1 (left_there (g.D.Disk.holds c.args.disk.now) (g.D.Disk.holds c.write_manifest.new.disk) c.args.given.folder.now _ _ c.in_ok-path.ensures c.in_err-write_manifest.ensures.err)

pub returns-then-stands-clause-refused : goal.returns-then-stands-clause-refused
returns-then-stands-clause-refused g c =
    there_first c.args.given (g.D.Disk.holds c.args.disk.now) _ _ c.in_ok-path.path c.as_str.result.now c.as_str.ensures.value c.in_ok-path.ensures (c.stands.ensures.there c.if-stands.true)

pub returns-in_err-text-clause-refused : goal.returns-in_err-text-clause-refused
returns-in_err-text-clause-refused g c =
    let p = err_from_is_err_and c.from_residual-in_err-text.result c.from_residual-in_err-text.ensures.1 in
    rw (p.1, p.2) (not_made c.args.given (g.D.Disk.holds c.args.disk.now) _ _ (string_bytes c.in_ok-path.path) c.as_str.result.now c.in_err-text.field-0.0 c.as_str.ensures.value c.in_ok-path.ensures
    (c.stands.ensures.free c.if-stands.false) c.in_err-text.ensures.refused)

pub returns-in_err-write_manifest-clause-refused : goal.returns-in_err-write_manifest-clause-refused
returns-in_err-write_manifest-clause-refused g c =
    let p = err_from_is_err_and c.from_residual-in_err-write_manifest.result c.from_residual-in_err-write_manifest.ensures.1 in
    let made = c.in_ok-text.ensures.ok in
    rw (p.1, p.2) (not_put c.args.given (g.D.Disk.holds c.args.disk.now) _ _ made.0 (string_bytes c.in_ok-path.path) c.as_str.result.now c.in_err-write_manifest.field-0.0 c.as_str.ensures.value
    c.in_ok-path.ensures (c.stands.ensures.free c.if-stands.false) made.1 c.in_err-write_manifest.ensures.refused)
