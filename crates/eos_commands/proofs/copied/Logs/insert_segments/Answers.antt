use Rattle.std.proofs.Common.{◌++◌, [], ℤ, List, pos, get_or, take, w64, refl, subst, arith}
use Rattle.std.proofs.lemmas.Int.{to_z-of_z}
use Rattle.std.proofs.lemmas.List.{take_all}
use mir.Val.{to_z, of_z}
use Rattle.eos_disk.specs.Paths.{path_of_end}
use Rattle.eos_commands.specs.Copies.{AreListedBy}
use Rattle.eos_commands.proofs.Asked.{next_listed}
use Rattle.eos_commands.proofs.NameSets.{gains_nothing, gains_more}
use Rattle.std.proofs.lemmas.Result.{err_from_is_err_and}
use Rattle.eos_commands.proofs.CopiesRefused.{unread_at, listed_read}
use Rattle.eos_commands.proofs.copied.Logs.insert_segments.Goals as goal

pub loop-base-init : goal.loop-base-init
loop-base-init g c = ([], refl, gains_nothing c.args.names.now)

pub loop-base-preserved : goal.loop-base-preserved
loop-base-preserved g c =
    let bases = c.args.bases.now in
    let i = c.loop-base.base-index in
    let had = c.loop-base.invariant in
    let here = c.in_ok-listed_in.field-0.items in (
      had.0 ++ here,
      next_listed (g.D.Disk.holds c.args.self.now.disk.now) (path_of_end c.args.self.now.folder.now c.args.end.now) bases i (pos 0) (to_z w64 (of_z w64 (get_or bases i (pos 0)))) c.in_ok-bytes.bytes had.0
          here c.loop-base-test.true (grind (arith, to_z-of_z)) had.1 c.in_ok-bytes.ensures.ok c.in_ok-listed_in.ensures,
      gains_more c.args.names.now c.loop-base.names c.insert_all.new.names had.0 here had.2 c.in_ok-insert_all.ensures,
    )

pub returns-clause-ok : goal.returns-clause-ok
returns-clause-ok g c =
    let had = c.loop-base.invariant in (
      had.0,
      subst (λ (bs : List ℤ). AreListedBy (g.D.Disk.holds c.args.self.now.disk.now) (path_of_end c.args.self.now.folder.now c.args.end.now) bs had.0)
          (take_all c.loop-base.base-index c.args.bases.now c.loop-base-test.false) had.1,
      had.2,
    )

pub returns-in_err-bytes-clause-refused : goal.returns-in_err-bytes-clause-refused
returns-in_err-bytes-clause-refused g c =
    let p = err_from_is_err_and c.from_residual.result c.from_residual.ensures.1 in
    let bases = c.args.bases.now in
    let i = c.loop-base.base-index in
    let had = c.loop-base.invariant in
    let path = path_of_end c.args.self.now.folder.now c.args.end.now in
    let holds = g.D.Disk.holds c.args.self.now.disk.now in
    rw (p.1, p.2) (unread_at holds path bases i (pos 0) (to_z w64 (of_z w64 (get_or bases i (pos 0)))) c.in_err-bytes.field-0.0 c.loop-base-test.true (grind (arith, to_z-of_z))
    (listed_read holds path (take i bases) had.0 had.1) c.in_err-bytes.ensures.refused)
