use Rattle.std.proofs.Common.{ℤ, List, subst}
use Rattle.eos_disk.specs.Paths.{path_of_end}
use Rattle.eos_commands.specs.Copies.{AreListedBy}
use Rattle.eos_commands.proofs.Asked.{all_listed}
use Rattle.std.proofs.lemmas.Result.{on_ok_weaker, IfErr-weaker, err_from_is_err_and}
use Rattle.eos_commands.proofs.CopiesRefused.{of_listing, of_segments}
use Rattle.eos_commands.proofs.copied.Logs.insert_states.Goals as goal

pub returns-clause-ok : goal.returns-clause-ok
returns-clause-ok g c =
    let holds = g.D.Disk.holds c.args.self.now.disk.now in
    let folder = c.args.self.now.folder.now in
    let end = c.in_ok-end.end in
    on_ok_weaker c.insert_segments.result (λ had. (
      had.0,
      all_listed holds folder end c.args.name.now c.in_ok-bases.bases.items had.0 c.in_ok-end.ensures.topic c.in_ok-end.ensures.partition c.in_ok-bases.ensures.ok
          (subst (λ (bs : List ℤ). AreListedBy holds (path_of_end folder end) bs had.0) c.as_slice.ensures.value had.1),
      had.2,
    )) c.insert_segments.ensures.ok

pub returns-in_err-bases-clause-refused : goal.returns-in_err-bases-clause-refused
returns-in_err-bases-clause-refused g c =
    let p = err_from_is_err_and c.from_residual-in_err-bases.result c.from_residual-in_err-bases.ensures.1 in
    rw (p.1, p.2) (of_listing (g.D.Disk.holds c.args.self.now.disk.now) c.args.self.now.folder.now c.in_ok-end.end c.args.name.now c.in_err-bases.field-0.0 c.in_ok-end.ensures.topic
    c.in_ok-end.ensures.partition c.in_err-bases.ensures.refused)

pub returns-clause-refused : goal.returns-clause-refused
returns-clause-refused g c =
    IfErr-weaker c.insert_segments.result _ _ (λ why r. of_segments (g.D.Disk.holds c.args.self.now.disk.now) c.args.self.now.folder.now c.in_ok-end.end c.args.name.now c.in_ok-bases.bases.items
    c.as_slice.result.now why c.in_ok-end.ensures.topic c.in_ok-end.ensures.partition c.as_slice.ensures.value c.in_ok-bases.ensures.ok r) c.insert_segments.ensures.refused
