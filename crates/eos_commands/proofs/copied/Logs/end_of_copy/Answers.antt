use Rattle.std.proofs.Common.{ℤ, List, subst, rules}
use Rattle.eos_disk.specs.Paths.{path_of_end}
use Rattle.eos_commands.specs.Copies.{EndsAt}
use Rattle.eos_commands.proofs.CopiedEnds.{end_is}
use Rattle.std.proofs.lemmas.Result.{err_from_is_err_and}
use Rattle.eos_commands.proofs.CopiesRefused.{end_unlisted, end_unread}
use Rattle.eos_commands.proofs.copied.Logs.end_of_copy.Goals as goal

pub returns-clause-ok : goal.returns-clause-ok
returns-clause-ok g c =
    let holds = g.D.Disk.holds c.args.self.now.disk.now in
    let folder = c.args.self.now.folder.now in
    let end = c.in_ok-end.end in
    let offset = c.in_ok-front.field-0 in
    let ends = subst (λ (bs : List ℤ). EndsAt holds (path_of_end folder end) 0 bs offset) c.as_slice.ensures.value c.in_ok-front.ensures.ok in
    end_is holds folder c.args.name.now end _ c.in_ok-bases.bases.items offset c.in_ok-end.ensures.topic c.in_ok-end.ensures.partition (search rules) c.in_ok-bases.ensures.ok ends

pub returns-in_err-bases-clause-refused : goal.returns-in_err-bases-clause-refused
returns-in_err-bases-clause-refused g c =
    let p = err_from_is_err_and c.from_residual-in_err-bases.result c.from_residual-in_err-bases.ensures.1 in
    rw (p.1, p.2) (end_unlisted (g.D.Disk.holds c.args.self.now.disk.now) c.args.self.now.folder.now c.in_ok-end.end c.args.name.now c.in_err-bases.field-0.0 c.in_ok-end.ensures.topic
    c.in_ok-end.ensures.partition c.in_err-bases.ensures.refused)

pub returns-in_err-front-clause-refused : goal.returns-in_err-front-clause-refused
returns-in_err-front-clause-refused g c =
    let p = err_from_is_err_and c.from_residual-in_err-front.result c.from_residual-in_err-front.ensures.1 in
    rw (p.1, p.2) (end_unread (g.D.Disk.holds c.args.self.now.disk.now) c.args.self.now.folder.now c.in_ok-end.end c.args.name.now c.in_ok-bases.bases.items c.as_slice.result.now
    c.in_err-front.field-0.0 c.in_ok-end.ensures.topic c.in_ok-end.ensures.partition c.as_slice.ensures.value c.in_ok-bases.ensures.ok c.in_err-front.ensures.refused)
