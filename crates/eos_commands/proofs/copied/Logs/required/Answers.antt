use Rattle.std.proofs.Common.{◌++◌, List, subst}
use Rattle.std.proofs.lemmas.List.{take_all}
use Rattle.eos_base.specs.declared.partition_name.PartitionName.{PartitionName}
use Rattle.eos_commands.specs.Copies.{AreAsked, own_name}
use Rattle.eos_commands.proofs.Asked.{next_asked, required_are}
use Rattle.eos_commands.proofs.NameSets.{gains_more}
use Rattle.std.proofs.lemmas.Result.{err_from_is_err_and}
use Rattle.eos_commands.proofs.CopiesRefused.{states_at}
use Rattle.eos_commands.proofs.copied.Logs.required.Goals as goal

pub loop-name-preserved : goal.loop-name-preserved
loop-name-preserved g c =
    let holds = g.D.Disk.holds c.args.self.now.disk.now in
    let apps = c.args.apps.now in
    let name = c.name-item.result in
    let had = c.loop-name.invariant in
    let more = c.in_ok-insert_listed.ensures.ok in
    let own = own_name apps name in (
      had.0,
      had.1 ++ (own ++ more.0),
      had.2,
      gains_more had.0 c.loop-name.names c.insert_listed.new.names had.1 (own ++ more.0) had.3
          (gains_more c.loop-name.names c.insert_own.new.names c.insert_listed.new.names own more.0 c.in_ok-insert_own.ensures more.2),
      next_asked holds c.args.self.now.folder.now apps c.args.folders.now c.loop-name.name-index name had.1 more.0 c.loop-name-test.true c.name-item.is had.4 more.1,
    )

pub returns-clause-ok : goal.returns-clause-ok
returns-clause-ok g c =
    let holds = g.D.Disk.holds c.args.self.now.disk.now in
    let folder = c.args.self.now.folder.now in
    let apps = c.args.apps.now in
    let had = c.loop-name.invariant in
    let are = subst (λ (ns : List PartitionName). AreAsked holds folder apps ns had.1) (take_all c.loop-name.name-index c.args.folders.now c.loop-name-test.false) had.4 in
    required_are holds folder apps c.args.folders.now had.1 c.in_ok-in_a_row.field-0.items c.of.result had.0 c.loop-name.names are had.2 had.3 c.in_ok-in_a_row.ensures c.of.ensures

pub returns-in_err-insert_listed-clause-refused : goal.returns-in_err-insert_listed-clause-refused
returns-in_err-insert_listed-clause-refused g c =
    let p = err_from_is_err_and c.from_residual-in_err-insert_listed.result c.from_residual-in_err-insert_listed.ensures.1 in
    let had = c.loop-name.invariant in
    rw (p.1, p.2) (states_at (g.D.Disk.holds c.args.self.now.disk.now) c.args.self.now.folder.now c.args.apps.now c.args.folders.now c.loop-name.name-index c.name-item.result had.1
    c.in_err-insert_listed.field-0.0 c.loop-name-test.true c.name-item.is had.4 c.in_err-insert_listed.ensures.refused)
