use Rattle.std.proofs.Common.{List, subst}
use Rattle.std.specs.Prelude.{IfOk}
use Rattle.eos_base.specs.Least.{NoneStands}
use Rattle.eos_fold.specs.Parts.{PartLog}
use Rattle.eos_commits.specs.Faults.{AreInOrder, Stands}
use Rattle.eos_lineage.specs.Faults.{IsAnswer}
use Rattle.eos_lineage.proofs.check.check_outputs.Goals as goal

pub returns : goal.returns
returns g c =
    subst (λ (ps : List PartLog). AreInOrder ps → NoneStands (Stands c.args.apps.now ps) → IfOk c.check_each.result (IsAnswer c.args.apps.now ps)) c.in_ok-logs.ensures c.check_each.ensures
