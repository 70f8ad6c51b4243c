use Rattle.std.proofs.Common.{◌≡◌, fold, map, subst}
use Rattle.std.specs.Result.{OnOk}
use Rattle.eos_table.specs.steps.Keys.{plain_name, plain_ended}
use Rattle.eos_table.specs.steps.Shown.{found}
use Rattle.eos_table.proofs.TablesShown.{all_names}
use Rattle.eos_table.proofs.match_list.push_by_name.Goals as goal

pub returns : goal.returns
returns c =
    subst (λ z. OnOk c.push_names.result (c.push_names.new.faults ≡ fold found c.args.faults.now z))
    (all_names c.args.shard.of c.args.shard.number c.args.decisions.now c.args.parts.now (map plain_name c.in_ok-there.there) (map plain_ended c.in_ok-marked.marked) c.in_ok-there.ensures c.in_ok-marked.ensures)
    c.push_names.ensures
