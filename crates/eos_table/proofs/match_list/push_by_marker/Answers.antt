use Rattle.std.proofs.Common.{◌≡◌, fold, map, subst}
use Rattle.std.specs.Result.{OnOk}
use Rattle.eos_table.specs.steps.Keys.{plain_ended}
use Rattle.eos_table.specs.steps.Shown.{found}
use Rattle.eos_table.proofs.TablesShown.{all_markers}
use Rattle.eos_table.proofs.match_list.push_by_marker.Goals as goal

pub returns : goal.returns
returns c =
    subst (λ z. OnOk c.push_markers.result (c.push_markers.new.faults ≡ fold found c.args.faults.now z))
    (all_markers c.args.shard.of c.args.shard.number c.args.decisions.now c.args.parts.now (map plain_ended c.in_ok-wanted.wanted) c.in_ok-wanted.ensures)
    c.push_markers.ensures
