use Rattle.std.proofs.Common.{◌≡◌, map, rules}
use Rattle.std.specs.List.{range_with_len}
use Rattle.eos_machine.specs.LogIndexes.{log_count}
use Rattle.eos_machine.specs.Evidences.{groups_of, end_of}
use Rattle.eos_cluster.proofs.AllLogs.{spec_taken}
use Rattle.eos_cluster.proofs.evidence.spec_of.Goals as goal

pub unreachable-requires : goal.unreachable-requires
unreachable-requires c =
    let a : c.in_ok-groups.groups ≡ groups_of c.args.store.now.config = search rules in
    let e : c.new-ends.result ≡ map (end_of c.args.store.now.config c.args.store.now.world) (range_with_len 0 (log_count c.args.store.now.config)) = search rules in
    spec_taken c.args.store.now.config c.args.store.now.world c.requires c.in_ok-groups.groups c.new-ends.result _ a e c.in-Err.ensures
