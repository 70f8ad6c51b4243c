use Rattle.eos_cluster.proofs.AllLogs.{only_memory, log_only}
use Rattle.eos_cluster.proofs.evidence.add_at.Goals as goal

pub of_memory-requires : goal.of_memory-requires
of_memory-requires c =
    only_memory c.in-Err.fault
    (log_only c.config.result c.args.store.now.config c.args.store.now.world c.args.place c.elections-elections.result.now c.log.result.now c.args.builder.now _ c.config.ensures.config c.elections-elections.ensures c.log.ensures.items c.requires.writable c.requires.place c.requires.taken c.in-Err.ensures.only)
