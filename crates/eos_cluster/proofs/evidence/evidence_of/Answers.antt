use Rattle.std.proofs.Common.{◌∙◌, ap}
use Rattle.eos_evidence.specs.Evidence.{without_segments}
use Rattle.eos_cluster.proofs.AllLogs.{same_spec}
use Rattle.eos_cluster.proofs.evidence.evidence_of.Goals as goal

pub add_logs-requires-clause-begun : goal.add_logs-requires-clause-begun
add_logs-requires-clause-begun c = c.in_ok-builder.ensures ∙ ap without_segments (same_spec c.args.store.now.config c.args.store.now.world _ c.requires c.in_ok-spec.ensures)
