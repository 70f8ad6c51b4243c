use Rattle.std.proofs.Common.{◌<◌, ◌∙◌, refl, ap, subst, arith}
use Rattle.eos_machine.specs.LogIndexes.{log_count}
use Rattle.eos_machine.specs.World.{log_at}
use Rattle.eos_cluster.proofs.AllLogs.{logs_step, first_logs, logs_written, all_logs, whole_taken, log_taken}
use Rattle.eos_cluster.proofs.evidence.add_logs.Goals as goal

pub loop-place-init : goal.loop-place-init
loop-place-init c = (
  first_logs c.args.store.now.config c.args.store.now.world c.args.builder.now,
  λ p l. absurd (omega (arith, l)),
)

pub loop-place-preserved : goal.loop-place-preserved
loop-place-preserved c = (
  logs_step c.args.store.now.config c.args.store.now.config c.args.store.now.world c.loop-place.builder c.add_at.new.builder _ c.loop-place.place (log_at c.args.store.now.world c.loop-place.place) refl refl (subst (λ n. c.loop-place.place < n) (c.log_count-place-end.ensures ∙ ap log_count c.config.ensures.config) c.loop-place-test.true) c.loop-place.invariant.0 c.in_ok-add_at.ensures.added,
  logs_written c.args.store.now.config c.args.store.now.config c.args.store.now.world c.loop-place.place (log_at c.args.store.now.world c.loop-place.place) refl refl c.loop-place.invariant.1 c.in_ok-add_at.ensures.written,
)

pub add_at-requires-clause-taken : goal.add_at-requires-clause-taken
add_at-requires-clause-taken c =
    log_taken c.args.store.now.config c.args.store.now.world _ c.loop-place.builder c.loop-place.place (whole_taken c.args.store.now.config c.args.store.now.world c.args.builder.now c.requires.writable c.requires.begun) (subst (λ n. c.loop-place.place < n) (c.log_count-place-end.ensures ∙ ap log_count c.config.ensures.config) c.loop-place-test.true) c.loop-place.invariant.0

pub returns-clause-written : goal.returns-clause-written
returns-clause-written c =
    all_logs c.args.store.now.config c.args.store.now.config c.args.store.now.world c.loop-place.place c.log_count-place-end.result refl (c.log_count-place-end.ensures ∙ ap log_count c.config.ensures.config) (omega (arith, c.loop-place-test.false)) c.loop-place.invariant.1
