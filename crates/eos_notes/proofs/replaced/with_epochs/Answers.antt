use Rattle.std.proofs.Common.{◌<◌, ◌∙◌, ap, [], length, arith, slice_index_or, pos, None}
use Rattle.std.proofs.Math.ListN.{set, length-set}
use Rattle.std.proofs.lemmas.List.{get_or_default}
use Rattle.std.proofs.lemmas.List.Edits.{map_over_more}
use Rattle.eos_commits.specs.declared.commits.CommitRef.{CommitRef}
use Rattle.eos_notes.specs.steps.Replaced.{renamed}
use Rattle.eos_notes.proofs.replaced.with_epochs.Goals as goal

pub loop-commit-preserved : goal.loop-commit-preserved
loop-commit-preserved c =
    let i = c.loop-commit.commit-index in
    let cs = c.args.commits.items in
    let ds = c.loop-commit.commit-items in
    let blank : CommitRef = record { topic = record { ref_ptr = (0, 0); now = [] }; partition = pos 0; offset = pos 0; leader_epoch = pos 0; writer = None } in
    let within : i < length ds = omega (arith, c.loop-commit-test.true, c.loop-commit.auto.commit-items) in
    record {
      moved = ap (set ds i) c.with_epoch.ensures ∙ map_over_more renamed cs ds i (slice_index_or ds i blank) (omega (arith, within, c.loop-commit.invariant.all)) c.loop-commit.invariant.moved (get_or_default ds i blank (slice_index_or ds i blank) within);
      all = simp length-set c.loop-commit.invariant.all;
    }
