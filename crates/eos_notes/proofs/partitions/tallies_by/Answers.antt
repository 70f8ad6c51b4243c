use Rattle.std.proofs.Common.{ℕ, ◌<◌, ◌∙◌, subst}
use Rattle.std.specs.Ordering.{nat_cmp}
use Rattle.std.specs.Cmp.Lexicographic.{slice_cmp}
use Rattle.eos_base.specs.Members.{is_found}
use Rattle.eos_notes.specs.PartitionTallies.{roles_by}
use Rattle.eos_notes.proofs.PartitionRows.{rows_more, rows_done}
use Rattle.eos_notes.proofs.partitions.tallies_by.Goals as goal

pub loop-i-preserved : goal.loop-i-preserved
loop-i-preserved c =
    rows_more (roles_by (is_found (slice_cmp nat_cmp) c.args.sources.now) (is_found (slice_cmp nat_cmp) c.args.outputs.now)) c.as_slice-parts.result.now c.as_slice-faults.result.now c.args.counted.now c.loop-i.all.items c.push.new.self.items
    c.loop-i.i c.index-parts-i.result c.index-faults-i.result _ c.in_ok-tally.tally (subst (λ (n : ℕ). c.loop-i.i < n) c.rows_of-rows.ensures.rows c.loop-i-test.true)
    c.index-parts-i.is c.index-faults-i.is c.loop-i.invariant c.in_ok-tally.ensures c.in_ok-push.ensures.items

pub returns : goal.returns
returns c =
    c.new.ensures
    ∙ rows_done (roles_by (is_found (slice_cmp nat_cmp) c.args.sources.now) (is_found (slice_cmp nat_cmp) c.args.outputs.now)) c.as_slice-parts.result.now c.args.logs.now.parts.items c.as_slice-faults.result.now c.args.logs.now.faults.items
    c.args.counted.now c.loop-i.all.items c.loop-i.i c.rows_of-rows.result c.rows_of-rows.ensures.rows c.loop-i-test.false c.as_slice-parts.ensures.value c.as_slice-faults.ensures.value c.loop-i.invariant
