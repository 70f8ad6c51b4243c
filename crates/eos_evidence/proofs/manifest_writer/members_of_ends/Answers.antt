use Rattle.std.proofs.Common.{ap}
use Rattle.serde_json.specs.Data.{depth}
use Rattle.eos_evidence.proofs.EndsWritten.{none_written, one_inserted}
use Rattle.eos_evidence.proofs.SpecsWritten.{end_back, legal_next}
use Rattle.eos_evidence.proofs.manifest_writer.members_of_ends.Goals as goal

pub loop-end-init : goal.loop-end-init
loop-end-init c = record { so_far = none_written _ c.args.ends.now c.new-members.ensures.empty; legal = c.requires.legal }

pub loop-end-preserved : goal.loop-end-preserved
loop-end-preserved c =
    let legal = legal_next _ _ c.end-item.result c.loop-end-test.true c.end-item.is c.loop-end.invariant.legal in
    let reads = end_back c.end-item.result _ _ legal.0 c.in_ok-name.ensures.text c.value_of_end.ensures.value c.in_ok-name.ensures.fits c.value_of_end.ensures.fits in
    record {
      so_far = one_inserted _ _ _ _ _ _ c.end-item.result c.loop-end.invariant.so_far c.in_ok-insert.ensures.entries c.loop-end-test.true c.end-item.is c.requires.ascending reads (ap depth c.value_of_end.ensures.value);
      legal = legal.1;
    }
