use Rattle.std.proofs.Common.{subst}
use Rattle.std.proofs.lemmas.Result.{on_ok_weaker}
use Rattle.eos_faults.specs.declared.ranges.Range.{Range}
use Rattle.eos_faults.specs.steps.Ranges.{is_within, AreFaultsWithin}
use Rattle.eos_faults.proofs.RangesJoined.{range_next}
use Rattle.eos_faults.proofs.by_range.faults_at.Goals as goal

pub returns : goal.returns
returns g c =
    let bounds = c.args.ground.now.bounds.now in
    on_ok_weaker c.faults_within.result (λ told. record {
      list = told.0;
      taken = told.1;
      leads = λ a reads are sorted. range_next a bounds sorted c.args.number c.requires told.0 (subst (λ (r : Range). AreFaultsWithin (is_within r) a told.0) c.range_at-range.ensures (told.2 a reads are));
    }) c.faults_within.ensures
