use Rattle.std.proofs.Common.{refl}
use Rattle.eos_checking.proofs.Dated.{has_dates}
use Rattle.eos_checking.proofs.Reports.{reports}
use Rattle.eos_checking.proofs.source.report_on.Goals as goal

pub returns-in_ok-made-in-Some-clause-made : goal.returns-in_ok-made-in-Some-clause-made
returns-in_ok-made-in-Some-clause-made g c = λ order.
    reports c.args.spec.now c.args.judged.now c.args.faults.told.now c.args.asked.now.report c.in-Some.wanted _ _ c.in-Some.is refl refl c.as_slice.ensures.value c.as_slice-in-Some.ensures.value refl refl (c.in_ok-made-in-Some.ensures.made order)

pub returns-in_ok-made-in-Some-clause-dated : goal.returns-in_ok-made-in-Some-clause-dated
returns-in_ok-made-in-Some-clause-dated g c =
    has_dates c.args.asked.now.report c.in-Some.wanted c.args.faults.told.now c.args.faults.dates.now c.in_ok-made-in-Some.made c.in-Some.is c.in_ok-made-in-Some.ensures.dated
