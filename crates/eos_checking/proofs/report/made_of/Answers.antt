use Rattle.std.proofs.Common.{subst}
use Rattle.eos_notes.specs.declared.tally.Tallies.{Tallies}
use Rattle.eos_checking.specs.Checking.{AreMade}
use Rattle.eos_checking.specs.declared.check.Made.{Made}
use Rattle.eos_checking.proofs.Dated.{with_dates}
use Rattle.eos_checking.proofs.report.made_of.Goals as goal

pub returns-clause-made : goal.returns-clause-made
returns-clause-made g c = λ order.
    let report = rw c.as_slice.ensures.value at c.in_ok-report.ensures in
    let page = rw c.as_slice.ensures.value at c.in_ok-page.ensures in
    let made : Made = record { report = c.in_ok-report.report; page = c.in_ok-page.page } in
    let says : AreMade c.args.wanted c.args.told.verdict.now c.args.told.faults.now c.args.told.dates.now c.in_ok-notes.notes.items c.in_ok-tallies.tallies made = record { report = report; page = page } in
    record {
      notes = c.in_ok-notes.notes.items;
      by = c.in_ok-notes.ensures order;
      says = subst (λ (t : Tallies). AreMade c.args.wanted c.args.told.verdict.now c.args.told.faults.now c.args.told.dates.now c.in_ok-notes.notes.items t made) (c.in_ok-tallies.ensures order) says;
    }

pub returns-clause-dated : goal.returns-clause-dated
returns-clause-dated g c =
    with_dates c.args.wanted.about c.args.told.verdict.now c.args.told.faults.now c.args.told.dates.now _ _ c.args.wanted.report _ c.in_ok-report.ensures
