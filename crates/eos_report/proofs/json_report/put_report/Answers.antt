use Rattle.std.proofs.Common.{[], ◌∙◌, ap, codes}
use Rattle.serde_json.specs.Data.{Members, array, boolean, object, put}
use Rattle.eos_report.specs.Reports.{note_items, report_value, with_about, with_verdict}
use Rattle.eos_report.specs.TallyValues.{with_tallies}
use Rattle.eos_report.proofs.json_report.put_report.Goals as goal

-- in the order of their names
pub returns : goal.returns
unfolding report_value
returns c =
    let found = c.args.found in
    let dates = found.dates.now in
    let times = c.in_ok-put_times.ensures in
    let of : Members → Members = λ ms. with_tallies found.tallies.now (put (codes "notes") (array (note_items found.notes.now)) (with_verdict found.verdict.now [] dates.of_faults (with_about c.args.about ms))) in (
      times.0,
      times.1,
      ap object (c.in_ok-put_flag.ensures
          ∙ ap (put (codes "timestamps_read") (boolean dates.read)) (times.2
          ∙ ap (put (codes "seconds") times.0) (c.in_ok-put_findings.ensures ∙ ap of c.requires))),
    )
