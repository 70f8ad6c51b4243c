-- The text reads back as the report, since that nests no deeper than it may.
use Rattle.std.proofs.Common.{List, string_bytes, subst}
use Rattle.eos_report.specs.declared.dates.Timestamps.{Timestamps}
use Rattle.eos_report.specs.steps.Frames.{IsFilled}
use Rattle.eos_report.proofs.Depths.{timed_depth}
use Rattle.eos_report.proofs.FilledReports.{may_open, reads_report}
use Rattle.eos_report.proofs.json_report.report_text.Goals as goal

pub filled-requires : goal.filled-requires
filled-requires c =
    let frame = c.in_ok-frame.ensures in
    let found = c.args.found in
    may_open c.args.about found.verdict.now found.dates.now found.notes.now found.tallies.now frame.seconds (string_bytes c.in_ok-frame.frame) frame.is

pub returns-clause-timed : goal.returns-clause-timed
returns-clause-timed c =
    let frame = c.in_ok-frame.ensures in
    let found = c.args.found in
    let framed = string_bytes c.in_ok-frame.frame in
    let filled = subst (λ (ts : List Timestamps). IsFilled found.verdict.now found.faults.now ts framed (string_bytes c.in_ok-text.text)) c.as_slice.ensures c.in_ok-text.ensures in
    let shallow = timed_depth c.args.about found.verdict.now found.faults.now found.dates.now found.notes.now found.tallies.now c.args.times frame.seconds frame.are in
    record {
      seconds = frame.seconds;
      are = frame.are;
      line = string_bytes c.in_ok-text.text;
      ends = c.in_ok-push_str.ensures.bytes;
      reads = reads_report c.args.about found.verdict.now found.faults.now found.dates.now found.notes.now found.tallies.now frame.seconds framed (string_bytes c.in_ok-text.text) shallow frame.is filled;
    }

pub returns-clause-says : goal.returns-clause-says
returns-clause-says c =
    let timed = returns-clause-timed c in
    record {
      seconds = timed.seconds;
      line = timed.line;
      ends = timed.ends;
      reads = timed.reads;
    }
