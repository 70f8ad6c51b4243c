use Rattle.std.proofs.Common.{List, is_some, string_bytes, inr, subst}
use Rattle.std.proofs.lemmas.Result.{err_from_is_err_and}
use Rattle.eos_check.specs.Judged.{IsJudged}
use Rattle.eos_evidence.specs.SpecFields.{SpecFields}
use Rattle.eos_kept.specs.Faults.{first_of}
use Rattle.eos_notes.specs.Lines.{IsAllNotesTextBy}
use Rattle.eos_reading.specs.declared.epoch.EpochEntry.{EpochEntry}
use Rattle.eos_source.specs.Said.{known_by}
use Rattle.eos_source_check.proofs.VerdictKept.{judged_of}
use Rattle.eos_source_check.proofs.judged.judge_noted.Goals as goal

pub returns-clause-judged : goal.returns-clause-judged
returns-clause-judged g c =
    let logs = c.in_ok-logs.logs in
    let answer = subst (λ (s : SpecFields). IsJudged s.apps logs.parts.items (first_of logs.faults.items) c.in_ok-verdict.verdict) c.spec.ensures.value c.in_ok-verdict.ensures.verdict in
    judged_of (known_by (g.S.Source.said c.args.source.now) (g.S.Source.is_log c.args.source.now)) c.args.shape.now c.in_ok-kept.kept _ c.in_ok-kept.ensures.logs c.in_ok-logs.ensures.logs c.in_ok-logs.ensures.epochs answer

pub returns-clause-notes : goal.returns-clause-notes
returns-clause-notes g c = λ order.
    let logs = c.in_ok-logs.logs in
    let quiet = c.args.by.quiet in
    let text = string_bytes c.in_ok-verdict.notes in
    let faulty = is_some (first_of logs.faults.items) in
    let of_spec = subst (λ (s : SpecFields). IsAllNotesTextBy s logs.parts.items c.as_slice.result.now faulty quiet text) c.spec.ensures.value (c.in_ok-verdict.ensures.notes order) in
    subst (λ (epochs : List (List EpochEntry)). IsAllNotesTextBy c.args.shape.now.spec logs.parts.items epochs faulty quiet text) c.as_slice.ensures.value of_spec

pub returns-clause-opened : goal.returns-clause-opened
returns-clause-opened g c = c.in_ok-kept.ensures.opened

pub returns-in_err-kept-clause-refused : goal.returns-in_err-kept-clause-refused
returns-in_err-kept-clause-refused g c =
    let p = err_from_is_err_and c.from_residual.result c.from_residual.ensures.1 in
    rw (p.1, p.2) c.in_err-kept.ensures.refused

-- memory ran out
pub returns-in_err-logs-clause-refused : goal.returns-in_err-logs-clause-refused
returns-in_err-logs-clause-refused g c =
    let p = err_from_is_err_and c.from_residual-in_err-logs.result c.from_residual-in_err-logs.ensures.1 in
    rw p.1 (inr p.2)

pub returns-in_err-verdict-clause-refused : goal.returns-in_err-verdict-clause-refused
returns-in_err-verdict-clause-refused g c =
    let p = err_from_is_err_and c.from_residual-in_err-verdict.result c.from_residual-in_err-verdict.ensures.1 in
    rw p.1 (inr p.2)
