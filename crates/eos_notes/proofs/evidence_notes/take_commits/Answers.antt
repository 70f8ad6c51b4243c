use Rattle.std.proofs.Common.{◌++◌, ◌∙◌, ap, List}
use Rattle.eos_claims.specs.Outputs.{committed_offset}
use Rattle.eos_commits.specs.Applications.{application_of}
use Rattle.eos_notes.specs.declared.note.Note.{Note}
use Rattle.eos_commits.specs.EvidenceLogs.{commits_for}
use Rattle.eos_notes.specs.CommitNotes.{behind_by}
use Rattle.eos_notes.proofs.PartTables.{past_filtered, same_inputs}
use Rattle.eos_notes.proofs.evidence_notes.take_commits.Goals as goal

pub returns-clause-past_ends : goal.returns-clause-past_ends
returns-clause-past_ends c = λ offsets.
    let logs = c.args.parts.now in
    let app = c.args.app.now in
    let pushed = c.in_ok-push_past_ends.ensures (committed_offset (commits_for logs app)) offsets in
    pushed ∙ ap (λ (notes : List Note). c.args.found.now.past_ends.items ++ notes) (past_filtered logs app c.args.sources.now c.requires.sources)

pub returns-clause-behind : goal.returns-clause-behind
returns-clause-behind c = λ offsets.
    let logs = c.args.parts.now in
    let app = c.args.app.now in
    let counts = c.in_ok-count.ensures (application_of app logs) offsets (same_inputs logs app c.args.sources.now c.requires.sources) in
    c.in_ok-push_behind.ensures ∙ (λ i. c.args.found.now.behind.items ++ behind_by app.group (counts.0 i) (counts.1 i))
