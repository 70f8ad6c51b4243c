use Rattle.std.proofs.Common.{◌∙◌, map, ap}
use Rattle.std.specs.List.{filter}
use Rattle.eos_claims.specs.Outputs.{committed_offset}
use Rattle.eos_commits.specs.EvidenceLogs.{commits_for}
use Rattle.eos_notes.specs.GroupTallies.{source_tally}
use Rattle.eos_notes.proofs.SourceRows.{same_parts}
use Rattle.eos_notes.proofs.group_rows.group_tally_by.Goals as goal

pub returns : goal.returns
returns c = λ offsets.
    let committed = committed_offset (commits_for c.args.parts.now c.args.app.now) in
    let rows = c.in_ok-sources.ensures committed offsets ∙ ap (λ q. map (source_tally committed) (filter q c.args.parts.now)) (same_parts c.args.app.now.sources c.args.sources.now c.requires) in
    λ i. record { group = c.in_ok-clone.ensures.cases i; sources = (c.new.ensures ∙ rows) i }
