use Rattle.std.proofs.Common.{◌≡◌, ◌∙◌, List, map, ap}
use Rattle.eos_claims.specs.Outputs.{Commit, committed_offset}
use Rattle.eos_commits.specs.Commits.{commits_of}
use Rattle.eos_commits.specs.declared.commits.CommitRef.{CommitRef}
use Rattle.eos_commits.specs.EvidenceLogs.{commits_for}
use Rattle.eos_commits.specs.Plain.{plain_commit}
use Rattle.eos_fold.specs.Parts.{part_name}
use Rattle.eos_notes.proofs.group_rows.group_tally.Goals as goal

pub returns : goal.returns
returns c = λ order.
    let parts = c.args.parts.now in
    let commits : map plain_commit c.as_slice-commits.result.now ≡ commits_for parts c.args.app.now =
    ap (λ (cs : List CommitRef). map plain_commit cs) c.as_slice-commits.ensures.value ∙ (c.in_ok-commits.ensures.commits ∙ (λ j. commits_of (c.as_bytes.ensures j) (c.as_slice-topics.ensures j) parts)) in
    c.group_tally_by.ensures (c.as_slice.ensures.value ∙ (c.in_ok-offsets.ensures order ∙ ap (λ (cs : List Commit). map (committed_offset cs) (map part_name parts)) commits))
