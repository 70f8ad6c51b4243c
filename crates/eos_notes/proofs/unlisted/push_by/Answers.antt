use Rattle.std.proofs.Common.{◌≡◌, ◌++◌, ◌∙◌, [], List, refl, sym, ap, map, subst, append_assoc, take_all}
use Rattle.std.proofs.lemmas.List.{append-nil}
use Rattle.eos_claims.specs.Outputs.{Commit}
use Rattle.eos_commits.specs.declared.commits.CommitRef.{CommitRef}
use Rattle.eos_commits.specs.Plain.{plain_commit}
use Rattle.eos_commits.proofs.PushedMore.{item_has}
use Rattle.eos_commits.specs.EvidenceLogs.{commits_for}
use Rattle.eos_evidence.specs.declared.application.App.{App}
use Rattle.eos_notes.specs.CommitNotes.{unlisted_note, AreUnlisted, AreUnlistedNotes}
use Rattle.eos_notes.specs.declared.note.Note.{Note}
use Rattle.eos_notes.proofs.UnlistedNotes.{one_more}
use Rattle.eos_notes.proofs.unlisted.push_by.Goals as goal

pub loop-app-init : goal.loop-app-init
loop-app-init c = λ logs ends of perm. ([], refl, sym (append-nil c.args.all.now.items))

pub loop-app-preserved : goal.loop-app-preserved
loop-app-preserved c = λ logs ends of perm.
    let apps = c.args.apps.now in
    let i = c.loop-app.app-index in
    let app = c.app-item.result in
    let has = item_has apps i app c.loop-app-test.true c.app-item.is in
    let commits : map plain_commit c.as_slice.result.now ≡ commits_for logs app = ap (λ (cs : List CommitRef). map plain_commit cs) c.as_slice.ensures.value ∙ c.in_ok-commits.ensures.commits apps logs of has in
    let so_far = c.loop-app.invariant logs ends of perm in
    let p = c.in_ok-push_group.ensures ends perm in
    let are = subst (λ (cs : List Commit). AreUnlisted ends cs p.0) commits p.1 in
    let more : List Note = map (unlisted_note app.group) p.0 in (
      so_far.0 ++ more,
      one_more ends logs apps i app so_far.0 (so_far.0 ++ more) p.0 c.loop-app-test.true c.app-item.is so_far.1 are refl,
      p.2 ∙ (ap (λ (notes : List Note). notes ++ more) so_far.2 ∙ append_assoc c.args.all.now.items so_far.0 more),
    )

pub returns : goal.returns
returns c = λ logs ends of perm.
    let so_far = c.loop-app.invariant logs ends of perm in
    (so_far.0, subst (λ (apps : List App). AreUnlistedNotes ends logs apps so_far.0) (take_all c.loop-app.app-index c.args.apps.now c.loop-app-test.false) so_far.1, so_far.2)
