use Rattle.std.proofs.Common.{rules, ◌≡◌, List, ◌++◌, refl, sym, subst, ap, ◌∙◌, append_assoc}
use Rattle.std.proofs.lemmas.Result.{IfOk-weaker}
use Rattle.eos_commits.specs.Tables.{IsTableOf}
use Rattle.eos_evidence.specs.declared.application.App.{App}
use Rattle.eos_evidence.specs.declared.ends.End.{End}
use Rattle.eos_notes.specs.declared.note.Note.{Note}
use Rattle.eos_notes.specs.CommitNotes.{AreUnlistedNotes, past_ends, nothing_committed, behind}
use Rattle.eos_notes.specs.ManifestNotes.{no_application, absent_topics, gaps, absent_internals}
use Rattle.eos_notes.specs.Notes.{of_all}
use Rattle.eos_notes.proofs.evidence_notes.push_notes.Goals as goal

last : List Note → List Note → List Note → List App → List End → List Note
last past nothing behind apps ends = past ++ (absent_topics ends apps ++ (gaps apps ends ++ (nothing ++ (absent_internals ends ++ behind))))

pub returns : goal.returns
unfolding last
returns c = λ order.
    let spec = c.args.spec.now in
    let logs = c.args.parts.now in
    let old = c.args.all.now.items in
    let apps : c.as_slice-apps.result.now ≡ spec.apps = search rules in
    let ends : c.as_slice-ends.result.now ≡ spec.ends = search rules in
    let u = c.in_ok-push_unlisted.ensures logs (subst (λ (xs : List App). IsTableOf xs logs c.args.table.now) (sym apps) c.requires) in
    let are = subst (λ (xs : List App). AreUnlistedNotes spec.ends logs xs u.0) apps (subst (λ (es : List End). AreUnlistedNotes es logs c.as_slice-apps.result.now u.0) ends u.1) in
    let found = c.in_ok-found.ensures in
    let first : List Note = no_application spec.apps in
    let past = found.past_ends order ∙ ap (past_ends logs) apps in
    let nothing = found.nothing ∙ ap (nothing_committed logs) apps in
    let late = found.behind order ∙ ap (behind logs) apps in
    let rest : List Note = last (past_ends logs spec.apps) (nothing_committed logs spec.apps) (behind logs spec.apps) spec.apps spec.ends in
    let before : c.push_unlisted.new.all.items ≡ (old ++ first) ++ u.0 =
    u.2 ∙ ap (λ (ns : List Note). ns ++ u.0) (c.in_ok-push_no_application.ensures ∙ ap (λ (xs : List App). old ++ no_application xs) apps) in
    let all : c.push_unlisted.new.all.items ++ last c.in_ok-found.found.past_ends.items c.in_ok-found.found.nothing.items c.in_ok-found.found.behind.items c.as_slice-apps.result.now c.as_slice-ends.result.now ≡ old ++ (first ++ (u.0 ++ rest)) =
    (λ j. before j ++ last (past j) (nothing j) (late j) (apps j) (ends j)) ∙ (append_assoc (old ++ first) u.0 rest ∙ append_assoc old first (u.0 ++ rest)) in
    IfOk-weaker c.push_all.result _ _ (λ _ pushed. (of_all spec logs u.0, (u.0, are, refl), pushed ∙ all)) c.push_all.ensures
