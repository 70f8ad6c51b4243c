-- The notes of partitions that aren't in `ends`, one application further.
use Rattle.std.proofs.Common.{◌≡◌, ℕ, ◌+◌, ◌<◌, List, [], ◌∷◌, ◌++◌, length, take, get_or, map, refl, sym, ap, subst, ◌∙◌, append_assoc}
use Rattle.std.proofs.lemmas.List.{append-nil, take_more}
use Rattle.eos_base.specs.declared.partition_name.PartitionName.{PartitionName}
use Rattle.eos_evidence.specs.declared.application.App.{App}
use Rattle.eos_evidence.specs.declared.ends.End.{End}
use Rattle.eos_fold.specs.Parts.{PartLog}
use Rattle.eos_notes.specs.declared.note.Note.{Note}
use Rattle.eos_commits.specs.EvidenceLogs.{commits_for}
use Rattle.eos_notes.specs.CommitNotes.{unlisted_note, AreUnlisted, AreUnlistedNotes}

behind_all : (ends : List End) (logs : List PartLog) (apps : List App) (app : App) (before : List Note) (names : List PartitionName) → AreUnlistedNotes ends logs apps before
    → AreUnlisted ends (commits_for logs app) names → AreUnlistedNotes ends logs (apps ++ app ∷ []) (before ++ map (unlisted_note app.group) names)
behind_all ends logs [] app before names none are =
    (names, [], are, refl, ap (λ (notes : List Note). notes ++ map (unlisted_note app.group) names) none ∙ sym (append-nil (map (unlisted_note app.group) names)))
behind_all ends logs (a ∷ apps) app before names h are =
    let rest = h.1 in
    let more = behind_all ends logs apps app rest names h.3 are in (
      h.0,
      rest ++ map (unlisted_note app.group) names,
      h.2,
      more,
      ap (λ (notes : List Note). notes ++ map (unlisted_note app.group) names) h.4 ∙ append_assoc (map (unlisted_note a.group) h.0) rest (map (unlisted_note app.group) names),
    )

pub one_more : (ends : List End) (logs : List PartLog) (apps : List App) (i : ℕ) (app : App) (before after : List Note) (names : List PartitionName) → i < length apps → app ≡ get_or apps i app
    → AreUnlistedNotes ends logs (take i apps) before → AreUnlisted ends (commits_for logs app) names → after ≡ before ++ map (unlisted_note app.group) names
    → AreUnlistedNotes ends logs (take (i + 1) apps) after
one_more ends logs apps i app before after names lt is so_far are pushed =
    let taken : take (i + 1) apps ≡ take i apps ++ app ∷ [] = take_more apps i app lt ∙ ap (λ (a : App). take i apps ++ a ∷ []) (sym is) in
    subst (λ (xs : List App). AreUnlistedNotes ends logs xs after) (sym taken)
    (subst (AreUnlistedNotes ends logs (take i apps ++ app ∷ [])) (sym pushed) (behind_all ends logs (take i apps) app before names so_far are))
