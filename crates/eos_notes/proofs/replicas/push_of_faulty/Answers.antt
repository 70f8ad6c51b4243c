use Rattle.std.proofs.Common.{rules, ◌≡◌, List, [], ◌++◌, map, refl, sym, ap, ◌∙◌, append_assoc}
use Rattle.std.proofs.lemmas.List.{append-nil}
use Rattle.eos_fold.specs.Parts.{part_name}
use Rattle.eos_notes.specs.declared.note.Note.{Note}
use Rattle.eos_notes.specs.ManifestNotes.{no_application, absent_topics, gaps, absent_internals}
use Rattle.eos_notes.specs.Notes.{of_manifest}
use Rattle.eos_notes.specs.ReplicaNotes.{falls}
use Rattle.eos_notes.proofs.replicas.push_of_faulty.Goals as goal

pub returns : goal.returns
returns c =
    let spec = c.args.spec.now in
    let apps : c.as_slice-apps.result.now ≡ spec.apps = search rules in
    let ends : c.as_slice-ends.result.now ≡ spec.ends = search rules in
    let old = c.args.all.now.items in
    let first : List Note = of_manifest spec in
    let fallen : List Note = falls (map part_name c.args.logs.parts.now) c.args.logs.epochs.now in
    let manifest : c.push_of_manifest.new.all.items ≡ old ++ first =
    c.in_ok-push_of_manifest.ensures ∙ (λ j. old ++ (no_application (apps j) ++ (absent_topics (ends j) (apps j) ++ (gaps (apps j) (ends j) ++ absent_internals (ends j))))) in (
      first ++ (fallen ++ []),
      (first, refl, refl),
      c.in_ok-push_falls.ensures
          ∙ (ap (λ (ns : List Note). ns ++ fallen) manifest ∙ (append_assoc old first fallen ∙ ap (λ (ns : List Note). old ++ (first ++ ns)) (sym (append-nil fallen)))),
    )
