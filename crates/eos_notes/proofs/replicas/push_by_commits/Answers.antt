use Rattle.std.proofs.Common.{rules, ◌≡◌, List, ◌++◌, map, refl, ap, ◌∙◌, append_assoc}
use Rattle.eos_fold.specs.Parts.{part_name}
use Rattle.eos_notes.specs.declared.note.Note.{Note}
use Rattle.eos_notes.specs.ReplicaNotes.{falls}
use Rattle.eos_notes.specs.ReplacedNotes.{others}
use Rattle.eos_notes.proofs.replicas.push_by_commits.Goals as goal

pub returns : goal.returns
returns c = λ order.
    let logs = c.args.logs.parts.now in
    let epochs = c.args.logs.epochs.now in
    let apps : c.as_slice-apps.result.now ≡ c.args.spec.now.apps = search rules in
    let old = c.args.all.now.items in
    let replaced : List Note = others logs epochs c.args.spec.now.apps in
    let fallen : List Note = falls (map part_name logs) epochs in
    let first = c.in_ok-push_notes.ensures order in
    let pushed = c.in_ok-push_others.ensures order ∙ ap (λ xs. c.push_falls.new.all.items ++ others logs epochs xs) apps in (
      first.0 ++ (fallen ++ replaced),
      (first.0, first.1, refl),
      pushed
          ∙ (ap (λ (ns : List Note). ns ++ replaced) (c.in_ok-push_falls.ensures ∙ ap (λ (ns : List Note). ns ++ fallen) first.2)
          ∙ (append_assoc (old ++ first.0) fallen replaced ∙ append_assoc old first.0 (fallen ++ replaced))),
    )
