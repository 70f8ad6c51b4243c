use Rattle.std.proofs.Common.{◌≡◌, ◌++◌, ◌∙◌, List, flat_map, sym, ap, append_assoc}
use Rattle.std.specs.Ordering.{nat_cmp}
use Rattle.std.specs.Cmp.Lexicographic.{slice_cmp}
use Rattle.std.proofs.lemmas.Grind.{flat_map-append}
use Rattle.eos_base.specs.Members.{is_found}
use Rattle.eos_commits.specs.Commits.{Topic}
use Rattle.eos_notes.specs.declared.note.Note.{Note}
use Rattle.eos_notes.specs.ManifestNotes.{absent_topic}
use Rattle.eos_notes.proofs.manifest.push_absent_in.Goals as goal

pub returns : goal.returns
returns c =
    let app = c.args.app.now in
    let old = c.args.all.now.items in
    let noted : Topic → List Note = absent_topic (is_found (slice_cmp nat_cmp) c.args.present.now) app.group in
    let read : List Note = flat_map noted app.sources in
    let written : List Note = flat_map noted app.outputs in
    let first : c.push_absent_among.new.all.items ≡ old ++ read = c.in_ok-push_absent_among.ensures ∙ ap (λ (topics : List Topic). old ++ flat_map noted topics) c.as_slice.ensures in
    c.in_ok-push_absent_among-2.ensures
    ∙ ((λ j. first j ++ flat_map noted (c.as_slice-2.ensures j)) ∙ (append_assoc old read written ∙ ap (λ (notes : List Note). old ++ notes) (sym (flat_map-append noted app.sources app.outputs))))
