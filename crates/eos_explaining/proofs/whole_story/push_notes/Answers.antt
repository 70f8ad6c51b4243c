use Rattle.std.proofs.Common.{◌∙◌, ap, take}
use Rattle.std.proofs.lemmas.List.{take_min}
use Rattle.eos_notes.specs.Texts.{note_lines}
use Rattle.eos_text.specs.Adding.{Adds}
use Rattle.eos_explaining.specs.Stories.{notes_text}
use Rattle.eos_explaining.proofs.LastCalls.{last}
use Rattle.eos_explaining.proofs.whole_story.push_notes.Goals as goal

pub returns : goal.returns
unfolding notes_text
returns c =
    let notes = c.args.notes.now in
    let first = ap (λ n. note_lines (take n notes)) c.min.ensures ∙ ap note_lines (take_min 6 notes) in
    let lines : Adds _ _ (note_lines (take 6 notes)) = rw (c.as_str.ensures.value ∙ (c.in_ok-lines.ensures ∙ first)) at c.in_ok-push_text.ensures in
    last _ _ _ lines c.push_rest.ensures
