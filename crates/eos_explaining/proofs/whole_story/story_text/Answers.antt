use Rattle.std.proofs.Common.{◌∙◌, ap, sym, subst, ◌++◌, ℕ, List, map, take}
use Rattle.std.specs.Option.{option_copied}
use Rattle.eos_text.proofs.Appended.{then}
use Rattle.eos_explaining.specs.Lines.{AreAmong}
use Rattle.eos_explaining.specs.Stories.{lines_of_story, rows_text, page_text, notes_text, next_text, story_text}
use Rattle.eos_explaining.specs.Told.{told_line}
use Rattle.eos_explaining.proofs.LinesOnce.{each_once, front_of_all}
use Rattle.eos_explaining.proofs.LinesShown.{first_among}
use Rattle.eos_explaining.proofs.whole_story.story_text.Goals as goal

pub returns-clause-text : goal.returns-clause-text
unfolding story_text
returns-clause-text c = λ time_of same.
    let s = c.args.story.now in
    let rest = then (c.in_ok-push_rows.ensures time_of same) (then c.in_ok-push_page.ensures (then c.in_ok-push_text.ensures (then c.in_ok-push_notes.ensures c.in_ok-push_next.ensures))) in
    rest.whole ∙ ap (λ (l : List ℕ). l ++ (rows_text (lines_of_story time_of s) ++ (page_text (option_copied s.place) s.rows.now (option_copied s.page) ++ (s.counts.now ++ (notes_text s.notes.now ++ next_text s))))) c.in_ok-text.ensures

pub returns-clause-once : goal.returns-clause-once
returns-clause-once c = λ time_of. each_once (map (told_line (option_copied c.args.story.now.place) time_of) c.args.story.now.rows.now)

pub returns-clause-shown : goal.returns-clause-shown
returns-clause-shown c = λ time_of.
    let s = c.args.story.now in
    let told = told_line (option_copied s.place) time_of in
    subst (λ (l : List (List ℕ)). AreAmong (take 22 (lines_of_story time_of s)) l) (sym (front_of_all told 22 s.rows.now)) (first_among 22 (map told s.rows.now))
