use Rattle.std.proofs.Common.{◌∙◌, ap}
use Rattle.std.specs.List.{before_first}
use Rattle.std.specs.Option.{option_copied}
use Rattle.eos_text.specs.Adding.{Adds}
use Rattle.eos_text.proofs.Appended.{then}
use Rattle.eos_explaining.specs.Lines.{is_end, terms_text}
use Rattle.eos_explaining.specs.RowLines.{row_line}
use Rattle.eos_explaining.specs.Told.{when_text, told_line}
use Rattle.eos_explaining.proofs.told.told_line.Goals as goal

pub returns : goal.returns
unfolding told_line
returns c = λ time_of same.
    let front = c.front_of.ensures ∙ ap (before_first is_end) (c.as_str.ensures.value ∙ c.in_ok-whole.ensures) in
    let parts : Adds _ _ (terms_text (before_first is_end (row_line (option_copied c.args.place) c.args.row.now))) = rw front at c.in_ok-push_terms.ensures in
    let time : Adds _ _ (when_text (time_of c.args.row.now)) = rw same at c.in_ok-push_when.ensures in
    let line = then parts (then time c.in_ok-push_text.ensures) in
    rw c.new-line.ensures.bytes at line.whole
