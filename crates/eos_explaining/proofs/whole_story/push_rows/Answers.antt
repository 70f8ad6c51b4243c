use Rattle.std.proofs.Common.{◌≡◌, ◌∙◌, ap, map, take, length, OnOk, string_bytes, arith}
use Rattle.eos_text.specs.Adding.{Adds}
use Rattle.eos_explaining.specs.Lines.{joined}
use Rattle.eos_explaining.specs.Stories.{lines_of_story, rest_text, rows_text}
use Rattle.eos_explaining.proofs.LinesOnce.{as_many, front_of_all}
use Rattle.eos_explaining.proofs.LastCalls.{last}
use Rattle.eos_explaining.proofs.whole_story.push_rows.Goals as goal

pub returns : goal.returns
unfolding rows_text
returns c = λ time_of same.
    let all = lines_of_story time_of c.args.story.now in
    let lines_are = c.in_ok-lines.ensures time_of same in
    let told : map string_bytes c.as_slice.result.now ≡ all = ap (map string_bytes) c.as_slice.ensures.value ∙ lines_are in
    let first : map string_bytes c.shown_lines.result.now ≡ take 22 all = ap (map string_bytes) c.shown_lines.ensures ∙ (front_of_all string_bytes 22 c.as_slice.result.now ∙ ap (take 22) told) in
    let lines : Adds _ _ (joined (take 22 all)) = rw first at c.in_ok-push_joined.ensures in
    let many : c.len.result ≡ length all = omega (arith, c.len.ensures, c.in_ok-lines.lines.ok.0, as_many string_bytes _ all lines_are) in
    let rest : OnOk c.push_rest.result (Adds _ _ (rest_text 22 (length all))) = rw many at c.push_rest.ensures in
    last _ _ _ lines rest
