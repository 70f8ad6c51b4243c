use Rattle.std.proofs.Common.{◌∙◌, ap, map, string_bytes}
use Rattle.std.specs.Option.{option_copied}
use Rattle.eos_explaining.specs.Lines.{with_line}
use Rattle.eos_explaining.specs.Told.{told_lines}
use Rattle.eos_explaining.proofs.LinesTimed.{time_there, line_more, lines_done}
use Rattle.eos_explaining.proofs.told.told_lines.Goals as goal

pub loop-i-preserved : goal.loop-i-preserved
loop-i-preserved c = λ time_of same.
    let place = option_copied c.args.place in
    let all = c.args.rows.now in
    let row = c.index-rows-i.result in
    let time = c.time_at.ensures (time_of row) (time_there time_of c.args.times.now all c.loop-i.i row same c.loop-i-test.true c.index-rows-i.is) in
    let line = c.in_ok-line.ensures time_of time in
    line_more place time_of all c.loop-i.i row (map string_bytes c.loop-i.said.items) (map string_bytes c.add_line.new.said.items) (told_lines place time_of all) c.loop-i-test.true c.index-rows-i.is
    (c.in_ok-add_line.ensures ∙ ap (with_line (map string_bytes c.loop-i.said.items)) line) (c.loop-i.invariant time_of same)

pub returns : goal.returns
returns c = λ time_of same. lines_done (option_copied c.args.place) time_of c.args.rows.now c.loop-i.i (map string_bytes c.loop-i.said.items) c.loop-i-test.false (c.loop-i.invariant time_of same)
