use Rattle.std.proofs.Common.{◌≡◌, ◌∙◌, ℕ, ℤ, List, sym, ap, subst}
use Rattle.std.proofs.lemmas.Result.{err_from_is_err_and}
use Rattle.eos_source.specs.Said.{known_by}
use Rattle.eos_source_check.specs.Times.{AreTimesEach}
use Rattle.eos_drawing.specs.Whens.{offsets_of}
use Rattle.eos_drawing.proofs.RowTimes.{times_sorted}
use Rattle.eos_drawing.proofs.when.times_of_row.Goals as goal

pub returns-clause-times : goal.returns-clause-times
returns-clause-times g c =
    let source = c.args.source.now in
    let known = known_by (g.S.Source.said source) (g.S.Source.is_log source) in
    let partitions = c.args.shape.now.partitions in
    let row = c.args.row.now in
    let times = c.in_ok-times.times.items in
    let offsets : c.in_ok-marked.marked.items ≡ offsets_of row.marks.items = c.in_ok-marked.ensures ∙ ap offsets_of c.as_slice.ensures.value in
    subst (λ (ts : List (ℕ × ℤ)). AreTimesEach known partitions row.name (offsets_of row.marks.items) ts) (sym c.new.ensures)
    (subst (λ (os : List ℕ). AreTimesEach known partitions row.name os times) offsets (times_sorted known partitions row.name c.in_ok-marked.marked.items c.of-offsets.result times c.of-offsets.ensures c.in_ok-times.ensures.times))

pub returns-in_err-times-clause-refused : goal.returns-in_err-times-clause-refused
returns-in_err-times-clause-refused g c =
    let p = err_from_is_err_and c.from_residual-in_err-times.result c.from_residual-in_err-times.ensures.1 in
    rw (p.1, p.2) (c.in_err-times.ensures.refused)
