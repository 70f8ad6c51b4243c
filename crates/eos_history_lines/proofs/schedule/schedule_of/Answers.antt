use Rattle.std.proofs.Common.{◌<◌, ◌∷◌, Err, IfErr, length, refl, sym, ap, subst, ◌∙◌, arith}
use Rattle.std.proofs.lemmas.Result.{err_from_is_err_and}
use Rattle.eos_history_lines.specs.Divided.{lines_of}
use Rattle.eos_history_lines.specs.Refusals.{IsRefusal}
use Rattle.eos_history_lines.proofs.FileLines.{line_and_rest, no_line, no_head, no_row}
use Rattle.eos_history_lines.proofs.schedule.schedule_of.Goals as goal

pub returns-clause-ok : goal.returns-clause-ok
returns-clause-ok c =
    let some : 0 < length c.args.text.now = grind (arith, c.is_empty.ensures, c.if-is_empty.false) in
    let first = c.first_line.result.0.now in
    record {
      first = first;
      others = lines_of c.after_feed.result.now;
      parts = line_and_rest c.args.text.now first _ some c.first_line.ensures ∙ ap (λ r. first ∷ lines_of r) (sym c.after_feed.ensures);
      begins = c.in-Ok.ensures.ok;
      rows = c.in_ok-lines.ensures.ok;
    }

pub returns-then-is_empty-clause-err : goal.returns-then-is_empty-clause-err
returns-then-is_empty-clause-err c = no_line c.args.text.now _ (grind (arith, c.is_empty.ensures, c.if-is_empty.true)) refl refl

pub returns-in-Err-clause-err : goal.returns-in-Err-clause-err
returns-in-Err-clause-err c =
    let some : 0 < length c.args.text.now = grind (arith, c.is_empty.ensures, c.if-is_empty.false) in
    no_head c.args.text.now c.first_line.result.0.now _ _ (line_and_rest c.args.text.now c.first_line.result.0.now _ some c.first_line.ensures) refl
    (record { json = λ e u. c.in-Err.ensures.json (ap Err e) u; none = c.in-Err.ensures.err })

pub returns-in_err-lines-clause-err : goal.returns-in_err-lines-clause-err
returns-in_err-lines-clause-err c =
    let some : 0 < length c.args.text.now = grind (arith, c.is_empty.ensures, c.if-is_empty.false) in
    let first = c.first_line.result.0.now in
    let parts = line_and_rest c.args.text.now first _ some c.first_line.ensures ∙ ap (λ r. first ∷ lines_of r) (sym c.after_feed.ensures) in
    let p = err_from_is_err_and c.from_residual.result c.from_residual.ensures.1 in
    subst (λ r. IfErr r (IsRefusal (lines_of c.args.text.now))) (sym p.1)
    (subst (IsRefusal (lines_of c.args.text.now)) (sym p.2) (no_row c.args.text.now first (lines_of c.after_feed.result.now) c.in-Ok.head _ parts c.in-Ok.ensures.ok c.in_err-lines.ensures.err))
