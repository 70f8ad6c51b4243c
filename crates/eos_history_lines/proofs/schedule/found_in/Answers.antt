use Rattle.std.proofs.Common.{◌≡◌, ◌<◌, ◌++◌, ◌∷◌, [], None, ℕ, List, length, length-append, refl, sym, ap, subst, ◌∙◌, arith}
use Rattle.eos_history_lines.specs.declared.line.Line.{Line}
use Rattle.eos_history_lines.specs.Divided.{lines_of}
use Rattle.eos_history_lines.proofs.FileLines.{Read, line_and_rest, shorter, read_none, read_all, split_more, refused_here}
use Rattle.eos_history_lines.proofs.schedule.found_in.Goals as goal

pub loop-rest-init : goal.loop-rest-init
loop-rest-init c = subst (λ (ls : List Line). Read c.args.text.now c.args.text.now ls None 2) (sym (c.new-2.ensures ∙ c.new.ensures.items)) (read_none c.args.text.now)

pub loop-rest-preserved : goal.loop-rest-preserved
loop-rest-preserved c =
    let some : 0 < length c.loop-rest.rest.now = grind (arith, c.is_empty.ensures, c.loop-rest-test.true) in
    let line = c.first_line.result.0.now in
    let texts = c.loop-rest.invariant.texts in
    let first = line_and_rest c.loop-rest.rest.now line _ some c.first_line.ensures in
    record {
      texts = texts ++ line ∷ [];
      split = split_more c.args.text.now c.loop-rest.rest.now line _ texts c.loop-rest.invariant.split first ∙ ap (λ r. (texts ++ line ∷ []) ++ lines_of r) (sym c.after_feed-rest.ensures);
      rows = c.in_default.ensures.ok texts c.loop-rest.invariant.rows;
      number_is = omega (arith, c.saturating_add-number.ensures, c.loop-rest.invariant.number_is, length-append texts (line ∷ []));
    }

pub loop-rest-smaller : goal.loop-rest-smaller
loop-rest-smaller c =
    let some : 0 < length c.loop-rest.rest.now = grind (arith, c.is_empty.ensures, c.loop-rest-test.true) in
    subst (λ (r : List ℕ). length r < length c.loop-rest.rest.now) (sym c.after_feed-rest.ensures) (shorter c.loop-rest.rest.now c.first_line.result.0.now _ some c.first_line.ensures)

pub returns-clause-ok : goal.returns-clause-ok
returns-clause-ok c =
    let none : length c.loop-rest.rest.now ≡ 0 = grind (arith, c.is_empty.ensures, c.loop-rest-test.false) in
    read_all _ _ _ _ _ c.loop-rest.invariant none

pub returns-in-Err-clause-err : goal.returns-in-Err-clause-err
returns-in-Err-clause-err c =
    let some : 0 < length c.loop-rest.rest.now = grind (arith, c.is_empty.ensures, c.loop-rest-test.true) in
    let line = c.first_line.result.0.now in
    refused_here c.args.text.now c.loop-rest.rest.now line _ _ _ _ _ c.loop-rest.invariant (line_and_rest c.loop-rest.rest.now line _ some c.first_line.ensures) refl c.in-Err.ensures.err
