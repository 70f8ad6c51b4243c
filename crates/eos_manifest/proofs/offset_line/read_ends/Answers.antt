use Rattle.std.proofs.Common.{◌≡◌, ◌<◌, ◌∙◌, sym, ap, ℕ, length, subst, arith, Err}
use Rattle.eos_manifest.specs.Lines.{ends_said_by}
use Rattle.eos_manifest.proofs.TextPieces.{line_and_rest, line_bad, line_good, no_line, shorter}
use Rattle.eos_manifest.proofs.offset_line.read_ends.Goals as goal

pub returns-in_default-clause-line : goal.returns-in_default-clause-line
returns-in_default-clause-line c = λ number e.
    let some : 0 < length c.loop-rest.rest.now = grind (arith, c.is_empty.ensures, c.loop-rest-test.true) in
    let split = line_and_rest c.loop-rest.rest.now c.first_piece.result.0.now _ some c.first_piece.ensures in
    let none = sym c.in_default.is ∙ c.in_ok-end.ensures in
    let same : c.loop-rest.number ≡ number = cc e in
    subst (λ (n : ℕ). ends_said_by c.args.text.now ≡ Err n) same
    (line_bad c.args.text.now c.loop-rest.rest.now c.first_piece.result.0.now c.loop-rest.ends.items c.loop-rest.number _ c.loop-rest.invariant.said split none)

pub loop-rest-preserved : goal.loop-rest-preserved
loop-rest-preserved c =
    let some : 0 < length c.loop-rest.rest.now = grind (arith, c.is_empty.ensures, c.loop-rest-test.true) in
    let split = line_and_rest c.loop-rest.rest.now c.first_piece.result.0.now _ some c.first_piece.ensures in
    let less = shorter c.loop-rest.rest.now c.first_piece.result.0.now _ some c.first_piece.ensures in
    let is = sym c.in-Some.is ∙ c.in_ok-end.ensures in
    let said = line_good c.args.text.now c.loop-rest.rest.now c.first_piece.result.0.now c.loop-rest.ends.items c.in-Some.end c.loop-rest.number _ c.loop-rest.invariant.said split is in
    record {
      said = rw (c.in_ok-push.ensures.items, c.after_mark-rest.ensures) said;
      few = omega (arith, c.loop-rest.invariant.few, less, ap length c.after_mark-rest.ensures);
    }

pub returns-clause-ok : goal.returns-clause-ok
returns-clause-ok c =
    let none : length c.loop-rest.rest.now ≡ 0 = grind (arith, c.is_empty.ensures, c.loop-rest-test.false) in
    no_line c.args.text.now c.loop-rest.rest.now c.loop-rest.ends.items c.loop-rest.number c.loop-rest.invariant.said none
