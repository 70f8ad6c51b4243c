use Rattle.std.proofs.Common.{◌∙◌, refl, ap, sym, pos, get_or, w32, rules}
use Rattle.std.specs.Prelude.{int_lt}
use Rattle.std.proofs.lemmas.Int.{to_z-of_z}
use mir.Val.{SFits}
use Rattle.eos_notes.proofs.TestsLeft.{any_here, any_next, any_none}
use Rattle.eos_notes.proofs.manifest.has_above.Goals as goal

pub loop-number-preserved : goal.loop-number-preserved
loop-number-preserved c =
    let xs = c.args.numbers.now in
    let i = c.loop-number.number-index in
    let x = get_or xs i (pos 0) in
    let fits : SFits w32 x = search rules in
    let same = c.is_above.ensures ∙ ap (int_lt (pos c.args.n)) (to_z-of_z w32 x fits) in
    c.loop-number.invariant ∙ any_next (int_lt (pos c.args.n)) xs i x (pos 0) c.loop-number-test.true refl (sym same ∙ c.if-is_above.false)

pub returns-then-is_above : goal.returns-then-is_above
returns-then-is_above c =
    let xs = c.args.numbers.now in
    let i = c.loop-number.number-index in
    let x = get_or xs i (pos 0) in
    let fits : SFits w32 x = search rules in
    let same = c.is_above.ensures ∙ ap (int_lt (pos c.args.n)) (to_z-of_z w32 x fits) in
    sym (c.loop-number.invariant ∙ any_here (int_lt (pos c.args.n)) xs i x (pos 0) c.loop-number-test.true refl (sym same ∙ c.if-is_above.true))

pub returns : goal.returns
returns c = sym (c.loop-number.invariant ∙ any_none (int_lt (pos c.args.n)) c.args.numbers.now c.loop-number.number-index c.loop-number-test.false)
