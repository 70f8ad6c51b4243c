use Rattle.std.proofs.Common.{◌&&◌, ◌∙◌, Bool, refl, ap, sym, not, pos, get_or, w32, rules}
use Rattle.std.specs.Prelude.{int_lt}
use Rattle.std.proofs.lemmas.Int.{to_z-of_z}
use mir.Val.{SFits}
use Rattle.std.specs.List.{list_any}
use Rattle.std.specs.Ordering.{int_eq}
use Rattle.eos_notes.proofs.TestsLeft.{any_here, any_next, any_none}
use Rattle.eos_notes.proofs.manifest.is_gap.Goals as goal

pub loop-number-preserved : goal.loop-number-preserved
loop-number-preserved c =
    let xs = c.args.numbers.now in
    let i = c.loop-number.number-index in
    let x = get_or xs i (pos 0) in
    let fits : SFits w32 x = search rules in
    let same = c.is_number.ensures ∙ ap (int_eq (pos c.args.n)) (to_z-of_z w32 x fits) in
    let above = list_any (int_lt (pos c.args.n)) xs in
    c.loop-number.invariant ∙ ap (λ (b : Bool). not b && above) (any_next (int_eq (pos c.args.n)) xs i x (pos 0) c.loop-number-test.true refl (sym same ∙ c.if-is_number.false))

pub returns-then-is_number : goal.returns-then-is_number
returns-then-is_number c =
    let xs = c.args.numbers.now in
    let i = c.loop-number.number-index in
    let x = get_or xs i (pos 0) in
    let fits : SFits w32 x = search rules in
    let same = c.is_number.ensures ∙ ap (int_eq (pos c.args.n)) (to_z-of_z w32 x fits) in
    let above = list_any (int_lt (pos c.args.n)) xs in
    sym (c.loop-number.invariant ∙ ap (λ (b : Bool). not b && above) (any_here (int_eq (pos c.args.n)) xs i x (pos 0) c.loop-number-test.true refl (sym same ∙ c.if-is_number.true)))

pub returns : goal.returns
returns c =
    let xs = c.args.numbers.now in
    let above = list_any (int_lt (pos c.args.n)) xs in
    c.has_above.ensures ∙ sym (c.loop-number.invariant ∙ ap (λ (b : Bool). not b && above) (any_none (int_eq (pos c.args.n)) xs c.loop-number.number-index c.loop-number-test.false))
