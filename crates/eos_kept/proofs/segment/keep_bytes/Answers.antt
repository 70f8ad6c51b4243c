use Rattle.std.proofs.Common.{◌≡◌, ℕ, List, [], Bool, not, refl, sym, ap, subst, ◌∙◌, rules, drop, arith}
use Rattle.std.specs.Prelude.{unsigned_abs, length}
use Rattle.std.proofs.lemmas.List.{length-drop}
use Rattle.eos_evidence.specs.Topics.{is_internal}
use Rattle.eos_fold.specs.Fronts.{base_of}
use Rattle.eos_fold.specs.Sums.{is_checked}
use Rattle.eos_kept.specs.steps.Folding.{IsFolding}
use Rattle.eos_kept.proofs.segment.keep_bytes.Goals as goal

pub finish-requires-clause-folded : goal.finish-requires-clause-folded
finish-requires-clause-folded g c =
    let keep = g.K.Reading.kept c.args.reading in
    let bytes = c.args.bytes.now in
    let h = c.in_ok-taken.ensures.goes_on [] [] bytes (c.new-fold.ensures keep) refl in
    (keep, c.unsigned_abs-begin.result, c.is_checked-sequenced.result, bytes, drop c.in_ok-taken.taken bytes, h)

pub finish-requires-clause-size : goal.finish-requires-clause-size
finish-requires-clause-size g c =
    let keep = g.K.Reading.kept c.args.reading in
    let bytes = c.args.bytes.now in
    let h = c.in_ok-taken.ensures.goes_on [] [] bytes (c.new-fold.ensures keep) refl in
    let taken = h.taken in
    let left = length-drop c.in_ok-taken.taken bytes in
    omega (arith, taken, left, c.requires, c.len.ensures.value, c.in_ok-taken.ensures.within)

pub returns : goal.returns
returns g c = λ segment topic base bytes.
    let keep = g.K.Reading.kept c.args.reading in
    let all = c.args.bytes.now in
    let rest = drop c.in_ok-taken.taken all in
    let from : c.unsigned_abs-begin.result ≡ unsigned_abs c.args.base = search rules in
    let a : c.unsigned_abs-begin.result ≡ base_of segment = from ∙ ap unsigned_abs (sym base) in
    let b : c.is_checked-sequenced.result ≡ is_checked segment = c.is_checked-sequenced.ensures ∙ ap (λ (t : List ℕ). not (is_internal t)) (sym topic) in
    let h = c.in_ok-taken.ensures.goes_on [] [] all (c.new-fold.ensures keep) refl in
    let x = subst (λ (n : ℕ). IsFolding keep n c.is_checked-sequenced.result all rest c.take.new.self) a h in
    let y = subst (λ (s : Bool). IsFolding keep (base_of segment) s all rest c.take.new.self) b x in
    let len : length rest ≡ _ = length-drop c.in_ok-taken.taken all in
    c.finish.ensures keep segment rest (omega (arith, len, c.len.ensures.value, c.in_ok-taken.ensures.within)) (subst (λ (xs : List ℕ). IsFolding keep (base_of segment) (is_checked segment) xs rest c.take.new.self) (sym bytes) y)
