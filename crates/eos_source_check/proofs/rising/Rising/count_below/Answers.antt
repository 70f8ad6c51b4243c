use Rattle.std.proofs.Common.{◌≡◌, ◌+◌, ◌-◌, ◌/◌, ◌<◌, ◌≤◌, ℕ, List, length, take, drop, nat_lt, nat_le, subst, sym, ◌∙◌, arith}
use Rattle.std.specs.List.{filter}
use Rattle.std.proofs.lemmas.Bool.{ltb-true, ltb-false}
use Rattle.eos_source_check.specs.steps.Rising.{AreFrom}
use Rattle.eos_source_check.proofs.RisingTimes.{all_below, all_from, filtered_front, filtered_rest}
use Rattle.eos_source_check.proofs.rising.Rising.count_below.Goals as goal

pub loop-low-preserved-then-is_below : goal.loop-low-preserved-then-is_below
loop-low-preserved-then-is_below c =
    let i = c.loop-low.invariant in
    let offsets = c.self.inside.offsets.now in
    let middle = c.loop-low.low + (c.loop-low.high - c.loop-low.low) / 2 in
    let less = c.loop-low-test.true in
    let inside : middle < length offsets = omega (arith, less, i.within) in record {
      order = omega (arith, less);
      within = i.within;
      below = all_below offsets c.args.bound middle c.self.invariant inside (ltb-true _ _ (sym c.is_below.ensures ∙ c.if-is_below.true));
      from = i.from;
    }

pub loop-low-preserved : goal.loop-low-preserved
loop-low-preserved c =
    let i = c.loop-low.invariant in
    let offsets = c.self.inside.offsets.now in
    let middle = c.loop-low.low + (c.loop-low.high - c.loop-low.low) / 2 in
    let less = c.loop-low-test.true in
    let inside : middle < length offsets = omega (arith, less, i.within) in record {
      order = omega arith;
      within = omega (arith, inside);
      below = i.below;
      from = all_from offsets c.args.bound middle c.self.invariant (ltb-false _ _ (sym c.is_below.ensures ∙ c.if-is_below.false));
    }

pub returns-clause-within : goal.returns-clause-within
returns-clause-within c = let i = c.loop-low.invariant in subst (λ (xs : List ℕ). c.loop-low.low ≤ length xs) c.self.view_is (omega (arith, i.order, i.within))

pub returns-clause-below : goal.returns-clause-below
returns-clause-below c =
    let i = c.loop-low.invariant in
    let offsets = c.self.inside.offsets.now in
    let same : c.loop-low.high ≡ c.loop-low.low = omega (arith, i.order, c.loop-low-test.false) in
    subst (λ (xs : List ℕ). take c.loop-low.low xs ≡ filter (λ o. nat_lt o c.args.bound) xs) c.self.view_is
    (filtered_front offsets c.loop-low.low c.args.bound i.below (subst (λ (n : ℕ). AreFrom offsets n c.args.bound) same i.from))

pub returns-clause-from : goal.returns-clause-from
returns-clause-from c =
    let i = c.loop-low.invariant in
    let offsets = c.self.inside.offsets.now in
    let same : c.loop-low.high ≡ c.loop-low.low = omega (arith, i.order, c.loop-low-test.false) in
    subst (λ (xs : List ℕ). drop c.loop-low.low xs ≡ filter (nat_le c.args.bound) xs) c.self.view_is
    (filtered_rest offsets c.loop-low.low c.args.bound i.below (subst (λ (n : ℕ). AreFrom offsets n c.args.bound) same i.from))
