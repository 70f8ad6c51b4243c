use Rattle.std.proofs.Common.{◌≡◌, ◌-◌, ◌+◌, sym, arith, get_or, drop, []}
use Rattle.std.proofs.lemmas.List.{drop_all}
use Rattle.eos_wire.specs.Varint.{groups_at}
use Rattle.eos_wire.proofs.Groups.{here, refused, ended, low, more, out, small_low, fits_low, fits_last}
use Rattle.eos_wire.proofs.varint.groups.Goals as goal

pub returns-then-b-top-clause-value : goal.returns-then-b-top-clause-value
returns-then-b-top-clause-value c =
    let k : c.args.most - c.loop-i.i ≡ 1 = omega arith in
    let e = here c.loop-i.value c.loop-i.i (c.args.most - c.loop-i.i) c.args.top c.args.bytes.now (groups_at c.args.most c.args.top c.args.bytes.now) c.loop-i-test.true c.loop-i.invariant.so_far in
    sym (refused c.loop-i.value c.loop-i.i c.args.top _ _ _ c.if-b-top.true (rw k at e))

pub overflow_add-result : goal.overflow_add-result
overflow_add-result c = let h = fits_last c.loop-i.value c.loop-i.i (get_or c.args.bytes.now c.loop-i.i 0) c.args.most c.args.top c.loop-i.invariant.small c.if-b-top.false c.if-i-most.true c.requires.most in omega (arith, c.placed.ensures)

pub returns-then-i-most-clause-value : goal.returns-then-i-most-clause-value
returns-then-i-most-clause-value c =
    let k : c.args.most - c.loop-i.i ≡ 1 = omega arith in
    let e = here c.loop-i.value c.loop-i.i (c.args.most - c.loop-i.i) c.args.top c.args.bytes.now (groups_at c.args.most c.args.top c.args.bytes.now) c.loop-i-test.true c.loop-i.invariant.so_far in
    rw c.placed.ensures (sym (ended c.loop-i.value c.loop-i.i c.args.top _ _ _ c.if-b-top.false (rw k at e)))

pub overflow_add-result-then-b-lt128 : goal.overflow_add-result-then-b-lt128
overflow_add-result-then-b-lt128 c = let h = fits_low c.loop-i.value c.loop-i.i (get_or c.args.bytes.now c.loop-i.i 0) c.loop-i.invariant.small c.if-b-lt128.true (omega (arith, c.requires.most.few)) in omega (arith, c.placed-then-b-lt128.ensures)

pub returns-then-b-lt128-clause-value : goal.returns-then-b-lt128-clause-value
returns-then-b-lt128-clause-value c =
    let e = here c.loop-i.value c.loop-i.i (c.args.most - c.loop-i.i) c.args.top c.args.bytes.now (groups_at c.args.most c.args.top c.args.bytes.now) c.loop-i-test.true c.loop-i.invariant.so_far in
    rw c.placed-then-b-lt128.ensures (sym (low c.loop-i.value c.loop-i.i (c.args.most - c.loop-i.i) c.args.top _ _ _ (omega arith) c.if-b-lt128.true e))

pub overflow_add-value : goal.overflow_add-value
overflow_add-value c = let h = fits_low c.loop-i.value c.loop-i.i (get_or c.args.bytes.now c.loop-i.i 0 - 128) c.loop-i.invariant.small (omega (arith, c.type_inv.bytes c.loop-i.i)) (omega (arith, c.requires.most.few)) in omega (arith, c.placed-value.ensures)

pub loop-i-preserved : goal.loop-i-preserved
loop-i-preserved c =
    let e = here c.loop-i.value c.loop-i.i (c.args.most - c.loop-i.i) c.args.top c.args.bytes.now (groups_at c.args.most c.args.top c.args.bytes.now) c.loop-i-test.true c.loop-i.invariant.so_far in
    let k : c.args.most - c.loop-i.i - 1 ≡ c.args.most - (c.loop-i.i + 1) = omega arith in
    let m = more c.loop-i.value c.loop-i.i (c.args.most - c.loop-i.i) c.args.top _ _ _ (omega arith) c.if-b-lt128.false e in
    record {
      within = omega arith;
      small = rw c.placed-value.ensures (small_low c.loop-i.value c.loop-i.i (get_or c.args.bytes.now c.loop-i.i 0 - 128) c.loop-i.invariant.small (omega (arith, c.type_inv.bytes c.loop-i.i)));
      so_far = rw c.placed-value.ensures (rw k at m);
    }

pub returns-clause-value : goal.returns-clause-value
returns-clause-value c =
    let d : drop c.loop-i.i c.args.bytes.now ≡ [] = drop_all c.loop-i.i c.args.bytes.now c.loop-i-test.false in
    let e = c.loop-i.invariant.so_far in
    sym (out c.loop-i.value c.loop-i.i (c.args.most - c.loop-i.i) c.args.top _ (rw d at e))
