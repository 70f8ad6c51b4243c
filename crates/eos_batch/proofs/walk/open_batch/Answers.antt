use Rattle.std.proofs.Common.{drop, subst, sym, ap, ◌∙◌, FitsSigned, w32, w64, arith, rules, pos}
use Rattle.std.proofs.lemmas.Int.{to_z-of_z}
use Rattle.eos_wire.specs.Numbers.{IsBytes}
use Rattle.eos_batch.proofs.OpenedBatches.{opened, begun, inside, counts_fail, offsets_fail, count_is}
use Rattle.eos_batch.proofs.walk.open_batch.Goals as goal

pub returns-clause-opened : goal.returns-clause-opened
returns-clause-opened c =
    let fits : IsBytes c.args.bytes.now = subst IsBytes c.as_slice.ensures c.are_bytes.ensures in
    let base : FitsSigned w64 c.in_ok-base_offset.base_offset = search rules in
    let leader : FitsSigned w32 c.in_ok-leader_epoch.leader_epoch = search rules in
    let f = rw c.starting_at-rest.ensures at c.in_ok-base_offset.ensures.answers in
    let h = simp to_z-of_z at c.in_ok-head.ensures.gives in
    let count : FitsSigned w32 c.in_ok-head.head.count = search rules in
    let n = count_is c.in_ok-head.head (sym c.count_fits.ensures ∙ c.if-not-count_fits.false) in
    let number = simp to_z-of_z at c.unsigned_abs.ensures.value in
    let o = opened c.args.bytes.now c.args.at (c.in_ok-base_offset.base_offset, c.in_ok-base_offset.body) (c.in_ok-leader_epoch.leader_epoch, c.sealed_of.new.rest) (c.in_ok-head.head, c.head_of.new.rest) _ fits c.requires f
    c.in_ok-leader_epoch.ensures.gives h (sym c.is_compressed.ensures ∙ c.if-is_compressed.false) (sym c.count_fits.ensures ∙ c.if-not-count_fits.false) (sym c.offsets_fit.ensures ∙ c.if-not-offsets_fit.false) (n ∙ ap pos (sym number)) in
    rw (c.left.ensures.value, c.left-2.ensures.value) o

pub overflow_add-end-2 : goal.overflow_add-end-2
overflow_add-end-2 c =
    let fits : IsBytes c.args.bytes.now = subst IsBytes c.as_slice.ensures c.are_bytes.ensures in
    let f = rw c.starting_at-rest.ensures at c.in_ok-base_offset.ensures.answers in
    let i = inside c.args.bytes.now c.args.at (c.in_ok-base_offset.base_offset, c.in_ok-base_offset.body) fits c.requires f in
    omega (arith, i, c.len-size.ensures.value, c.len-size.ensures.bound, c.left.ensures.value)

pub overflow_sub-begin : goal.overflow_sub-begin
overflow_sub-begin c =
    let fits : IsBytes c.args.bytes.now = subst IsBytes c.as_slice.ensures c.are_bytes.ensures in
    let base : FitsSigned w64 c.in_ok-base_offset.base_offset = search rules in
    let leader : FitsSigned w32 c.in_ok-leader_epoch.leader_epoch = search rules in
    let f = rw c.starting_at-rest.ensures at c.in_ok-base_offset.ensures.answers in
    let h = simp to_z-of_z at c.in_ok-head.ensures.gives in
    let b = begun c.args.bytes.now c.args.at (c.in_ok-base_offset.base_offset, c.in_ok-base_offset.body) (c.in_ok-leader_epoch.leader_epoch, c.sealed_of.new.rest) (c.in_ok-head.head, c.head_of.new.rest) fits c.requires f
    c.in_ok-leader_epoch.ensures.gives h in
    omega (arith, b.left.fits, c.left.ensures.value, c.left-2.ensures.value)

pub returns-then-not-count_fits-clause-fault : goal.returns-then-not-count_fits-clause-fault
returns-then-not-count_fits-clause-fault c =
    let base : FitsSigned w64 c.in_ok-base_offset.base_offset = search rules in
    let leader : FitsSigned w32 c.in_ok-leader_epoch.leader_epoch = search rules in
    let f = rw c.starting_at-rest.ensures at c.in_ok-base_offset.ensures.answers in
    let h = simp to_z-of_z at c.in_ok-head.ensures.gives in
    counts_fail (drop c.args.at c.args.bytes.now) (c.in_ok-base_offset.base_offset, c.in_ok-base_offset.body) (c.in_ok-leader_epoch.leader_epoch, c.sealed_of.new.rest) (c.in_ok-head.head, c.head_of.new.rest) f
    c.in_ok-leader_epoch.ensures.gives h (sym c.is_compressed.ensures ∙ c.if-is_compressed.false) (sym c.count_fits.ensures ∙ c.if-not-count_fits.true)

pub returns-then-not-offsets_fit-clause-fault : goal.returns-then-not-offsets_fit-clause-fault
returns-then-not-offsets_fit-clause-fault c =
    let base : FitsSigned w64 c.in_ok-base_offset.base_offset = search rules in
    let leader : FitsSigned w32 c.in_ok-leader_epoch.leader_epoch = search rules in
    let f = rw c.starting_at-rest.ensures at c.in_ok-base_offset.ensures.answers in
    let h = simp to_z-of_z at c.in_ok-head.ensures.gives in
    offsets_fail (drop c.args.at c.args.bytes.now) (c.in_ok-base_offset.base_offset, c.in_ok-base_offset.body) (c.in_ok-leader_epoch.leader_epoch, c.sealed_of.new.rest) (c.in_ok-head.head, c.head_of.new.rest) f
    c.in_ok-leader_epoch.ensures.gives h (sym c.is_compressed.ensures ∙ c.if-is_compressed.false) (sym c.count_fits.ensures ∙ c.if-not-count_fits.false) (sym c.offsets_fit.ensures ∙ c.if-not-offsets_fit.true)
