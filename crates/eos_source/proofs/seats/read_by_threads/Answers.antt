use Rattle.std.proofs.Common.{List, ℕ, length, sym, subst, ◌∙◌, arith}
use Rattle.eos_evidence.specs.Evidence.{segments_of}
use Rattle.eos_source.specs.steps.Order.{IsOrder}
use Rattle.eos_source.proofs.seats.read_by_threads.Goals as goal

pub desks_of-requires : goal.desks_of-requires
desks_of-requires g c = c.in_ok-tickets.ensures.each

pub gathered-requires-clause-all : goal.gathered-requires-clause-all
gathered-requires-clause-all g c κs within = omega (arith, c.in_ok-stints.ensures.len, c.in_ok-desks.ensures.len, c.in_ok-tickets.ensures.seats, c.in_ok-tickets.ensures.count.1)

pub gathered-requires-clause-count : goal.gathered-requires-clause-count
gathered-requires-clause-count g c κs within = c.in_ok-tickets.ensures.count.0 ∙ c.pieces.ensures.count

pub gathered-requires-clause-order : goal.gathered-requires-clause-order
gathered-requires-clause-order g c κs within =
    subst (λ (xs : List ℕ). IsOrder (length (segments_of c.args.plan.now.shape.now.partitions)) xs) (sym c.as_slice-order.ensures.value) c.in_ok-pieces.ensures
