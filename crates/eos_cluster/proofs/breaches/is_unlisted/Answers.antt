use Rattle.std.proofs.Common.{refl}
use Rattle.eos_cluster.proofs.breaches.is_unlisted.Goals as goal

pub returns-in-None : goal.returns-in-None
returns-in-None c = rw (c.last_said.ensures, c.in-None.is) refl

pub returns-then-waits_for : goal.returns-then-waits_for
returns-then-waits_for c = rw (c.last_said.ensures, c.in-Some.is, ← c.waits_for.ensures, c.if-waits_for.true, c.has.ensures, c.as_slice.ensures) refl

pub returns-else-waits_for : goal.returns-else-waits_for
returns-else-waits_for c = rw (c.last_said.ensures, c.in-Some.is, ← c.waits_for.ensures, c.if-waits_for.false) refl
