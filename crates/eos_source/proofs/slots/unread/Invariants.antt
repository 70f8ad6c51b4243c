use Rattle.std.proofs.Common.{◌≡◌, None, vec_len}
use Rattle.std.specs.Prelude.{All}
use Rattle.eos_source.proofs.slots.unread.Given as goal

abbrev pub invariant-loop : goal.invariant-loop
invariant-loop g l = (vec_len l.slots ≡ l.counter) × All (λ slot. slot ≡ None) l.slots.items
