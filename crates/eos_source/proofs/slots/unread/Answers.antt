use Rattle.std.proofs.Common.{◌≡◌, None, refl, sym, subst, arith}
use Rattle.std.specs.Prelude.{All}
use Rattle.eos_source.proofs.PiecesDrawn.{all_last}
use Rattle.eos_source.proofs.slots.unread.Goals as goal

pub loop-preserved : goal.loop-preserved
loop-preserved g c = (
  omega (arith, c.in_ok-push.ensures.len, c.loop.invariant.0),
  subst (λ xs. All (λ slot. slot ≡ None) xs) (sym c.in_ok-push.ensures.items) (all_last (λ slot. slot ≡ None) c.loop.slots.items None c.loop.invariant.1 refl),
)
