use Rattle.std.proofs.Common.{◌≡◌, refl, ap, ◌∙◌}
use Rattle.std.specs.Ordering.{nat_cmp, int_cmp, ordering_then}
use Rattle.std.specs.declared.cmp.Ordering.{Ordering}
use Rattle.eos_batch.specs.declared.marker.Kind.{Kind}
use Rattle.eos_batch.specs.declared.marker.Kind.TheVariants.{Commit, Abort}
use Rattle.eos_batch.specs.contracts.marker.KindOrd.TheImpl.{ghosts}
use Rattle.eos_fold.specs.Closes.{rank_of}
use Rattle.eos_fold.proofs.close.Close.order.Goals as goal

kinds : (k l : Kind) → ghosts.cmp k l ≡ nat_cmp (rank_of k) (rank_of l)
kinds Commit Commit = refl
kinds Commit Abort = refl
kinds Abort Commit = refl
kinds Abort Abort = refl

pub returns : goal.returns
returns c =
    let x = c.args.self.now in
    let y = c.args.other.now in
    c.cmp.ensures ∙ ap (λ (r : Ordering). ordering_then (int_cmp x.producer y.producer) (ordering_then (int_cmp x.epoch y.epoch) (ordering_then (int_cmp x.marker_epoch y.marker_epoch) r))) (kinds x.kind y.kind)
