use Rattle.std.proofs.Common.{[], refl, ap, sym, subst}
use Rattle.std.specs.Ordering.{int_cmp, is_eq}
use Rattle.std.specs.Map.{lookup}
use Rattle.eos_segment.specs.Counts.{IsProducerCount}
use Rattle.eos_segment.proofs.ProducerCounts.{count-none}
use Rattle.eos_segment.proofs.chain_walk.Walk.new.Goals as goal

pub returns : goal.returns
returns c = record {
  continuous = tt;
  each = tt;
  begin = refl;
  next = refl;
  number = refl;
  last = record {
    touches = λ id. ap (lookup (λ k. is_eq (int_cmp id k))) c.new.ensures.empty;
    count = subst (IsProducerCount []) (sym c.new.ensures.len) count-none;
  };
}
