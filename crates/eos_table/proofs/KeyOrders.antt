-- The derived orders of the keys, in words of the definitions.
use Rattle.std.proofs.Common.{◌≡◌, List, map, refl, ap}
use Rattle.std.specs.Ordering.{ordering_then, int_cmp, nat_cmp}
use Rattle.std.specs.declared.cmp.Ordering.{Ordering}
use Rattle.eos_base.specs.Members.{is_found}
use Rattle.eos_base.specs.PartitionNames.{name_cmp}
use Rattle.eos_base.proofs.Membership.{found_by}
use Rattle.eos_batch.specs.declared.marker.Kind.{Kind}
use Rattle.eos_batch.specs.declared.marker.Kind.TheVariants.{Commit, Abort}
use Rattle.eos_batch.specs.contracts.marker.KindOrd.TheImpl.{ghosts as kind_ghosts}
use Rattle.eos_fold.specs.Closes.{rank_of}
use Rattle.eos_table.specs.contracts.key.EndedOrd.TheImpl.{ghosts as ended_ghosts}
use Rattle.eos_table.specs.contracts.key.ListedOrd.TheImpl.{ghosts as listed_ghosts}
use Rattle.eos_table.specs.contracts.key.NameRefOrd.TheImpl.{ghosts as name_ghosts}
use Rattle.eos_table.specs.declared.key.NameRef.{NameRef}
use Rattle.eos_table.specs.declared.key.Listed.{Listed}
use Rattle.eos_table.specs.declared.key.Ended.{Ended}
use Rattle.eos_table.specs.steps.Keys.{plain_name, plain_listed, plain_ended, listed_cmp, ended_cmp}

kind_alike : (a b : Kind) → kind_ghosts.cmp a b ≡ nat_cmp (rank_of a) (rank_of b)
kind_alike Commit Commit = refl
kind_alike Commit Abort = refl
kind_alike Abort Commit = refl
kind_alike Abort Abort = refl

pub ended_alike : (a b : Ended) → ended_ghosts.cmp a b ≡ ended_cmp (plain_ended a) (plain_ended b)
ended_alike a b = ap (λ (o : Ordering). ordering_then (int_cmp a.producer b.producer) (ordering_then (int_cmp a.epoch b.epoch) (ordering_then o (name_cmp (plain_name a.name) (plain_name b.name))))) (kind_alike a.kind b.kind)

pub listed_has : (xs : List Listed) (k : Listed) → is_found listed_ghosts.cmp xs k ≡ is_found listed_cmp (map plain_listed xs) (plain_listed k)
listed_has xs k = found_by plain_listed listed_cmp listed_ghosts.cmp (λ a b. refl) xs k

pub ended_has : (xs : List Ended) (k : Ended) → is_found ended_ghosts.cmp xs k ≡ is_found ended_cmp (map plain_ended xs) (plain_ended k)
ended_has xs k = found_by plain_ended ended_cmp ended_ghosts.cmp ended_alike xs k

pub names_has : (xs : List NameRef) (k : NameRef) → is_found name_ghosts.cmp xs k ≡ is_found name_cmp (map plain_name xs) (plain_name k)
names_has xs k = found_by plain_name name_cmp name_ghosts.cmp (λ a b. refl) xs k
