-- What a sink is after the faults of ranges that follow those before.
use Rattle.std.proofs.Common.{ℕ, List, ◌++◌, map, subst, sym, ap, ◌∙◌}
use Rattle.std.proofs.lemmas.List.{map-append}
use Rattle.eos_verdict.specs.declared.verdict.Fault.{Fault}
use Rattle.eos_verdict.specs.declared.verdict.Fault.TheVariants.{Lineage}
use Rattle.eos_faults.specs.declared.lent.LentPlace.{LentPlace}
use Rattle.eos_faults.specs.declared.tables.Books.{Books}
use Rattle.eos_faults.specs.steps.Shares.{TakesRanges}
use Rattle.eos_faults.specs.steps.Taken.{group_in, in_group, named_faults}
use Rattle.eos_faults.proofs.RangesJoined.{next_joined}

module _ {S : Type 0} (takes : S → List Fault → S → Type 0) (b : Books) (bounds : List LentPlace) where
  pub ranges_joined : ((a b c : S) (xs ys : List Fault) → takes a xs b → takes b ys c → takes a (xs ++ ys) c) → (i j k : ℕ) (from mid to : S) → TakesRanges takes b bounds i j from mid → TakesRanges takes b bounds j k mid to
      → TakesRanges takes b bounds i k from to
  ranges_joined both i j k from mid to first second =
      let group = group_in b in
      let joined = ap (map Lineage) (map-append (in_group group) first.list second.list) ∙ map-append Lineage (map (in_group group) first.list) (map (in_group group) second.list) in
      record {
        list = first.list ++ second.list;
        taken = subst (λ (fs : List Fault). takes from fs to) (sym joined) (both from mid to (named_faults group first.list) (named_faults group second.list) first.taken second.taken);
        leads = λ a reads are sorted. next_joined a bounds i j k first.list second.list (first.leads a reads are sorted) (second.leads a reads are sorted);
      }
