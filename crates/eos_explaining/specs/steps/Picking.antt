-- Faults that are picked, none and some after others: what a sink of them has to show.
use Rattle.std.proofs.Common.{◌∙◌, List, [], ◌++◌, map, refl, sym, ap, subst, append_assoc}
use Rattle.std.proofs.lemmas.List.{append-nil, map-append}
use Rattle.eos_verdict.specs.declared.verdict.Fault.{Fault}
use Rattle.eos_verdict.specs.declared.verdict.Verdict.TheVariants.{No}
use Rattle.eos_explaining.specs.declared.kinds.Picked.{Picked}
use Rattle.eos_explaining.specs.steps.Counting.{IsPicked, IsPickedMore}

pub none_picked : (p : Picked) → IsPickedMore p [] p
none_picked p = record { pick = refl; picked = λ told h. subst (λ vs. IsPicked vs p) (sym (append-nil told)) h }

pub both_picked : (a b c : Picked) (xs ys : List Fault) → IsPickedMore a xs b → IsPickedMore b ys c → IsPickedMore a (xs ++ ys) c
both_picked a b c xs ys first second = record {
  pick = second.pick ∙ first.pick;
  picked = λ told h.
      subst (λ vs. IsPicked vs c) (append_assoc told (map No xs) (map No ys) ∙ ap (λ vs. told ++ vs) (sym (map-append No xs ys))) (second.picked (told ++ map No xs) (first.picked told h));
}
