-- Deeds after deeds: for those who do more than one thing to a cluster.
use Rattle.std.proofs.Common.{◌≡◌, List, [], ◌∷◌, ◌++◌, ◌∙◌, sym, ap, subst, refl, append_assoc}
use Rattle.std.proofs.lemmas.List.{append-nil}
use Rattle.eos_cluster.specs.Courses.{Course}
use Rattle.eos_drive.specs.declared.deed.Deed.{Deed}
use Rattle.eos_drive.specs.Driven.{after_deed, after, AreAnswered, Leads, IsKept}

after_joined : (s : Course) (ds es : List Deed) → after s (ds ++ es) ≡ after (after s ds) es
after_joined s [] es = refl
after_joined s (d ∷ ds) es = after_joined (after_deed s d) ds es

answers_joined : (s : Course) (ds es : List Deed) → AreAnswered s ds → AreAnswered (after s ds) es → AreAnswered s (ds ++ es)
answers_joined s [] es h k = k
answers_joined s (d ∷ ds) es h k = (h.0, answers_joined (after_deed s d) ds es h.1 k)

leads_joined : (s t u : Course) (ds es : List Deed) → Leads s ds t → Leads t es u → Leads s (ds ++ es) u
leads_joined s t u ds es h k = record {
  state = k.state ∙ (ap (λ (x : Course). after x es) h.state ∙ sym (after_joined s ds es));
  answers = answers_joined s ds es h.answers (subst (λ (x : Course). AreAnswered x es) h.state k.answers);
}

pub kept_on : (s t u : Course) (before now after : List Deed) → IsKept s before t now → IsKept t now u after → IsKept s before u after
kept_on s t u before now after h k = record {
  since = h.since ++ k.since;
  leads = leads_joined s t u h.since k.since h.leads k.leads;
  kept = k.kept ∙ (ap (λ (x : List Deed). x ++ k.since) h.kept ∙ append_assoc before h.since k.since);
}

-- nothing is done
pub kept_still : (s : Course) (now : List Deed) → IsKept s now s now
kept_still s now = record { since = []; leads = record { state = refl; answers = tt }; kept = sym (append-nil now) }
