-- That a run stops before its cluster is at rest.
use Rattle.std.proofs.Common.{◌≡◌, ◌↔◌, Bool, true, false, ℕ, List, [], ◌∷◌, refl, sym, subst, ◌∙◌}
use Rattle.std.proofs.lemmas.Bool.{false≢true}
use Rattle.eos_machine.specs.Rest.{IsAtRest}
use Rattle.eos_machine.specs.World.{World}
use Rattle.eos_simulate.specs.declared.labels.Label.{Label}
use Rattle.eos_simulate.specs.declared.labels.Wrong.TheVariants as wrongs
use Rattle.eos_simulate.specs.steps.AddedLabels.{AddsLabels, AddsStop}

pub added_stop : (stops rests : Bool) (w : World) (number : ℕ) (old new : List Label) → stops ≡ true → (rests ≡ true ↔ IsAtRest w) → rests ≡ false
    → AddsLabels old new (record { number = number; wrong = wrongs.Stopped } ∷ []) → AddsStop stops w number old new
added_stop stops rests w number old new on is not h =
    subst (λ (b : Bool). AddsStop b w number old new) (sym on) (record {
      last = record { number = number; wrong = wrongs.Stopped } ∷ [];
      whole = h.whole;
      stop = (λ r. absurd (false≢true (sym not ∙ is.1 r)), λ n. refl);
    })
