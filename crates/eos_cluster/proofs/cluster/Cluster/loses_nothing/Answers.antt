use Rattle.std.proofs.Common.{◌≡◌, ◌↔◌, ◌==◌, ◌∙◌, true, sym, ap, subst}
use Rattle.std.specs.List.{list_all}
use Rattle.eos_machine.specs.declared.state.Election.{Election}
use Rattle.eos_machine.specs.Elections.{LosesNothing}
use Rattle.eos_cluster.proofs.Lossless.{none_lost}
use Rattle.eos_cluster.proofs.cluster.Cluster.loses_nothing.Goals as goal

pub returns : goal.returns
returns c =
    rw (← c.self.view_is) (subst (λ b. b ≡ true ↔ LosesNothing c.self.inside.store.world) (sym (c.lose_nothing.ensures ∙ ap (list_all (λ (x : Election). x.lost == 0)) c.elections.ensures)) (none_lost c.self.inside.store.world.elections))
