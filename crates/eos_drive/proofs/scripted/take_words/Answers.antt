use Rattle.std.proofs.Common.{◌∙◌, sym, ap}
use Rattle.eos_cluster.specs.Courses.{Course}
use Rattle.eos_drive.specs.steps.Drives.{Drive, lost_in}
use Rattle.eos_drive.proofs.scripted.take_words.Goals as goal
use Rattle.eos_drive.proofs.scripted.take_words.Goals.{then-number-unclean_from+in_ok-unclean, else-number-unclean_from}

pub loop-word-preserved : goal.loop-word-preserved
loop-word-preserved c =
    let before = c.loop-word.invariant in
    let turned = c.in_ok-turn_on.ensures in
    let taken = c.in_ok-take_word.ensures in
    elim c.if-number-unclean_from.branch [
      | then-number-unclean_from+in_ok-unclean w ↦
          let lost = w.in_ok-unclean.ensures in (
            (
              ap (λ (d : Drive). d.origin) w.driver-is ∙ lost.done.0 ∙ taken.0 ∙ turned.done.0 ∙ before.0.0,
              ap (λ (d : Drive). d.course) w.driver-is ∙ lost.done.1 ∙ sym w.cluster-is,
              ap (λ (s : Course). s.config) w.cluster-is ∙ lost.done.2 ∙ taken.2 ∙ turned.done.2 ∙ before.0.2,
            ),
            λ honest. ap (λ (s : Course). s.honest) w.cluster-is ∙ lost.honest ∙ taken.3 ∙ turned.honest honest ∙ before.1 honest,
            λ none. ap (λ (s : Course). lost_in s.world) w.cluster-is ∙ lost.lossless (before.3 none) ∙ taken.4 ∙ turned.lossless ∙ before.2 none,
            λ none. w.unclean-is ∙ lost.none (before.3 none),
          )
      | else-number-unclean_from w ↦ (
        (
          ap (λ (d : Drive). d.origin) w.driver-is ∙ taken.0 ∙ turned.done.0 ∙ before.0.0,
          ap (λ (d : Drive). d.course) w.driver-is ∙ taken.1 ∙ sym w.cluster-is,
          ap (λ (s : Course). s.config) w.cluster-is ∙ taken.2 ∙ turned.done.2 ∙ before.0.2,
        ),
        λ honest. ap (λ (s : Course). s.honest) w.cluster-is ∙ taken.3 ∙ turned.honest honest ∙ before.1 honest,
        λ none. ap (λ (s : Course). lost_in s.world) w.cluster-is ∙ taken.4 ∙ turned.lossless ∙ before.2 none,
        λ none. w.unclean-is ∙ before.3 none,
      )
    ]
