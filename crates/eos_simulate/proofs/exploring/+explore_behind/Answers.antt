use Rattle.std.proofs.Common.{refl, ◌-◌, ◌++◌, ◌∷◌, [], ap, ◌∙◌, List, ℕ, get_or}
use Rattle.eos_simulate.specs.Every.{alphabet}
use Rattle.eos_simulate.proofs.EachSchedule.{run_step}
use Rattle.eos_simulate.proofs.exploring.+explore_behind.Goals as goal

pub loop-word-preserved : goal.loop-word-preserved
loop-word-preserved g t c =
    let so_far = c.loop-word.invariant in
    let grown = c.in_default.ensures ∙ ap (λ (xs : List ℕ). xs ++ get_or alphabet c.loop-word.word-index 0 ∷ []) so_far.1 in
    let run = c.in_default-explore_behind.ensures in (
      refl,
      c.shorten.ensures c.args.walk.now.words.items _ (run.words ∙ grown),
      run_step c.args.course.now.config (c.args.left - 1) c.loop-word.word-index c.args.walk.now.words.items c.lengthen.new.words.items alphabet _ _ _ c.loop-word-test.true grown so_far.2 run.run,
    )
