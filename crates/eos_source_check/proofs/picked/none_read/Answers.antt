use Rattle.std.proofs.Common.{◌∙◌, ◌∷◌, ◌+◌, ℕ, Option, None, Some, ap, drop}
use Rattle.std.proofs.lemmas.List.{drop_more}
use Rattle.eos_source_check.proofs.PickedBatches.{nothing_more, nothing_at}
use Rattle.eos_source_check.proofs.picked.none_read.Goals.{in-None, in-Some}
use Rattle.eos_source_check.proofs.picked.none_read.Goals as goal

pub loop-byte-preserved : goal.loop-byte-preserved
loop-byte-preserved c =
    let all = c.args.wanted.now in
    let i = c.loop-byte.byte-index in
    elim c.match-byte.branch [
      | in-None w ↦ nothing_more all i None c.loop-byte.found.items c.push.new.self.items _ c.match-byte.told (drop_more all i None c.loop-byte-test.true ∙ ap (λ (b : Option ℕ). b ∷ drop (i + 1) all) w.in-None.is) w.told-is c.in_ok-push.ensures.items c.loop-byte.invariant
      | in-Some w ↦ nothing_more all i (Some w.in-Some._byte) c.loop-byte.found.items c.push.new.self.items _ c.match-byte.told (drop_more all i None c.loop-byte-test.true ∙ ap (λ (b : Option ℕ). b ∷ drop (i + 1) all) w.in-Some.is) (w.told-is ∙ nothing_at w.in-Some._byte)
          c.in_ok-push.ensures.items c.loop-byte.invariant
    ]
