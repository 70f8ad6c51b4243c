use Rattle.std.proofs.Common.{◌≡◌, ◌+◌, ◌∷◌, [], ◌++◌, refl, rules}
use Rattle.eos_kept.proofs.PassedHeads.{front_more}
use Rattle.eos_kept.proofs.front.Front.pass.Goals as goal

pub returns-in_err-push_marker-clause-run : goal.returns-in_err-push_marker-clause-run
returns-in_err-push_marker-clause-run c =
    let r = c.requires.run in
    let h = c.requires.head in
    (r.0 ++ h.0 ∷ [], c.in_ok-take.ensures.ok r.0 h.0 h.1.of r.1)

pub returns-clause-run : goal.returns-clause-run
returns-clause-run c =
    let r = c.requires.run in
    let h = c.requires.head in
    (r.0 ++ h.0 ∷ [], c.in_ok-take.ensures.ok r.0 h.0 h.1.of r.1)

pub returns-clause-passed : goal.returns-clause-passed
returns-clause-passed c = λ batches b h g.
    let counted : c.in-Some.batches ≡ c.args.self.now.batches + 1 = search rules in
    front_more batches b c.args.head.now c.args.self.now _ c.from.result h c.requires.next c.from.ensures refl refl counted c.in_ok-push_marker.ensures (λ r. c.in_ok-take.ensures.ok batches b h.of r) g
