use Rattle.std.proofs.Common.{◌∷◌}
use Rattle.eos_evidence.proofs.NamesApart.{found_again, one_more, still_unequal, noted_more}
use Rattle.eos_evidence.proofs.legal_applications.are_names_unequal.Goals as goal

pub returns-then-not-branch : goal.returns-then-not-branch
returns-then-not-branch c =
    let before = c.loop-name.invariant in
    found_again _ _ c.in-Some.name before.0 _ _ _ before.1 c.in-Some.ensures.items (before.3 c.in-Some.name) c.in_ok-insert.ensures.added c.if-not-branch.true

pub loop-name-preserved : goal.loop-name-preserved
loop-name-preserved c =
    let before = c.loop-name.invariant in (
      c.in-Some.name ∷ before.0,
      one_more _ _ c.in-Some.name before.0 _ before.1 c.in-Some.ensures.items,
      still_unequal c.in-Some.name before.0 _ _ before.2 (before.3 c.in-Some.name) c.in_ok-insert.ensures.added c.if-not-branch.false,
      λ other. noted_more c.in-Some.name other before.0 _ _ (before.3 other) (c.in_ok-insert.ensures.updates.0 other),
    )
