use Rattle.std.proofs.Common.{ℕ, ◌-◌, [], ◌∷◌, Option, Some, refl, sym, ap, subst, ◌∙◌}
use Rattle.std.specs.Option.{option_copied}
use Rattle.eos_source.specs.Said.{known_by}
use Rattle.eos_source_check.specs.Picked.{ArePickedNamed}
use Rattle.eos_source_check.specs.declared.picks.Picked.{Picked}
use Rattle.eos_story.specs.HeaderBytes.{headers_in}
use Rattle.eos_explaining.proofs.HeadersRead.{at_unpicked, at_picked}
use Rattle.eos_explaining.proofs.headers.headers_at.Goals as goal

pub returns-in_default-clause-are : goal.returns-in_default-clause-are
returns-in_default-clause-are g c =
    let known = (known_by (g.S.Source.said c.args.pieces.now.source.now) (g.S.Source.is_log c.args.pieces.now.source.now)) in
    let shape = c.args.pieces.now.shape.now in
    let places = Some c.args.placed ∷ [] in
    at_unpicked known shape c.args.place.now c.args.placed places c.new-in_default.result (c.new-in_default.ensures ∙ c.new.ensures.items)
    (subst (λ (o : Option Picked). ArePickedNamed known shape.partitions c.args.place.now.partition places o) c.in_default.is c.in_ok-read.ensures.read)

pub returns-in-None-clause-are : goal.returns-in-None-clause-are
returns-in-None-clause-are g c =
    let known = (known_by (g.S.Source.said c.args.pieces.now.source.now) (g.S.Source.is_log c.args.pieces.now.source.now)) in
    let shape = c.args.pieces.now.shape.now in
    let places = Some c.args.placed ∷ [] in
    at_picked known shape c.args.place.now c.args.placed c.in-Some.picked c.new-in-None-2.result (option_copied c.at.result) (λ p is. c.at.ensures p places (Some c.args.placed) is refl)
    (c.new-in-None-2.ensures ∙ (c.new-in-None.ensures.items ∙ ap (λ o. headers_in (option_copied o) (c.args.place.now.offset - c.args.placed.standing.head.offset)) (sym c.in-None.is)))
    (subst (λ (o : Option Picked). ArePickedNamed known shape.partitions c.args.place.now.partition places o) c.in-Some.is c.in_ok-read.ensures.read)

pub returns-clause-are : goal.returns-clause-are
returns-clause-are g c =
    let known = (known_by (g.S.Source.said c.args.pieces.now.source.now) (g.S.Source.is_log c.args.pieces.now.source.now)) in
    let shape = c.args.pieces.now.shape.now in
    let places = Some c.args.placed ∷ [] in
    let batch = c.in-Some-at.batch.now in
    at_picked known shape c.args.place.now c.args.placed c.in-Some.picked c.in_ok-headers-in-Some-at.headers (option_copied c.at.result) (λ p is. c.at.ensures p places (Some c.args.placed) is refl)
    (c.in_ok-headers-in-Some-at.ensures ∙ (ap (λ (n : ℕ). headers_in (Some batch) n) c.saturating_sub-number.ensures ∙ ap (λ o. headers_in (option_copied o) (c.args.place.now.offset - c.args.placed.standing.head.offset)) (sym c.in-Some-at.is)))
    (subst (λ (o : Option Picked). ArePickedNamed known shape.partitions c.args.place.now.partition places o) c.in-Some.is c.in_ok-read.ensures.read)
