use Rattle.std.proofs.Common.{ℕ, List, ◌++◌, take, drop, sym, ap, ◌∙◌}
use Rattle.std.proofs.lemmas.List.{take-append-drop}
use Rattle.eos_evidence.specs.declared.partition.Partition.{Partition}
use Rattle.eos_source.proofs.share.halves.Goals as goal

pub returns : goal.returns
returns g c =
    let shapes = c.args.share.shapes.now in
    let slots = c.args.share.slots.items in
    let place = c.middle_of-place.result in
    let front = c.split_at.result.0.now in
    record {
      both = sym (take-append-drop place shapes) ∙ (ap (λ (xs : List Partition). xs ++ drop place shapes) (sym c.split_at.ensures.front) ∙ ap (λ (xs : List Partition). front ++ xs) (sym c.split_at.ensures.back));
      first = c.in_ok-rest.ensures.items ∙ ap (λ (n : ℕ). take n slots) c.pieces_of.ensures;
      second = c.in_ok-rest.ensures.tail ∙ ap (λ (n : ℕ). drop n slots) c.pieces_of.ensures;
    }
