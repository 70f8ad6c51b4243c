use Rattle.std.proofs.Common.{◌≡◌, ◌<◌, [], ◌∷◌, ◌++◌, ◌∙◌, ℤ, pos, List, length, get_or, map, ap, sym, subst, w16, w64, rules, if◌then◌else◌}
use Rattle.std.proofs.lemmas.Int.{to_z-of_z}
use Rattle.std.proofs.lemmas.List.{append-nil, map-append}
use mir.Val.{SFits}
use Rattle.eos_batch.specs.declared.marker.Kind.{Kind}
use Rattle.eos_batch.specs.declared.marker.Kind.TheVariants.{Commit}
use Rattle.eos_batch.specs.declared.marker.Marker.{Marker}
use Rattle.eos_fold.specs.Parts.{part_name}
use Rattle.eos_base.specs.declared.partition_name.PartitionName.{PartitionName}
use Rattle.eos_table.specs.steps.Keys.{mine, plain_name, plain_ended}
use Rattle.eos_table.proofs.FoldMore.{behind_more}
use Rattle.eos_table.proofs.key.push_marked.Goals as goal
use Rattle.eos_table.proofs.key.push_marked.Goals.{then-has+in_ok-push, else-has}

pub loop-marker-preserved : goal.loop-marker-preserved
loop-marker-preserved c =
    let i = c.loop-marker.marker-index in
    let same = c.markers-marker-items.ensures in
    let none : Marker = record { producer = pos 0; epoch = pos 0; kind = Commit; coordinator_epoch = pos 0 } in
    let n = c.args.shard.of in
    let s = c.args.shard.number in
    let shown : PartitionName → Marker → List (ℤ × ℤ × Kind × PartitionName) = λ name m. if mine n s m.producer then (m.producer, m.epoch, m.kind, name) ∷ [] else [] in
    let name = plain_name c.name_of_part-name.result in
    let now = c.loop-marker.keys.items in
    let before = map plain_ended now in
    let next = map plain_ended c.if-has.keys.items in
    let x : Marker = get_or c.markers-marker-items.result.now i none in
    let key : List (ℤ × ℤ × Kind × PartitionName) = (x.producer, x.epoch, x.kind, name) ∷ [] in
    let fits : SFits w64 x.producer = search rules in
    let producer = to_z-of_z w64 x.producer fits in
    let own = c.has.ensures ∙ ap (mine n s) producer in
    let first : next ≡ before ++ shown name x = elim c.if-has.branch [
      | then-has+in_ok-push w ↦
          let epoch_fits : SFits w16 x.epoch = search rules in
          let epoch = to_z-of_z w16 x.epoch epoch_fits in
          (λ j. map plain_ended (w.keys-is j).items)
          ∙ (ap (map plain_ended) w.in_ok-push.ensures.items
          ∙ (map-append plain_ended now _ ∙ (ap (λ k. before ++ k ∷ []) (λ j. (producer j, epoch j, x.kind, name)) ∙ ap (λ b. before ++ (if b then key else [])) (sym w.if-has.true ∙ own))))
      | else-has w ↦ (λ j. map plain_ended (w.keys-is j).items) ∙ (sym (append-nil before) ∙ ap (λ b. before ++ (if b then key else [])) (sym w.if-has.false ∙ own))
    ] in
    let lent = subst (λ z. next ≡ before ++ shown z x) c.name_of_part-name.ensures first in
    let here = subst (λ (markers : List Marker). next ≡ before ++ shown (part_name c.args.part.now) (get_or markers i none)) same lent in
    let inside = subst (λ (markers : List Marker). i < length markers) same c.loop-marker-test.true in
    behind_more (shown (part_name c.args.part.now)) (map plain_ended c.args.keys.now.items) before next c.args.part.now.markers i none inside c.loop-marker.invariant here
