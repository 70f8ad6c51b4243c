use Rattle.std.proofs.Common.{◌≡◌, Some, rules, sym, ap, ◌∙◌, w16, w32, w64}
use Rattle.std.proofs.lemmas.Int.{to_z-of_z}
use mir.Val.{SFits}
use Rattle.eos_batch.specs.Marker.{coordinator_epoch_of, end_kind}
use Rattle.eos_reading.proofs.MarkerHeads.{passes, marker_is}
use Rattle.eos_reading.proofs.head.end_marker.Goals as goal

pub returns-clause-tested : goal.returns-clause-tested
returns-clause-tested c =
    let r = c.args.only.now in
    let kind : end_kind r.key ≡ Some c.in-Some.kind = sym (ap end_kind c.key.ensures) ∙ (sym c.end_kind.ensures ∙ c.in-Some.is) in
    let epoch : coordinator_epoch_of r.value ≡ Some c.in-Some-coordinator_epoch.coordinator_epoch = sym (ap coordinator_epoch_of c.value.ensures) ∙ (sym c.coordinator_epoch.ensures ∙ c.in-Some-coordinator_epoch.is) in
    passes c.args.batch.now r c.in-Some.kind c.in-Some-coordinator_epoch.coordinator_epoch c.requires kind epoch (sym c.is_named.ensures ∙ c.if-not-is_named.false)

pub returns-clause-marker : goal.returns-clause-marker
returns-clause-marker c =
    let b = c.args.batch.now in
    let r = c.args.only.now in
    let n = c.in-Some-coordinator_epoch.coordinator_epoch in
    let kind : end_kind r.key ≡ Some c.in-Some.kind = sym (ap end_kind c.key.ensures) ∙ (sym c.end_kind.ensures ∙ c.in-Some.is) in
    let epoch : coordinator_epoch_of r.value ≡ Some n = sym (ap coordinator_epoch_of c.value.ensures) ∙ (sym c.coordinator_epoch.ensures ∙ c.in-Some-coordinator_epoch.is) in
    let p : SFits w64 b.producer = search rules in
    let q : SFits w16 b.epoch = search rules in
    let m : SFits w32 n = search rules in
    marker_is b r c.in-Some.kind n c.requires kind epoch _ _ _ (to_z-of_z w64 b.producer p) (to_z-of_z w16 b.epoch q) (to_z-of_z w32 n m)
