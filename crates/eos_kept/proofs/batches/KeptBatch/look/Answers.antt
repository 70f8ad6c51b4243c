use Rattle.std.proofs.Common.{◌≡◌, ◌+◌, ◌<◌, List, length, take, drop, ap, sym, ◌∙◌, arith}
use Rattle.std.specs.List.{slice_get}
use Rattle.std.proofs.lemmas.List.{length-take-le, length-drop}
use Rattle.eos_fold.specs.declared.item.Item.{Item}
use Rattle.eos_kept.specs.Items.{item_at}
use Rattle.eos_kept.specs.Records.{records_in}
use Rattle.eos_kept.proofs.HeadPlaces.{at_length}
use Rattle.eos_kept.proofs.BatchesUnder.{batch_get}
use Rattle.eos_kept.proofs.batches.KeptBatch.look.Goals as goal

pub overflow_add-self-inside : goal.overflow_add-self-inside
overflow_add-self-inside c =
    let b = c.self.inside in
    let left = drop b.passed (records_in b.records.now) in
    let size : length (take b.len left) ≡ b.len = length-take-le b.len left (omega (arith, length-drop b.passed (records_in b.records.now), c.self.invariant.3)) in
    omega (arith, ap length c.self.view_is, at_length b.head.now 0 (take b.len left), size, c.self.invariant.4, c.requires)

pub view-kept-requires-clause-inside : goal.view-kept-requires-clause-inside
view-kept-requires-clause-inside c =
    let b = c.self.inside in
    let left = drop b.passed (records_in b.records.now) in
    let size : length (take b.len left) ≡ b.len = length-take-le b.len left (omega (arith, length-drop b.passed (records_in b.records.now), c.self.invariant.3)) in
    omega (arith, ap length c.self.view_is, at_length b.head.now 0 (take b.len left), size, c.self.invariant.3, c.requires)

pub overflow_add-result : goal.overflow_add-result
overflow_add-result c =
    let b = c.self.inside in
    let left = drop b.passed (records_in b.records.now) in
    let size : length (take b.len left) ≡ b.len = length-take-le b.len left (omega (arith, length-drop b.passed (records_in b.records.now), c.self.invariant.3)) in
    let fits = c.self.invariant.0 in
    omega (arith, ap length c.self.view_is, at_length b.head.now 0 (take b.len left), size, c.self.invariant.2, fits, c.requires)

pub returns : goal.returns
returns c =
    let b = c.self.inside in
    let i = c.args.i in
    let recs = records_in b.records.now in
    let left = drop b.passed recs in
    let r = c.view-kept.result in
    let size : length (take b.len left) ≡ b.len = length-take-le b.len left (omega (arith, length-drop b.passed recs, c.self.invariant.3)) in
    let lt : i < b.len = omega (arith, ap length c.self.view_is, at_length b.head.now 0 (take b.len left), size, c.requires) in
    let got = batch_get b.head.now recs b.passed b.len i r lt c.view-kept.ensures in (
      item_at b.head.now i r,
      ap (λ (is : List Item). slice_get is i) (sym c.self.view_is) ∙ got,
      record { offset = ap (λ n. n + i) c.offset.ensures; fate = c.fate.ensures; writer = c.writer.ensures; claim = c.claim.ensures },
    )
