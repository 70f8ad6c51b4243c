use Rattle.std.proofs.Common.{◌≡◌, ◌<◌, ◌+◌, [], ◌∷◌, length, drop, slice_index_or, None, refl, sym, ap, ◌∙◌, arith}
use Rattle.std.proofs.lemmas.Option.{slice_get-get_or, slice_get_read}
use Rattle.eos_fold.specs.declared.entry.Ending.TheVariants.{Plain}
use Rattle.eos_fold.specs.Heads.{DataHead}
use Rattle.eos_fold.specs.declared.item.Item.{Item}
use Rattle.eos_kept.specs.Items.{items_under}
use Rattle.eos_kept.specs.Records.{records_in}
use Rattle.eos_kept.proofs.ItemsUnder.{past, used_up, taken}
use Rattle.eos_kept.proofs.RecordsSaid.{said_at}
use Rattle.eos_kept.proofs.cursor.Cursor.next.Goals.{then-head-heads-via-then-head-heads, then-head-heads-via-else-head-heads+then-passed-len}
use Rattle.eos_kept.proofs.cursor.Cursor.next.Goals as goal

-- what an index past the end would give
abbrev none : DataHead
none = record { offset = 0; count = 0; writer = None; ending = Plain }

pub returns-then-head-heads-clause-none : goal.returns-then-head-heads-clause-none
returns-then-head-heads-clause-none c =
    let heads = c.self.inside.heads.now in
    let recs = records_in c.self.inside.records.now in
    let passed = c.self.inside.passed in
    let k = c.skip_ended-head.result.0 in
    let place = c.skip_ended-head.result.1 in
    let done : items_under (drop k heads) place (drop passed recs) ≡ [] = elim c.then-head-heads.branch [
      | then-head-heads-via-then-head-heads w ↦ past heads k place (drop passed recs) (omega (arith, w.if-head-heads.true))
      | then-head-heads-via-else-head-heads+then-passed-len w ↦ used_up (drop k heads) place passed recs (omega (arith, w.if-passed-len.true, w.len.ensures))
    ] in
    (sym c.self.view_is ∙ (c.skip_ended-head.ensures.same (drop passed recs) ∙ done), done)

pub overflow_add-self : goal.overflow_add-self
overflow_add-self c =
    let heads = c.self.inside.heads.now in
    let k = c.skip_ended-head.result.0 in
    let lt : k < length heads = omega (arith, c.if-head-heads.false) in
    let inside = c.skip_ended-head.ensures.inside (slice_index_or heads k none) (slice_get-get_or heads k none lt) in
    let fits = c.self.invariant.0 k none lt in
    omega (arith, inside, fits)

pub new-requires-clause-inside : goal.new-requires-clause-inside
new-requires-clause-inside c =
    let heads = c.self.inside.heads.now in
    let k = c.skip_ended-head.result.0 in
    let lt : k < length heads = omega (arith, c.if-head-heads.false) in
    let h = c.index-heads-head.result in
    c.skip_ended-head.ensures.inside h (slice_get_read heads (length heads) k h refl lt c.index-heads-head.is)

pub new-requires-clause-said : goal.new-requires-clause-said
new-requires-clause-said c = said_at (records_in c.self.inside.records.now) c.self.inside.passed c.view.result c.view.ensures c.self.invariant.2

pub returns-clause-some : goal.returns-clause-some
returns-clause-some c =
    let heads = c.self.inside.heads.now in
    let recs = records_in c.self.inside.records.now in
    let passed = c.self.inside.passed in
    let k = c.skip_ended-head.result.0 in
    let place = c.skip_ended-head.result.1 in
    let lt : k < length heads = omega (arith, c.if-head-heads.false) in
    let h = c.index-heads-head.result in
    let at = slice_get_read heads (length heads) k h refl lt c.index-heads-head.is in
    let inside = c.skip_ended-head.ensures.inside h at in
    sym c.self.view_is
    ∙ (c.skip_ended-head.ensures.same (drop passed recs)
    ∙ (taken heads k place h recs passed c.view.result at c.view.ensures inside
    ∙ ap (λ (x : Item). x ∷ items_under (drop k heads) (place + 1) (drop (passed + 1) recs)) (sym c.new.ensures)))
