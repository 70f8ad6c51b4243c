use Rattle.std.proofs.Common.{◌≡◌, ◌<◌, ◌∷◌, ◌++◌, min, List, length, take, drop, ap, sym, ◌∙◌, subst, arith}
use Rattle.std.proofs.lemmas.List.{length-drop, drop-drop, length-take-le}
use Rattle.std.proofs.lemmas.List.Elements.{All-head, All-tail, All-drop}
use Rattle.std.specs.List.{All}
use Rattle.eos_batch.specs.declared.record.Record.{Record}
use Rattle.eos_fold.specs.Heads.{DataHead}
use Rattle.eos_kept.specs.Items.{items_at, items_under, Fits}
use Rattle.eos_kept.specs.Records.{records_in}
use Rattle.eos_kept.proofs.ItemsUnder.{used_up}
use Rattle.eos_kept.proofs.HeadPlaces.{at_length}
use Rattle.eos_kept.proofs.BatchesUnder.{first_batch, head_behind}
use Rattle.eos_kept.proofs.batches.KeptBatches.next.Goals as goal

pub returns-then-left-eq0-clause-none : goal.returns-then-left-eq0-clause-none
returns-then-left-eq0-clause-none c =
    let b = c.self.inside in
    let none = used_up b.heads.now 0 b.passed (records_in b.records.now) (omega (arith, c.if-left-eq0.true, c.saturating_sub-left.ensures, c.len.ensures)) in
    (sym c.self.view_is ∙ none, sym c.self.view_is ∙ none)

pub invariant_of-result : goal.invariant_of-result
invariant_of-result c =
    let b = c.self.inside in
    let here : drop c.empty_before-first.result b.heads.now ≡ c.in_ok-head.head.now ∷ c.in_ok-head.rest.now = sym c.split_at.ensures.back ∙ c.in_ok-head.ensures.cases.0 in
    let fits = All-head Fits c.in_ok-head.head.now c.in_ok-head.rest.now (subst (All Fits) here (All-drop Fits c.empty_before-first.result b.heads.now c.self.invariant.0)) in (
      fits,
      c.self.invariant.1,
      omega (arith, c.min-len.ensures),
      omega (arith, c.min-len.ensures, c.saturating_sub-left.ensures, c.len.ensures, c.self.invariant.2),
      omega (arith, c.min-len.ensures, c.saturating_sub-left.ensures, c.len.ensures, c.len.type_inv, c.self.invariant.2),
    )

pub invariant_of-self : goal.invariant_of-self
invariant_of-self c =
    let b = c.self.inside in
    let here : drop c.empty_before-first.result b.heads.now ≡ c.in_ok-head.head.now ∷ c.in_ok-head.rest.now = sym c.split_at.ensures.back ∙ c.in_ok-head.ensures.cases.0 in (
      All-tail Fits c.in_ok-head.head.now c.in_ok-head.rest.now (subst (All Fits) here (All-drop Fits c.empty_before-first.result b.heads.now c.self.invariant.0)),
      c.self.invariant.1,
      omega (arith, c.min-len.ensures, c.saturating_sub-left.ensures, c.len.ensures, c.self.invariant.2),
    )

pub returns-clause-some : goal.returns-clause-some
returns-clause-some c =
    let b = c.self.inside in
    let recs = records_in b.records.now in
    let rs = drop b.passed recs in
    let h = c.in_ok-head.head.now in
    let hs = c.in_ok-head.rest.now in
    let n = c.min-len.result in
    let k = c.empty_before-first.result in
    let here : drop k b.heads.now ≡ h ∷ hs = sym c.split_at.ensures.back ∙ c.in_ok-head.ensures.cases.0 in
    let left : c.saturating_sub-left.result ≡ length rs = omega (arith, c.saturating_sub-left.ensures, c.len.ensures, length-drop b.passed recs) in
    let count : n ≡ min h.count (length rs) = c.min-len.ensures ∙ (ap (λ m. min m c.saturating_sub-left.result) c.count.ensures ∙ ap (min h.count) left) in
    let some : 0 < h.count = c.empty_before-first.ensures.inside h (head_behind b.heads.now k h hs here) in
    let size : length (take n rs) ≡ n = length-take-le n rs (omega (arith, count)) in (
      sym c.self.view_is
          ∙ (c.empty_before-first.ensures.same rs
          ∙ (ap (λ (gs : List DataHead). items_under gs 0 rs) here
          ∙ (first_batch h hs rs n count
          ∙ ap (λ (qs : List Record). items_at h 0 (take n rs) ++ items_under hs 0 qs) (drop-drop n b.passed recs)))),
      omega (arith, at_length h 0 (take n rs), size, count, some, left, c.if-left-eq0.false),
    )
