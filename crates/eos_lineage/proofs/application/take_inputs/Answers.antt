use Rattle.std.proofs.Common.{ℕ, ◌<◌, ◌≡◌, ◌+◌, ◌∙◌, ap, sym, subst, map, take, fold, flat_map, option_map, length, get_or, arith, true}
use Rattle.std.specs.List.{filter}
use Rattle.eos_base.specs.Least.{lesser_of}
use Rattle.eos_base.specs.Members.{Has}
use Rattle.eos_claims.specs.declared.place.PlaceRef.{PlaceRef}
use Rattle.eos_claims.specs.Outputs.{Application}
use Rattle.eos_claims.specs.Faults.{fault_cmp}
use Rattle.eos_claims.specs.Candidates.{unclaimed, is_committed}
use Rattle.eos_claims.specs.Plain.{plain_place, plain_fault}
use Rattle.eos_lineage.specs.declared.tables.Tables.{Tables}
use Rattle.eos_lineage.specs.steps.Walks.{one_if, AreTables}
use Rattle.eos_lineage.proofs.OutputsTally.{fold_more, count_more, counted_one, has_place, unclaimed_same}
use Rattle.eos_lineage.proofs.application.take_inputs.Goals as goal

-- the item at a place is one of the inputs
has_item : (a : Application) (t : Tables) → AreTables a t → (i : ℕ) (r : PlaceRef) → i < length t.inputs.now → r ≡ get_or t.inputs.now i r → Has a.inputs (plain_place r)
has_item a t are i r lt is = subst (λ is. Has is (plain_place r)) are.inputs (subst (λ (z : PlaceRef). Has (map plain_place t.inputs.now) (plain_place z)) (sym is) (has_place plain_place t.inputs.now i r lt))

pub loop-input-preserved : goal.loop-input-preserved
loop-input-preserved c =
    let inputs = c.args.tables.now.inputs.now in
    let i = c.loop-input.input-index in
    let r = c.input-item.result in
    let lt = c.loop-input-test.true in
    let has = λ (a : Application) (are : AreTables a c.args.tables.now). has_item a c.args.tables.now are i r lt c.input-item.is in (
      omega (arith, c.loop-input.invariant.0, c.one_where-count.ensures.most),
      λ a are.
          let m = c.is_committed-committed.ensures a are (has a are) in
          (λ j. c.loop-input.invariant.1 a are j + c.one_where-count.ensures.one j)
          ∙ (ap (λ n. length (filter (is_committed a) (map plain_place (take i inputs))) + n)
          (ap one_if m ∙ (ap (λ (z : PlaceRef). one_if (is_committed a (plain_place z))) c.input-item.is ∙ sym (counted_one (is_committed a) (plain_place (get_or inputs i r)))))
          ∙ sym (count_more (is_committed a) plain_place inputs i r lt)),
      λ a are named.
          let before = fold (lesser_of fault_cmp) (option_map plain_fault c.args.first) (flat_map (unclaimed a) (map plain_place (take i inputs))) in
          let m = c.is_committed-committed.ensures a are (has a are) in
          let k = λ (e : is_committed a (plain_place r) ≡ true). c.is_claimed-claimed.ensures named.in_order ∙ named.named (plain_place r) (has a are) e in
          c.least_of_input-best.ensures
          ∙ (ap (fold (lesser_of fault_cmp) (option_map plain_fault c.loop-input.best))
          (unclaimed_same c.is_committed-committed.result (is_committed a (plain_place r)) c.is_claimed-claimed.result _ (plain_place r) m k)
          ∙ (ap (λ b. fold (lesser_of fault_cmp) b (unclaimed a (plain_place r))) (c.loop-input.invariant.2 a are named)
          ∙ (ap (λ (z : PlaceRef). fold (lesser_of fault_cmp) before (unclaimed a (plain_place z))) c.input-item.is
          ∙ sym (fold_more (lesser_of fault_cmp) (unclaimed a) plain_place (option_map plain_fault c.args.first) inputs i r lt)))),
    )
