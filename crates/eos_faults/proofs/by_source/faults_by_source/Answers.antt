use Rattle.std.proofs.Common.{◌∙◌, ◌++◌, [], List, length, map, ap, sym, subst, inl, inr, arith}
use Rattle.std.specs.Prelude.{slice_get}
use Rattle.std.proofs.lemmas.List.{map-append}
use Rattle.eos_base.specs.Members.{Has}
use Rattle.eos_base.proofs.Exact.{is_tied}
use Rattle.eos_claims.specs.declared.fault.OutputFault.{OutputFault}
use Rattle.eos_claims.specs.Faults.{fault_cmp}
use Rattle.eos_claims.proofs.FaultOrder.{fault_exact}
use Rattle.eos_verdict.specs.declared.verdict.Fault.{Fault}
use Rattle.eos_verdict.specs.declared.verdict.Fault.TheVariants.{Lineage}
use Rattle.eos_faults.specs.steps.BySource.{AreTold, IsNext}
use Rattle.eos_faults.specs.steps.Plain.{fault_of}
use Rattle.eos_faults.specs.steps.Tables.{AreClaims, AreInputs}
use Rattle.eos_faults.specs.steps.Taken.{group_in, in_group}
use Rattle.eos_faults.proofs.BySource.{none_told, told_more}
use Rattle.eos_faults.proofs.LentOutputs.{lent_rises, lent_each, lent_all, map_twice}
use Rattle.eos_faults.proofs.NextSource.{claims_of_next, inputs_of_next, none_passed, passed_more}
use Rattle.eos_faults.proofs.SourceEnds.{progress, all_passed}
use Rattle.eos_faults.proofs.WholeOutputs.{whole_outputs}
use Rattle.eos_faults.proofs.by_source.faults_by_source.Goals as goal

pub loop-source-init : goal.loop-source-init
loop-source-init g c = (
  omega arith,
  omega arith,
  none_passed c.as_slice-claims.result.now c.as_slice-inputs.result.now,
  [],
  g.met.S.FaultSink.takes_none c.args.sink.now,
  λ a are. none_told a c.as_slice-claims.result.now c.as_slice-inputs.result.now,
)

pub loop-source-smaller : goal.loop-source-smaller
loop-source-smaller g c =
    let cs = c.as_slice-claims.result.now in
    let is = c.as_slice-inputs.result.now in
    let claims = c.end_of_claims-last_claim.ensures c.as_slice-claims.ensures.sorted in
    let inputs = c.end_of_inputs-last_input.ensures c.as_slice-inputs.ensures.sorted in
    let further = claims.further in
    let within = claims.within in
    let more = inputs.further in
    let inside = inputs.within in
    let next = subst (IsNext (slice_get cs c.loop-source.claim) (slice_get is c.loop-source.input)) c.in-Some.is c.next_source.ensures in
    elim (progress cs is c.loop-source.claim c.loop-source.input c.end_of_claims-last_claim.result c.end_of_inputs-last_input.result c.in-Some.source next claims inputs) [
      | inl lt ↦ omega (arith, further, within, more, inside, lt)
      | inr lt ↦ omega (arith, further, within, more, inside, lt)
    ]

pub loop-source-preserved : goal.loop-source-preserved
loop-source-preserved g c =
    let cs = c.as_slice-claims.result.now in
    let is = c.as_slice-inputs.result.now in
    let claims = c.end_of_claims-last_claim.ensures c.as_slice-claims.ensures.sorted in
    let inputs = c.end_of_inputs-last_input.ensures c.as_slice-inputs.ensures.sorted in
    let group = group_in c.args.tables.now.books.now in
    let takes = g.S.FaultSink.takes in
    let so_far = c.loop-source.invariant in
    let found = c.in_ok-faults.faults.items in
    let kept = c.distinct_in_order.result.items in
    let fs = map fault_of kept in
    let named = ap (map Lineage) (map_twice (in_group group) fault_of kept) in
    let next = subst (IsNext (slice_get cs c.loop-source.claim) (slice_get is c.loop-source.input)) c.in-Some.is c.next_source.ensures in
    let joined = ap (map Lineage) (map-append (in_group group) so_far.3 fs) ∙ map-append Lineage (map (in_group group) so_far.3) (map (in_group group) fs) in
    let step = subst (λ (xs : List Fault). takes c.loop-source.sink xs c.hand_on.new.sink) named c.in_ok-hand_on.ensures in (
      claims.within,
      inputs.within,
      passed_more c.in-Some.source cs is c.loop-source.claim c.loop-source.input next c.end_of_claims-last_claim.result c.end_of_inputs-last_input.result so_far.2 claims inputs,
      so_far.3 ++ fs,
      subst (λ (xs : List Fault). takes c.args.sink.now xs c.hand_on.new.sink) (sym joined)
          (g.met.S.FaultSink.takes_both c.args.sink.now c.loop-source.sink c.hand_on.new.sink (map Lineage (map (in_group group) so_far.3)) (map Lineage (map (in_group group) fs)) so_far.4 step),
      λ a are.
          let all = subst (AreClaims a) (sym c.as_slice-claims.ensures.items) are.claims in
          let mine = claims_of_next c.in-Some.source cs is c.loop-source.claim c.loop-source.input next a c.end_of_claims-last_claim.result all c.as_slice-claims.ensures.sorted so_far.2 claims in
          let read = inputs_of_next c.in-Some.source cs is c.loop-source.claim c.loop-source.input next a c.end_of_inputs-last_input.result (subst (AreInputs a) (sym c.as_slice-inputs.ensures.items) are.inputs) c.as_slice-inputs.ensures.sorted so_far.2 inputs in
          let shown = c.in_ok-faults.ensures a are mine read in
          let tied = lent_all found kept c.distinct_in_order.ensures.all in
          told_more a cs is c.loop-source.claim c.end_of_claims-last_claim.result c.loop-source.input c.end_of_inputs-last_input.result c.in-Some.source so_far.3 fs (so_far.5 a are) claims inputs
          (lent_rises kept c.distinct_in_order.ensures.rises)
          (λ f h. subst (λ (xs : List OutputFault). Has xs f) shown (lent_each found kept c.distinct_in_order.ensures.each f h))
          (λ f h. let k = tied f (subst (λ (xs : List OutputFault). Has xs f) (sym shown) h) in subst (Has fs) (sym (fault_exact f k.0 (is_tied (fault_cmp f k.0) k.2))) k.1),
    )

pub returns : goal.returns
returns g c =
    let cs = c.as_slice-claims.result.now in
    let is = c.as_slice-inputs.result.now in
    let told = c.loop-source.invariant in
    let next = subst (IsNext (slice_get cs c.loop-source.claim) (slice_get is c.loop-source.input)) c.in_default.is c.next_source.ensures in
    let passed = all_passed cs is c.loop-source.claim c.loop-source.input c.loop-source.invariant.0 c.loop-source.invariant.1 next in (
      told.3,
      told.4,
      λ a reads are.
          let all = subst (λ n. AreTold a cs is n c.loop-source.input told.3) passed.0 (told.5 a are) in
          let whole = subst (λ n. AreTold a cs is (length cs) n told.3) passed.1 all in
          let of_claims = subst (λ ds. AreTold a ds is (length ds) (length is) told.3) c.as_slice-claims.ensures.items whole in
          let of_inputs = subst (λ js. AreTold a c.args.tables.now.claims js (length c.args.tables.now.claims) (length js) told.3) c.as_slice-inputs.ensures.items of_claims in
          whole_outputs a reads are.apart c.args.tables.now.claims are.claims c.args.tables.now.inputs are.inputs told.3 of_inputs,
    )
