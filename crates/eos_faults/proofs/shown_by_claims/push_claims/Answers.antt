use Rattle.std.proofs.Common.{◌∙◌, map, ap, sym, append-nil}
use Rattle.std.specs.Option.{option_copied}
use Rattle.eos_faults.specs.steps.OutputFaultsGathered.{shown_at}
use Rattle.eos_faults.specs.steps.Plain.{claim_at, fault_of}
use Rattle.eos_faults.proofs.PushedOnto.{pushed_onto}
use Rattle.eos_faults.proofs.ShownClaims.{pushed_claim}
use Rattle.eos_faults.proofs.SortedClaims.{first_begins}
use Rattle.eos_faults.proofs.shown_by_claims.push_claims.Goals as goal

pub loop-claim-init : goal.loop-claim-init
loop-claim-init c = λ a i are known of.
    (sym (append-nil (map fault_of c.args.faults.now.items)), first_begins a are.apart i c.args.claims.now of c.in-Some.first.now (sym (ap option_copied (sym c.in-Some.is) ∙ c.first.ensures.value)))

pub loop-claim-preserved : goal.loop-claim-preserved
loop-claim-preserved c = λ a i are known of.
    let cs = c.args.claims.now in
    let k = c.loop-claim.claim-index in
    let lt = c.loop-claim-test.true in
    let head = sym (ap option_copied (sym c.in-Some.is) ∙ c.first.ensures.value) in
    let so_far = c.loop-claim.invariant a i are known of in
    let start = map fault_of c.args.faults.now.items in
    let before = map fault_of c.loop-claim.faults.items in
    let after = map fault_of c.push_numbered.new.faults.items in
    let r = pushed_claim a i cs are.apart of c.args.known known c.is_passed.result k _ c.in-Some.first.now c.loop-claim.numbered c.first_numbered-numbered.result lt head so_far.1 c.first_numbered-numbered.ensures (c.is_passed.ensures a are)
    before (map fault_of c.push_placed.new.faults.items) after c.in_ok-push_placed.ensures c.in_ok-push_numbered.ensures in
    (pushed_onto (shown_at a) claim_at start before after cs k _ lt so_far.0 r.0, r.1)
