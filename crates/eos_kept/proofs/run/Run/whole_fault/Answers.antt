use Rattle.std.proofs.Common.{rules, refl, sym, subst, ◌≡◌, ℕ, ℤ, Option, w64}
use Rattle.eos_touch.specs.declared.touch.Touch.{Touch}
use Rattle.eos_fold.specs.Faults.{IsLeastOf}
use Rattle.std.proofs.lemmas.Int.{to_z-of_z}
use mir.Val.{SFits}
use Rattle.eos_fold.specs.BatchesWhole.{StandsFirst, StandsInWhole}
use Rattle.eos_fold.proofs.Judged.{Judged, IsLeastSoFar, judged_start, judged_step, judged_end, found_more, found_start}
use Rattle.eos_kept.proofs.run.Run.whole_fault.Goals as goal

pub loop-producer-init : goal.loop-producer-init
loop-producer-init c = record {
  found = found_start c.args.self.now.producers _ c.iter-rest.ensures.rest c.iter-rest.ensures.found;
  judged = λ hs h. judged_start c.args.self.now.sequenced hs c.args.self.now.producers _ c.args.self.now.fault c.iter-rest.ensures.rest h.known.fault;
}

pub loop-producer-preserved : goal.loop-producer-preserved
loop-producer-preserved c =
    let fits : SFits w64 c.in-Some.producer.now = search rules in
    let key = to_z-of_z w64 c.in-Some.producer.now fits in
    let t = c.args.self.now.producers in
    record {
      found = found_more t _ _ _ _ c.in-Some.ensures.steps c.loop-producer.invariant.found;
      judged = λ hs h.
          let w = c.args.self.now.sequenced in
          let p = c.in-Some.producer.now in
          let at = subst (λ (k : ℤ). IsLeastOf (λ o id x. (id ≡ k) × StandsFirst w c.first.result o x) c.at_first.result) key c.at_first.ensures in
          let here = subst (λ (f : Option (ℕ × Touch)). IsLeastOf (λ o id x. (id ≡ p) × StandsFirst w f o x) c.at_first.result) c.first.ensures at in
          subst (IsLeastSoFar (Judged w hs t c.next.new.self) (StandsInWhole w hs)) (sym c.earlier-fault.ensures)
          (judged_step w hs t p p _ _ _ _ _ refl c.in-Some.ensures.steps h.known.ends c.loop-producer.invariant.found here (c.loop-producer.invariant.judged hs h));
    }

pub returns : goal.returns
returns c = λ hs h. judged_end c.args.self.now.sequenced hs c.args.self.now.producers _ _ c.in_default.ensures.steps.0 h.known.ends (c.loop-producer.invariant.judged hs h)
