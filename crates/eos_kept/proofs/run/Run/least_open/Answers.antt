use Rattle.std.proofs.Common.{rules, refl, subst, ◌≡◌, ◌⊎◌, ℕ, ℤ, Option, Some, w64}
use Rattle.eos_touch.specs.declared.touch.Touch.{Touch}
use Rattle.eos_fold.specs.BatchesWhole.{IsLeastId, IsLeftOpen}
use Rattle.std.proofs.lemmas.Int.{to_z-of_z}
use mir.Val.{SFits}
use Rattle.eos_fold.proofs.Judged.{open_start, open_step, open_end, found_more, found_start}
use Rattle.eos_kept.proofs.run.Run.least_open.Goals as goal

pub loop-producer-init : goal.loop-producer-init
loop-producer-init c = record {
  found = found_start c.args.self.now.producers _ c.iter-rest.ensures.rest c.iter-rest.ensures.found;
  judged = λ hs h. open_start hs c.args.self.now.producers _ c.iter-rest.ensures.rest;
}

pub loop-producer-preserved : goal.loop-producer-preserved
loop-producer-preserved c =
    let fits : SFits w64 c.in-Some.producer.now = search rules in
    let key = to_z-of_z w64 c.in-Some.producer.now fits in
    let t = c.args.self.now.producers in
    record {
      found = found_more t _ _ _ _ c.in-Some.ensures.steps c.loop-producer.invariant.found;
      judged = λ hs h.
          let p = c.in-Some.producer.now in
          let least = c.loop-producer.least in
          let at = subst (λ (k : ℤ). IsLeastId (λ i. (least ≡ Some i) ⊎ ((i ≡ k) × IsLeftOpen c.last.result)) c.lesser_open-least.result) key c.lesser_open-least.ensures in
          let here = subst (λ (l : Option (ℕ × Touch)). IsLeastId (λ i. (least ≡ Some i) ⊎ ((i ≡ p) × IsLeftOpen l)) c.lesser_open-least.result) c.last.ensures at in
          open_step hs t p p _ _ _ _ _ refl c.in-Some.ensures.steps h.known.ends c.loop-producer.invariant.found here (c.loop-producer.invariant.judged hs h);
    }

pub returns : goal.returns
returns c = λ hs h. open_end hs c.args.self.now.producers _ _ c.in_default.ensures.steps.0 h.known.ends (c.loop-producer.invariant.judged hs h)
