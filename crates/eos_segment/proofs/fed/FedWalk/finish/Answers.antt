use Rattle.std.proofs.Common.{◌∙◌, List, ℕ, length, refl, sym, ap, subst}
use Rattle.std.proofs.lemmas.List.{nil_from_length}
use Rattle.eos_segment.specs.Counts.{IsProducerCount}
use Rattle.eos_segment.proofs.FedSteps.{fed_broken, fed_cut, fed_good}
use Rattle.eos_segment.proofs.fed.FedWalk.finish.Goals as goal

pub returns-in-Some : goal.returns-in-Some
returns-in-Some c = λ bytes rest f len. fed_broken bytes rest c.args.self c.in-Some.fault f c.in-Some.is

pub returns-then-waiting-ne0 : goal.returns-then-waiting-ne0
returns-then-waiting-ne0 c = λ bytes rest f len.
    fed_cut bytes rest c.args.self c.bad_batch.result f c.in_default.is (λ none. c.if-waiting-ne0.true (sym len ∙ ap (λ (xs : List ℕ). length xs) none))
    c.bad_batch.ensures.topic c.bad_batch.ensures.partition c.bad_batch.ensures.offset c.bad_batch.ensures.kind

pub returns : goal.returns
returns c = λ bytes rest f len.
    fed_good bytes rest c.args.self _ f c.in_default.is (nil_from_length rest (len ∙ c.if-waiting-ne0.false)) refl
    (λ batches h. subst (IsProducerCount batches) (sym c.len.ensures.len) h.last.count)
