use Rattle.std.proofs.Common.{Option, true, sym, ap, subst, ◌∙◌, w64, rules}
use Rattle.std.specs.Ordering.{int_cmp}
use Rattle.std.specs.BTreeMap.{get}
use Rattle.std.proofs.lemmas.Int.{to_z-of_z}
use mir.Val.{SFits}
use Rattle.eos_touch.specs.declared.touch.Touch.{Touch}
use Rattle.eos_touch.specs.Pair.{IsLeast}
use Rattle.eos_segment.proofs.TouchTable.{last-unchanged, last-inserted}
use Rattle.eos_segment.proofs.Following.{follows_none, follows_some}
use Rattle.eos_segment.proofs.chain_walk.take_touch.Goals as goal

pub returns-in_default : goal.returns-in_default
returns-in_default c = λ before b size is h.
    let none = sym (c.touch_of.ensures b size is) ∙ c.in_default.is in
    (follows_none before b none, last-unchanged before b _ none h)

pub returns-in-Err : goal.returns-in-Err
returns-in-Err c = λ before b size is h.
    let some = sym (c.touch_of.ensures b size is) ∙ c.in-Some.is in
    let fits : SFits w64 c.in-Some.producer = search rules in
    let key = to_z-of_z w64 c.in-Some.producer fits in
    let prev = c.copied-before.ensures ∙ (c.get.ensures.value ∙ (ap (get int_cmp c.args.last.now) key ∙ h.touches c.in-Some.producer)) in
    rw key (c.in-Some.touch, some, subst (λ (p : Option Touch). IsLeast true p c.in-Some.touch c.in-Err.fault) prev c.in-Err.ensures.least)

pub returns : goal.returns
returns c = λ before b size is h.
    let some = sym (c.touch_of.ensures b size is) ∙ c.in-Some.is in
    let fits : SFits w64 c.in-Some.producer = search rules in
    let key = to_z-of_z w64 c.in-Some.producer fits in
    let prev = c.copied-before.ensures ∙ (c.get.ensures.value ∙ (ap (get int_cmp c.args.last.now) key ∙ h.touches c.in-Some.producer)) in (
      follows_some before b _ c.in-Some.producer c.in-Some.touch some prev (sym c.in_default-pair_ok.ensures.table) c.in_default-pair_ok.ensures.ok,
      last-inserted before b _ _ c.in-Some.producer _ c.in-Some.touch c.in_ok-insert.field-0 some key c.in_ok-insert.ensures.updates.0 c.in_ok-insert.ensures.old c.in_ok-insert.ensures.len h,
    )
