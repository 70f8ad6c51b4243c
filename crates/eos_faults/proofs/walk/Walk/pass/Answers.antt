use Rattle.std.proofs.Common.{◌≡◌, sym, ap, ◌∙◌, ◌+◌, w64, rules, length}
use Rattle.std.specs.Ordering.{int_cmp}
use Rattle.std.specs.BTreeMap.{get}
use Rattle.std.proofs.lemmas.Int.{to_z-of_z}
use mir.Val.{SFits}
use Rattle.eos_batch.specs.declared.head.BatchHead.{BatchHead}
use Rattle.eos_batch.specs.Offsets.{offset_of}
use Rattle.eos_faults.proofs.OpenIds.{ids_kept}
use Rattle.eos_faults.proofs.WalkSteps.{shown_none, touches_none, shown_some, touches_some, next_is}
use Rattle.eos_faults.proofs.walk.Walk.pass.Goals as goal

pub returns-in_default-touch_of : goal.returns-in_default-touch_of
returns-in_default-touch_of c = λ sequenced front b size is on h.
    let offset : c.args.head.now.offset ≡ offset_of b = ap (λ (x : BatchHead). x.offset) is in
    let count : c.args.head.now.count ≡ length b.records = ap (λ (x : BatchHead). x.count) is in
    let sum : c.in-Some.next ≡ c.args.head.now.offset + c.from.result = search rules in
    let none = sym (c.touch_of.ensures b size is) ∙ c.in_default-touch_of.is in
    record {
      checks = h.checks;
      next = next_is front b c.args.head.now.offset c.from.result _ offset on (c.from.ensures ∙ count) sum;
      touches = touches_none front b c.args.self.now.last none h.touches;
      ids = h.ids;
      shown = shown_none sequenced front b c.args.self.now.shown.items none h.shown;
    }

pub returns : goal.returns
returns c = λ sequenced front b size is on h.
    let offset : c.args.head.now.offset ≡ offset_of b = ap (λ (x : BatchHead). x.offset) is in
    let count : c.args.head.now.count ≡ length b.records = ap (λ (x : BatchHead). x.count) is in
    let sum : c.in-Some.next ≡ c.args.head.now.offset + c.from.result = search rules in
    let some = sym (c.touch_of.ensures b size is) ∙ c.in-Some-touch_of.is in
    let fits : SFits w64 c.in-Some-touch_of.producer = search rules in
    let key = to_z-of_z w64 c.in-Some-touch_of.producer fits in
    let prev = c.copied-before.ensures ∙ (c.get.ensures.value ∙ (ap (get int_cmp c.args.self.now.last) key ∙ h.touches c.in-Some-touch_of.producer)) in
    let put = rw key at c.in_ok-put_touch.ensures in
    record {
      checks = h.checks;
      next = next_is front b c.args.head.now.offset c.from.result _ offset on (c.from.ensures ∙ count) sum;
      touches = touches_some front b c.in-Some-touch_of.producer c.in-Some-touch_of.touch c.args.self.now.last c.put_touch.new.last some put h.touches;
      ids = ids_kept c.args.self.now.last c.put_touch.new.last c.put_id.new.ids.items c.in-Some-touch_of.producer c.in-Some-touch_of.touch put (rw key at (c.in_ok-put_id.ensures.there h.ids)) (c.in_ok-put_id.ensures.kept h.ids);
      shown = shown_some sequenced c.args.self.now.is_sequenced front b c.in-Some-touch_of.producer c.in-Some-touch_of.touch c.copied-before.result c.args.head.now.offset c.args.self.now.shown.items c.push_pairs.new.shown.items some h.checks prev offset h.shown
          (rw key at c.in_ok-push_pairs.ensures);
    }
