use Rattle.std.proofs.Common.{◌≡◌, ◌∷◌, [], ◌++◌, List, sym, ap, ◌∙◌, false, true}
use Rattle.eos_batch.specs.Attributes.{is_control}
use Rattle.eos_batch.specs.declared.head.BatchHead.{BatchHead}
use Rattle.eos_fold.specs.Heads.{DataHead}
use Rattle.std.proofs.lemmas.List.{append-nil}
use Rattle.eos_kept.proofs.JoinedRuns.{begins_with, made, no_data}
use Rattle.eos_kept.proofs.run.Run.take.Goals as goal

pub returns-then-not-head-clause-ok : goal.returns-then-not-head-clause-ok
returns-then-not-head-clause-ok c = λ batches b h of.
    let s = c.args.self.now in
    let hs = c.take_touch.new.self.heads.list in
    let taken = c.in_ok-take_touch.ensures.taken batches b h (begins_with batches s c.reserve.new.self.list of c.reserve.ensures.list) in
    let plain : c.args.head.now.is_control ≡ false = search in
    made batches (b ∷ []) s.sequenced _ hs taken c.take_touch.ensures.sequenced (c.push.ensures ∙ ap (λ (gs : List DataHead). hs ++ gs) (sym (c.data_head.ensures b h.size h.is plain)))

pub returns-else-not-head-clause-ok : goal.returns-else-not-head-clause-ok
returns-else-not-head-clause-ok c = λ batches b h of.
    let s = c.args.self.now in
    let hs = c.take_touch.new.self.heads.list in
    let taken = c.in_ok-take_touch.ensures.taken batches b h (begins_with batches s c.reserve.new.self.list of c.reserve.ensures.list) in
    let marks : c.args.head.now.is_control ≡ true = search in
    let here : is_control b.attributes ≡ true = ap (λ (x : BatchHead). x.is_control) (sym h.is) ∙ marks in
    made batches (b ∷ []) s.sequenced c.take_touch.new.self hs taken c.take_touch.ensures.sequenced (sym (append-nil hs) ∙ ap (λ (gs : List DataHead). hs ++ gs) (no_data b here))
