use Rattle.std.proofs.Common.{◌≡◌, sym, ap, ◌∙◌, arith, [], ◌∷◌, length}
use Rattle.std.proofs.lemmas.List.{length-append}
use Rattle.eos_batch.specs.declared.head.BatchHead.{BatchHead}
use Rattle.eos_touch.specs.declared.fault.PartitionFaultKind.TheVariants.{Gap}
use Rattle.eos_batch.specs.Offsets.{offset_of}
use Rattle.eos_touch.proofs.Continuity.{expected_is, begin_of-push, goes_on, next_offset-push}
use Rattle.eos_segment.proofs.LeastAtBatch.{gap_at_batch, pair_at_batch, each-push}
use Rattle.eos_segment.proofs.chain_walk.Walk.pass.Goals as goal

pub returns-then-offset-next : goal.returns-then-offset-next
returns-then-offset-next c = λ before b size is counted h.
    let offset : c.args.head.now.offset ≡ offset_of b = ap (λ (x : BatchHead). x.offset) is in
    let next = c.at_first-next.ensures ∙ expected_is before b _ _ _ h.number h.next offset in
    gap_at_batch before b _ _ next (λ q. c.if-offset-next.true (offset ∙ q))
    c.unnamed.ensures.topic c.unnamed.ensures.partition c.unnamed.ensures.offset (c.unnamed.ensures.kind ∙ ap Gap offset)

pub returns-in-Err : goal.returns-in-Err
returns-in-Err c = λ before b size is counted h.
    let offset : c.args.head.now.offset ≡ offset_of b = ap (λ (x : BatchHead). x.offset) is in
    let next = c.at_first-next.ensures ∙ expected_is before b _ _ _ h.number h.next offset in
    let on = goes_on before b h.continuous counted.first (sym offset ∙ (c.if-offset-next.false ∙ next)) in
    let l = rw c.in-Err.is at (c.in_ok-kind.ensures before b size is h.last) in
    pair_at_batch before b _ c.in-Err.kind on l
    c.unnamed-in-Err.ensures.topic c.unnamed-in-Err.ensures.partition (c.unnamed-in-Err.ensures.offset ∙ offset) c.unnamed-in-Err.ensures.kind

pub returns : goal.returns
returns c = λ before b size is counted h.
    let offset : c.args.head.now.offset ≡ offset_of b = ap (λ (x : BatchHead). x.offset) is in
    let count : c.args.head.now.count ≡ length b.records = ap (λ (x : BatchHead). x.count) is in
    let next = c.at_first-next.ensures ∙ expected_is before b _ _ _ h.number h.next offset in
    let at = sym offset ∙ (c.if-offset-next.false ∙ next) in
    let l = rw c.in_default.is at (c.in_ok-kind.ensures before b size is h.last) in
    record {
      continuous = goes_on before b h.continuous counted.first at;
      each = each-push [] before b h.each l.0;
      begin = c.at_first-self.ensures ∙ begin_of-push before b _ _ _ h.number h.begin offset;
      next = omega (arith, offset, count, c.from.ensures, next_offset-push before b at);
      number = omega (arith, h.number, length-append before (b ∷ []));
      last = l.1;
    }
