use Rattle.std.proofs.Common.{◌≤◌, length, subst, sym, rules}
use Rattle.eos_machine.proofs.Grouping.{joining_within}
use Rattle.eos_log_writer.proofs.Texts.{IsCut, cut_few, cut_joined, cut_fits, one_left}
use Rattle.eos_log_writer.proofs.batches.items_text.Goals as goal

pub split_at-requires : goal.split_at-requires
split_at-requires c = subst (λ n. n ≤ length c.in-Some.more.now) (sym c.joining-count.ensures) (joining_within _ c.in-Some.first.now c.in-Some.more.now)

cut : (c : goal.After-base_at) → IsCut c.args.config c.loop-first.rest.now c.in-Some.first.now c.joining-count.result c.split_at.result.0.now c.split_at.result.1.now
cut c = record { more = c.in-Some.more.now; is = c.in-Some.ensures.cases.0; count = c.joining-count.ensures; front = c.split_at.ensures.front; back = c.split_at.ensures.back }

pub batch_text-requires-clause-few : goal.batch_text-requires-clause-few
batch_text-requires-clause-few c = cut_few _ _ _ _ _ _ c.requires.config (cut c)

pub batch_text-requires-clause-joined : goal.batch_text-requires-clause-joined
batch_text-requires-clause-joined c = cut_joined _ _ _ _ _ _ (cut c)

pub batch_text-requires-clause-fits : goal.batch_text-requires-clause-fits
batch_text-requires-clause-fits c = cut_fits _ _ _ _ _ _ (cut c) c.loop-first.invariant.3

pub loop-first-preserved-in_ok-extend_from_slice : goal.loop-first-preserved-in_ok-extend_from_slice
loop-first-preserved-in_ok-extend_from_slice c =
    one_left c.args.config c.args.leaders.place c.args.leaders.elections.now c.args.offset c.loop-first.base c.joining-count.result c.base_at.result c.in-Some.first.now c.loop-first.rest.now c.split_at.result.0.now c.split_at.result.1.now c.args.items.now c.loop-first.out.items c.extend_from_slice.new.self.items c.in_ok-text.text
    (record { more = c.in-Some.more.now; is = c.in-Some.ensures.cases.0; count = c.joining-count.ensures; front = c.split_at.ensures.front; back = c.split_at.ensures.back }) c.loop-first.invariant c.base_at.ensures c.in_ok-text.ensures.text c.in_ok-text.ensures.written (search rules)

pub loop-first-preserved : goal.loop-first-preserved
loop-first-preserved c =
    one_left c.args.config c.args.leaders.place c.args.leaders.elections.now c.args.offset c.loop-first.base c.joining-count.result c.base_at.result c.in-Some.first.now c.loop-first.rest.now c.split_at.result.0.now c.split_at.result.1.now c.args.items.now c.loop-first.out.items c.extend_from_slice.new.self.items c.in_ok-text.text
    (record { more = c.in-Some.more.now; is = c.in-Some.ensures.cases.0; count = c.joining-count.ensures; front = c.split_at.ensures.front; back = c.split_at.ensures.back }) c.loop-first.invariant c.base_at.ensures c.in_ok-text.ensures.text c.in_ok-text.ensures.written (search rules)
