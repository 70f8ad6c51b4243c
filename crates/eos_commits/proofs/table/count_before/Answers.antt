use Rattle.std.proofs.Common.{◌+◌, ◌-◌, ◌/◌, ◌<◌, length, sym, ap, ◌∙◌, arith}
use Rattle.std.specs.Ordering.{is_lt, nat_cmp}
use Rattle.std.specs.Cmp.Lexicographic.{slice_cmp}
use Rattle.std.proofs.lemmas.List.{get_or_default}
use Rattle.eos_commits.specs.declared.table.Entry.{Entry}
use Rattle.eos_commits.proofs.EntryOrder.{all_before, all_from}
use Rattle.eos_commits.proofs.table.count_before.Goals as goal

pub loop-low-preserved-then-is_before : goal.loop-low-preserved-then-is_before
loop-low-preserved-then-is_before c =
    let i = c.loop-low.invariant in
    let es = c.args.entries.now in
    let group = c.args.group.now in
    let middle = c.loop-low.low + (c.loop-low.high - c.loop-low.low) / 2 in
    let less = c.loop-low-test.true in
    let inside : middle < length es = omega (arith, less, i.within) in record {
      order = omega (arith, less);
      within = i.within;
      before = λ k d lt.
          all_before es c.requires group k middle d (omega (arith, lt)) inside
          (ap (λ (e : Entry). is_lt (slice_cmp nat_cmp e.group.now group)) (get_or_default es middle d _ inside) ∙ (sym c.is_before.ensures ∙ c.if-is_before.true));
      from = i.from;
    }

pub loop-low-preserved : goal.loop-low-preserved
loop-low-preserved c =
    let i = c.loop-low.invariant in
    let es = c.args.entries.now in
    let group = c.args.group.now in
    let middle = c.loop-low.low + (c.loop-low.high - c.loop-low.low) / 2 in
    let less = c.loop-low-test.true in
    let inside : middle < length es = omega (arith, less, i.within) in record {
      order = omega arith;
      within = omega (arith, inside);
      before = i.before;
      from = λ k d le lt.
          all_from es c.requires group middle k d le lt
          (ap (λ (e : Entry). is_lt (slice_cmp nat_cmp e.group.now group)) (get_or_default es middle d _ inside) ∙ (sym c.is_before.ensures ∙ c.if-is_before.false));
    }
