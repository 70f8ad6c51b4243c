use Rattle.std.proofs.Common.{◌∙◌, None, pos, refl, sym, rules}
use Rattle.std.proofs.lemmas.List.Sorted.{answers_always}
use Rattle.eos_commits.specs.declared.table.Entry.{Entry}
use Rattle.eos_commits.proofs.EntryOrder.{under_tied}
use Rattle.eos_commits.proofs.table.sorted_by_group.Goals as goal

pub returns-clause-sorted : goal.returns-clause-sorted
returns-clause-sorted c = c.in_ok-sort_by_key.ensures.sorted (λ entry. entry.group) (answers_always _ _ _ (λ f a r g called. search rules))

pub returns-clause-stable : goal.returns-clause-stable
returns-clause-stable c group =
    let blank : Entry = record {
      group = record { ref_ptr = (0, 0); now = group };
      commit = record { topic = record { ref_ptr = (0, 0); now = group }; partition = pos 0; offset = pos 0; leader_epoch = pos 0; writer = None };
    } in
    sym (under_tied group blank c.sort_by_key.new.self.items refl)
    ∙ (c.in_ok-sort_by_key.ensures.stable (λ entry. entry.group) (answers_always _ _ _ (λ f a r g called. search rules)) blank
    ∙ under_tied group blank c.args.entries.items refl)
