use Rattle.std.proofs.Common.{rules, ◌≡◌, subst, length, List, ℕ, ℤ, true, w32, to_z, of_z}
use Rattle.std.specs.Prelude.{nat_lt, slice_index_or}
use Rattle.eos_base.specs.declared.partition_name.PartitionName.{PartitionName}
use Rattle.eos_commits.specs.declared.name.NameRef.{NameRef}
use Rattle.eos_commits.specs.NameTables.{plain_name}
use Rattle.eos_commits.proofs.NameSearch.{named_at}
use Rattle.eos_commits.proofs.name.Names.is_at.Goals as goal

abbrev name_with : List ℕ → ℤ → PartitionName
name_with topic number = record { topic = topic; partition = number }

pub returns-in-Some : goal.returns-in-Some
returns-in-Some c = λ h.
    let number : to_z w32 (of_z w32 c.args.partition) ≡ c.args.partition = search rules in
    let same = subst (λ n. plain_name c.in-Some.name.now ≡ name_with c.args.topic.now n) number (c.is_named.ensures h) in
    let inside = subst (λ (xs : List NameRef). true ≡ nat_lt c.args.place (length xs)) c.deref.ensures.value c.in-Some.ensures.lookup.0 in
    let is = subst (λ (xs : List NameRef). c.in-Some.name.now ≡ slice_index_or xs c.args.place c.in-Some.name.now) c.deref.ensures.value c.in-Some.ensures.lookup.1 in
    rw (← c.self.view_is) (named_at c.self.inside.refs.items c.self.inside.names.now (name_with c.args.topic.now c.args.partition) c.in-Some.name.now c.args.place c.self.invariant inside is same)
