use Rattle.std.proofs.Common.{rules, ◌≡◌, ap, ◌∙◌, Some, subst, map, is_ok, List, ℕ, ℤ, w32, to_z, of_z}
use Rattle.std.specs.Prelude.{slice_get}
use Rattle.eos_base.specs.declared.partition_name.PartitionName.{PartitionName}
use Rattle.eos_base.specs.Members.{Has}
use Rattle.eos_commits.specs.declared.name.NameRef.{NameRef}
use Rattle.eos_commits.specs.NameTables.{plain_name, AreAscending}
use Rattle.eos_commits.proofs.NameSearch.{found_named, not_there}
use Rattle.eos_commits.proofs.name.Names.find.Goals as goal

abbrev name_with : List ℕ → ℤ → PartitionName
name_with topic number = record { topic = topic; partition = number }

pub returns-in-Ok-clause-named : goal.returns-in-Ok-clause-named
returns-in-Ok-clause-named c =
    let inv : map plain_name c.self.inside.refs.items ≡ c.self.inside.names.now = c.self.invariant in
    let number : to_z w32 (of_z w32 c.args.partition) ≡ c.args.partition = search rules in
    let key : NameRef = record { topic = c.args.topic; partition = to_z w32 (of_z w32 c.args.partition) } in
    let found = found_named c.deref.result.now c.self.inside.names.now key c.in-Ok.place (ap (map plain_name) c.deref.ensures.value ∙ inv) c.in-Ok.ensures.bound c.in-Ok.ensures.ok in
    rw (← c.self.view_is) (subst (λ n. slice_get c.self.inside.names.now c.in-Ok.place ≡ Some (name_with c.args.topic.now n)) number found)

pub returns-in-Err-clause-absent : goal.returns-in-Err-clause-absent
returns-in-Err-clause-absent c =
    let inv : map plain_name c.self.inside.refs.items ≡ c.self.inside.names.now = c.self.invariant in
    let number : to_z w32 (of_z w32 c.args.partition) ≡ c.args.partition = search rules in
    let key : NameRef = record { topic = c.args.topic; partition = to_z w32 (of_z w32 c.args.partition) } in
    let absent = not_there c.deref.result.now c.self.inside.names.now key c.binary_search.result (ap (map plain_name) c.deref.ensures.value ∙ inv)
    c.binary_search.ensures.bound c.binary_search.ensures.position (ap is_ok c.in-Err.is) in
    rw (← c.self.view_is) (subst (λ n. AreAscending c.self.inside.names.now → Has c.self.inside.names.now (name_with c.args.topic.now n) → ⊥) number absent)
