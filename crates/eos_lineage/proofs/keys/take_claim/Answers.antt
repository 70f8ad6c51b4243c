use Rattle.std.proofs.Common.{rules, ◌≡◌, ◌∙◌, refl, sym, subst, Some, List, ℕ, ℤ, true, w32, to_z, of_z}
use Rattle.std.specs.Prelude.{slice_get}
use Rattle.eos_base.specs.declared.partition_name.PartitionName.{PartitionName}
use Rattle.eos_lineage.specs.steps.Keys.{plain_keys}
use Rattle.eos_lineage.specs.steps.Tables.{is_reached}
use Rattle.eos_lineage.specs.steps.Walks.{plain_placed}
use Rattle.eos_lineage.proofs.KeysJoined.{keyed_one}
use Rattle.eos_lineage.proofs.TableLookups.{reached}
use Rattle.eos_lineage.proofs.keys.take_claim.Goals as goal

abbrev name_with : List ℕ → ℤ → PartitionName
name_with topic number = record { topic = topic; partition = number }

pub returns-in-Ok : goal.returns-in-Ok
returns-in-Ok c = λ a are.
    let claim = plain_placed c.args.placed.now in
    let books = c.args.books.now in
    let number : to_z w32 (of_z w32 claim.source.partition.partition) ≡ claim.source.partition.partition = search rules in
    let at = subst (λ n. slice_get books.names.now c.in_ok-place.place ≡ Some (name_with claim.source.partition.topic n)) number c.in_ok-place.ensures.named in
    let asked = subst (λ n. c.is_passed.result ≡ is_reached books.passes.now claim.writer (record { partition = name_with claim.source.partition.topic n; offset = claim.source.offset })) number c.is_passed.ensures in
    let yes : c.is_passed.result ≡ true = search rules in
    let passed = sym (reached claim.writer claim.source a.commits books.passes.now are.passes) ∙ (sym asked ∙ yes) in
    keyed_one a books.names.now (plain_keys c.args.keys.now) (plain_keys (record { keys = c.push.new.self; outputs = c.in_ok-keys.field-0 })) claim c.in_ok-place.place c.in_ok-key.key c.in_ok-keys.field-0
    are.names at c.in_ok-key.ensures.is c.in_ok-key.ensures.fits passed c.in-Ok.ensures.items c.in_ok-keys.ensures refl
