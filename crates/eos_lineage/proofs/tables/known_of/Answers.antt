use Rattle.std.proofs.Common.{rules, ◌≡◌, refl, sym, subst, Some, List, ℕ, ℤ, w32, to_z, of_z}
use Rattle.std.specs.Prelude.{slice_get}
use Rattle.eos_base.specs.declared.partition_name.PartitionName.{PartitionName}
use Rattle.eos_base.specs.Members.{Has}
use Rattle.eos_claims.specs.declared.place.PlaceRef.{PlaceRef}
use Rattle.eos_claims.specs.Plain.{plain_source}
use Rattle.eos_lineage.specs.declared.tables.Known.{Known}
use Rattle.eos_lineage.specs.steps.Walks.{KnowsPlace}
use Rattle.eos_lineage.proofs.TableLookups.{knows, knows_none}
use Rattle.eos_lineage.proofs.tables.known_of.Goals as goal

abbrev name_with : List ℕ → ℤ → PartitionName
name_with topic number = record { topic = topic; partition = number }

pub returns-in_err-part : goal.returns-in_err-part
returns-in_err-part c = λ a are.
    let number : to_z w32 (of_z w32 c.args.source.now.partition) ≡ c.args.source.now.partition = search rules in
    let absent = subst (λ n. Has c.args.tables.now.names.now (name_with c.args.source.now.topic.now n) → ⊥) number (c.in_err-part.ensures.absent are.names) in
    subst (KnowsPlace a (plain_source c.args.source.now)) (sym c.from_residual.ensures) (knows_none a c.args.tables.now are (plain_source c.args.source.now) absent)

pub returns : goal.returns
returns c = λ a are.
    let number : to_z w32 (of_z w32 c.args.source.now.partition) ≡ c.args.source.now.partition = search rules in
    let named = subst (λ n. slice_get c.args.tables.now.names.now c.in_ok-part.part.place ≡ Some (name_with c.args.source.now.topic.now n)) number c.in_ok-part.ensures.named in
    let place : PlaceRef = record { partition = c.in_ok-part.part.name; offset = c.args.source.now.offset } in
    let known : Known = record { place = place; is_input = c.is_input.result; is_committed = c.is_below_at.result } in
    knows a c.args.tables.now are (plain_source c.args.source.now) c.in_ok-part.part known c.in_ok-part.ensures.found named refl c.is_input.ensures c.is_below_at.ensures
