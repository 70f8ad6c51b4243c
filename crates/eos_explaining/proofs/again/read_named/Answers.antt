use Rattle.std.proofs.Common.{◌≤◌, ◌-◌, ◌∙◌, ◌+◌, List, length, take, drop, subst, sym, rules}
use Rattle.std.specs.Option.{option_copied}
use Rattle.std.specs.Prelude.{option_map}
use Rattle.std.proofs.lemmas.Bool.{false≢true}
use Rattle.std.proofs.lemmas.List.{take_all}
use Rattle.eos_base.specs.declared.partition_name.PartitionName.{PartitionName}
use Rattle.eos_claims.specs.declared.place.Place.{Place}
use Rattle.eos_source.specs.Said.{known_by}
use Rattle.eos_sought.specs.declared.folded.Folded.{Folded}
use Rattle.eos_story.specs.Names.{name_in}
use Rattle.eos_explaining.specs.steps.Again.{AreAbsent, AreNamedOrRead, IsNamedOrRead}
use Rattle.eos_explaining.proofs.Covered.{none_come, none_absent, more_still, both_absent, take_on, named_settled}
use Rattle.eos_explaining.proofs.again.read_named.Goals.{then-more, else-more}
use Rattle.eos_explaining.proofs.again.read_named.Goals as goal

pub loop-first-init : goal.loop-first-init
loop-first-init g c = (search rules, none_come _ _ c.args.read.now.items, λ none. none_absent _ c.args.read.now.items)

pub loop-first-preserved : goal.loop-first-preserved
loop-first-preserved g c =
    let source = c.args.pieces.now.source.now in
    let known = known_by (g.S.Source.said source) (g.S.Source.is_log source) in
    let shapes = c.args.pieces.now.shape.now.partitions in
    let names = c.as_slice-names.result.now in
    let start = c.args.read.now.items in
    let first = c.loop-first.first in
    let count = c.min-count.result in
    let within : first + count ≤ length names = search rules in (
      within,
      more_still known shapes start c.loop-first.read.items c.read_each.new.read.items c.loop-first.invariant.1 c.in_ok-one.ensures.more,
      λ none. elim c.if-more.branch [
        | then-more w ↦ absurd (false≢true (sym none ∙ (w.more-is ∙ w.if-more.true)))
        | else-more w ↦ both_absent shapes start c.loop-first.read.items c.read_each.new.read.items (take first names) (take (first + count - first) (drop first names)) (take (first + count) names)
            (take_on names first count c.loop-first.invariant.0) (c.loop-first.invariant.2 w.if-more.false) (c.in_ok-one.ensures.absent (sym w.more-is ∙ none))
      ],
    )

pub returns-clause-covered : goal.returns-clause-covered
returns-clause-covered g c =
    let shapes = c.args.pieces.now.shape.now.partitions in
    let names = c.as_slice-names.result.now in
    let before = c.args.read.now.items in
    let after = c.loop-first.read.items in
    let own = option_map (λ (p : Place). p.partition) (option_copied c.args.place) in
    let this : IsNamedOrRead before names own =
    subst (λ (ns : List PartitionName). IsNamedOrRead before ns own) (sym c.as_slice-names.ensures.value)
    (subst (λ (fs : List Folded). IsNamedOrRead fs c.in_ok-names.names.items own) c.as_slice.ensures.value (subst (IsNamedOrRead c.as_slice.result.now c.in_ok-names.names.items) c.own_name.ensures c.in_ok-names.ensures.own)) in
    let named : AreNamedOrRead before names name_in c.args.rows.now =
    subst (λ (ns : List PartitionName). AreNamedOrRead before ns name_in c.args.rows.now) (sym c.as_slice-names.ensures.value) (subst (λ (fs : List Folded). AreNamedOrRead fs c.in_ok-names.names.items name_in c.args.rows.now) c.as_slice.ensures.value c.in_ok-names.ensures.rows) in
    named_settled shapes before after names own c.args.rows.now c.loop-first.more this named (λ none. subst (λ (ns : List PartitionName). AreAbsent shapes before after ns) (take_all c.loop-first.first names c.loop-first-test.false) (c.loop-first.invariant.2 none))
