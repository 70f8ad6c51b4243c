use Rattle.std.proofs.Common.{◌≡◌, ap, ◌∙◌, subst, map, length, List, true, false, ℕ, Result}
use Rattle.std.specs.Prelude.{nat_lt, slice_index_or}
use Rattle.std.specs.Ordering.{is_eq}
use Rattle.std.specs.List.{list_any}
use Rattle.std.specs.List.Sorted.{IsBinarySearchResult}
use Rattle.eos_lineage.specs.declared.passes.Pass.{Pass}
use Rattle.eos_lineage.specs.steps.Tables.{plain_pass, by_pass, reaches}
use Rattle.eos_lineage.proofs.PassSearch.{at_found, at_end, at_next}
use Rattle.eos_lineage.proofs.passes.PassTable.reaches.Goals as goal

pub returns-in-Ok : goal.returns-in-Ok
returns-in-Ok c =
    rw (← c.self.view_is) (subst (λ (xs : List Pass). true ≡ list_any (reaches (plain_pass c.args.wanted.now)) (map plain_pass xs)) c.deref.ensures.value
    (at_found c.deref.result.now c.args.wanted.now c.in-Ok.place c.in-Ok.ensures.bound c.in-Ok.ensures.ok))

pub returns-in-None : goal.returns-in-None
returns-in-None c =
    let here : IsBinarySearchResult (λ y. by_pass y c.args.wanted.now) c.self.inside.passes.items c.binary_search.result
    = subst (λ (xs : List Pass). IsBinarySearchResult (λ y. by_pass y c.args.wanted.now) xs c.binary_search.result) c.deref.ensures.value c.binary_search.ensures.position in
    let at = subst (λ (r : Result ℕ ℕ). IsBinarySearchResult (λ y. by_pass y c.args.wanted.now) c.self.inside.passes.items r) c.in-Err.is here in
    let after = subst (λ (xs : List Pass). false ≡ nat_lt c.in-Err.place (length xs)) c.deref-in-Err.ensures.value c.in-None.ensures.lookup.0 in
    rw (← c.self.view_is) (at_end c.self.inside.passes.items c.args.wanted.now c.in-Err.place c.self.invariant at after)

pub returns-in-Some : goal.returns-in-Some
returns-in-Some c =
    let here : IsBinarySearchResult (λ y. by_pass y c.args.wanted.now) c.self.inside.passes.items c.binary_search.result
    = subst (λ (xs : List Pass). IsBinarySearchResult (λ y. by_pass y c.args.wanted.now) xs c.binary_search.result) c.deref.ensures.value c.binary_search.ensures.position in
    let at = subst (λ (r : Result ℕ ℕ). IsBinarySearchResult (λ y. by_pass y c.args.wanted.now) c.self.inside.passes.items r) c.in-Err.is here in
    let inside = subst (λ (xs : List Pass). true ≡ nat_lt c.in-Err.place (length xs)) c.deref-in-Err.ensures.value c.in-Some.ensures.lookup.0 in
    let is = subst (λ (xs : List Pass). c.in-Some.pass.now ≡ slice_index_or xs c.in-Err.place c.in-Some.pass.now) c.deref-in-Err.ensures.value c.in-Some.ensures.lookup.1 in
    c.is_eq.ensures ∙ (ap is_eq c.cmp.ensures ∙ rw (← c.self.view_is) (at_next c.self.inside.passes.items c.args.wanted.now c.in-Err.place c.in-Some.pass.now c.self.invariant at inside is))
