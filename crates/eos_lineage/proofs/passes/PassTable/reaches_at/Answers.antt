use Rattle.std.proofs.Common.{◌≡◌, subst, length, List, true}
use Rattle.std.specs.Prelude.{nat_lt, slice_index_or}
use Rattle.eos_lineage.specs.declared.passes.Pass.{Pass}
use Rattle.eos_lineage.proofs.PassSearch.{at_reached}
use Rattle.eos_lineage.proofs.passes.PassTable.reaches_at.Goals as goal

pub returns-then-wanted-pass : goal.returns-then-wanted-pass
returns-then-wanted-pass c = λ h.
    let inside = subst (λ (xs : List Pass). true ≡ nat_lt c.args.place (length xs)) c.deref.ensures.value c.in-Some.ensures.lookup.0 in
    let is = subst (λ (xs : List Pass). c.in-Some.pass.now ≡ slice_index_or xs c.args.place c.in-Some.pass.now) c.deref.ensures.value c.in-Some.ensures.lookup.1 in
    rw (← c.self.view_is) (at_reached c.self.inside.passes.items c.args.wanted.now c.args.place c.in-Some.pass.now inside is (c.is_same_key.ensures h) c.if-wanted-pass.true)
