use Rattle.std.proofs.Common.{◌<◌, ℕ, List, refl, length, sym, ap, subst, ◌∙◌, arith, slice_index_or}
use Rattle.eos_fold.specs.Settling.{ended}
use Rattle.eos_fold.specs.steps.Endings.{set_endings}
use Rattle.eos_kept.specs.Runs.{heads_of}
use Rattle.eos_kept.proofs.HeadLists.{sets_none, sets_more, sets_all}
use Rattle.eos_kept.proofs.heads.Heads.set_endings.Goals as goal

pub loop-place-init : goal.loop-place-init
loop-place-init c = record { set = sets_none (ended c.args.marker) c.as_slice-place-items.result.now c.args.self.now.list; all = refl; room = refl }

pub set_ending-requires : goal.set_ending-requires
set_ending-requires c =
    let i = c.loop-place.place-index in
    let at : slice_index_or c.as_slice-place-items.result.now i 0 < length c.args.self.now.list = subst (λ (xs : List ℕ). slice_index_or xs i 0 < length c.args.self.now.list) (sym c.as_slice-place-items.ensures)
    (c.requires i 0 (let e = ap length c.as_slice-place-items.ensures in omega (arith, e, c.loop-place-test.true))) in
    omega (arith, at, c.loop-place.invariant.all)

pub loop-place-preserved : goal.loop-place-preserved
loop-place-preserved c = record {
  set = sets_more (ended c.args.marker) c.as_slice-place-items.result.now c.loop-place.place-index _ _ _ _ c.loop-place-test.true c.loop-place.invariant.set c.set_ending.ensures.set;
  all = c.set_ending.ensures.all ∙ c.loop-place.invariant.all;
  room = c.set_ending.ensures.room ∙ c.loop-place.invariant.room;
}

pub returns-clause-set : goal.returns-clause-set
returns-clause-set c = λ ds e.
    let ps = c.as_slice-place-items.result.now in
    sets_all (ended c.args.marker) ps c.loop-place.place-index _ _ (omega (arith, c.loop-place-test.false)) c.loop-place.invariant.set ds e
    ∙ ap (λ (qs : List ℕ). heads_of (set_endings (ended c.args.marker) qs ds)) c.as_slice-place-items.ensures
