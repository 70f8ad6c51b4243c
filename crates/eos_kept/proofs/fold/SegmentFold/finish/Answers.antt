use Rattle.std.proofs.Common.{refl, sym, ap, subst}
use Rattle.eos_fold.specs.Fronts.{base_of}
use Rattle.eos_fold.specs.Sums.{is_checked}
use Rattle.eos_kept.specs.declared.front.Front.{Front}
use Rattle.eos_kept.specs.declared.sizes.Sizes.{Sizes}
use Rattle.eos_kept.specs.steps.Folding.{IsFolding, CutsAt}
use Rattle.eos_kept.proofs.ChunkSteps.{finished, folded_each}
use Rattle.eos_kept.proofs.JoinedKept.{each_stopped}
use Rattle.eos_kept.proofs.fold.SegmentFold.finish.Goals as goal

pub returns : goal.returns
returns g c = λ keep segment rest len f.
    let v = c.self.inside in
    let e = c.cut_at.ensures in
    finished keep segment rest c.args.waiting _ c.new.result len (subst (λ v. IsFolding keep (base_of segment) (is_checked segment) segment.bytes rest v) (sym c.self.view_is) f)
    (subst (λ (x : Front). CutsAt v.place c.args.waiting v.front x) (sym c.new.ensures.front)
    (record { begin = e.begin; next = e.next; batches = e.batches; markers = e.markers; run = e.run; stop = e.stop })) (ap (λ (x : Front). x.epochs.items) c.new.ensures.front) c.new.ensures.kept (ap (λ (s : Sizes). s.segments) c.new.ensures.sizes) (ap (λ (s : Sizes). s.bytes) c.new.ensures.sizes)

pub new-requires : goal.new-requires
new-requires g c =
    let r = c.requires.folded in
    let v = c.self.inside in
    let f = subst (λ v. IsFolding r.0 r.1 r.2 r.3 r.4 v) (sym c.self.view_is) r.5 in
    let e = c.cut_at.ensures in
    each_stopped v.front _ (g.K.Kept.KeptList.list v.kept) _ e.begin e.next e.batches e.markers e.run refl (folded_each r.0 r.1 r.2 r.3 r.4 _ f)
