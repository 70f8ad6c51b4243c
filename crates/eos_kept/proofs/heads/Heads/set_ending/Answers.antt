use Rattle.std.proofs.Common.{◌≡◌, ◌<◌, ◌∙◌, length, set, refl, sym, ap, subst, List}
use Rattle.std.proofs.lemmas.Option.{slice_get_read}
use Rattle.eos_fold.specs.Heads.{DataHead}
use Rattle.eos_fold.specs.Settling.{ended}
use Rattle.eos_kept.specs.steps.Heads.{HeadsView}
use Rattle.eos_kept.proofs.HeadLists.{set_heads_in}
use Rattle.eos_kept.proofs.heads.Heads.set_ending.Goals as goal

pub returns-clause-set : goal.returns-clause-set
returns-clause-set c = λ ds e.
    let hs = c.self.inside.items.items in
    let view : hs ≡ c.args.self.now.list = ap (λ (h : HeadsView). h.list) c.self.view_is in
    let lt : c.args.place < length hs = subst (λ (xs : List DataHead). c.args.place < length xs) (sym view) c.requires in
    let at = slice_get_read hs (length hs) c.args.place c.index_mut.result.now refl lt c.index_mut.ensures.value in
    ap (λ (h : DataHead). set hs c.args.place h) c.end.ensures ∙ set_heads_in (ended c.args.marker) hs ds c.args.place c.index_mut.result.now at (view ∙ e)
