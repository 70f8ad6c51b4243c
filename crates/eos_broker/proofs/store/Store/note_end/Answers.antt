use Rattle.std.proofs.Common.{◌≡◌, ◌-◌, refl, sym, subst, arith, ◌∙◌, Some}
use Rattle.std.specs.List.{slice_get}
use Rattle.std.proofs.lemmas.Option.{get_or_from_slice_get}
use Rattle.eos_broker.specs.Held.{Held}
use Rattle.eos_broker.proofs.store.Store.note_end.Goals as goal

pub returns-then-number-len-clause-session : goal.returns-then-number-len-clause-session
returns-then-number-len-clause-session c = λ s h.
    let here = subst (λ (x : Held). slice_get x.world.sessions c.args.number ≡ Some s) (sym c.self.view_is) h in
    let same = c.index_mut-session.ensures.value ∙ get_or_from_slice_get c.self.inside.sessions.items c.args.number s c.index_mut-session.result.now here in
    let none_used : c.self.inside.spare - 0 ≡ c.self.inside.spare = omega arith in
    rw (← c.self.view_is) (rw (same, none_used) refl)
