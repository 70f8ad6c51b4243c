use Rattle.std.proofs.Common.{◌≡◌, ◌-◌, refl, sym, ap, subst, arith, ◌∙◌, Some}
use Rattle.std.specs.List.{slice_get}
use Rattle.std.proofs.lemmas.Option.{get_or_from_slice_get}
use Rattle.eos_machine.specs.declared.state.Session.{Session}
use Rattle.eos_machine.specs.Sessions.{after_output}
use Rattle.eos_broker.specs.Held.{Held}
use Rattle.eos_broker.proofs.store.Store.note_output.Goals as goal

pub returns-in_ok-send_output-clause-ok : goal.returns-in_ok-send_output-clause-ok
returns-in_ok-send_output-clause-ok c = λ s h.
    let here = subst (λ (x : Held). slice_get x.world.sessions c.args.number ≡ Some s) (sym c.self.view_is) h in
    let same = c.index_mut-session.ensures.value ∙ get_or_from_slice_get c.self.inside.sessions.items c.args.number s c.index_mut-session.result.now here in
    let sent = c.in_ok-send_output.ensures.ok ∙ ap (λ (z : Session). after_output z c.args.partition c.args.message) same in
    let none_used : c.self.inside.spare - 0 ≡ c.self.inside.spare = omega arith in
    rw (← c.self.view_is) (rw (sent, none_used) refl)
