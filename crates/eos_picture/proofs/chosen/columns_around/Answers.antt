use Rattle.std.proofs.Common.{◌≡◌, ℕ, IfOk, map, slice_get, refl, sym, subst}
use Rattle.std.specs.Option.{option_copied}
use Rattle.eos_picture.specs.Window.{IsAtPlace, around_in, named_by, AreAround}
use Rattle.eos_picture.proofs.Standings.{there, then_ok, never_absent, around_beside}
use Rattle.eos_picture.proofs.chosen.columns_around.Goals as goal

pub returns-in-None : goal.returns-in-None
returns-in-None c =
    let every = c.args.columns.now in
    let order = c.in_ok-order.order.items in
    let found = c.in-Some.ensures in
    absurd (never_absent c.args.logs.now every (named_by (option_copied c.args.wanted.fault)) c.args.middle c.index-columns-middle.result found.0 c.in-Some.nearest c.index-logs-nearest.result order
    (there every c.args.middle _ c.index-columns-middle.result c.requires c.index-columns-middle.is) found.1 _ c.index-logs-nearest.is c.in_ok-order.ensures
    (λ k at. c.in-None.ensures.none refl k (subst (λ z. IsAtPlace z k c.args.middle) (sym c.as_slice.ensures.value) at)))

pub returns : goal.returns
returns c =
    let every = c.args.columns.now in
    let logs = c.args.logs.now in
    let name = named_by (option_copied c.args.wanted.fault) in
    let middle = c.args.middle in
    let around = c.args.wanted.around in
    let order = c.in_ok-order.order.items in
    let found = c.in-Some.ensures in
    let k = c.in-Some-position_of.at in
    then_ok c.cut.result (λ places. places.items ≡ map (λ (s : ℕ × ℕ). s.1) (around_in around k order)) (λ places. AreAround logs every name middle (slice_get every middle) around places.items)
    (λ places are. around_beside logs every name middle c.index-columns-middle.result around places.items found.0 c.in-Some.nearest k c.index-logs-nearest.result order
    (there every middle _ c.index-columns-middle.result c.requires c.index-columns-middle.is) found.1 found.2 _ c.index-logs-nearest.is c.in_ok-order.ensures
    (subst (λ z. IsAtPlace z k middle) c.as_slice.ensures.value c.in-Some-position_of.ensures.at) are)
    (subst (λ z. IfOk c.cut.result (λ places. places.items ≡ map (λ (s : ℕ × ℕ). s.1) (around_in around k z))) c.as_slice-in-Some-position_of.ensures.value c.cut.ensures)
