use Rattle.std.proofs.Common.{◌≡◌, Some, flat_map, length, sym, ap, subst, ◌∙◌, ◌<◌, IfSome, vec_len}
use Rattle.std.specs.Option.{option_copied}
use Rattle.eos_picture.specs.Whole.{HasWholeRows}
use Rattle.eos_picture.specs.Window.{IsOfRecordAt, AreShown, at_place, named_by}
use Rattle.eos_picture.specs.steps.Spots.{StartsAt}
use Rattle.eos_picture.proofs.picture.picture_of.Goals as goal

pub returns-clause-whole : goal.returns-clause-whole
returns-clause-whole c = subst (λ z. HasWholeRows c.args.logs.now z c.in_ok-rows.rows.items) c.as_slice-7.ensures.value c.in_ok-rows.ensures.whole

pub returns-clause-window : goal.returns-clause-window
returns-clause-window c =
    let every = c.in_ok-every.every.items in
    let middle = c.middle_of-middle.result in
    let places = c.in_ok-places.places.items in
    let size : length every ≡ vec_len c.in_ok-every.every = sym (ap length c.as_slice-2.ensures.value) ∙ c.as_slice-2.ensures.len in
    record {
      every = every;
      are = c.in_ok-every.ensures;
      all = c.len-all.ensures ∙ sym size;
      middle = middle;
      of_fault = record {
        inside = subst (λ z. IfSome middle (λ m. m < length z)) c.as_slice-2.ensures.value c.middle_of-middle.ensures.inside;
        of = λ f at is place. subst (λ z. IsOfRecordAt c.args.logs.now z middle at) c.as_slice-2.ensures.value
            (c.middle_of-middle.ensures.of at (subst (λ z. StartsAt z (Some at)) (sym c.as_slice-3.ensures.value) (subst (λ z. StartsAt c.in_ok-spots.spots.items z) place (c.in_ok-spots.ensures.first f is))));
        none = λ is. c.middle_of-middle.ensures.none (c.as_slice-3.ensures.value ∙ c.in_ok-spots.ensures.none is);
      };
      places = subst (λ z. AreShown c.args.logs.now z (named_by (option_copied c.args.fault)) middle c.args.around places) c.as_slice-4.ensures.value c.in_ok-places.ensures;
      shown = c.in_ok-columns.ensures
          ∙ (ap (λ z. flat_map (at_place z) c.as_slice-6.result.now) c.as_slice-5.ensures.value ∙ ap (λ z. flat_map (at_place every) z) c.as_slice-6.ensures.value);
    }
