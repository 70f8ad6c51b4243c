-- Batches in their leader epochs say what they say without.
use Rattle.std.proofs.Common.{◌≡◌, ℕ, ℤ, List, [], ◌∷◌, ◌++◌, map, Option, Some, None, refl, sym, ap, subst, ◌∙◌}
use Rattle.std.specs.Prelude.{if◌then◌else◌}
use Rattle.std.specs.Option.{option_or, option_map, option_to_list}
use Rattle.eos_batch.specs.declared.batch.Batch.{Batch}
use Rattle.eos_batch.specs.declared.marker.Kind.{Kind}
use Rattle.eos_batch.specs.declared.marker.Marker.{Marker}
use Rattle.eos_batch.specs.declared.record.Record.{Record}
use Rattle.eos_batch.specs.Attributes.{is_control}
use Rattle.eos_batch.specs.Offsets.{offset_of}
use Rattle.eos_batch.specs.Marker.{end_kind, coordinator_epoch_of, marker_with, marker_in, marker_of, markers_of}
use Rattle.eos_touch.specs.declared.touch.Touch.{Touch}
use Rattle.eos_touch.specs.Neighbours.{EachAfter, Accepts}
use Rattle.eos_touch.specs.Touches.{end_touch, data_touch, touch_of, touch_in, touches_of}
use Rattle.eos_fold.specs.Ends.{mark_in, mark_for, first_marker}
use Rattle.eos_machine.specs.declared.state.Election.{Election}
use Rattle.eos_machine.specs.Batches.{led}
use Rattle.eos_simulate.proofs.Agreeing.{last_open, Agrees, agrees_nil, agrees_after}

-- ---- one batch

with_led : (p : ℕ) (es : List Election) (b : Batch) (k : Option Kind) (e : Option ℤ) → marker_with (led p es b) k e ≡ marker_with b k e
with_led p es b None e = refl
with_led p es b (Some k) None = refl
with_led p es b (Some k) (Some e) = refl

in_led : (p : ℕ) (es : List Election) (b : Batch) (rs : List Record) → marker_in (led p es b) rs ≡ marker_in b rs
in_led p es b [] = refl
in_led p es b (r ∷ []) = with_led p es b (end_kind r.key) (coordinator_epoch_of r.value)
in_led p es b (r ∷ s ∷ rs) = refl

marker_led : (p : ℕ) (es : List Election) (b : Batch) → marker_of (led p es b) ≡ marker_of b
marker_led p es b = ap (λ (m : Option Marker). if is_control b.attributes then m else None) (in_led p es b b.records)

touch_led : (p : ℕ) (es : List Election) (b : Batch) → touch_of (led p es b) ≡ touch_of b
touch_led p es b = ap (λ (m : Option Marker). if is_control b.attributes then option_map end_touch m else data_touch b) (marker_led p es b)

one_led : (p : ℕ) (es : List Election) (b : Batch) (bs : List Batch) → Agrees (led p es b ∷ bs) (b ∷ bs)
one_led p es b bs = record {
  records = refl;
  continues = λ o h. h;
  markers = ap (λ (m : Option Marker). option_to_list m ++ markers_of bs) (marker_led p es b);
  first = λ id. ap (λ (t : Option (ℤ × Touch)). option_or (mark_for id (mark_in (offset_of b) t)) (first_marker id bs)) (touch_led p es b);
  items = refl;
  closes = λ x. (λ h. h, λ h. h);
  follows = λ q id before h. subst (λ (t : Option (ℤ × Touch)). EachAfter (Accepts q) before (touch_in id t ++ touches_of id bs)) (sym (touch_led p es b)) h;
  opens = λ id. ap (λ (t : Option (ℤ × Touch)). last_open (touch_in id t ++ touches_of id bs)) (touch_led p es b);
}

-- ---- several

pub agrees_on : (xs bs cs : List Batch) → Agrees xs bs → Agrees bs cs → Agrees xs cs
agrees_on xs bs cs a b = record {
  records = a.records ∙ b.records;
  continues = λ o h. a.continues o (b.continues o h);
  markers = a.markers ∙ b.markers;
  first = λ id. a.first id ∙ b.first id;
  items = a.items ∙ b.items;
  closes = λ x. (λ h. (b.closes x).0 ((a.closes x).0 h), λ h. (a.closes x).1 ((b.closes x).1 h));
  follows = λ q id before h. a.follows q id before (b.follows q id before h);
  opens = λ id. a.opens id ∙ b.opens id;
}

-- before others
pub led_agrees : (p : ℕ) (es : List Election) (bs others : List Batch) → Agrees (map (led p es) bs ++ others) (bs ++ others)
led_agrees p es [] others = same others
  where
    same : (cs : List Batch) → Agrees cs cs
    same [] = agrees_nil
    same (c ∷ cs) = agrees_after c cs cs (same cs)
led_agrees p es (b ∷ bs) others =
    agrees_on (led p es b ∷ (map (led p es) bs ++ others)) (led p es b ∷ (bs ++ others)) (b ∷ (bs ++ others))
    (agrees_after (led p es b) (map (led p es) bs ++ others) (bs ++ others) (led_agrees p es bs others))
    (one_led p es b (bs ++ others))
