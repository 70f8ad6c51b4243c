-- How a batch by itself ends.
use Rattle.std.proofs.Common.{◌≡◌, ℤ, pos, Bool, true, false, cond, Option, Some, None, refl, sym, ap, ◌∙◌, length}
use Rattle.std.specs.Prelude.{int_lt}
use Rattle.std.specs.Option.{option_map}
use Rattle.eos_batch.specs.declared.batch.Batch.{Batch}
use Rattle.eos_batch.specs.Attributes.{is_control, is_transactional}
use Rattle.eos_batch.specs.Marker.{marker_of}
use Rattle.eos_batch.specs.Rules.{IsProducerRight, has_right_producer}
use Rattle.eos_fold.specs.declared.entry.Ending.{Ending}
use Rattle.eos_fold.specs.declared.entry.Ending.TheVariants.{Plain, Ended, Waiting}
use Rattle.eos_fold.specs.Batches.{ending_of}
use Rattle.eos_touch.specs.declared.touch.Touch.{Touch}
use Rattle.eos_touch.specs.declared.touch.Touch.TheVariants.{Data, End}
use Rattle.eos_touch.specs.Touches.{data_touch, end_touch, touch_of}
use Rattle.eos_fold.specs.Settling.{resolved}

-- what its touch alone says
abbrev pub ending_said : Option (ℤ × Touch) → Ending
ending_said None = Plain
ending_said (Some (id, Data e true s c)) = Waiting id
ending_said (Some (id, Data e false s c)) = Plain
ending_said (Some (id, End e k)) = Plain

right_names : (b : Batch) → is_control b.attributes ≡ false → is_transactional b.attributes ≡ true → IsProducerRight b → int_lt b.producer (pos 0) ≡ false
right_names b plain shown right = by_test (int_lt b.producer (pos 0)) refl
  where
    by_test : (x : Bool) → int_lt b.producer (pos 0) ≡ x → int_lt b.producer (pos 0) ≡ false
    by_test false e = e
    by_test true e =
        let wrong : has_right_producer b ≡ false = rw (e, plain, shown) refl in
        let clash : true ≡ false = sym right ∙ wrong in cc

-- of data whose producer is right the touch says so
pub ends_as_said : (b : Batch) → IsProducerRight b → is_control b.attributes ≡ false → ending_of b ≡ ending_said (touch_of b)
ends_as_said b right plain =
    of_data (int_lt b.producer (pos 0)) (is_transactional b.attributes) (λ shown. right_names b plain shown right)
    ∙ ap (λ (c : Bool). ending_said (cond c (option_map end_touch (marker_of b)) (data_touch b))) (sym plain)
  where
    of_data : (n x : Bool) → (x ≡ true → n ≡ false)
        → cond {A = Ending} x (Waiting b.producer) Plain ≡ ending_said (cond {A = Option (ℤ × Touch)} n None (Some (b.producer, Data b.epoch x b.sequence (length b.records))))
    of_data n true named = rw (named refl) refl
    of_data true false named = refl
    of_data false false named = refl

-- no marker settles nothing
pub unsettled : (e : Ending) → resolved (λ id. None) e ≡ e
unsettled Plain = refl
unsettled (Ended e k) = refl
unsettled (Waiting id) = refl
