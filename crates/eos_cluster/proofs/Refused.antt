-- How a cluster that keeps its rules answers a message, by what was made of the message.
use Rattle.std.proofs.Common.{◌≡◌, ◌≢◌, ◌≤◌, ◌^◌, slice_get, ℕ, Bool, true, false, Option, None, Some, Result, Ok, Err, refl, sym, ap, subst, ◌∙◌}
use Rattle.std.specs.Bool.{then_some}
use Rattle.std.specs.Result.{result_err}
use Rattle.eos_batch.specs.declared.marker.Kind.{Kind}
use Rattle.eos_machine.specs.declared.config.Config.{Config}
use Rattle.eos_machine.specs.declared.event.Reply.{Reply}
use Rattle.eos_machine.specs.declared.event.Reply.TheVariants.{Done, Fenced, OutOfOrder, DuplicateKept, WrongState, Busy, StaleGeneration, EpochsSpent, Unknown, OutOfMemory, Full}
use Rattle.eos_machine.specs.declared.item.Item.{Item}
use Rattle.eos_machine.specs.declared.switches.Switches.{Switches}
use Rattle.eos_machine.specs.Answers.{Answer, when}
use Rattle.eos_machine.specs.Deliveries.{deliver, deliver_marker}
use Rattle.eos_machine.specs.Logs.{producer_at}
use Rattle.eos_machine.specs.Machine.{step}
use Rattle.eos_machine.specs.Rules.{is_marker_fenced}
use Rattle.eos_machine.specs.World.{World}
use Rattle.eos_machine.specs.declared.event.Event.TheVariants as events
use Rattle.eos_machine.specs.Switching.{none}
use Rattle.eos_cluster.specs.Breaches.{kept_by}
use Rattle.eos_cluster.specs.declared.accept.Request.{Request}
use Rattle.eos_cluster.specs.steps.Refusing.{is_done, IsRefusal}
use Rattle.eos_cluster.specs.steps.Taken.{judged, ended}
use Rattle.eos_cluster.proofs.Reaching.{happens_reply, full_reply}

-- of two answers that are both done one is
either_done : (t : Bool) (x y : Answer) → is_done x.1 ≡ true → is_done y.1 ≡ true → is_done (when t x y).1 ≡ true
unfolding when
either_done true x y h k = h
either_done false x y h k = k

-- ---- data

of_judged : (u : Switches) (c : Config) (w : World) (h : Request) (x : Item) (r : Result Bool Reply) → IsRefusal (result_err r) (judged u c w h x r).1
of_judged u c w h x (Ok t) = refl
of_judged u c w h x (Err q) = refl

pub by_judged : (u : Switches) (c : Config) (w : World) (h : Request) (x : Item) (r : Result Bool Reply) (o : Option Reply) (a : Answer) → a ≡ judged u c w h x r → o ≡ result_err r → IsRefusal o a.1
by_judged u c w h x r o a e f = subst (λ (p : Option Reply). IsRefusal p a.1) (sym f) (subst (λ (b : Answer). IsRefusal (result_err r) b.1) (sym e) (of_judged u c w h x r))

-- ---- ends

of_ended : (u : Switches) (c : Config) (w : World) (n : ℕ) (k : Kind) (r : Option Reply) → IsRefusal r (ended u c w n k r).1
of_ended u c w n k None = either_done _ _ _ refl refl
of_ended u c w n k (Some q) = refl

pub by_ended : (u : Switches) (c : Config) (w : World) (n : ℕ) (k : Kind) (r : Option Reply) (a : Answer) → a ≡ ended u c w n k r → IsRefusal r a.1
by_ended u c w n k r a e = subst (λ (b : Answer). IsRefusal r b.1) (sym e) (of_ended u c w n k r)

-- ---- end markers

of_fenced : (t : Bool) (w : World) (y : Answer) → is_done y.1 ≡ true → IsRefusal (then_some t Fenced) (when t (w, Fenced) y).1
unfolding when
of_fenced true w y h = refl
of_fenced false w y h = h

pub by_fenced : (u : Switches) (c : Config) (w : World) (a m : ℕ) (k : Kind) (p : ℕ) (o : Option Reply) → o ≡ then_some (is_marker_fenced u (producer_at w a p) m) Fenced → IsRefusal o (deliver_marker u c w a m k p).1
by_fenced u c w a m k p o e = subst (λ (q : Option Reply). IsRefusal q (deliver_marker u c w a m k p).1) (sym e) (of_fenced (is_marker_fenced u (producer_at w a p) m) w _ (either_done _ _ _ refl (either_done _ _ _ refl refl)))

-- ---- a message of a cluster

pub refused_full : (c : Config) (w : World) (n : ℕ) → w.events ≡ 2 ^ 31 → IsRefusal (Some Full) (step c w (events.Deliver n)).1
refused_full c w n h = full_reply c w (events.Deliver n) h

pub refused_there : (c : Config) (w : World) (n : ℕ) (o : Option Reply) → w.events ≢ 2 ^ 31 → w.events ≤ 2 ^ 31 → IsRefusal o (deliver none c w n (slice_get w.messages n)).1 → IsRefusal o (step c w (events.Deliver n)).1
refused_there c w n o other most is = subst (λ (r : Reply). IsRefusal o r) (sym (happens_reply c w (events.Deliver n) other most)) is

-- a message that is taken keeps no rule
done_keeps : (marker : Bool) (r : Reply) → is_done r ≡ true → none ≡ kept_by marker r
done_keeps marker (Done n) h = refl
done_keeps marker Fenced h = absurd cc
done_keeps marker OutOfOrder h = absurd cc
done_keeps marker DuplicateKept h = absurd cc
done_keeps marker WrongState h = absurd cc
done_keeps marker Busy h = absurd cc
done_keeps marker StaleGeneration h = absurd cc
done_keeps marker EpochsSpent h = absurd cc
done_keeps marker Unknown h = absurd cc
done_keeps marker OutOfMemory h = absurd cc
done_keeps marker Full h = absurd cc

pub taken_keeps : (marker : Bool) (r : Reply) → IsRefusal None r → none ≡ kept_by marker r
taken_keeps marker r h = done_keeps marker r h

pub refusal_keeps : (marker : Bool) (q r : Reply) (kept : Switches) → kept ≡ kept_by marker q → IsRefusal (Some q) r → kept ≡ kept_by marker r
refusal_keeps marker q r kept e h = e ∙ ap (λ (x : Reply). kept_by marker x) (sym h)
