-- The replay of one event more.
use Rattle.std.proofs.Common.{◌≡◌, ◌++◌, ◌∷◌, [], ℕ, ◌+◌, Bool, true, List, length, ◌∙◌, sym, ap, subst, refl, arith, if◌then◌else◌}
use Rattle.std.proofs.lemmas.List.{map-append, length-append}
use Rattle.std.proofs.lemmas.List.FromFn.{map-range_with_len_more}
use Rattle.eos_machine.specs.declared.config.Config.{Config}
use Rattle.eos_machine.specs.declared.event.Event.{Event}
use Rattle.eos_machine.specs.declared.event.Reply.{Reply}
use Rattle.eos_machine.specs.declared.event.Reply.TheVariants.{Done, Fenced, OutOfOrder, DuplicateKept, WrongState, Busy, StaleGeneration, EpochsSpent, Unknown, OutOfMemory, Full}
use Rattle.eos_machine.specs.World.{World, opening}
use Rattle.eos_machine.specs.Answers.{Answer}
use Rattle.eos_machine.specs.Machine.{step, world_after, replies}
use Rattle.eos_cluster.specs.Courses.{Course, IsTaken, IsStep, IsCounted}
use Rattle.eos_drive.specs.declared.finished.Entry.{Entry}
use Rattle.eos_drive.specs.declared.finished.Call.{Call}
use Rattle.eos_drive.specs.Driven.{is_taken}
use Rattle.eos_drive.specs.Replay.{IsReplay, events_of, PassView, new_pass, new_passes}
use Rattle.eos_drive.specs.steps.Replay.{recorded}

-- ---- an event more

run_more : (c : Config) (w : World) (es : List Event) (e : Event) → world_after c w (es ++ e ∷ []) ≡ (step c (world_after c w es) e).0
run_more c w [] e = refl
run_more c w (d ∷ es) e = run_more c (step c w d).0 es e

replies_more : (c : Config) (w : World) (es : List Event) (e : Event) → replies c w (es ++ e ∷ []) ≡ replies c w es ++ (step c (world_after c w es) e).1 ∷ []
replies_more c w [] e = refl
replies_more c w (d ∷ es) e = ap (λ rs. (step c w d).1 ∷ rs) (replies_more c (step c w d).0 es e)

replay_more : (c : Config) (w v : World) (es : List Entry) (x : Entry) → IsReplay c w es → (v, x.reply) ≡ step c w x.event → IsReplay c v (es ++ x ∷ [])
replay_more c w v es x h t =
    let events : events_of (es ++ x ∷ []) ≡ events_of es ++ x.event ∷ [] = map-append (λ (e : Entry). e.event) es (x ∷ []) in
    let there : (v, x.reply) ≡ step c (world_after c (opening c) (events_of es)) x.event = t ∙ ap (λ (u : World). step c u x.event) h.state in
    record {
      state = ap (λ (y : Answer). y.0) there ∙ (sym (run_more c (opening c) (events_of es) x.event) ∙ ap (world_after c (opening c)) (sym events));
      answers = map-append (λ (e : Entry). e.reply) es (x ∷ []) ∙ ((λ i. h.answers i ++ (there i).1 ∷ []) ∙ (sym (replies_more c (opening c) (events_of es) x.event) ∙ ap (replies c (opening c)) (sym events)));
    }

taken_more : (s t : Course) (es : List Entry) (x : Entry) → IsReplay s.config s.world es → IsTaken s x.event x.reply t → IsReplay t.config t.world (es ++ x ∷ [])
taken_more s t es x h a = subst (λ c. IsReplay c t.world (es ++ x ∷ [])) (sym a.0) (replay_more s.config s.world t.world es x h a.1)

same_replay : (s t : Course) (es : List Entry) → IsReplay s.config s.world es → t ≡ s → IsReplay t.config t.world es
same_replay s t es h e = subst (λ (u : Course). IsReplay u.config u.world es) (sym e) h

abbrev entry : ℕ → Event → Reply → Entry
entry n e r = record { pass = n; event = e; reply = r }

pub replay_answered : (s t : Course) (es : List Entry) (n : ℕ) (e : Event) (r : Reply) → IsReplay s.config s.world es → IsStep s e r t → IsCounted s r t → IsReplay t.config t.world (recorded es n e r)
replay_answered s t es n e (Done k) h a m = taken_more s t es (entry n e (Done k)) h a
replay_answered s t es n e Fenced h a m = taken_more s t es (entry n e Fenced) h a
replay_answered s t es n e OutOfOrder h a m = taken_more s t es (entry n e OutOfOrder) h a
replay_answered s t es n e DuplicateKept h a m = taken_more s t es (entry n e DuplicateKept) h a
replay_answered s t es n e WrongState h a m = taken_more s t es (entry n e WrongState) h a
replay_answered s t es n e Busy h a m = taken_more s t es (entry n e Busy) h a
replay_answered s t es n e StaleGeneration h a m = taken_more s t es (entry n e StaleGeneration) h a
replay_answered s t es n e EpochsSpent h a m = taken_more s t es (entry n e EpochsSpent) h a
replay_answered s t es n e Unknown h a m = taken_more s t es (entry n e Unknown) h a
replay_answered s t es n e OutOfMemory h a m = same_replay s t es h a
replay_answered s t es n e Full h a m = same_replay s t es h m.0

-- it is counted
pub counted_one : (es now : List Entry) (n : ℕ) (e : Event) (r : Reply) (t u : ℕ) → is_taken r ≡ true → now ≡ recorded es n e r → t ≡ length es → u ≡ t + 1 → u ≡ length now
counted_one es now n e r t u stored is had more =
    let grown : now ≡ es ++ entry n e r ∷ [] = is ∙ ap (λ (b : Bool). if b then es ++ entry n e r ∷ [] else es) stored in
    let len : length now ≡ length (es ++ entry n e r ∷ []) = ap length grown in
    omega (arith, had, more, len, length-append es (entry n e r ∷ []))

-- ---- passes

abbrev pass_view : ℕ → List Call → PassView
pass_view n cs = record { number = n; calls = cs }

pub one_more : (n : ℕ) (before now : List PassView) (cs : List Call) → before ≡ new_passes n → cs ≡ [] → now ≡ before ++ pass_view n cs ∷ [] → now ≡ new_passes (n + 1)
one_more n before now cs b c w = w ∙ ((λ i. b i ++ pass_view n (c i) ∷ []) ∙ sym (map-range_with_len_more new_pass 0 n n (omega arith)))
