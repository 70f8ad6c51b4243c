-- A deed more, and its label.
use Rattle.std.proofs.Common.{◌≡◌, Bool, false, ◌<◌, ◌≤◌, ◌+◌, ℕ, List, [], ◌∷◌, ◌++◌, drop, length, get_or, sym, ap, subst, ◌∙◌, append_assoc}
use Rattle.std.proofs.lemmas.List.{drop_all, drop_more, append-nil}
use Rattle.eos_machine.specs.declared.event.Event.{Event}
use Rattle.eos_machine.specs.declared.event.Reply.{Reply}
use Rattle.eos_machine.specs.declared.event.Reply.TheVariants.{Done, Fenced, OutOfOrder, DuplicateKept, WrongState, Busy, StaleGeneration, EpochsSpent, Unknown, OutOfMemory, Full}
use Rattle.eos_cluster.specs.Courses.{Course, IsStepUnder, IsTakenUnder}
use Rattle.eos_machine.specs.declared.config.Config.{Config}
use Rattle.eos_drive.specs.Driven.{after_deed, after}
use Rattle.eos_drive.specs.declared.deed.Deed.{Deed}
use Rattle.eos_drive.specs.declared.deed.Deed.TheVariants as done
use Rattle.eos_simulate.specs.declared.labels.Label.{Label}
use Rattle.eos_simulate.specs.Histories.{new_course}
use Rattle.eos_simulate.specs.Labels.{deed_labels, labels_from, AreStopLabels, AreLabelsOf}
use Rattle.eos_simulate.specs.steps.AddedLabels.{AddsLabels, AddsStop, is_left_out}

-- ---- the cluster

taken_under : (s t : Course) (e : Event) (r : Reply) → IsTakenUnder s e r t → t ≡ after_deed s (done.Asked e r)
taken_under s t e r h = h.0 ∙ ap (λ w. record s { world = w }) (ap (λ x. x.0) h.1)

pub followed : (s t : Course) (e f : Event) (r said : Reply) → IsStepUnder s f r t → is_left_out r ≡ false → f ≡ e → t ≡ after_deed s (done.Asked e said)
followed s t e f OutOfMemory said h other same = absurd cc
followed s t e f (Done n) said h other same = taken_under s t f (Done n) h ∙ ap (λ (x : Event). after_deed s (done.Asked x said)) same
followed s t e f Fenced said h other same = taken_under s t f Fenced h ∙ ap (λ (x : Event). after_deed s (done.Asked x said)) same
followed s t e f OutOfOrder said h other same = taken_under s t f OutOfOrder h ∙ ap (λ (x : Event). after_deed s (done.Asked x said)) same
followed s t e f DuplicateKept said h other same = taken_under s t f DuplicateKept h ∙ ap (λ (x : Event). after_deed s (done.Asked x said)) same
followed s t e f WrongState said h other same = taken_under s t f WrongState h ∙ ap (λ (x : Event). after_deed s (done.Asked x said)) same
followed s t e f Busy said h other same = taken_under s t f Busy h ∙ ap (λ (x : Event). after_deed s (done.Asked x said)) same
followed s t e f StaleGeneration said h other same = taken_under s t f StaleGeneration h ∙ ap (λ (x : Event). after_deed s (done.Asked x said)) same
followed s t e f EpochsSpent said h other same = taken_under s t f EpochsSpent h ∙ ap (λ (x : Event). after_deed s (done.Asked x said)) same
followed s t e f Unknown said h other same = taken_under s t f Unknown h ∙ ap (λ (x : Event). after_deed s (done.Asked x said)) same
followed s t e f Full said h other same = taken_under s t f Full h ∙ ap (λ (x : Event). after_deed s (done.Asked x said)) same

-- ---- the labels

-- the labels of the deeds that are left go behind these
abbrev pub GoBehind : Course → List Deed → ℕ → Course → List Label → Type 0
GoBehind first deeds place s labels = labels ++ labels_from (place + 1) s (drop place deeds) ≡ labels_from 1 first deeds

pub labelled : (first s t : Course) (deeds : List Deed) (i : ℕ) (labels more : List Label) (d : Deed) → i < length deeds → d ≡ get_or deeds i d → AddsLabels labels more (deed_labels s (i + 1) d) → t ≡ after_deed s d
    → GoBehind first deeds i s labels → GoBehind first deeds (i + 1) t more
labelled first s t deeds i labels more d lt is further next h =
    let rest = labels_from (i + 1 + 1) (after_deed s d) (drop (i + 1) deeds) in
    let whole : drop i deeds ≡ d ∷ drop (i + 1) deeds = drop_more deeds i d lt ∙ ap (λ (x : Deed). x ∷ drop (i + 1) deeds) (sym is) in
    ap (λ (c : Course). more ++ labels_from (i + 1 + 1) c (drop (i + 1) deeds)) next
    ∙ (ap (λ (x : List Label). x ++ rest) further.whole
    ∙ (append_assoc labels (deed_labels s (i + 1) d) rest
    ∙ (ap (λ (x : List Deed). labels ++ labels_from (i + 1) s x) (sym whole) ∙ h)))

-- the deeds that are left lead from here to the end
abbrev pub GoesOn : Course → List Deed → ℕ → Course → Type 0
GoesOn first deeds place s = after s (drop place deeds) ≡ after first deeds

pub further : (first s t : Course) (deeds : List Deed) (i : ℕ) (d : Deed) → i < length deeds → d ≡ get_or deeds i d → t ≡ after_deed s d → GoesOn first deeds i s → GoesOn first deeds (i + 1) t
further first s t deeds i d lt is next h =
    let whole : drop i deeds ≡ d ∷ drop (i + 1) deeds = drop_more deeds i d lt ∙ ap (λ (x : Deed). x ∷ drop (i + 1) deeds) (sym is) in
    ap (λ (c : Course). after c (drop (i + 1) deeds)) next ∙ (ap (λ (x : List Deed). after s x) (sym whole) ∙ h)

at_end : (first s : Course) (deeds : List Deed) (i : ℕ) → length deeds ≤ i → GoesOn first deeds i s → s ≡ after first deeds
at_end first s deeds i all h = ap (λ (x : List Deed). after s x) (sym (drop_all i deeds all)) ∙ h

pub all_labels : (first s : Course) (deeds : List Deed) (i : ℕ) (labels : List Label) → length deeds ≤ i → GoBehind first deeds i s labels → labels ≡ labels_from 1 first deeds
all_labels first s deeds i labels all h =
    sym (append-nil labels) ∙ (ap (λ (x : List Deed). labels ++ labels_from (i + 1) s x) (sym (drop_all i deeds all)) ∙ h)

pub stopped : (stops : Bool) (c : Config) (first s : Course) (deeds : List Deed) (i : ℕ) (labels more : List Label) → first ≡ new_course c → length deeds ≤ i → GoBehind first deeds i s labels → GoesOn first deeds i s
    → AddsStop stops s.world (length deeds) labels more → AreLabelsOf stops c deeds more
stopped stops c first s deeds i labels more new all h g adds = record {
  last = adds.last;
  whole = adds.whole ∙ ap (λ (x : List Label). x ++ adds.last) (all_labels first s deeds i labels all h ∙ ap (λ (x : Course). labels_from 1 x deeds) new);
  stop = subst (λ (x : Course). AreStopLabels stops x.world (length deeds) adds.last) (at_end first s deeds i all g ∙ ap (λ (x : Course). after x deeds) new) adds.stop;
}

-- labels, and then others
pub with_more : {a b c x y : List Label} → AddsLabels a b x → AddsLabels b c y → AddsLabels a c (x ++ y)
with_more {a} {b} {c} {x} {y} e h = record { whole = h.whole ∙ (ap (λ (l : List Label). l ++ y) e.whole ∙ append_assoc a x y) }
