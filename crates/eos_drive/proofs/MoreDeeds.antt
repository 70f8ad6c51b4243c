-- A run's deeds, one more, none, and at its end.
use Rattle.std.proofs.Common.{◌≡◌, Bool, true, false, List, [], ◌∷◌, ◌++◌, Option, Some, None, if◌then◌else◌, ◌∙◌, sym, ap, subst, refl, append_assoc}
use Rattle.std.proofs.lemmas.List.{append-nil}
use Rattle.eos_machine.specs.declared.event.Event.{Event}
use Rattle.eos_machine.specs.declared.event.Reply.{Reply}
use Rattle.eos_machine.specs.declared.event.Reply.TheVariants.{Done, Fenced, OutOfOrder, DuplicateKept, WrongState, Busy, StaleGeneration, EpochsSpent, Unknown, OutOfMemory, Full}
use Rattle.eos_machine.specs.declared.switches.Switches.{Switches}
use Rattle.eos_machine.specs.Answers.{Answer}
use Rattle.eos_cluster.specs.Courses.{Course, IsTakenUnder, IsStepUnder, IsCounted}
use Rattle.eos_drive.specs.declared.deed.Deed.{Deed}
use Rattle.eos_drive.specs.declared.deed.Deed.TheVariants.{Asked, Set, Noted}
use Rattle.eos_machine.specs.declared.event.Note.{Note}
use Rattle.eos_drive.specs.Driven.{is_taken, recorded, after_deed, after, IsAnswered, AreAnswered, Leads, IsKept}
use Rattle.eos_drive.specs.steps.Drives.{Origin, Drive, with_deeds, recorded_in, set_in, noted_in, IsOnCourse}

-- ---- where one more leads

after_more : (s : Course) (ds : List Deed) (d : Deed) → after s (ds ++ d ∷ []) ≡ after_deed (after s ds) d
after_more s [] d = refl
after_more s (x ∷ ds) d = after_more (after_deed s x) ds d

answered_more : (s : Course) (ds : List Deed) (d : Deed) → AreAnswered s ds → IsAnswered (after s ds) d → AreAnswered s (ds ++ d ∷ [])
answered_more s [] d h a = (a, tt)
answered_more s (x ∷ ds) d h a = (h.0, answered_more (after_deed s x) ds d h.1 a)

leads_more : (s t u : Course) (ds : List Deed) (d : Deed) → Leads s ds t → u ≡ after_deed t d → IsAnswered t d → Leads s (ds ++ d ∷ []) u
leads_more s t u ds d h e a = record {
  state = e ∙ (ap (λ (x : Course). after_deed x d) h.state ∙ sym (after_more s ds d));
  answers = answered_more s ds d h.answers (subst (λ (x : Course). IsAnswered x d) h.state a);
}

-- ---- what is kept of it

abbrev added : Option (List Deed) → Deed → Option (List Deed)
added None d = None
added (Some b) d = Some (b ++ d ∷ [])

added_with : (before : Option (List Deed)) (ds : List Deed) (d : Deed) → added (with_deeds before ds) d ≡ with_deeds before (ds ++ d ∷ [])
added_with None ds d = refl
added_with (Some b) ds d = ap (λ (x : List Deed). Some x) (append_assoc b ds (d ∷ []))

none_with : (before : Option (List Deed)) → before ≡ with_deeds before []
none_with None = refl
none_with (Some b) = ap (λ (x : List Deed). Some x) (sym (append-nil b))

taken_in : (k : Option (List Deed)) (e : Event) (r : Reply) → is_taken r ≡ true → recorded_in k e r ≡ added k (Asked e r)
taken_in None e r h = refl
taken_in (Some b) e r h = ap (λ (t : Bool). Some (if t then b ++ Asked e r ∷ [] else b)) h

passed_in : (k : Option (List Deed)) (e : Event) (r : Reply) → is_taken r ≡ false → recorded_in k e r ≡ k
passed_in None e r h = refl
passed_in (Some b) e r h = ap (λ (t : Bool). Some (if t then b ++ Asked e r ∷ [] else b)) h

set_is : (k : Option (List Deed)) (u : Switches) → set_in k u ≡ added k (Set u)
set_is None u = refl
set_is (Some b) u = refl

noted_is : (k : Option (List Deed)) (n : Note) → noted_in k n ≡ added k (Noted n)
noted_is None n = refl
noted_is (Some b) n = refl

-- ---- a run, after one more

on_more : (b : Course) (before : Option (List Deed)) (s t : Course) (k m : Option (List Deed)) (d : Deed) → IsOnCourse b before s k → t ≡ after_deed s d → IsAnswered s d → m ≡ added k d → IsOnCourse b before t m
on_more b before s t k m d h e a w = record {
  since = h.since ++ d ∷ [];
  leads = leads_more b s t h.since d h.leads e a;
  kept = w ∙ (ap (λ (x : Option (List Deed)). added x d) h.kept ∙ added_with before h.since d);
}

pub on_same : (b : Course) (before : Option (List Deed)) (s t : Course) (k m : Option (List Deed)) → IsOnCourse b before s k → t ≡ s → m ≡ k → IsOnCourse b before t m
on_same b before s t k m h e w = record {
  since = h.since;
  leads = record { state = e ∙ h.leads.state; answers = h.leads.answers };
  kept = w ∙ h.kept;
}

asked_more : (b : Course) (before : Option (List Deed)) (s t : Course) (k m : Option (List Deed)) (e : Event) (r : Reply) → is_taken r ≡ true → IsOnCourse b before s k → IsTakenUnder s e r t → m ≡ recorded_in k e r → IsOnCourse b before t m
asked_more b before s t k m e r y h a w =
    on_more b before s t k m (Asked e r) h (a.0 ∙ ap (λ (x : Answer). record s { world = x.0 }) a.1) (ap (λ (x : Answer). x.1) a.1, y) (w ∙ taken_in k e r y)

pub on_asked : (b : Course) (before : Option (List Deed)) (s t : Course) (k m : Option (List Deed)) (e : Event) (r : Reply) → IsOnCourse b before s k → IsStepUnder s e r t → IsCounted s r t → m ≡ recorded_in k e r → IsOnCourse b before t m
on_asked b before s t k m e (Done n) h a c w = asked_more b before s t k m e (Done n) refl h a w
on_asked b before s t k m e Fenced h a c w = asked_more b before s t k m e Fenced refl h a w
on_asked b before s t k m e OutOfOrder h a c w = asked_more b before s t k m e OutOfOrder refl h a w
on_asked b before s t k m e DuplicateKept h a c w = asked_more b before s t k m e DuplicateKept refl h a w
on_asked b before s t k m e WrongState h a c w = asked_more b before s t k m e WrongState refl h a w
on_asked b before s t k m e Busy h a c w = asked_more b before s t k m e Busy refl h a w
on_asked b before s t k m e StaleGeneration h a c w = asked_more b before s t k m e StaleGeneration refl h a w
on_asked b before s t k m e EpochsSpent h a c w = asked_more b before s t k m e EpochsSpent refl h a w
on_asked b before s t k m e Unknown h a c w = asked_more b before s t k m e Unknown refl h a w
on_asked b before s t k m e OutOfMemory h a c w = on_same b before s t k m h a (w ∙ passed_in k e OutOfMemory refl)
on_asked b before s t k m e Full h a c w = on_same b before s t k m h c.0 (w ∙ passed_in k e Full refl)

pub on_set : (b : Course) (before : Option (List Deed)) (s t : Course) (k m : Option (List Deed)) (u : Switches) → IsOnCourse b before s k → t ≡ after_deed s (Set u) → m ≡ set_in k u → IsOnCourse b before t m
on_set b before s t k m u h e w = on_more b before s t k m (Set u) h e tt (w ∙ set_is k u)

pub on_noted : (b : Course) (before : Option (List Deed)) (s : Course) (k m : Option (List Deed)) (n : Note) → IsOnCourse b before s k → m ≡ noted_in k n → IsOnCourse b before s m
on_noted b before s k m n h w = on_more b before s s k m (Noted n) h refl tt (w ∙ noted_is k n)

-- ---- of a history

none_yet : (s : Course) (k : Option (List Deed)) → IsOnCourse s k s k
none_yet s k = record { since = []; leads = record { state = refl; answers = tt }; kept = none_with k }

some_is : (x y : List Deed) → (let o : Option (List Deed) = Some x in o ≡ Some y) → x ≡ y
some_is x y e = cc

kept_of : (b t : Course) (before : Option (List Deed)) (l k : List Deed) → IsOnCourse b before t (Some k) → before ≡ Some l → IsKept b l t k
kept_of b t before l k h p = record {
  since = h.since;
  leads = h.leads;
  kept = some_is k (l ++ h.since) (h.kept ∙ ap (λ (x : Option (List Deed)). with_deeds x h.since) p);
}

-- a history that was given back
pub given_back : (d : Drive) (o : Origin) (s t : Course) (before taken now : List Deed) → d.origin ≡ o → o ≡ record { began = s; before = Some taken } → taken ≡ before → d.course ≡ t
    → ((b : List Deed) → d.origin.before ≡ Some b → IsKept d.origin.began b d.course now) → IsKept s before t now
given_back d o s t before taken now p q e f k =
    let is = p ∙ q in
    subst (λ (x : Course). IsKept x before t now) (ap (λ (x : Origin). x.began) is) (subst (λ (x : Course). IsKept d.origin.began before x now) f (k before (ap (λ (x : Origin). x.before) is ∙ ap (λ (x : List Deed). Some x) e)))

pub kept_asked : (s t : Course) (before now : List Deed) (e : Event) (r : Reply) → IsStepUnder s e r t → IsCounted s r t → now ≡ recorded before e r → IsKept s before t now
kept_asked s t before now e r a c w =
    kept_of s t (Some before) before now (on_asked s (Some before) s t (Some before) (Some now) e r (none_yet s (Some before)) a c (ap (λ (x : List Deed). Some x) w)) refl

pub kept_set : (s t : Course) (before now : List Deed) (u : Switches) → t ≡ after_deed s (Set u) → now ≡ before ++ Set u ∷ [] → IsKept s before t now
kept_set s t before now u e w =
    kept_of s t (Some before) before now (on_set s (Some before) s t (Some before) (Some now) u (none_yet s (Some before)) e (ap (λ (x : List Deed). Some x) w)) refl

pub kept_noted : (s : Course) (before now : List Deed) (n : Note) → now ≡ before ++ Noted n ∷ [] → IsKept s before s now
kept_noted s before now n w =
    kept_of s s (Some before) before now (on_noted s (Some before) s (Some before) (Some now) n (none_yet s (Some before)) (ap (λ (x : List Deed). Some x) w)) refl
