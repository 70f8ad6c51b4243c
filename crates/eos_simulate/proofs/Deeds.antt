-- Deeds after deeds.
use Rattle.std.proofs.Common.{◌≡◌, ℕ, ◌+◌, ◌<◌, ◌≤◌, ◌≢◌, Bool, true, List, Contains, Option, None, Some, IfSome, IsSome, [], ◌∷◌, ◌++◌, length, take, drop, get_or, if◌then◌else◌, refl, sym, ap, ap₂, subst, ◌∙◌, append_assoc}
use Rattle.std.proofs.lemmas.Bool.{false≢true}
use Rattle.std.proofs.lemmas.List.{take_all, take_more, take-append-drop, append-nil}
use Rattle.std.proofs.lemmas.List.Elements.{All-nil, Contains-append_left, Contains-push}
use Rattle.std.specs.List.{AllZip}
use Rattle.eos_machine.specs.declared.config.Config.{Config}
use Rattle.eos_machine.specs.declared.switches.Switches.{Switches}
use Rattle.eos_machine.specs.declared.state.Election.{Election}
use Rattle.eos_machine.specs.Elections.{LosesNothing}
use Rattle.eos_machine.specs.declared.event.Event.{Event}
use Rattle.eos_machine.specs.declared.event.Reply.{Reply}
use Rattle.eos_cluster.specs.Courses.{Course}
use Rattle.eos_drive.specs.declared.deed.Deed.{Deed}
use Rattle.eos_drive.specs.declared.deed.Deed.TheVariants as done
use Rattle.eos_machine.specs.declared.event.Note.{Note}
use Rattle.eos_drive.specs.Driven.{is_taken, recorded, IsKept}
use Rattle.eos_history_lines.specs.declared.line.Deed.{Deed as SaidDeed}
use Rattle.eos_history_lines.specs.declared.line.Deed.TheVariants as said
use Rattle.eos_history_lines.specs.declared.line.Line.{Line}
use Rattle.eos_simulate.specs.declared.replaying.ReplayFault.{ReplayFault}
use Rattle.eos_simulate.specs.declared.replaying.ReplayFault.TheVariants.{NotAtRest, Limit, Otherwise, Totals, OutOfMemory}
use Rattle.eos_simulate.specs.Histories.{new_course, LoseNothing, act_said, acts_of, acts_said, reply_said, Agrees, IsAsSaid}
use Rattle.eos_simulate.specs.Replays.{DiffersFirst, IfOtherwise}
use Rattle.eos_simulate.specs.steps.Passing.{HavePassed, HasPassed, HasDiffered, DiffersAfter, IsOther}
use Rattle.eos_drive.proofs.OneAfterAnother as deeds
use Rattle.eos_drive.proofs.MoreDeeds as more

pub kept_on : (s t u : Course) (before now after : List Deed) → IsKept s before t now → IsKept t now u after → IsKept s before u after
kept_on = deeds.kept_on

-- nothing is done
pub kept_still : (s : Course) (now : List Deed) → IsKept s now s now
kept_still = deeds.kept_still

-- where no election of a history lost a record, none has in the cluster to which it leads
pub lossless_kept : (c : Config) (before now : List Deed) (t : Course) → IsKept (new_course c) before t now → before ≡ [] → LoseNothing c now → LosesNothing t.world
lossless_kept c before now t k none lossless =
    let is : now ≡ k.since = k.kept ∙ ap (λ (ds : List Deed). ds ++ k.since) none in
    subst (λ (s : Course). LosesNothing s.world) (sym k.leads.state) (subst (LoseNothing c) is lossless)

-- and the other way round
pub lossless_left : (c : Config) (before now : List Deed) (t : Course) → IsKept (new_course c) before t now → before ≡ [] → LosesNothing t.world → LoseNothing c now
lossless_left c before now t k none lossless =
    let is : now ≡ k.since = k.kept ∙ ap (λ (ds : List Deed). ds ++ k.since) none in
    subst (LoseNothing c) (sym is) (subst (λ (s : Course). LosesNothing s.world) k.leads.state lossless)

-- before any event
pub lossless_new : (c : Config) (s : Course) → s ≡ new_course c → LosesNothing s.world
lossless_new c s new = subst (λ (t : Course). LosesNothing t.world) (sym new) (All-nil (λ (x : Election). x.lost ≡ 0))

pub kept_same : (s : Course) (before now : List Deed) → now ≡ before → IsKept s before s now
kept_same s before now e = subst (λ (x : List Deed). IsKept s before s x) (sym e) (deeds.kept_still s before)

-- a note more
pub kept_note : (s : Course) (before now : List Deed) (n : Note) → now ≡ before ++ done.Noted n ∷ [] → IsKept s before s now
kept_note = more.kept_noted

-- an event more that was taken
pub taken_deed : (ds now : List Deed) (e f : Event) (r : Reply) → is_taken r ≡ true → now ≡ recorded ds e r → e ≡ f → now ≡ ds ++ done.Asked f r ∷ []
taken_deed ds now e f r taken is same =
    is ∙ ap (λ (b : Bool). if b then ds ++ done.Asked e r ∷ [] else ds) taken ∙ ap (λ (x : Event). ds ++ done.Asked x r ∷ []) same

-- ---- lines that were passed

pub passed_asked : (before now : List Deed) (l : Line) (e : Event) (s : Option Reply) (met : Reply) → l.deed ≡ said.Asked e s → now ≡ before ++ done.Asked e met ∷ [] → Agrees (Some met) s → HasPassed before now l
passed_asked before now l e s met is kept agrees = record {
  deed = done.Asked e met;
  kept = kept;
  says = record { act = sym (ap act_said is); reply = subst (λ (d : SaidDeed). Agrees (Some met) (reply_said d)) (sym is) agrees };
}

pub passed_set : (before now : List Deed) (l : Line) (u : Switches) → l.deed ≡ said.Set u → now ≡ before ++ done.Set u ∷ [] → HasPassed before now l
passed_set before now l u is kept = record {
  deed = done.Set u;
  kept = kept;
  says = record { act = sym (ap act_said is); reply = subst (λ (d : SaidDeed). Agrees None (reply_said d)) (sym is) tt };
}

pub passed_note : (before now : List Deed) (l : Line) (n : Note) → l.deed ≡ said.Noted n → now ≡ before ++ done.Noted n ∷ [] → HasPassed before now l
passed_note before now l n is kept = record {
  deed = done.Noted n;
  kept = kept;
  says = record { act = sym (ap act_said is); reply = subst (λ (d : SaidDeed). Agrees None (reply_said d)) (sym is) tt };
}

pub differed : (before now : List Deed) (l told : Line) (e : Event) (s : Option Reply) (met : Reply) → l.deed ≡ said.Asked e s → now ≡ before ++ done.Asked e met ∷ [] → IfSome s (λ r. met ≢ r) → IsSome s
    → told ≡ record { number = l.number; deed = said.Asked e (Some met) } → HasDiffered before now l told
differed before now l told e None met is kept apart some tells = absurd (false≢true some)
differed before now l told e (Some r) met is kept apart some tells = record {
  event = e;
  said_reply = r;
  met = met;
  kept = kept;
  says = is;
  differs = apart;
  tells = tells;
}

pub other_fault : (f : ReplayFault) (P : Line → Type 0) → IsOther f → IfOtherwise f P
other_fault NotAtRest P h = tt
other_fault Limit P h = tt
other_fault (Otherwise told) P h = absurd h
other_fault (Totals name said_total counted) P h = tt
other_fault OutOfMemory P h = tt

pub none_passed : (b : List Deed) → HavePassed b b []
none_passed b = record { since = []; kept = sym (append-nil b); each = tt }

zip_more : (ds : List Deed) (ls : List Line) (d : Deed) (l : Line) → AllZip IsAsSaid ds ls → IsAsSaid d l → AllZip IsAsSaid (ds ++ d ∷ []) (ls ++ l ∷ [])
zip_more [] [] d l h s = (s, tt)
zip_more [] (m ∷ ls) d l h s = absurd h
zip_more (e ∷ ds) [] d l h s = absurd h
zip_more (e ∷ ds) (m ∷ ls) d l h s = (h.0, zip_more ds ls d l h.1 s)

passed_more : (b now new : List Deed) (ls : List Line) (l : Line) → HavePassed b now ls → HasPassed now new l → HavePassed b new (ls ++ l ∷ [])
passed_more b now new ls l h s = record {
  since = h.since ++ s.deed ∷ [];
  kept = s.kept ∙ (ap (λ (x : List Deed). x ++ s.deed ∷ []) h.kept ∙ append_assoc b h.since (s.deed ∷ []));
  each = zip_more h.since ls s.deed l h.each s.says;
}

-- of a list of lines one line more
pub line_more : (ls : List Line) (i : ℕ) (l : Line) (b now new : List Deed) → i < length ls → l ≡ get_or ls i l → HavePassed b now (take i ls) → HasPassed now new l → HavePassed b new (take (i + 1) ls)
line_more ls i l b now new lt is h s =
    let further : take (i + 1) ls ≡ take i ls ++ l ∷ [] = take_more ls i l lt ∙ ap (λ (x : Line). take i ls ++ x ∷ []) (sym is) in
    subst (λ (x : List Line). HavePassed b new x) (sym further) (passed_more b now new (take i ls) l h s)

-- all of them
pub all_passed : (ls : List Line) (i : ℕ) (b now : List Deed) → length ls ≤ i → HavePassed b now (take i ls) → HavePassed b now ls
all_passed ls i b now end h = subst (λ (x : List Line). HavePassed b now x) (take_all i ls end) h

-- at this line it differs
line_differs : (ls : List Line) (i : ℕ) (l told : Line) (b now new : List Deed) → i < length ls → l ≡ get_or ls i l → HavePassed b now (take i ls) → HasDiffered now new l told → DiffersAfter b ls new told
line_differs ls i l told b now new lt is h s = record {
  passed = take i ls;
  here = l;
  others = drop (i + 1) ls;
  middle = now;
  parts = sym (take-append-drop (i + 1) ls)
      ∙ ap (λ (x : List Line). x ++ drop (i + 1) ls) (take_more ls i l lt ∙ ap (λ (x : Line). take i ls ++ x ∷ []) (sym is))
      ∙ append_assoc (take i ls) (l ∷ []) (drop (i + 1) ls);
  agrees = h;
  last = s;
}

-- ---- a history that began with nothing in it

acts_alike : (ds : List Deed) (ls : List Line) → AllZip IsAsSaid ds ls → acts_of ds ≡ acts_said ls
acts_alike [] [] h = refl
acts_alike [] (l ∷ ls) h = absurd h
acts_alike (d ∷ ds) [] h = absurd h
acts_alike (d ∷ ds) (l ∷ ls) h = ap₂ (λ (x : SaidDeed) (xs : List SaidDeed). x ∷ xs) h.0.act (acts_alike ds ls h.1)

pub passed_each : (b now : List Deed) (ls : List Line) → b ≡ [] → HavePassed b now ls → AllZip IsAsSaid now ls
passed_each b now ls none h = subst (λ (x : List Deed). AllZip IsAsSaid x ls) (sym (h.kept ∙ ap (λ (x : List Deed). x ++ h.since) none)) h.each

pub passed_acts : (b now : List Deed) (ls : List Line) → b ≡ [] → HavePassed b now ls → acts_of now ≡ acts_said ls
passed_acts b now ls none h = acts_alike now ls (passed_each b now ls none h)

differs_first : (b now : List Deed) (ls : List Line) (told : Line) → b ≡ [] → DiffersAfter b ls now told → DiffersFirst ls now told
differs_first b now ls told none h = record {
  before = h.passed;
  here = h.here;
  others = h.others;
  passed = h.middle;
  event = h.last.event;
  said_reply = h.last.said_reply;
  met = h.last.met;
  parts = h.parts;
  agrees = passed_each b h.middle h.passed none h.agrees;
  done_so_far = h.last.kept;
  says = h.last.says;
  differs = h.last.differs;
  tells = h.last.tells;
}

-- what was set stays in what is kept
pub set_stays : (s t : Course) (u : Switches) (before middle now : List Deed) → middle ≡ before ++ done.Set u ∷ [] → IsKept s middle t now → Contains now (done.Set u)
set_stays s t u before middle now set k =
    let whole : now ≡ (before ++ done.Set u ∷ []) ++ k.since = k.kept ∙ ap (λ (x : List Deed). x ++ k.since) set in
    subst (λ (x : List Deed). Contains x (done.Set u)) (sym whole) (Contains-append_left (before ++ done.Set u ∷ []) k.since (done.Set u) (Contains-push before (done.Set u)))

-- of a fault, where the history began with nothing in it
pub first_of_all : (f : ReplayFault) (b now : List Deed) (ls : List Line) → b ≡ [] → IfOtherwise f (DiffersAfter b ls now) → IfOtherwise f (DiffersFirst ls now)
first_of_all NotAtRest b now ls none h = tt
first_of_all Limit b now ls none h = tt
first_of_all (Otherwise told) b now ls none h = differs_first b now ls told none h
first_of_all (Totals name said_total counted) b now ls none h = tt
first_of_all OutOfMemory b now ls none h = tt

-- at this line a fault
pub fault_differs : (f : ReplayFault) (ls : List Line) (i : ℕ) (l : Line) (b now new : List Deed) → i < length ls → l ≡ get_or ls i l → HavePassed b now (take i ls) → IfOtherwise f (HasDiffered now new l) → IfOtherwise f (DiffersAfter b ls new)
fault_differs NotAtRest ls i l b now new lt is h s = tt
fault_differs Limit ls i l b now new lt is h s = tt
fault_differs (Otherwise told) ls i l b now new lt is h s = line_differs ls i l told b now new lt is h s
fault_differs (Totals name said_total counted) ls i l b now new lt is h s = tt
fault_differs OutOfMemory ls i l b now new lt is h s = tt
