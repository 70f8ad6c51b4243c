-- What is read from the value of a line is that line.
use Rattle.std.proofs.Common.{◌≡◌, ◌^◌, ℕ, ◌==◌, ℤ, pos, negsuc, List, [], ◌∷◌, ◌++◌, Bool, true, false, ◌||◌, nat_lt, nat_le, Option, None, Some, option_map, codes, FitsSigned, if◌then◌else◌, refl, sym, ap, ◌∙◌, arith}
use Rattle.std.specs.Prelude.{IfSome, bytes_eq, option_and_then}
use Rattle.std.specs.Int.{w32, w64}
use Rattle.std.proofs.lemmas.Int.{ints}
use Rattle.std.proofs.lemmas.Bool.{eqb-true}
use Rattle.std.proofs.lemmas.Bool.Decides.{nat_tests}
use Rattle.std.proofs.lemmas.Slice.Eq.{bytes_eq-Decides}
use Rattle.serde_json.proofs.Views.{get_member-put, get_member-put_other}
use Rattle.serde_json.specs.Data.{Data, Members as JsonMembers, no_members, put, string, object, array}
use Rattle.serde_json.specs.Find.{get, get_member, as_null, as_number, as_u64, as_i64, as_str, of_integer}
use Rattle.serde_json.specs.Read.{read}
use Rattle.serde_json.specs.View.{items_of}
use Rattle.eos_batch.specs.declared.marker.Kind.TheVariants as kinds
use Rattle.eos_machine.specs.declared.item.Claim.{Claim}
use Rattle.eos_machine.specs.declared.event.Event.{Event}
use Rattle.eos_machine.specs.declared.event.Event.TheVariants.{Feed, Start, Produce, Commit, End, Resume, Fetch, Members, BrokerRestart, CoordinatorRestart, Deliver, TimeOut, AddPartition, WriteMarker, Complete, Elect}
use Rattle.eos_machine.specs.declared.event.Reply.{Reply}
use Rattle.eos_machine.specs.declared.event.Reply.TheVariants as replies
use Rattle.eos_machine.specs.declared.switches.Switches.{Switches}
use Rattle.eos_machine.specs.declared.switches.Switch.TheVariants.{KeepDuplicates, NoFence, NoBump, LoseMarker, SwapMarker, HideListing, IgnoreGeneration}
use Rattle.eos_machine.specs.Switching.{switch_name}
use Rattle.eos_history_lines.specs.declared.line.Head.{Head}
use Rattle.eos_history_lines.specs.declared.line.Deed.{Deed}
use Rattle.eos_history_lines.specs.declared.line.Deed.TheVariants.{Asked, Set, Noted}
use Rattle.eos_machine.specs.declared.event.Note.{Note}
use Rattle.eos_machine.specs.declared.event.Note.TheVariants as notes
use Rattle.eos_history_lines.specs.declared.line.Line.{Line}
use Rattle.eos_history_lines.specs.declared.line.Tail.{Tail}
use Rattle.eos_history_lines.specs.declared.line.Row.{Row}
use Rattle.eos_history_lines.specs.declared.line.Row.TheVariants as rows
use Rattle.eos_history_lines.specs.Fits.{FitsClaim, FitsEvent, FitsNote, FitsDeed, FitsRow}
use Rattle.eos_history_lines.specs.Words.{event_word, note_word}
use Rattle.eos_manifest.specs.Objects.{count, text_value}
use Rattle.eos_history_lines.specs.Lines.{named_if, switch_names, switches_value, with_sizes, with_asked, head_value, with_claim, claim_value, claimed, offset_or_null, count_or_null, with_group, with_arguments, with_event, with_value, with_reply, with_subject, with_note, with_deed, line_value, with_tail, tail_value, row_value}
use Rattle.eos_history_lines.specs.steps.Reading.{as_small, claim_in, claim_or_none, offset_or_none, partition_or_none, event_called, group_from, event_in, reply_in, reply_from, is_text, is_named, switches_in, head_in, note_called, deed_from, deed_of, deed_in, line_in, row_from, row_in}

-- ---- looking up what was put

true_not_false : (b : Bool) → b ≡ true → b ≡ false → ⊥
true_not_false true p q = cc q
true_not_false false p q = cc p

other : (q k : List ℕ) (d : Data) (ms : JsonMembers) → bytes_eq q k ≡ false → get_member q (put k d ms) ≡ get_member q ms
other q k d ms differ = get_member-put_other q k d ms (λ e. true_not_false (bytes_eq q k) ((bytes_eq-Decides q k).1 e) differ)

-- a name that no event has an argument of
record NoArgument (q : List ℕ) : Type 0 where
  source : bytes_eq q (codes "source") ≡ false
  application : bytes_eq q (codes "application") ≡ false
  session : bytes_eq q (codes "session") ≡ false
  partition : bytes_eq q (codes "partition") ≡ false
  claim : bytes_eq q (codes "claim") ≡ false
  offset : bytes_eq q (codes "offset") ≡ false
  kind : bytes_eq q (codes "kind") ≡ false
  topic : bytes_eq q (codes "topic") ≡ false
  group : bytes_eq q (codes "group") ≡ false
  message : bytes_eq q (codes "message") ≡ false
  kept : bytes_eq q (codes "kept") ≡ false

past_group : (q : List ℕ) (g : ℕ) (ms : JsonMembers) → bytes_eq q (codes "group") ≡ false → get_member q (with_group g ms) ≡ get_member q ms
unfolding with_group
past_group q g ms differ = by (g == 0)
  where
    by : (b : Bool) → get_member q (if b then ms else put (codes "group") (count g) ms) ≡ get_member q ms
    by true = refl
    by false = other q (codes "group") (count g) ms differ

past_arguments : (q : List ℕ) (e : Event) (ms : JsonMembers) → NoArgument q → get_member q (with_arguments e ms) ≡ get_member q ms
unfolding with_arguments
past_arguments q (Feed source) ms n = other q _ _ ms n.source
past_arguments q (Start application) ms n = other q _ _ ms n.application
past_arguments q (Produce session partition claim) ms n = other q _ _ _ n.claim ∙ other q _ _ _ n.partition ∙ other q _ _ ms n.session
past_arguments q (Commit session source offset) ms n = other q _ _ _ n.offset ∙ other q _ _ _ n.source ∙ other q _ _ ms n.session
past_arguments q (End session kind) ms n = other q _ _ _ n.kind ∙ other q _ _ ms n.session
past_arguments q (Resume session) ms n = other q _ _ ms n.session
past_arguments q (Fetch session source) ms n = other q _ _ _ n.source ∙ other q _ _ ms n.session
past_arguments q (Members group) ms n = past_group q group ms n.group
past_arguments q (BrokerRestart topic partition) ms n = other q _ _ _ n.partition ∙ other q _ _ ms n.topic
past_arguments q CoordinatorRestart ms n = refl
past_arguments q (Deliver message) ms n = other q _ _ ms n.message
past_arguments q (TimeOut application) ms n = other q _ _ ms n.application
past_arguments q (AddPartition session partition) ms n = other q _ _ _ n.partition ∙ other q _ _ ms n.session
past_arguments q (WriteMarker message) ms n = other q _ _ ms n.message
past_arguments q (Complete application) ms n = other q _ _ ms n.application
past_arguments q (Elect topic partition kept) ms n = other q _ _ _ n.kept ∙ other q _ _ _ n.partition ∙ other q _ _ ms n.topic

past_event : (q : List ℕ) (e : Event) (ms : JsonMembers) → NoArgument q → bytes_eq q (codes "event") ≡ false → get_member q (with_event e ms) ≡ get_member q ms
unfolding with_event
past_event q e ms n differ = past_arguments q e _ n ∙ other q _ _ ms differ

past_value : (q : List ℕ) (r : Reply) (ms : JsonMembers) → bytes_eq q (codes "value") ≡ false → get_member q (with_value r ms) ≡ get_member q ms
unfolding with_value
past_value q (replies.Done m) ms differ = other q _ _ ms differ
past_value q replies.Fenced ms differ = refl
past_value q replies.OutOfOrder ms differ = refl
past_value q replies.DuplicateKept ms differ = refl
past_value q replies.WrongState ms differ = refl
past_value q replies.Busy ms differ = refl
past_value q replies.StaleGeneration ms differ = refl
past_value q replies.EpochsSpent ms differ = refl
past_value q replies.Unknown ms differ = refl
past_value q replies.OutOfMemory ms differ = refl
past_value q replies.Full ms differ = refl

past_reply : (q : List ℕ) (r : Option Reply) (ms : JsonMembers) → bytes_eq q (codes "value") ≡ false → bytes_eq q (codes "reply") ≡ false → get_member q (with_reply r ms) ≡ get_member q ms
unfolding with_reply
past_reply q None ms p s = refl
past_reply q (Some r) ms p s = past_value q r _ p ∙ other q _ _ ms s

-- ---- numbers

integer_back : (z : ℤ) → FitsSigned w64 z → as_i64 (of_integer z) ≡ Some z
integer_back (pos n) fits = let few : nat_lt n (2 ^ 63) ≡ true = grind (arith, ints, nat_tests, fits) in rw few refl
integer_back (negsuc n) fits = refl

small_wide : (z : ℤ) → FitsSigned w32 z → as_i64 (of_integer z) ≡ Some z
small_wide (pos n) fits = let few : nat_lt n (2 ^ 63) ≡ true = grind (arith, ints, nat_tests, fits) in rw few refl
small_wide (negsuc n) fits = refl

small_back : (z : ℤ) → FitsSigned w32 z → as_small z ≡ Some z
small_back (pos n) fits = let few : nat_le n 2147483647 ≡ true = grind (arith, ints, nat_tests, fits) in rw few refl
small_back (negsuc n) fits = let few : nat_le n 2147483647 ≡ true = grind (arith, ints, nat_tests, fits) in rw few refl

-- ---- events

no_null : (c : Claim) → as_null (claim_value c) ≡ None
unfolding claim_value
no_null c = refl

claim_back : (c : Claim) → FitsClaim c → claim_in (claim_value c) ≡ Some c
unfolding claim_value with_claim
claim_back c h =
    rw (
      h.topic,
      small_wide c.partition h.partition,
      small_back c.partition h.partition,
      integer_back c.offset h.offset,
      small_wide c.output h.output,
      small_back c.output h.output,
      small_wide c.of h.of,
      small_back c.of h.of,
    ) refl

claim_said : (c : Option Claim) → IfSome c FitsClaim → claim_or_none (claimed c) ≡ Some c
claim_said None h = refl
claim_said (Some c) h = by (claim_value c) (no_null c) (claim_back c h)
  where
    by : (d : Data) → as_null d ≡ None → claim_in d ≡ Some c → claim_or_none d ≡ Some (Some c)
    by d n e = rw (n, e) refl

offset_said : (z : Option ℤ) → IfSome z (FitsSigned w64) → offset_or_none (offset_or_null z) ≡ Some z
offset_said None h = refl
offset_said (Some z) h = rw (integer_back z h) refl

partition_said : (p : Option ℕ) → partition_or_none (count_or_null p) ≡ Some p
partition_said None = refl
partition_said (Some p) = refl

members_back : (g : ℕ) (ms : JsonMembers) → get_member (codes "group") ms ≡ None → event_called (codes "members") (object (with_group g ms)) ≡ Some (Members g)
unfolding with_group
members_back g ms none = by (g == 0) refl
  where
    said : Option Data → Option Event
    said found = option_map (λ group. Members group) (group_from found)

    by : (b : Bool) → (g == 0) ≡ b → said (get_member (codes "group") (if b then ms else put (codes "group") (count g) ms)) ≡ Some (Members g)
    by true first = ap said none ∙ ap (λ (k : ℕ). Some (Members k)) (sym (eqb-true g 0 first))
    by false other = ap said (get_member-put (codes "group") (count g) ms)

event_back : (e : Event) (ms : JsonMembers) → FitsEvent e → get_member (codes "group") ms ≡ None → event_called (event_word e) (object (with_arguments e ms)) ≡ Some e
unfolding with_arguments
event_back (Feed source) ms h none = rw (get_member-put (codes "source") (count source) ms) refl
event_back (Start application) ms h none = rw (get_member-put (codes "application") (count application) ms) refl
event_back (Produce session partition claim) ms h none =
    let one = put (codes "session") (count session) ms in
    let two = put (codes "partition") (count partition) one in
    rw (
      get_member-put (codes "claim") (claimed claim) two,
      other (codes "partition") (codes "claim") (claimed claim) two refl,
      get_member-put (codes "partition") (count partition) one,
      other (codes "session") (codes "claim") (claimed claim) two refl,
      other (codes "session") (codes "partition") (count partition) one refl,
      get_member-put (codes "session") (count session) ms,
      claim_said claim h,
    ) refl
event_back (Commit session source offset) ms h none =
    let one = put (codes "session") (count session) ms in
    let two = put (codes "source") (count source) one in
    rw (
      get_member-put (codes "offset") (offset_or_null offset) two,
      other (codes "source") (codes "offset") (offset_or_null offset) two refl,
      get_member-put (codes "source") (count source) one,
      other (codes "session") (codes "offset") (offset_or_null offset) two refl,
      other (codes "session") (codes "source") (count source) one refl,
      get_member-put (codes "session") (count session) ms,
      offset_said offset h,
    ) refl
event_back (End session kinds.Commit) ms h none =
    let one = put (codes "session") (count session) ms in
    rw (get_member-put (codes "kind") (string (codes "commit")) one, other (codes "session") (codes "kind") (string (codes "commit")) one refl, get_member-put (codes "session") (count session) ms) refl
event_back (End session kinds.Abort) ms h none =
    let one = put (codes "session") (count session) ms in
    rw (get_member-put (codes "kind") (string (codes "abort")) one, other (codes "session") (codes "kind") (string (codes "abort")) one refl, get_member-put (codes "session") (count session) ms) refl
event_back (Resume session) ms h none = rw (get_member-put (codes "session") (count session) ms) refl
event_back (Fetch session source) ms h none =
    let one = put (codes "session") (count session) ms in
    rw (get_member-put (codes "source") (count source) one, other (codes "session") (codes "source") (count source) one refl, get_member-put (codes "session") (count session) ms) refl
event_back (Members group) ms h none = members_back group ms none
event_back (BrokerRestart topic partition) ms h none =
    let one = put (codes "topic") (text_value topic) ms in
    rw (get_member-put (codes "partition") (count partition) one, other (codes "topic") (codes "partition") (count partition) one refl, get_member-put (codes "topic") (text_value topic) ms, h) refl
event_back CoordinatorRestart ms h none = refl
event_back (Deliver message) ms h none = rw (get_member-put (codes "message") (count message) ms) refl
event_back (TimeOut application) ms h none = rw (get_member-put (codes "application") (count application) ms) refl
event_back (AddPartition session partition) ms h none =
    let one = put (codes "session") (count session) ms in
    rw (
      get_member-put (codes "partition") (count_or_null partition) one,
      other (codes "session") (codes "partition") (count_or_null partition) one refl,
      get_member-put (codes "session") (count session) ms,
      partition_said partition,
    ) refl
event_back (WriteMarker message) ms h none = rw (get_member-put (codes "message") (count message) ms) refl
event_back (Complete application) ms h none = rw (get_member-put (codes "application") (count application) ms) refl
event_back (Elect topic partition kept) ms h none =
    let one = put (codes "topic") (text_value topic) ms in
    let two = put (codes "partition") (count partition) one in
    rw (
      get_member-put (codes "kept") (count kept) two,
      other (codes "partition") (codes "kept") (count kept) two refl,
      get_member-put (codes "partition") (count partition) one,
      other (codes "topic") (codes "kept") (count kept) two refl,
      other (codes "topic") (codes "partition") (count partition) one refl,
      get_member-put (codes "topic") (text_value topic) ms,
      h,
    ) refl

event_said : (e : Event) (ms : JsonMembers) → FitsEvent e → get_member (codes "group") ms ≡ None → event_in (object (with_event e ms)) ≡ Some e
unfolding with_event
event_said e ms h none =
    let base = put (codes "event") (string (event_word e)) ms in
    let d = object (with_arguments e base) in
    let word = past_arguments (codes "event") e base (record {
      source = refl;
      application = refl;
      session = refl;
      partition = refl;
      claim = refl;
      offset = refl;
      kind = refl;
      topic = refl;
      group = refl;
      message = refl;
      kept = refl;
    }) ∙ get_member-put (codes "event") (string (event_word e)) ms in
    ap (λ o. option_and_then (λ w. event_called w d) (option_and_then as_str o)) word ∙ event_back e base h (other (codes "group") (codes "event") (string (event_word e)) ms refl ∙ none)

-- ---- replies

reply_said : (r : Option Reply) (d : Data) (ms : JsonMembers) → get (codes "reply") d ≡ get_member (codes "reply") (with_reply r ms) → get (codes "value") d ≡ get_member (codes "value") (with_reply r ms)
    → get_member (codes "reply") ms ≡ None → reply_in d ≡ Some r
unfolding with_reply with_value
reply_said None d ms p q none = ap (λ o. reply_from o d) (p ∙ none)
reply_said (Some (replies.Done m)) d ms p q none =
    let base = put (codes "reply") (string (codes "done")) ms in
    ap (λ o. reply_from o d) (p ∙ other (codes "reply") (codes "value") (count m) base refl ∙ get_member-put (codes "reply") (string (codes "done")) ms)
    ∙ ap (λ o. option_map (λ (r : Reply). Some r) (option_map (λ n. replies.Done n) (option_and_then (λ v. option_and_then as_u64 (as_number v)) o))) (q ∙ get_member-put (codes "value") (count m) base)
reply_said (Some replies.Fenced) d ms p q none = ap (λ o. reply_from o d) (p ∙ get_member-put (codes "reply") _ ms)
reply_said (Some replies.OutOfOrder) d ms p q none = ap (λ o. reply_from o d) (p ∙ get_member-put (codes "reply") _ ms)
reply_said (Some replies.DuplicateKept) d ms p q none = ap (λ o. reply_from o d) (p ∙ get_member-put (codes "reply") _ ms)
reply_said (Some replies.WrongState) d ms p q none = ap (λ o. reply_from o d) (p ∙ get_member-put (codes "reply") _ ms)
reply_said (Some replies.Busy) d ms p q none = ap (λ o. reply_from o d) (p ∙ get_member-put (codes "reply") _ ms)
reply_said (Some replies.StaleGeneration) d ms p q none = ap (λ o. reply_from o d) (p ∙ get_member-put (codes "reply") _ ms)
reply_said (Some replies.EpochsSpent) d ms p q none = ap (λ o. reply_from o d) (p ∙ get_member-put (codes "reply") _ ms)
reply_said (Some replies.Unknown) d ms p q none = ap (λ o. reply_from o d) (p ∙ get_member-put (codes "reply") _ ms)
reply_said (Some replies.OutOfMemory) d ms p q none = ap (λ o. reply_from o d) (p ∙ get_member-put (codes "reply") _ ms)
reply_said (Some replies.Full) d ms p q none = ap (λ o. reply_from o d) (p ∙ get_member-put (codes "reply") _ ms)

-- ---- switches

or_none : (b : Bool) → (b || false) ≡ b
or_none true = refl
or_none false = refl

or_moved : (a b c : Bool) → (a || (b || c)) ≡ ((a || b) || c)
or_moved true b c = refl
or_moved false b c = refl

-- what one more name adds, where its test is known
abbrev pick : Bool → Bool → Bool → Bool
pick true before on = before || on
pick false before on = before

picked_on : (t before : Bool) → (before || (t || false)) ≡ pick t before true
picked_on true true = refl
picked_on true false = refl
picked_on false before = or_none before

picked_off : (t before : Bool) → before ≡ pick t before false
picked_off true before = sym (or_none before)
picked_off false before = refl

-- a name behind others
name_more : (k n : List ℕ) (on : Bool) (ds : List Data) → is_named k (items_of (ds ++ named_if on n)) ≡ pick (bytes_eq n k) (is_named k (items_of ds)) on
name_more k n true [] = picked_on (bytes_eq n k) false
name_more k n false [] = picked_off (bytes_eq n k) false
name_more k n on (d ∷ ds) = ap (λ b. is_text k d || b) (name_more k n on ds) ∙ moved (is_text k d) (bytes_eq n k) (is_named k (items_of ds)) on
  where
    moved : (a t b c : Bool) → (a || pick t b c) ≡ pick t (a || b) c
    moved a true b c = or_moved a b c
    moved a false b c = refl

name_found : (k : List ℕ) (s : Switches) → is_named k (items_of (switch_names s))
    ≡ pick (bytes_eq (switch_name IgnoreGeneration) k) (pick (bytes_eq (switch_name HideListing) k) (pick (bytes_eq (switch_name SwapMarker) k) (pick (bytes_eq (switch_name LoseMarker) k)
    (pick (bytes_eq (switch_name NoBump) k) (pick (bytes_eq (switch_name NoFence) k) (pick (bytes_eq (switch_name KeepDuplicates) k) false s.keep_duplicates) s.no_fence) s.no_bump) s.lose_marker)
    s.swap_marker) s.hide_listing) s.ignore_generation
name_found k s =
    let upto1 : List Data = named_if s.keep_duplicates (switch_name KeepDuplicates) in
    let upto2 : List Data = upto1 ++ named_if s.no_fence (switch_name NoFence) in
    let upto3 : List Data = upto2 ++ named_if s.no_bump (switch_name NoBump) in
    let upto4 : List Data = upto3 ++ named_if s.lose_marker (switch_name LoseMarker) in
    let upto5 : List Data = upto4 ++ named_if s.swap_marker (switch_name SwapMarker) in
    let upto6 : List Data = upto5 ++ named_if s.hide_listing (switch_name HideListing) in
    name_more k (switch_name IgnoreGeneration) s.ignore_generation upto6 ∙ ap (λ (b : Bool). pick (bytes_eq (switch_name IgnoreGeneration) k) b s.ignore_generation)
    (name_more k (switch_name HideListing) s.hide_listing upto5 ∙ ap (λ (b : Bool). pick (bytes_eq (switch_name HideListing) k) b s.hide_listing)
    (name_more k (switch_name SwapMarker) s.swap_marker upto4 ∙ ap (λ (b : Bool). pick (bytes_eq (switch_name SwapMarker) k) b s.swap_marker)
    (name_more k (switch_name LoseMarker) s.lose_marker upto3 ∙ ap (λ (b : Bool). pick (bytes_eq (switch_name LoseMarker) k) b s.lose_marker)
    (name_more k (switch_name NoBump) s.no_bump upto2 ∙ ap (λ (b : Bool). pick (bytes_eq (switch_name NoBump) k) b s.no_bump)
    (name_more k (switch_name NoFence) s.no_fence upto1 ∙ ap (λ (b : Bool). pick (bytes_eq (switch_name NoFence) k) b s.no_fence)
    (name_more k (switch_name KeepDuplicates) s.keep_duplicates []))))))

switches_back : (s : Switches) → switches_in (items_of (switch_names s)) ≡ s
switches_back s = λ i. record {
  keep_duplicates = name_found (switch_name KeepDuplicates) s i;
  no_fence = name_found (switch_name NoFence) s i;
  no_bump = name_found (switch_name NoBump) s i;
  lose_marker = name_found (switch_name LoseMarker) s i;
  swap_marker = name_found (switch_name SwapMarker) s i;
  hide_listing = name_found (switch_name HideListing) s i;
  ignore_generation = name_found (switch_name IgnoreGeneration) s i;
}

-- ---- lines

pub head_back : (h : Head) → head_in (head_value h) ≡ Some h
unfolding head_value with_asked with_sizes switches_value
head_back h = ap (λ (s : Switches). Some (record { config = h.config; switches = s; seed = h.seed; words = h.words })) (switches_back h.switches)

-- a name that stands in no deed
record NoDeed (q : List ℕ) : Type 0 where
  argument : NoArgument q
  note : bytes_eq q (codes "note") ≡ false
  mishap : bytes_eq q (codes "mishap") ≡ false
  event : bytes_eq q (codes "event") ≡ false
  reply : bytes_eq q (codes "reply") ≡ false
  value : bytes_eq q (codes "value") ≡ false

-- or in no event with its reply
record NoAsked (q : List ℕ) : Type 0 where
  argument : NoArgument q
  event : bytes_eq q (codes "event") ≡ false
  reply : bytes_eq q (codes "reply") ≡ false
  value : bytes_eq q (codes "value") ≡ false

past_asked : (q : List ℕ) (e : Event) (r : Option Reply) (ms : JsonMembers) → NoAsked q → get_member q (with_event e (with_reply r ms)) ≡ get_member q ms
past_asked q e r ms n = past_event q e _ n.argument n.event ∙ past_reply q r ms n.value n.reply

past_subject : (q : List ℕ) (n : Note) (ms : JsonMembers) → bytes_eq q (codes "message") ≡ false → bytes_eq q (codes "mishap") ≡ false → get_member q (with_subject n ms) ≡ get_member q ms
unfolding with_subject
past_subject q (notes.Lost message) ms p r = other q _ _ ms p
past_subject q (notes.Repeated message) ms p r = other q _ _ ms p
past_subject q (notes.Erred mishap) ms p r = other q _ _ ms r

past_deed : (q : List ℕ) (d : Deed) (ms : JsonMembers) → NoDeed q → bytes_eq q (codes "set") ≡ false → get_member q (with_deed d ms) ≡ get_member q ms
unfolding with_deed with_note
past_deed q (Asked event reply) ms n differ = past_asked q event reply ms (record { argument = n.argument; event = n.event; reply = n.reply; value = n.value })
past_deed q (Set switches) ms n differ = other q _ _ ms differ
past_deed q (Noted note) ms n differ = past_subject q note _ n.argument.message n.mishap ∙ other q _ _ ms n.note

-- what was noted
noted_back : (n : Note) (ms : JsonMembers) → FitsNote n → note_called (note_word n) (object (with_subject n ms)) ≡ Some n
unfolding with_subject
noted_back (notes.Lost message) ms h = rw (get_member-put (codes "message") (count message) ms) refl
noted_back (notes.Repeated message) ms h = rw (get_member-put (codes "message") (count message) ms) refl
noted_back (notes.Erred mishap) ms h = rw (get_member-put (codes "mishap") (text_value mishap) ms, h) refl

deed_back : (d : Deed) (ms : JsonMembers) → FitsDeed d → get_member (codes "note") ms ≡ None → get_member (codes "set") ms ≡ None → get_member (codes "reply") ms ≡ None → get_member (codes "group") ms ≡ None → deed_in (object (with_deed d ms)) ≡ Some d
unfolding with_deed with_note switches_value
deed_back (Asked event reply) ms h note set none group =
    let base = with_reply reply ms in
    let d = object (with_event event base) in
    let no_set = past_asked (codes "set") event reply ms (record {
      argument = record { source = refl; application = refl; session = refl; partition = refl; claim = refl; offset = refl; kind = refl; topic = refl; group = refl; message = refl; kept = refl };
      event = refl;
      reply = refl;
      value = refl;
    }) ∙ set in
    let no_note = past_asked (codes "note") event reply ms (record {
      argument = record { source = refl; application = refl; session = refl; partition = refl; claim = refl; offset = refl; kind = refl; topic = refl; group = refl; message = refl; kept = refl };
      event = refl;
      reply = refl;
      value = refl;
    }) ∙ note in
    let replied = reply_said reply d ms
    (past_event (codes "reply") event base (record { source = refl; application = refl; session = refl; partition = refl; claim = refl; offset = refl; kind = refl; topic = refl; group = refl; message = refl; kept = refl }) refl)
    (past_event (codes "value") event base (record { source = refl; application = refl; session = refl; partition = refl; claim = refl; offset = refl; kind = refl; topic = refl; group = refl; message = refl; kept = refl }) refl)
    none in
    ap (λ o. deed_of o d) no_note ∙ ap (λ o. deed_from o d) no_set ∙ ap (λ o. option_and_then (λ r. option_map (λ e. Asked e r) (event_in d)) o) replied ∙ ap (λ o. option_map (λ e. Asked e reply) o) (event_said event base h (past_reply (codes "group") reply ms refl refl ∙ group))
deed_back (Set switches) ms h note set none group =
    let d = object (put (codes "set") (array (items_of (switch_names switches))) ms) in
    ap (λ o. deed_of o d) (other (codes "note") (codes "set") (array (items_of (switch_names switches))) ms refl ∙ note)
    ∙ ap (λ o. deed_from o d) (get_member-put (codes "set") (array (items_of (switch_names switches))) ms)
    ∙ ap (λ (s : Switches). Some (Set s)) (switches_back switches)
deed_back (Noted note) ms h none set reply group =
    let base = put (codes "note") (string (note_word note)) ms in
    let d = object (with_subject note base) in
    let said = past_subject (codes "note") note base refl refl ∙ get_member-put (codes "note") (string (note_word note)) ms in
    ap (λ o. deed_of o d) said ∙ ap (λ o. option_map (λ (n : Note). Noted n) o) (noted_back note base h)

line_back : (l : Line) → FitsDeed l.deed → line_in (line_value l) ≡ Some l
unfolding line_value
line_back l h =
    let base = put (codes "number") (count l.number) no_members in
    let d = object (with_deed l.deed base) in
    let numbered = past_deed (codes "number") l.deed base (record {
      argument = record { source = refl; application = refl; session = refl; partition = refl; claim = refl; offset = refl; kind = refl; topic = refl; group = refl; message = refl; kept = refl };
      note = refl;
      mishap = refl;
      event = refl;
      reply = refl;
      value = refl;
    }) refl in
    ap (λ o. option_and_then (λ n. option_map (λ deed. record { number = n; deed = deed }) (deed_in d)) (option_and_then (λ v. option_and_then as_u64 (as_number v)) o)) numbered
    ∙ ap (λ o. option_map (λ (deed : Deed). record { number = l.number; deed = deed }) o) (deed_back l.deed base h refl refl refl refl)

pub row_back : (r : Row) → FitsRow r → row_in (row_value r) ≡ Some r
unfolding line_value tail_value with_tail
row_back (rows.Line l) h =
    let base = put (codes "number") (count l.number) no_members in
    let no_total = past_deed (codes "events") l.deed base (record {
      argument = record { source = refl; application = refl; session = refl; partition = refl; claim = refl; offset = refl; kind = refl; topic = refl; group = refl; message = refl; kept = refl };
      note = refl;
      mishap = refl;
      event = refl;
      reply = refl;
      value = refl;
    }) refl in
    ap (λ o. row_from o (line_value l)) no_total ∙ ap (λ o. option_map (λ (k : Line). rows.Line k) o) (line_back l h)
row_back (rows.Tail t) h = refl

-- two lines of one value are one
pub row_alone : (a b : Row) → FitsRow a → FitsRow b → row_value a ≡ row_value b → a ≡ b
row_alone a b p q is = let both : Some a ≡ Some b = sym (row_back a p) ∙ ap row_in is ∙ row_back b q in cc both

pub head_alone : (a b : Head) → head_value a ≡ head_value b → a ≡ b
head_alone a b is = let both : Some a ≡ Some b = sym (head_back a) ∙ ap head_in is ∙ head_back b in cc both

-- ---- a text that is refused

pub unread : (text : List ℕ) (d : Data) → read text ≡ None → read text ≡ Some d → ⊥
unread text d none is = let bad : None ≡ Some d = sym none ∙ is in cc bad

pub unlike : (text : List ℕ) (d e : Data) → read text ≡ Some d → (d ≡ e → ⊥) → read text ≡ Some e → ⊥
unlike text d e said differ is = let both : Some d ≡ Some e = sym said ∙ is in differ (cc both)
