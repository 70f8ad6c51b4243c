-- What the front of the log of the offsets can't change.
use Rattle.std.proofs.Common.{◌≡◌, ◌≢◌, ◌∷◌, [], ℕ, zero, suc, ◌+◌, ◌<◌, ◌≤◌, ◌==◌, ◌&&◌, List, length, drop, slice_index_or, Bool, true, false, Option, Some, None, if◌then◌else◌, ◌∙◌, sym, ap, subst, arith, refl}
use Rattle.std.specs.List.{All}
use Rattle.std.specs.Option.{option_or}
use Rattle.std.proofs.lemmas.List.{drop_more}
use Rattle.std.proofs.lemmas.List.Elements.{All-cons}
use Rattle.eos_batch.specs.declared.marker.Kind.{Kind}
use Rattle.eos_machine.specs.declared.item.Item.{Item}
use Rattle.eos_machine.specs.declared.item.Item.TheVariants.{Fed, State, Output, Offset, Marker}
use Rattle.eos_machine.specs.declared.state.Producer.{Producer}
use Rattle.eos_machine.specs.Application.{Mark, Batch, End}
use Rattle.eos_machine.specs.LogIndexes.{offsets_index}
use Rattle.eos_machine.specs.World.{World, log_at}
use Rattle.eos_machine.specs.Logs.{marks_of, mark_in, unseen, after_mark, producer_from, producer_of, kind_in, first_kind, is_open, is_committed, begins_at, has_open_commit}
use Rattle.eos_machine.proofs.Worlds.{is_same}
use Rattle.eos_cluster.specs.declared.fetches.Fetched.{Fetched}
use Rattle.eos_cluster.specs.steps.Fetching.{AreEnds, IsFetched, IsThere, IsSettled, IsNotOf, HasNone}
use Rattle.eos_broker.specs.Named.{IsFrom}

-- ---- an application whose producer id has no data has no offset

has_last : (s : Producer) (ts : List Mark) (e : ℕ) → s.last ≡ Some e → (producer_from s ts).last ≢ None
has_last s [] e h = λ n. absurd cc
has_last s (Batch f q ∷ ts) e h = has_last (after_mark s (Batch f q)) ts f refl
has_last s (End f k ∷ ts) e h = has_last (after_mark s (End f k)) ts e h

front_of : (a b e q : ℕ) (v : Option ℕ) (n : ℕ) (xs : List Item) → b ≡ a → marks_of a (Offset b e q v n ∷ xs) ≡ Batch e None ∷ marks_of a xs
front_of a b e q v n xs m = rw m (rw (is_same a) refl)

no_offset : (a : ℕ) (s : Producer) (x : Item) (xs : List Item) → (producer_from s (marks_of a (x ∷ xs))).last ≡ None → IsNotOf a x
no_offset a s (Fed n) xs h = tt
no_offset a s (State b y n) xs h = tt
no_offset a s (Output b e q y v n) xs h = tt
no_offset a s (Offset b e q v n) xs h = λ m.
    has_last (after_mark s (Batch e None)) (marks_of a xs) e refl (subst (λ ts. (producer_from s ts).last ≡ None) (front_of a b e q v n xs m) h)
no_offset a s (Marker b e k n) xs h = tt

pub has_none : (a : ℕ) (s : Producer) (log : List Item) → (producer_from s (marks_of a log)).last ≡ None → HasNone a log
has_none a s [] h = λ i x l. absurd (omega (arith, l))
has_none a s (x ∷ xs) h = All-cons (IsNotOf a) x xs (no_offset a s x xs h) (at (λ r. has_none a r xs) (mark_in a x) refl)
  where
    at : ((r : Producer) → (producer_from r (marks_of a xs)).last ≡ None → HasNone a xs) → (m : Option Mark) → mark_in a x ≡ m → HasNone a xs
    at next None e =
        let m : marks_of a (x ∷ xs) ≡ marks_of a xs = rw e refl in
        next s (subst (λ ts. (producer_from s ts).last ≡ None) m h)
    at next (Some t) e =
        let m : marks_of a (x ∷ xs) ≡ t ∷ marks_of a xs = rw e refl in
        next (after_mark s t) (subst (λ ts. (producer_from s ts).last ≡ None) m h)

-- ---- an item in front of what is settled

-- of each application with offsets there is a next marker
abbrev AreEnded : ℕ → List Item → List Item → Type 0
AreEnded n log xs = (a : ℕ) → a < n → is_open (first_kind a xs) ≡ true → HasNone a log

still_open : (x k : Option Kind) → is_open (option_or x k) ≡ true → is_open k ≡ true
still_open None k h = h
still_open (Some l) k h = absurd cc

ended_more : (n : ℕ) (log : List Item) (x : Item) (xs : List Item) → AreEnded n log xs → AreEnded n log (x ∷ xs)
ended_more n log x xs h a l o = h a l (still_open (kind_in a x) (first_kind a xs) o)

same_open : (b : Bool) (k : Option Kind) (t : Bool) → is_open k ≡ false → (if b && is_open k then true else t) ≡ t
same_open b k t h = rw h (at b)
  where
    at : (c : Bool) → (if c && false then true else t) ≡ t
    at true = refl
    at false = refl

settled_one : (q n v : ℕ) (f : Fetched) (log : List Item) (x : Item) (xs : List Item) → f.committed ≡ Some v → IsFrom n x → ((a : ℕ) → HasNone a log → IsNotOf a x) → AreEnded n log xs → IsFetched q f xs → IsFetched q f (x ∷ xs)
settled_one q n v f log (Fed m) xs c r o h k = k
settled_one q n v f log (State a y m) xs c r o h k = k
settled_one q n v f log (Output a e s y w m) xs c r o h k = k
settled_one q n v f log (Offset a e p w m) xs c r o h k = (
  k.0 ∙ sym (same_open (p == q) (first_kind a xs) (has_open_commit q xs) (at (is_open (first_kind a xs)) refl)),
  λ d. k.1 (if p == q && is_committed (first_kind a xs) then begins_at w else d) ∙ (rw c refl),
)
  where
    at : (t : Bool) → is_open (first_kind a xs) ≡ t → t ≡ false
    at true e = absurd (o a (h a r e) refl)
    at false e = refl
settled_one q n v f log (Marker a e l m) xs c r o h k = k

pub settled : (q n v : ℕ) (f : Fetched) (log : List Item) (i : ℕ) → f.committed ≡ Some v → All (IsFrom n) log → i ≤ length log → AreEnded n log (drop i log) → IsFetched q f (drop i log) → IsFetched q f log
settled q n v f log zero c r l h k = k
settled q n v f log (suc j) c r l h k =
    let m : j + 1 ≡ suc j = omega arith in
    at (subst (λ z. drop j log ≡ slice_index_or log j (Fed 0) ∷ drop z log) m (drop_more log j (Fed 0) (omega (arith, l)))) (settled q n v f log j c r (omega (arith, l)))
  where
    at : drop j log ≡ slice_index_or log j (Fed 0) ∷ drop (suc j) log → (AreEnded n log (drop j log) → IsFetched q f (drop j log) → IsFetched q f log) → IsFetched q f log
    at e next = next
        (subst (AreEnded n log) (sym e) (ended_more n log (slice_index_or log j (Fed 0)) (drop (suc j) log) h))
        (subst (IsFetched q f) (sym e) (settled_one q n v f log (slice_index_or log j (Fed 0)) (drop (suc j) log) c (r j (Fed 0) (omega (arith, l))) (λ a o. o j (Fed 0) (omega (arith, l))) h k))

-- ---- as the scan has it

abbrev number_in : Option ℕ → ℕ
number_in None = 0
number_in (Some v) = v

is_there : (m : Option ℕ) → IsThere m → m ≡ Some (number_in m)
is_there None h = absurd h
is_there (Some v) h = refl

no_end : (m : Option Kind) → is_open m ≡ true → m ≡ None
no_end None h = refl
no_end (Some k) h = absurd cc

pub settled_here : (q n : ℕ) (w : World) (f : Fetched) (ss : List (Option Kind)) (i : ℕ) (log : List Item) {es : List (Option Kind)} → log ≡ log_at w offsets_index → length ss ≡ n → All (IsFrom n) log → i ≤ length log → ss ≡ es → AreEnds es (drop i log) → IsSettled n w f ss
    → IsFetched q f (drop i log) → IsFetched q f (log_at w offsets_index)
settled_here q n w f ss i log {es = es} e m r l o h s k =
    let ended : AreEnds ss (drop i log) = subst (λ zs. AreEnds zs (drop i log)) (sym o) h in
    subst (IsFetched q f) e (settled q n (number_in f.committed) f log i (is_there f.committed s.0) r l
    (λ a b u. has_none a unseen log (ap (λ xs. (producer_of (marks_of a xs)).last) e ∙ s.1 a b (ended a (omega (arith, b, m)) ∙ no_end (first_kind a (drop i log)) u))) k)
