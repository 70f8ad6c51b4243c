-- One file, and the name beside it: what stands at the end of each way through.
use Rattle.std.proofs.Common.{◌≡◌, ◌≢◌, ◌⊎◌, ℕ, List, [], ◌++◌, codes, refl, sym, ap, ◌∙◌, subst, append-nil, inl, inr, length, length-append, arith, ◌+◌}
use Rattle.eos_disk.specs.Entries.{Entry, HasBytes, MayBeAbsent}
use Rattle.eos_disk.specs.Changes.{bare, SameAll, SameKnown, IsPut, IsPutInPart, IsMoved, IsLetGo, IsRemoved}
use Rattle.eos_disk.specs.Putting.{beside, ChangesOnly, IsSameOrFront, IsPlacedBy, IsWrittenBy, IsTakenBy, IsLeftBy}
use Rattle.eos_disk.proofs.Kept.{bytes_same, absent_same, known_same, known_trans, by_path}

pub apart : (path by : List ℕ) → by ≡ beside path → path ≢ by
apart path by is e =
    let same : length path ≡ length (path ++ codes ".new") = ap length (e ∙ is) in
    let more : length (path ++ codes ".new") ≡ length path + 4 = length-append path (codes ".new") in
    omega (arith, same, more)

only_known : (old new : List ℕ → Entry) (path : List ℕ) → SameKnown (old path) (new path) → ((q : List ℕ) → q ≢ path → bare (new q) ≡ bare (old q)) → (q : List ℕ) → SameKnown (old q) (new q)
only_known old new path k others q = by_path (SameKnown (old q) (new q)) q path
    (λ (e : q ≡ path). subst (λ (r : List ℕ). SameKnown (old r) (new r)) (sym e) k)
    (λ (n : q ≢ path). known_same (old q) (new q) (others q n))

only_same : (old new : List ℕ → Entry) (path : List ℕ) → SameAll old new → ChangesOnly path old new
only_same old new path s = record { known = λ q. known_same (old q) (new q) (s q); others = λ q n. s q }

only_put : (old new : List ℕ → Entry) (path bytes : List ℕ) → IsPut old path bytes new → ChangesOnly path old new
only_put old new path bytes put = record { known = only_known old new path put.known put.others; others = put.others }

only_part : (old new : List ℕ → Entry) (path bytes : List ℕ) → IsPutInPart old path bytes new → ChangesOnly path old new
only_part old new path bytes (inl s) = only_same old new path s
only_part old new path bytes (inr (front, rest, e, put)) = only_put old new path front put

only_removed : (old new : List ℕ → Entry) (path : List ℕ) → IsRemoved old path new → ChangesOnly path old new
only_removed old new path removed = record { known = only_known old new path removed.known removed.others; others = removed.others }

pub only_trans : (a b c : List ℕ → Entry) (path : List ℕ) → ChangesOnly path a b → ChangesOnly path b c → ChangesOnly path a c
only_trans a b c path p q = record { known = λ r. known_trans (a r) (b r) (c r) (p.known r) (q.known r); others = λ r n. q.others r n ∙ p.others r n }

pub left_nothing : (old : List ℕ → Entry) (by bytes : List ℕ) → IsLeftBy old by bytes old
left_nothing old by bytes = (only_same old old by (λ q. refl), inl refl)

pub written_new : (old new : List ℕ → Entry) (by bytes : List ℕ) → IsPut old by bytes new → IsWrittenBy old by bytes new
written_new old new by bytes put = (only_put old new by bytes put, put.at)

pub left_unwritten : (old new : List ℕ → Entry) (by bytes : List ℕ) → IsPutInPart old by bytes new → IsLeftBy old by bytes new
left_unwritten old new by bytes (inl s) = (only_same old new by s, inl (s by))
left_unwritten old new by bytes (inr (front, rest, e, put)) = (only_put old new by front put, inr (inr (front, rest, e, put.at)))

pub written_again : (old a b new : List ℕ → Entry) (by bytes : List ℕ) → IsPutInPart old by bytes a → IsRemoved a by b → IsPut b by bytes new → IsWrittenBy old by bytes new
written_again old a b new by bytes part removed put =
    (only_trans old a new by (only_part old a by bytes part) (only_trans a b new by (only_removed a b by removed) (only_put b new by bytes put)), put.at)

-- what stands where something was taken away and, it may be, a part was written
after_gone : (b new : Entry) (old : Entry) (bytes : List ℕ) → MayBeAbsent b → IsSameOrFront b bytes new → IsSameOrFront old bytes new
after_gone b new old bytes h (inl s) = inr (inl (absent_same new b s h))
after_gone b new old bytes h (inr i) = inr i

pub left_again : (old a b new : List ℕ → Entry) (by bytes : List ℕ) → IsPutInPart old by bytes a → IsRemoved a by b → IsPutInPart b by bytes new → IsLeftBy old by bytes new
left_again old a b new by bytes part removed last = (
  only_trans old a new by (only_part old a by bytes part) (only_trans a b new by (only_removed a b by removed) (only_part b new by bytes last)),
  after_gone (b by) (new by) (old by) bytes removed.at (left_unwritten b new by bytes last).1,
)

-- what stands there after a part was written, and then nothing changed
after_same : (old a new : Entry) (bytes : List ℕ) → bare new ≡ bare a → IsSameOrFront old bytes a → IsSameOrFront old bytes new
after_same old a new bytes s (inl t) = inl (s ∙ t)
after_same old a new bytes s (inr (inl h)) = inr (inl (absent_same new a s h))
after_same old a new bytes s (inr (inr (front, rest, e, h))) = inr (inr (front, rest, e, bytes_same new a front s h))

pub left_held : (old a new : List ℕ → Entry) (by bytes : List ℕ) → IsPutInPart old by bytes a → SameAll a new → IsLeftBy old by bytes new
left_held old a new by bytes part s =
    (only_trans old a new by (only_part old a by bytes part) (only_same a new by s), after_same (old by) (a by) (new by) bytes (s by) (left_unwritten old a by bytes part).1)

let_go_known : (old new : Entry) → IsLetGo old new → SameKnown old new
let_go_known old new (inl s) = known_same old new s
let_go_known old new (inr h) = h.1

aside_of : (a new : Entry) (bytes : List ℕ) → HasBytes a bytes → IsLetGo a new → MayBeAbsent new ⊎ HasBytes new bytes
aside_of a new bytes h (inl s) = inr (bytes_same new a bytes s h)
aside_of a new bytes h (inr i) = inl i.0

moved_known : (a new : List ℕ → Entry) (by path : List ℕ) → IsMoved a by path new → (q : List ℕ) → SameKnown (a q) (new q)
moved_known a new by path moved q = by_path (SameKnown (a q) (new q)) q path
    (λ (e : q ≡ path). subst (λ (r : List ℕ). SameKnown (a r) (new r)) (sym e) moved.known)
    (λ (n : q ≢ path). by_path (SameKnown (a q) (new q)) q by
    (λ (e : q ≡ by). subst (λ (r : List ℕ). SameKnown (a r) (new r)) (sym e) (let_go_known (a by) (new by) moved.left))
    (λ (m : q ≢ by). known_same (a q) (new q) (moved.others q n m)))

pub placed : (old a new : List ℕ → Entry) (by path bytes : List ℕ) → path ≢ by → IsWrittenBy old by bytes a → IsMoved a by path new → IsPlacedBy old by path bytes new
placed old a new by path bytes apart_by written moved = record {
  fresh = absent_same (old path) (a path) (sym (written.0.others path apart_by)) moved.fresh;
  at = moved.at bytes written.1;
  known = λ q. known_trans (old q) (a q) (new q) (written.0.known q) (moved_known a new by path moved q);
  aside = aside_of (a by) (new by) bytes written.1 moved.left;
  others = λ q n m. moved.others q n m ∙ written.0.others q m;
}

pub gone : (old new : List ℕ → Entry) (by : List ℕ) → IsRemoved old by new → IsTakenBy old by new
gone old new by removed = (only_removed old new by removed, inr removed.at)

pub stays : (old new : List ℕ → Entry) (by : List ℕ) → SameAll old new → IsTakenBy old by new
stays old new by s = (only_same old new by s, inl (s by))

-- what stands there after all was written, and what was taken back
after_taken : (old b new : Entry) (bytes : List ℕ) → HasBytes b bytes → (bare new ≡ bare b) ⊎ MayBeAbsent new → IsSameOrFront old bytes new
after_taken old b new bytes h (inl s) = inr (inr (bytes, [], sym (append-nil bytes), bytes_same new b bytes s h))
after_taken old b new bytes h (inr i) = inr (inl i)

pub left_taken : (old a b new : List ℕ → Entry) (by bytes : List ℕ) → IsWrittenBy old by bytes a → SameAll a b → IsTakenBy b by new → IsLeftBy old by bytes new
left_taken old a b new by bytes written s taken = (
  only_trans old a new by written.0 (only_trans a b new by (only_same a b by s) taken.0),
  after_taken (old by) (b by) (new by) bytes (bytes_same (b by) (a by) bytes (s by) written.1) taken.1,
)
