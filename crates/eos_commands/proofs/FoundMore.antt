-- What is found of the segments that are left goes behind that of those so far.
use Rattle.std.proofs.Common.{◌≡◌, ◌≤◌, ◌<◌, ◌+◌, ◌⊎◌, inl, inr, ℕ, zero, suc, List, Bor, [], ◌∷◌, ◌++◌, Some, length, get_or, slice_get, drop, map, refl, sym, ap, ◌∙◌, subst, append-nil, append_assoc, arith}
use Rattle.std.proofs.lemmas.List.{drop_more, drop_all}
use Rattle.std.proofs.lemmas.Option.{slice_get_within, get_or_from_slice_get}
use Rattle.eos_base.specs.Members.{Has}
use Rattle.eos_disk.specs.Entries.{Entry, MayLackFile}
use Rattle.eos_evidence.specs.declared.application.App.{App}
use Rattle.eos_evidence.specs.declared.segment.Segment.{Segment}
use Rattle.eos_disk.specs.declared.names.Form.{Form}
use Rattle.eos_disk.specs.declared.names.Form.TheVariants.{Log, Fold}
use Rattle.eos_disk.specs.Paths.{segment_path}
use Rattle.eos_commits.specs.SourceTopics.{AreSourceTopics}
use Rattle.eos_reading.specs.declared.wanted.Wanted.{Wanted}
use Rattle.eos_reading.specs.Wanted.{wanted_of}
use Rattle.eos_commands.specs.Verifying.{HaveNone, IsFound, AreOfOne, AreFound}
use Rattle.eos_commands.specs.declared.found.Found.{Found}

-- ---- the segments

abbrev pub GoBehind : (List ℕ → Entry) → List (List ℕ) → List App → List ℕ → List (List ℕ) → List Segment → List Form → ℕ → List Found → Type 0
GoBehind holds topics apps folder all names forms i found =
    (rest : List Found) → AreFound holds topics apps folder all (drop i names) (drop i forms) rest → AreFound holds topics apps folder all names forms (found ++ rest)

drop_at : {X : Type 0} (xs : List X) (i : ℕ) (x : X) → slice_get xs i ≡ Some x → drop i xs ≡ x ∷ drop (i + 1) xs
drop_at xs i x is = drop_more xs i x (slice_get_within xs i x is) ∙ ap (λ y. y ∷ drop (i + 1) xs) (get_or_from_slice_get xs i x x is)

next_of : (holds : List ℕ → Entry) (topics : List (List ℕ)) (apps : List App) (folder : List ℕ) (all : List (List ℕ)) (names left : List Segment) (forms after : List Form) (name : Segment) (form : Form)
    (found more one : List Found) → ((rest : List Found) → AreFound holds topics apps folder all (name ∷ left) (form ∷ after) rest → AreFound holds topics apps folder all names forms (found ++ rest))
    → AreOfOne holds topics (wanted_of apps name.topic) folder all name form one → more ≡ found ++ one
    → (rest : List Found) → AreFound holds topics apps folder all left after rest → AreFound holds topics apps folder all names forms (more ++ rest)
next_of holds topics apps folder all names left forms after name form found more one behind is longer rest are =
    subst (λ (fs : List Found). AreFound holds topics apps folder all names forms fs) (sym (ap (λ (fs : List Found). fs ++ rest) longer ∙ append_assoc found one rest))
    (behind (one ++ rest) (one, rest, is, refl, are))

pub next_found : (holds : List ℕ → Entry) (topics : List (List ℕ)) (apps : List App) (folder : List ℕ) (all : List (List ℕ)) (names : List Segment) (forms : List Form) (i : ℕ) (name : Segment) (form : Form)
    (wanted : Wanted) (found more one : List Found) → slice_get names i ≡ Some name → slice_get forms i ≡ Some form → wanted ≡ wanted_of apps name.topic → GoBehind holds topics apps folder all names forms i found
    → AreOfOne holds topics wanted folder all name form one → more ≡ found ++ one → GoBehind holds topics apps folder all names forms (i + 1) more
next_found holds topics apps folder all names forms i name form wanted found more one at as_form asked behind is longer =
    next_of holds topics apps folder all names (drop (i + 1) names) forms (drop (i + 1) forms) name form found more one
    (subst (λ (fs : List Form). (rest : List Found) → AreFound holds topics apps folder all (name ∷ drop (i + 1) names) fs rest → AreFound holds topics apps folder all names forms (found ++ rest)) (drop_at forms i form as_form)
    (subst (λ (ns : List Segment). (rest : List Found) → AreFound holds topics apps folder all ns (drop i forms) rest → AreFound holds topics apps folder all names forms (found ++ rest)) (drop_at names i name at) behind))
    (subst (λ (w : Wanted). AreOfOne holds topics w folder all name form one) asked is) longer

none_of_names : (holds : List ℕ → Entry) (topics : List (List ℕ)) (apps : List App) (folder : List ℕ) (all : List (List ℕ)) (names : List Segment) → AreFound holds topics apps folder all names [] []
none_of_names holds topics apps folder all [] = refl
none_of_names holds topics apps folder all (name ∷ names) = refl

none_at_end : (holds : List ℕ → Entry) (topics : List (List ℕ)) (apps : List App) (folder : List ℕ) (all : List (List ℕ)) (names : List Segment) (forms : List Form) (i : ℕ)
    → (length names ≤ i) ⊎ (length forms ≤ i) → AreFound holds topics apps folder all (drop i names) (drop i forms) []
none_at_end holds topics apps folder all names forms i (inl le) =
    subst (λ (ns : List Segment). AreFound holds topics apps folder all ns (drop i forms) []) (sym (drop_all i names le)) refl
none_at_end holds topics apps folder all names forms i (inr le) =
    subst (λ (fs : List Form). AreFound holds topics apps folder all (drop i names) fs []) (sym (drop_all i forms le)) (none_of_names holds topics apps folder all (drop i names))

pub all_found : (holds : List ℕ → Entry) (topics : List (List ℕ)) (apps : List App) (folder : List ℕ) (all : List (List ℕ)) (names : List Segment) (forms : List Form) (i : ℕ) (found : List Found)
    → (length names ≤ i) ⊎ (length forms ≤ i) → GoBehind holds topics apps folder all names forms i found → AreFound holds topics apps folder all names forms found
all_found holds topics apps folder all names forms i found done behind =
    subst (λ (fs : List Found). AreFound holds topics apps folder all names forms fs) (append-nil found) (behind [] (none_at_end holds topics apps folder all names forms i done))

-- the lesser of two numbers is one of them
pub done_by : (a b count i : ℕ) → (count ≡ a) ⊎ (count ≡ b) → count ≤ i → (a ≤ i) ⊎ (b ≤ i)
done_by a b count i (inl e) le = inl (subst (λ (n : ℕ). n ≤ i) e le)
done_by a b count i (inr e) le = inr (subst (λ (n : ℕ). n ≤ i) e le)

pub one_fold : (holds : List ℕ → Entry) (topics : List (List ℕ)) (wanted : Wanted) (folder : List ℕ) (all : List (List ℕ)) (name : Segment) (form : Form) (found : Found) (old new : List Found)
    → form ≡ Fold → IsFound holds topics wanted folder all name found → new ≡ old ++ found ∷ []
    → (one : List Found) × AreOfOne holds topics wanted folder all name form one × (new ≡ old ++ one)
one_fold holds topics wanted folder all name form found old new as_fold is longer =
    (found ∷ [], subst (λ (f : Form). AreOfOne holds topics wanted folder all name f (found ∷ [])) (sym as_fold) (found, is, refl), longer)

pub of_shape : (holds : List ℕ → Entry) (apps own : List App) (topics lent : List (List ℕ)) (folder : List ℕ) (all : List (List ℕ)) (names : List Segment) (forms : List Form) (found : List Found)
    → own ≡ apps → lent ≡ topics → AreSourceTopics own topics → AreFound holds lent apps folder all names forms found
    → (ts : List (List ℕ)) × AreSourceTopics apps ts × AreFound holds ts apps folder all names forms found
of_shape holds apps own topics lent folder all names forms found same shared sources are = (
  topics,
  subst (λ (xs : List App). AreSourceTopics xs topics) same sources,
  subst (λ (ts : List (List ℕ)). AreFound holds ts apps folder all names forms found) shared are,
)

-- ---- the folders of logs

abbrev pub texts_of : List (Bor (List ℕ)) → List (List ℕ)
texts_of paths = map (λ p. p.now) paths

-- where none of those that are left has the log, none has
abbrev pub LackSoFar : (List ℕ → Entry) → Segment → List (Bor (List ℕ)) → ℕ → Type 0
LackSoFar holds name logs i = HaveNone holds name (texts_of (drop i logs)) → HaveNone holds name (texts_of logs)

pub lacks_next : (holds : List ℕ → Entry) (name : Segment) (logs : List (Bor (List ℕ))) (i : ℕ) (d : Bor (List ℕ)) → i < length logs → MayLackFile (holds (segment_path (get_or logs i d).now name Log))
    → LackSoFar holds name logs i → LackSoFar holds name logs (i + 1)
lacks_next holds name logs i d lt lacks so_far none =
    so_far (subst (λ (ls : List (Bor (List ℕ))). HaveNone holds name (texts_of ls)) (sym (drop_more logs i d lt)) (lacks, none))

pub lacks_all : (holds : List ℕ → Entry) (name : Segment) (logs : List (Bor (List ℕ))) (i : ℕ) → length logs ≤ i → LackSoFar holds name logs i → HaveNone holds name (texts_of logs)
lacks_all holds name logs i all so_far = so_far (subst (λ (ls : List (Bor (List ℕ))). HaveNone holds name (texts_of ls)) (sym (drop_all i logs all)) tt)

pub has_at : (logs : List (Bor (List ℕ))) (i : ℕ) (d : Bor (List ℕ)) → i < length logs → Has (texts_of logs) (get_or logs i d).now
has_at [] i d lt = absurd (omega (arith, lt))
has_at (l ∷ ls) zero d lt = inl refl
has_at (l ∷ ls) (suc i) d lt = inr (has_at ls i d (omega (arith, lt)))
