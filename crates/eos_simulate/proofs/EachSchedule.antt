-- Schedules that were run, one after the other.
use Rattle.std.proofs.Common.{◌≡◌, ℕ, zero, suc, ◌+◌, ◌-◌, ◌<◌, ◌≤◌, ◌≢◌, List, [], ◌∷◌, ◌++◌, map, length, take, get_or, refl, sym, ap, ap₂, subst, ◌∙◌, arith, append_assoc}
use Rattle.std.specs.List.{flat_map}
use Rattle.std.proofs.lemmas.List.{append-nil, map-append, map-id, length-append, take_more, take_all}
use Rattle.std.proofs.lemmas.List.Concat.{flat_map-append}
use Rattle.std.proofs.lemmas.List.Elements.{All-append, All-nil, All-push}
use Rattle.std.proofs.lemmas.List.Sums.{sum_by-append}
use Rattle.eos_verdict.specs.declared.verdict.Counts.{Counts}
use Rattle.eos_verdict.specs.declared.verdict.Verdict.TheVariants.{Yes}
use Rattle.eos_drive.specs.declared.deed.Deed.{Deed}
use Rattle.eos_machine.specs.declared.config.Config.{Config}
use Rattle.eos_simulate.specs.declared.exploring.Explored.{Explored}
use Rattle.eos_simulate.specs.Every.{tiny, alphabet, schedules, schedules_below, IsJudged, Run, IsRun, AreRun, IsExplored}
use Rattle.eos_simulate.specs.steps.Walking.{behind}

-- ---- what was run

pub run_none : (c : Config) (x : Explored) → AreRun c [] x x
run_none c x = record { runs = []; each = All-nil (IsRun c); once = refl; schedules = omega arith; states = omega arith }

-- one
pub run_single : (c : Config) (s : List ℕ) (deeds : List Deed) (counts : Counts) (x y : Explored) → IsJudged c deeds (Yes counts)
    → y ≡ record { schedules = x.schedules + 1; states = x.states + length deeds } → AreRun c (s ∷ []) x y
run_single c s deeds counts x y is counted = record {
  runs = record { schedule = s; deeds = deeds; counts = counts } ∷ [];
  each = All-push (IsRun c) [] (record { schedule = s; deeds = deeds; counts = counts }) (All-nil (IsRun c)) is;
  once = refl;
  schedules = ap (λ (z : Explored). z.schedules) counted;
  states = ap (λ (z : Explored). z.states) counted ∙ ap (λ (n : ℕ). x.states + n) (omega arith);
}

-- and then others
run_on : (c : Config) (ss ts : List (List ℕ)) (x y z : Explored) → AreRun c ss x y → AreRun c ts y z → AreRun c (ss ++ ts) x z
run_on c ss ts x y z h k = record {
  runs = h.runs ++ k.runs;
  each = All-append (IsRun c) h.runs k.runs h.each k.each;
  once = map-append (λ (r : Run). r.schedule) h.runs k.runs ∙ ap₂ (λ (a b : List (List ℕ)). a ++ b) h.once k.once;
  schedules = omega (arith, h.schedules, k.schedules, length-append h.runs k.runs);
  states = omega (arith, h.states, k.states, sum_by-append (λ (r : Run). length r.deeds) h.runs k.runs);
}

-- ---- those of one word more

-- behind each of these words those of so many further ones
abbrev pub further : ℕ → List ℕ → List ℕ → List (List ℕ)
further n front ws = flat_map (λ w. behind (front ++ w ∷ []) (schedules n)) ws

regrouped : (front : List ℕ) (w : ℕ) (ss : List (List ℕ)) → behind front (map (λ s. w ∷ s) ss) ≡ behind (front ++ w ∷ []) ss
regrouped front w [] = refl
regrouped front w (s ∷ ss) = ap₂ (λ (x : List ℕ) (xs : List (List ℕ)). x ∷ xs) (sym (append_assoc front (w ∷ []) s)) (regrouped front w ss)

spread : (n : ℕ) (front ws : List ℕ) → behind front (flat_map (λ w. map (λ s. w ∷ s) (schedules n)) ws) ≡ further n front ws
spread n front [] = refl
spread n front (w ∷ ws) =
    map-append (λ (s : List ℕ). front ++ s) (map (λ s. w ∷ s) (schedules n)) (flat_map (λ v. map (λ s. v ∷ s) (schedules n)) ws)
    ∙ ap₂ (λ (a b : List (List ℕ)). a ++ b) (regrouped front w (schedules n)) (spread n front ws)

-- those behind the next of these words
pub run_step : (c : Config) (n i : ℕ) (front words items : List ℕ) (x y z : Explored) → i < length items → words ≡ front ++ get_or items i 0 ∷ []
    → AreRun c (further n front (take i items)) x y → AreRun c (behind words (schedules n)) y z → AreRun c (further n front (take (i + 1) items)) x z
run_step c n i front words items x y z lt at h k =
    let w = get_or items i 0 in
    let last : further n front (w ∷ []) ≡ behind words (schedules n) = append-nil (behind (front ++ w ∷ []) (schedules n)) ∙ ap (λ (v : List ℕ). behind v (schedules n)) (sym at) in
    let all : further n front (take (i + 1) items) ≡ further n front (take i items) ++ behind words (schedules n) =
    ap (further n front) (take_more items i 0 lt)
    ∙ (flat_map-append (λ (v : ℕ). behind (front ++ v ∷ []) (schedules n)) (take i items) (w ∷ []) ∙ ap (λ (a : List (List ℕ)). further n front (take i items) ++ a) last) in
    subst (λ (a : List (List ℕ)). AreRun c a x z) (sym all) (run_on c (further n front (take i items)) (behind words (schedules n)) x y z h k)

all_of : (n : ℕ) (front : List ℕ) → n ≢ 0 → behind front (schedules n) ≡ further (n - 1) front alphabet
all_of zero front some = absurd (some refl)
all_of (suc n) front some =
    let one_less : suc n - 1 ≡ n = omega arith in
    spread n front alphabet ∙ ap (λ (m : ℕ). further m front alphabet) (sym one_less)

-- behind all of them
pub run_all : (c : Config) (n i : ℕ) (front items : List ℕ) (x y : Explored) → n ≢ 0 → items ≡ alphabet → length items ≤ i → AreRun c (further (n - 1) front (take i items)) x y
    → AreRun c (behind front (schedules n)) x y
run_all c n i front items x y some whole end h =
    subst (λ (a : List (List ℕ)). AreRun c a x y) (ap (further (n - 1) front) (take_all i items end ∙ whole) ∙ sym (all_of n front some)) h

-- without any more
pub run_last : (c : Config) (n : ℕ) (front : List ℕ) (x y : Explored) → n ≡ 0 → AreRun c (front ∷ []) x y → AreRun c (behind front (schedules n)) x y
run_last c n front x y none h =
    subst (λ (m : ℕ). AreRun c (behind front (schedules m)) x y) (sym none)
    (subst (λ (a : List ℕ). AreRun c (a ∷ []) x y) (sym (append-nil front)) h)

-- ---- those that are longer by a word

pub run_longer : (c : Config) (n : ℕ) (front : List ℕ) (x y z : Explored) → front ≡ [] → AreRun c (schedules_below n) x y → AreRun c (behind front (schedules n)) y z → AreRun c (schedules_below (n + 1)) x z
run_longer c n front x y z none h k =
    let own : behind front (schedules n) ≡ schedules n = ap (λ (a : List ℕ). behind a (schedules n)) none ∙ map-id (schedules n) in
    let next : n + 1 ≡ suc n = omega arith in
    subst (λ (m : ℕ). AreRun c (schedules_below m) x z) (sym next)
    (run_on c (schedules_below n) (schedules n) x y z h (subst (λ (a : List (List ℕ)). AreRun c a y z) own k))

-- all, on the tiny cluster
pub run_tiny : (c : Config) (n : ℕ) (x : Explored) → c ≡ tiny → AreRun c (schedules_below (n + 1)) (record { schedules = 0; states = 0 }) x → IsExplored n x
run_tiny c n x is h = subst (λ (d : Config). AreRun d (schedules_below (n + 1)) (record { schedules = 0; states = 0 }) x) is h
