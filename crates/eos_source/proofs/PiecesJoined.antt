-- The runs of pieces that stand one after the other.
use Rattle.std.proofs.Common.{◌≡◌, ℕ, zero, suc, ◌+◌, ◌<◌, ◌≤◌, List, [], ◌∷◌, ◌++◌, length, take, drop, Option, Some, None, Result, Ok, refl, sym, ap, subst, ◌∙◌, inl, inr, arith}
use Rattle.std.specs.Prelude.{All}
use Rattle.std.specs.List.{slice_get}
use Rattle.std.proofs.lemmas.Option.{get_or_from_slice_get}
use Rattle.std.proofs.lemmas.Bool.{cases_lt}
use Rattle.std.proofs.lemmas.List.{take_all, drop_all, length-take-le, length-append}
use Rattle.std.proofs.lemmas.List.Elements.{All-get_or}
use Rattle.eos_evidence.specs.declared.application.App.{App}
use Rattle.eos_evidence.specs.declared.segment.Segment.{Segment}
use Rattle.eos_kept.specs.declared.kept_run.KeptRun.{KeptRun}
use Rattle.eos_kept.specs.KeptRuns.{IsKeptRun, wanted_by, front_of, HasClaims}
use Rattle.eos_kept.specs.Held.{Asking}
use Rattle.eos_source.specs.Shapes.{ArePieces}
use Rattle.eos_source.specs.Said.{Said, Known, IsAsKnown}
use Rattle.eos_source.specs.steps.Runs.{asking, AreFrom, IsRead, AreRead, IsTaken, AreSlotsOf}

-- segments of names that stand one after the other
record Split (said : ℕ → Said) (piece : ℕ) (xs ys segments : List Segment) : Type 0 where
  before : List Segment
  after : List Segment
  parts : segments ≡ before ++ after
  first : ArePieces said piece xs before
  second : ArePieces said (piece + length xs) ys after

split : (said : ℕ → Said) (piece : ℕ) (xs ys segments : List Segment) → ArePieces said piece (xs ++ ys) segments → Split said piece xs ys segments
split said piece [] ys ss h =
    let z : piece ≡ piece + 0 = omega arith in
    record { before = []; after = ss; parts = refl; first = tt; second = subst (λ (n : ℕ). ArePieces said n ys ss) z h }
split said piece (x ∷ xs) ys [] h = absurd h
split said piece (x ∷ xs) ys (s ∷ ss) h =
    let r = split said (suc piece) xs ys ss h.1 in
    let z : suc piece + length xs ≡ piece + suc (length xs) = omega arith in
    record {
      before = s ∷ r.before;
      after = r.after;
      parts = ap (λ (ts : List Segment). s ∷ ts) r.parts;
      first = (h.0, r.first);
      second = subst (λ (n : ℕ). ArePieces said n ys r.after) z r.second;
    }

pub from_both : (known : ℕ → Known) (said : ℕ → Said) (first m n : ℕ) → AreFrom known said first m → AreFrom known said (first + m) n → AreFrom known said first (m + n)
from_both known said first m n h k = λ piece ge lt.
    elim (cases_lt piece (first + m)) [
      | inl below ↦ h piece ge below
      | inr above ↦ k piece above (omega (arith, lt))
    ]

pub from_none : (known : ℕ → Known) (said : ℕ → Said) (first : ℕ) → AreFrom known said first 0
from_none known said first = λ piece ge lt. absurd (omega (arith, ge, lt))

-- ---- two runs

pub joined : (known : ℕ → Known) (said : ℕ → Said) (a : Asking) (piece : ℕ) (names more : List Segment) (before after both : KeptRun)
    → ((topics : List (List ℕ)) (xs ys : List Segment) → IsKeptRun topics xs before → IsKeptRun topics ys after → IsKeptRun topics (xs ++ ys) both)
    → wanted_by both ≡ wanted_by before → (front_of both).run.sequenced ≡ (front_of before).run.sequenced
    → ((topics : List (List ℕ)) → HasClaims topics before → HasClaims topics after → HasClaims topics both)
    → IsRead known said a piece names before → IsRead known said a (piece + length names) more after → IsRead known said a piece (names ++ more) both
joined known said a piece names more before after both ok w c claims r n =
    let both_count : length names + length more ≡ length (names ++ more) = sym (length-append names more) in
    record {
      as_known = subst (AreFrom known said piece) both_count (from_both known said piece (length names) (length more) r.as_known n.as_known);
      kept = λ segments h.
          let s = split said piece names more segments h in
          subst (λ (ss : List Segment). IsKeptRun a.topics ss both) (sym s.parts) (ok a.topics s.before s.after (r.kept s.before s.first) (n.kept s.after s.second));
      asked = record { wanted = w ∙ r.asked.wanted; claims = claims a.topics r.asked.claims n.asked.claims; checked = c ∙ r.asked.checked };
    }

-- a single one
one_read : (known : ℕ → Known) (said : ℕ → Said) (a : Asking) (piece : ℕ) (name : Segment) (run : KeptRun) → IsTaken (known piece) (said piece) a name run → IsRead known said a piece (name ∷ []) run
one_read known said a piece name run h = record {
  as_known = λ other ge lt. let e : piece ≡ other = omega (arith, ge, lt) in subst (λ (n : ℕ). IsAsKnown (known n) (said n)) e h.as_known;
  kept = λ segments pieces. by segments pieces;
  asked = h.asked;
}
  where
    by : (segments : List Segment) → ArePieces said piece (name ∷ []) segments → IsKeptRun a.topics segments run
    by [] k = absurd k
    by (s ∷ []) k = h.kept s k.0
    by (s ∷ t ∷ ss) k = absurd k.1

-- ---- the runs of a partition's pieces

-- one name more
pub record More (names : List Segment) (i : ℕ) : Type 0 where
  pub name : Segment
  pub taken : take (i + 1) names ≡ take i names ++ name ∷ []
  pub left : drop i names ≡ name ∷ drop (i + 1) names
  pub at : slice_get names i ≡ Some name

record Step (names : List Segment) (i : ℕ) : Type 0 where
  name : Segment
  taken : take (suc i) names ≡ take i names ++ name ∷ []
  left : drop i names ≡ name ∷ drop (suc i) names
  at : slice_get names i ≡ Some name

step_of : (names : List Segment) (i : ℕ) → i < length names → Step names i
step_of [] i lt = absurd (omega (arith, lt))
step_of (x ∷ xs) zero lt = record { name = x; taken = refl; left = refl; at = refl }
step_of (x ∷ xs) (suc i) lt =
    let r = step_of xs i (omega (arith, lt)) in
    record { name = r.name; taken = ap (λ (ys : List Segment). x ∷ ys) r.taken; left = r.left; at = r.at }

more_of : (names : List Segment) (i : ℕ) → i < length names → More names i
more_of names i lt =
    let r = step_of names i lt in
    let z : suc i ≡ i + 1 = omega arith in
    record {
      name = r.name;
      taken = subst (λ (n : ℕ). take n names ≡ take i names ++ r.name ∷ []) z r.taken;
      left = subst (λ (n : ℕ). drop i names ≡ r.name ∷ drop n names) z r.left;
      at = r.at;
    }

module _ {F : Type 0} where
  -- so many slots were passed, and this is the run of their pieces
  abbrev pub Passed : List Segment → List (Result KeptRun F) → ℕ → Option KeptRun → List (Result KeptRun F) → Type 0
  Passed names old i run new = (known : ℕ → Known) (said : ℕ → Said) (topics : List (List ℕ)) (apps : List App) (topic : List ℕ) (piece : ℕ) (later : List Segment)
      → All (λ s. s.topic ≡ topic) names → AreSlotsOf known said topics apps piece (names ++ later) old
      → AreRead known said (asking topics apps topic) piece (take i names) run × AreSlotsOf known said topics apps (piece + i) (drop i names ++ later) new

  pub none_passed : (names : List Segment) (slots : List (Result KeptRun F)) → Passed names slots 0 None slots
  none_passed names slots = λ known said topics apps topic piece later all at.
      let z : piece ≡ piece + 0 = omega arith in
      (refl, subst (λ (n : ℕ). AreSlotsOf known said topics apps n (names ++ later) slots) z at)

  pub some_left : (known : ℕ → Known) (said : ℕ → Said) (topics : List (List ℕ)) (apps : List App) (piece : ℕ) (names later : List Segment) (i : ℕ) (slots : List (Result KeptRun F))
      → i < length names → AreSlotsOf known said topics apps piece (drop i names ++ later) slots → 0 < length slots
  some_left known said topics apps piece names later i slots lt h =
      let r = more_of names i lt in
      by r.name (drop (i + 1) names ++ later) slots (subst (λ (xs : List Segment). AreSlotsOf known said topics apps piece (xs ++ later) slots) r.left h)
    where
      by : (name : Segment) (rest : List Segment) (given : List (Result KeptRun F)) → AreSlotsOf known said topics apps piece (name ∷ rest) given → 0 < length given
      by name rest [] k = absurd k
      by name rest (s ∷ ss) k = omega arith

  -- the next slot holds the run of the next piece
  pub record Next (known : ℕ → Known) (said : ℕ → Said) (topics : List (List ℕ)) (apps : List App) (topic : List ℕ) (piece : ℕ) (names later : List Segment) (i : ℕ) (run : KeptRun) (rest : List (Result KeptRun F)) : Type 0 where
    pub name : Segment
    pub taken : take (i + 1) names ≡ take i names ++ name ∷ []
    pub read : IsRead known said (asking topics apps topic) (piece + length (take i names)) (name ∷ []) run
    pub slots : AreSlotsOf known said topics apps (piece + (i + 1)) (drop (i + 1) names ++ later) rest

  pub next : (known : ℕ → Known) (said : ℕ → Said) (topics : List (List ℕ)) (apps : List App) (topic : List ℕ) (piece : ℕ) (names later : List Segment) (i : ℕ) (run : KeptRun) (slots rest : List (Result KeptRun F))
      → i < length names → All (λ s. s.topic ≡ topic) names → AreSlotsOf known said topics apps (piece + i) (drop i names ++ later) slots → slots ≡ Ok run ∷ rest
      → Next known said topics apps topic piece names later i run rest
  next known said topics apps topic piece names later i run slots rest lt all h e =
      let r = more_of names i lt in
      let at = subst (λ (xs : List Segment). AreSlotsOf known said topics apps (piece + i) (xs ++ later) (Ok run ∷ rest)) r.left
      (subst (λ (given : List (Result KeptRun F)). AreSlotsOf known said topics apps (piece + i) (drop i names ++ later) given) e h) in
      let same : r.name.topic ≡ topic = subst (λ (s : Segment). s.topic ≡ topic) (get_or_from_slice_get names i r.name r.name r.at) (All-get_or (λ s. s.topic ≡ topic) names i r.name lt all) in
      let size : length (take i names) ≡ i = length-take-le i names (omega (arith, lt)) in
      let z : suc (piece + i) ≡ piece + (i + 1) = omega arith in
      record {
        name = r.name;
        taken = r.taken;
        read = subst (λ (n : ℕ). IsRead known said (asking topics apps topic) (piece + n) (r.name ∷ []) run) (sym size)
            (subst (λ (t : List ℕ). IsRead known said (asking topics apps t) (piece + i) (r.name ∷ []) run) same (one_read known said (asking topics apps r.name.topic) (piece + i) r.name run at.0));
        slots = subst (λ (n : ℕ). AreSlotsOf known said topics apps n (drop (i + 1) names ++ later) rest) z at.1;
      }

  pub all_passed : (names : List Segment) (old : List (Result KeptRun F)) (i : ℕ) (run : Option KeptRun) (new : List (Result KeptRun F)) → i ≡ length names → Passed names old i run new
      → (known : ℕ → Known) (said : ℕ → Said) (topics : List (List ℕ)) (apps : List App) (topic : List ℕ) (piece : ℕ) (later : List Segment)
      → All (λ s. s.topic ≡ topic) names → AreSlotsOf known said topics apps piece (names ++ later) old
      → AreRead known said (asking topics apps topic) piece names run × AreSlotsOf known said topics apps (piece + length names) later new
  all_passed names old i run new e p known said topics apps topic piece later all h =
      let r = p known said topics apps topic piece later all h in
      let le : length names ≤ i = omega (arith, e) in (
        subst (λ (xs : List Segment). AreRead known said (asking topics apps topic) piece xs run) (take_all i names le) r.0,
        subst (λ (n : ℕ). AreSlotsOf known said topics apps (piece + n) later new) e
            (subst (λ (xs : List Segment). AreSlotsOf known said topics apps (piece + i) (xs ++ later) new) (drop_all i names le) r.1),
      )
