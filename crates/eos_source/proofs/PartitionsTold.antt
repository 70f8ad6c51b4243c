-- What is told of partitions, one by one.
use Rattle.std.proofs.Common.{◌≡◌, ℕ, zero, suc, ◌+◌, ◌<◌, List, [], ◌∷◌, ◌++◌, length, map, take, drop, get_or, Option, Some, None, refl, sym, ap, subst, ◌∙◌, arith}
use Rattle.std.proofs.lemmas.List.{length-append, map-append}
use Rattle.eos_evidence.specs.declared.application.App.{App}
use Rattle.eos_evidence.specs.declared.partition.Partition.{Partition}
use Rattle.eos_evidence.specs.declared.segment.Segment.{Segment}
use Rattle.eos_evidence.specs.Evidence.{IsPartition, segments_of}
use Rattle.eos_fold.specs.Standing.{AreOf}
use Rattle.eos_kept.specs.declared.part.Told.{Told}
use Rattle.eos_kept.specs.declared.kept_run.KeptRun.{KeptRun}
use Rattle.eos_kept.specs.Parts.{IsTold}
use Rattle.eos_reading.specs.Wanted.{wanted_of}
use Rattle.eos_source.specs.declared.logs.KeptLogs.{KeptLogs}
use Rattle.eos_source.specs.Logs.{AreColumns, tally_of}
use Rattle.eos_source.specs.Said.{Said, Known}
use Rattle.eos_source.specs.Shapes.{ArePieces}
use Rattle.eos_source.specs.steps.Partitions.{IsToldOf}
use Rattle.eos_kept.specs.KeptRuns.{AreKeptRun, IsWantedBy, HaveClaims}
use Rattle.eos_kept.specs.Held.{Asking}
use Rattle.eos_source.specs.steps.Runs.{asking, AreFrom, AreRead}
use Rattle.eos_source.proofs.PiecesJoined.{from_none}
use Rattle.eos_kept.proofs.PartsHeld.{are_of}
use Rattle.eos_source.proofs.ShapesFilled.{of_names}

-- ---- one partition

pub as_wanted : (known : ℕ → Known) (said : ℕ → Said) (topics : List (List ℕ)) (apps : List App) (topic : List ℕ) (piece : ℕ) (names : List Segment) (run : Option KeptRun)
    → AreRead known said (asking topics apps topic) piece names run → IsWantedBy (wanted_of apps topic) run
as_wanted known said topics apps topic piece names None h = tt
as_wanted known said topics apps topic piece names (Some run) h = h.asked.wanted

pub have_claims : (known : ℕ → Known) (said : ℕ → Said) (topics : List (List ℕ)) (apps : List App) (topic : List ℕ) (piece : ℕ) (names : List Segment) (run : Option KeptRun)
    → AreRead known said (asking topics apps topic) piece names run → HaveClaims topics run
have_claims known said topics apps topic piece names None h = tt
have_claims known said topics apps topic piece names (Some run) h = h.asked.claims

-- what is kept of the segments, whichever said this
were_read : (known : ℕ → Known) (said : ℕ → Said) (topics : List (List ℕ)) (apps : List App) (topic : List ℕ) (piece : ℕ) (names : List Segment) (run : Option KeptRun)
    → AreRead known said (asking topics apps topic) piece names run → (segments : List Segment) → ArePieces said piece names segments → AreKeptRun topics segments run
were_read known said topics apps topic piece [] None h [] k = refl
were_read known said topics apps topic piece [] None h (s ∷ ss) k = absurd k
were_read known said topics apps topic piece (n ∷ names) None h ss k = absurd (let e : suc (length names) ≡ 0 = ap length h in omega (arith, e))
were_read known said topics apps topic piece names (Some run) h ss k = h.kept ss k

were_known : (known : ℕ → Known) (said : ℕ → Said) (a : Asking) (piece : ℕ) (names : List Segment) (run : Option KeptRun) → AreRead known said a piece names run → AreFrom known said piece (length names)
were_known known said a piece names None h = subst (λ (ns : List Segment). AreFrom known said piece (length ns)) (sym h) (from_none known said piece)
were_known known said a piece names (Some run) h = h.as_known

pub told_of : (known : ℕ → Known) (said : ℕ → Said) (topics : List (List ℕ)) (apps : List App) (piece : ℕ) (shape : Partition) (run : Option KeptRun) (told : Told) → IsPartition shape
    → AreRead known said (asking topics apps shape.end.topic) piece shape.segments run
    → ((segments : List Segment) → AreKeptRun topics segments run → AreOf shape.end.topic shape.end.partition segments → IsTold (wanted_of apps shape.end.topic) shape.end segments told)
    → IsToldOf known said apps piece shape told
told_of known said topics apps piece shape run told p h t =
    record {
      as_known = were_known known said (asking topics apps shape.end.topic) piece shape.segments run h;
      is = λ segments pieces. t segments (were_read known said topics apps shape.end.topic piece shape.segments run h segments pieces)
          (of_names said shape.end.topic shape.end.partition piece shape.segments segments pieces (are_of shape p));
    }

-- ---- the columns of all that is told

column : {X : Type 0} (f : Told → X) (old new : List X) (ts : List Told) (t : Told) → old ≡ map f ts → new ≡ old ++ f t ∷ [] → new ≡ map f (ts ++ t ∷ [])
column f old new ts t e k = k ∙ (ap (λ xs. xs ++ f t ∷ []) e ∙ sym (map-append f ts (t ∷ [])))

pub no_columns : (logs : KeptLogs) → logs.parts.items ≡ [] → logs.faults.items ≡ [] → logs.tallies.items ≡ [] → logs.epochs.items ≡ [] → AreColumns [] logs
no_columns logs p f t e = record { parts = p; faults = f; tallies = t; epochs = e }

pub columns_more : (ts : List Told) (t : Told) (old new : KeptLogs) → AreColumns ts old
    → new.parts.items ≡ old.parts.items ++ t.part ∷ [] → new.faults.items ≡ old.faults.items ++ t.fault ∷ [] → new.tallies.items ≡ old.tallies.items ++ tally_of t ∷ [] → new.epochs.items ≡ old.epochs.items ++ t.epochs ∷ []
    → AreColumns (ts ++ t ∷ []) new
columns_more ts t old new h p f y ep =
    record {
      parts = column (λ (u : Told). u.part) old.parts.items new.parts.items ts t h.parts p;
      faults = column (λ (u : Told). u.fault) old.faults.items new.faults.items ts t h.faults f;
      tallies = column tally_of old.tallies.items new.tallies.items ts t h.tallies y;
      epochs = column (λ (u : Told). u.epochs) old.epochs.items new.epochs.items ts t h.epochs ep;
    }

-- ---- one partition more

last_count : (xs : List Partition) (p : Partition) → length (segments_of (xs ++ p ∷ [])) ≡ length (segments_of xs) + length p.segments
last_count [] p = omega (arith, length-append p.segments [])
last_count (x ∷ xs) p = omega (arith, length-append x.segments (segments_of (xs ++ p ∷ [])), length-append x.segments (segments_of xs), last_count xs p)

-- the shape at this place
pub record Here (shapes : List Partition) (i : ℕ) (shape : Partition) : Type 0 where
  pub taken : take (i + 1) shapes ≡ take i shapes ++ shape ∷ []
  pub left : drop i shapes ≡ shape ∷ drop (i + 1) shapes

step : (shapes : List Partition) (i : ℕ) (shape : Partition) → i < length shapes → shape ≡ get_or shapes i shape
    → (take (suc i) shapes ≡ take i shapes ++ shape ∷ []) × (drop i shapes ≡ shape ∷ drop (suc i) shapes)
step [] i shape lt e = absurd (omega (arith, lt))
step (q ∷ shapes) zero shape lt e = (ap (λ (x : Partition). x ∷ []) (sym e), ap (λ (x : Partition). x ∷ shapes) (sym e))
step (q ∷ shapes) (suc i) shape lt e =
    let r = step shapes i shape (omega (arith, lt)) e in
    (ap (λ (xs : List Partition). q ∷ xs) r.0, r.1)

pub here : (shapes : List Partition) (i : ℕ) (shape : Partition) → i < length shapes → shape ≡ get_or shapes i shape → Here shapes i shape
here shapes i shape lt e =
    let r = step shapes i shape lt e in
    let z : suc i ≡ i + 1 = omega arith in
    record { taken = subst (λ (n : ℕ). take n shapes ≡ take i shapes ++ shape ∷ []) z r.0; left = subst (λ (n : ℕ). drop i shapes ≡ shape ∷ drop n shapes) z r.1 }

pub segments_left : (shapes : List Partition) (i : ℕ) (shape : Partition) → Here shapes i shape → segments_of (drop i shapes) ≡ shape.segments ++ segments_of (drop (i + 1) shapes)
segments_left shapes i shape h = ap segments_of h.left

pub pieces_taken : (shapes : List Partition) (i : ℕ) (shape : Partition) → Here shapes i shape → length (segments_of (take (i + 1) shapes)) ≡ length (segments_of (take i shapes)) + length shape.segments
pieces_taken shapes i shape h = ap (λ (xs : List Partition). length (segments_of xs)) h.taken ∙ last_count (take i shapes) shape
