-- What is asked of a piece that was opened: of a log that was read to its end, or of a fold.
use Rattle.std.proofs.Common.{◌≡◌, ℕ, true, not, ◌≤◌, List, [], ◌∷◌, ◌++◌, length, Option, Some, None, refl, sym, ap, subst, ◌∙◌, append-nil}
use Rattle.std.specs.Prelude.{IfSome}
use Rattle.std.specs.Io.KnownBytes.{Consumes, IsAtEnd}
use Rattle.eos_evidence.specs.declared.segment.Segment.{Segment}
use Rattle.eos_evidence.specs.Topics.{is_internal}
use Rattle.eos_fold_file.specs.declared.file.FoldFile.{FoldFile}
use Rattle.eos_fold_file.specs.Folds.{IsFoldOf}
use Rattle.eos_fold_file.specs.Legal.{IsLegal}
use Rattle.eos_kept.specs.declared.kept_run.KeptRun.{KeptRun}
use Rattle.eos_kept.specs.KeptRuns.{IsKeptRun, wanted_by, HasClaims}
use Rattle.eos_kept.specs.Held.{Asking, IsAsked}
use Rattle.eos_source.specs.declared.source.Piece.TheVariants as pieces
use Rattle.eos_kept.proofs.PartsHeld.{checked_so}
use Rattle.eos_source.specs.Said.{Said, Log, Fold, Known, WillSay}
use Rattle.eos_source.specs.steps.Runs.{IsTaken}

-- ---- a log

-- all of these bytes were read
all_of : (whole : List ℕ) (left : Option (List ℕ)) (bytes : List ℕ) → Consumes (Some whole) left bytes → IsAtEnd left → bytes ≡ whole
all_of whole None bytes c e = absurd c
all_of whole (Some ys) bytes c e = sym (c ∙ (ap (λ (l : List ℕ). bytes ++ l) e ∙ append-nil bytes))

module _ {R : Type 0} (left : R → Option (List ℕ)) where
  -- what was known is what was read
  log_known : (known : Option Said) (reader : R) (new : Option (List ℕ)) (bytes : List ℕ) → IfSome known (WillSay left (pieces.Log reader)) → Consumes (left reader) new bytes → IsAtEnd new
      → IfSome known (λ k. Log bytes ≡ k)
  log_known None reader new bytes h c e = tt
  log_known (Some (Log whole)) reader new bytes h c e = ap Log (all_of whole new bytes (subst (λ (o : Option (List ℕ)). Consumes o new bytes) h c) e)
  log_known (Some (Fold fold)) reader new bytes h c e = absurd h

  fold_known : (known : Option Said) (fold : FoldFile) → IfSome known (WillSay left (pieces.Fold fold)) → IfSome known (λ k. Fold fold ≡ k)
  fold_known None fold h = tt
  fold_known (Some (Log whole)) fold h = absurd h
  fold_known (Some (Fold other)) fold h = ap Fold h

  pub log_read : (known : Known) (a : Asking) (name : Segment) (reader : R) (new : Option (List ℕ)) (run : KeptRun) (bytes : List ℕ) → a.topic ≡ name.topic
      → IfSome known.said (WillSay left (pieces.Log reader)) → Consumes (left reader) new bytes → length bytes ≤ 0x4000_0000 → IsAtEnd new → wanted_by run ≡ a.wanted → HasClaims a.topics run
      → ((s : Segment) → s.topic ≡ name.topic → s.base ≡ name.base → s.bytes ≡ bytes → IsKeptRun a.topics (s ∷ []) run) → (said : Said) × IsTaken known said a name run
  log_read known a name reader new run bytes e h c l at w claims k =
      let s : Segment = record { topic = name.topic; partition = name.partition; base = name.base; bytes = bytes } in
      let kept : IsKeptRun a.topics (s ∷ []) run = k s refl refl refl in (
        Log bytes,
        record {
          as_known = record { is = log_known known.said reader new bytes h c at; log = λ is. l; can = l };
          kept = λ segment piece. k segment piece.topic piece.base piece.says;
          asked = record { wanted = w; claims = claims; checked = checked_so a.topics s [] run kept ∙ ap (λ (t : List ℕ). not (is_internal t)) (sym e) };
        },
      )

  -- ---- a fold

  pub fold_taken : (known : Known) (a : Asking) (name : Segment) (fold : FoldFile) (run : KeptRun) → IfSome known.said (WillSay left (pieces.Fold fold)) → (known.log ≡ true → ⊥) → IsLegal fold
      → ((s : Segment) → IsFoldOf s fold → IsKeptRun a.topics (s ∷ []) run) → IsAsked a run → (said : Said) × IsTaken known said a name run
  fold_taken known a name fold run h denied legal kept asked = (
    Fold fold,
    record {
      as_known = record { is = fold_known known.said fold h; log = λ is. absurd (denied is); can = legal };
      kept = λ segment piece. kept segment piece.says;
      asked = asked;
    },
  )
