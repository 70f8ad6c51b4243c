use Rattle.std.proofs.Common.{◌≡◌, true, List, ℕ, refl, sym, subst, ◌∙◌, rules}
use Rattle.std.specs.Prelude.{IfSome}
use Rattle.eos_source.specs.Said.{known_by, WillSay, IsOpenedLog, IsLegalPiece}
use Rattle.eos_kept.specs.Held.{Asking, IsAsked}
use Rattle.eos_source.proofs.PiecesRead.{log_read, fold_taken}
use Rattle.eos_source.proofs.piece.read_piece.Goals as goal

pub returns-in-Ok-clause-taken : goal.returns-in-Ok-clause-taken
returns-in-Ok-clause-taken g c =
    let ok = c.in-Ok.ensures.ok in
    let known = known_by (g.S.Source.said c.args.source.now) (g.S.Source.is_log c.args.source.now) c.args.piece in
    let asked : Asking = record { topics = c.args.asked.topics.now; wanted = c.args.asked.wanted; topic = c.args.name.now.topic } in
    let said = subst (λ opened. IfSome known.said (WillSay g.S.Reader.Read.remaining opened)) c.in-Log.is c.in_ok-reader.ensures.said in
    log_read g.S.Reader.Read.remaining known asked c.args.name.now c.in-Log.reader _ c.in-Ok.run' ok.0 refl said ok.1 ok.2 c.in-Ok.ensures.end c.in-Ok.ensures.wanted c.in-Ok.ensures.claims
    (λ s t b e. ok.3 s (t ∙ sym c.as_slice.ensures) (search (rules, b)) e)

pub returns-in-Ok-taken-clause-taken : goal.returns-in-Ok-taken-clause-taken
returns-in-Ok-taken-clause-taken g c =
    let known = known_by (g.S.Source.said c.args.source.now) (g.S.Source.is_log c.args.source.now) c.args.piece in
    let asking : List ℕ → Asking = λ topic. record { topics = c.args.asked.topics.now; wanted = c.args.asked.wanted; topic = topic } in
    let said = subst (λ opened. IfSome known.said (WillSay g.S.Reader.Read.remaining opened)) c.in-Fold.is c.in_ok-reader.ensures.said in
    let no : known.log ≡ true → ⊥ = λ is. subst (λ opened. IsOpenedLog opened) c.in-Fold.is (c.in_ok-reader.ensures.log is) in
    let legal = subst (λ opened. IsLegalPiece opened) c.in-Fold.is c.in_ok-reader.ensures.legal in
    let asked = subst (λ (topic : List ℕ). IsAsked (asking topic) c.in-Ok-taken.run') c.as_slice-in-Fold.ensures c.in-Ok-taken.ensures.asked in
    fold_taken g.S.Reader.Read.remaining known (asking c.args.name.now.topic) c.args.name.now c.in-Fold.fold c.in-Ok-taken.run' said no legal c.in-Ok-taken.ensures.kept asked
