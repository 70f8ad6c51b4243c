use Rattle.std.proofs.Common.{◌∷◌, [], refl, sym, w64, rules}
use Rattle.std.proofs.lemmas.Int.{to_z-of_z}
use mir.Val.{SFits}
use Rattle.eos_kept.specs.declared.kept_run.KeptRun.TheVariants.{Presence, Claims, Texts}
use Rattle.eos_kept.specs.Held.{Asking}
use Rattle.eos_kept.proofs.PartsHeld.{one_held}
use Rattle.eos_kept.proofs.PartsMade.{run_claims}
use Rattle.eos_kept.proofs.held.read_held.Goals as goal

pub returns-in_ok-kept-in-Presence : goal.returns-in_ok-kept-in-Presence
returns-in_ok-kept-in-Presence c =
    let s = c.args.segment.now in
    let a : Asking = record { topics = c.args.asked.topics.now; wanted = c.args.asked.wanted; topic = s.topic } in
    let fits : SFits w64 s.base = search rules in
    let kept = c.in_ok-kept-in-Presence.ensures s (sym c.as_slice-topic.ensures) (sym (to_z-of_z w64 s.base fits)) refl in
    one_held a s (Presence c.in_ok-kept-in-Presence.kept) refl (sym c.in-Presence.is) tt kept

pub returns-in_ok-kept-in-Claims : goal.returns-in_ok-kept-in-Claims
returns-in_ok-kept-in-Claims c =
    let s = c.args.segment.now in
    let a : Asking = record { topics = c.args.asked.topics.now; wanted = c.args.asked.wanted; topic = s.topic } in
    let fits : SFits w64 s.base = search rules in
    let kept = c.in_ok-kept-in-Claims.ensures s (sym c.as_slice-topic.ensures) (sym (to_z-of_z w64 s.base fits)) refl in
    let run = Claims c.in_ok-kept-in-Claims.kept in
    one_held a s run refl (sym c.in-Claims.is) (run_claims a.topics (s ∷ []) run kept) kept

pub returns-in_ok-kept-in-Texts : goal.returns-in_ok-kept-in-Texts
returns-in_ok-kept-in-Texts c =
    let s = c.args.segment.now in
    let a : Asking = record { topics = c.args.asked.topics.now; wanted = c.args.asked.wanted; topic = s.topic } in
    let fits : SFits w64 s.base = search rules in
    let kept = c.in_ok-kept-in-Texts.ensures s (sym c.as_slice-topic.ensures) (sym (to_z-of_z w64 s.base fits)) refl in
    let run = Texts c.in_ok-kept-in-Texts.kept in
    one_held a s run refl (sym c.in-Texts.is) (run_claims a.topics (s ∷ []) run kept) kept
