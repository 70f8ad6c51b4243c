use Rattle.std.proofs.Common.{◌≤◌, ℕ, arith, sym, subst, length, ◌+◌}
use Rattle.std.proofs.lemmas.Bool.{eqb-true, eq-eqb}
use Rattle.eos_drive.specs.Replay.{call_at}
use Rattle.eos_drive.proofs.Agreeing.{Left, skipped, noticed, differs, settled, clash, within}
use Rattle.eos_drive.proofs.shared.agrees.Goals.{then-entry-number+else-not-is_next, else-entry-number}
use Rattle.eos_drive.proofs.shared.agrees.Goals as goal

pub returns-then-not-is_next : goal.returns-then-not-is_next
returns-then-not-is_next c =
    differs c.args.entries.now c.args.number c.args.calls.now c.loop-place.place c.loop-place.next c.index-entries-place.result c.loop-place-test.true (sym c.index-entries-place.is) c.if-entry-number.true (λ e. clash c.is_next.result (c.is_next.ensures.1 e) c.if-not-is_next.true) c.loop-place.invariant.1

pub loop-place-preserved : goal.loop-place-preserved
loop-place-preserved c =
    let es = c.args.entries.now in let n = c.args.number in let cs = c.args.calls.now in let k = c.loop-place.place in let j = c.loop-place.next in let x = c.index-entries-place.result in
    elim c.if-entry-number.branch [
      | then-entry-number+else-not-is_next w ↦
          (let here = w.is_next.ensures.0 w.if-not-is_next.false in
          subst (λ (m : ℕ). (m ≤ length cs) × Left es n cs (k + 1) m) (sym w.next-is) (within cs j (call_at k x) here, noticed es n cs k j x c.loop-place-test.true (sym c.index-entries-place.is) w.if-entry-number.true here c.loop-place.invariant.1))
      | else-entry-number w ↦
          subst (λ (m : ℕ). (m ≤ length cs) × Left es n cs (k + 1) m) (sym w.next-is) (c.loop-place.invariant.0, skipped es n cs k j x c.loop-place-test.true (sym c.index-entries-place.is) w.if-entry-number.false c.loop-place.invariant.1)
    ]

pub returns : goal.returns
returns c =
    let end = c.loop-place-test.false in let most = c.loop-place.auto.place-end in
    let m = settled c.args.entries.now c.args.number c.args.calls.now c.loop-place.place c.loop-place.next (omega (arith, end, most)) c.loop-place.invariant.0 c.loop-place.invariant.1 in
    (λ t. m.0 (eqb-true c.loop-place.next (length c.args.calls.now) t), λ q. eq-eqb c.loop-place.next (length c.args.calls.now) (m.1 q))
