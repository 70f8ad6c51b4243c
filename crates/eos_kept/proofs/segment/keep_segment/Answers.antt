use Rattle.std.proofs.Common.{◌≡◌, ℕ, List, Bool, not, sym, ap, subst, ◌∙◌, rules}
use Rattle.std.specs.Prelude.{unsigned_abs}
use Rattle.eos_evidence.specs.Topics.{is_internal}
use Rattle.eos_fold.specs.Fronts.{base_of}
use Rattle.eos_fold.specs.Sums.{is_checked}
use Rattle.eos_kept.specs.steps.Folding.{IsFolding}
use Rattle.eos_kept.proofs.segment.keep_segment.Goals as goal

pub returns-clause-ok : goal.returns-clause-ok
returns-clause-ok g c =
    let e = c.in_ok-fold.ensures.ok in
    let keep = g.K.Reading.kept c.args.reading in
    let h = e.3 (c.new-fold.ensures keep) in
    let from : c.unsigned_abs-begin.result ≡ unsigned_abs c.args.base = search rules in (
      e.0,
      e.1,
      e.2,
      λ segment topic base bytes.
          let a : c.unsigned_abs-begin.result ≡ base_of segment = from ∙ ap unsigned_abs (sym base) in
          let b : c.is_checked-sequenced.result ≡ is_checked segment = c.is_checked-sequenced.ensures ∙ ap (λ (t : List ℕ). not (is_internal t)) (sym topic) in
          let x = subst (λ (n : ℕ). IsFolding keep n c.is_checked-sequenced.result e.0 h.0 c.in_ok-fold.fold) a h.2 in
          let y = subst (λ (s : Bool). IsFolding keep (base_of segment) s e.0 h.0 c.in_ok-fold.fold) b x in
          c.finish.ensures keep segment h.0 h.1 (subst (λ (xs : List ℕ). IsFolding keep (base_of segment) (is_checked segment) xs h.0 c.in_ok-fold.fold) (sym bytes) y),
    )

pub finish-requires-clause-folded : goal.finish-requires-clause-folded
finish-requires-clause-folded g c =
    let e = c.in_ok-fold.ensures.ok in
    let keep = g.K.Reading.kept c.args.reading in
    let h = e.3 (c.new-fold.ensures keep) in
    (keep, c.unsigned_abs-begin.result, c.is_checked-sequenced.result, e.0, h.0, h.2)
