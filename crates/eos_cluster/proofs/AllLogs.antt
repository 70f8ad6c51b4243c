-- All logs, one after the other.
use Rattle.std.proofs.Common.{◌≡◌, [], ℕ, ◌+◌, ◌-◌, ◌<◌, ◌≤◌, List, Result, Ok, Err, inl, inr, ◌∙◌, sym, ap, subst, arith, refl}
use Rattle.std.specs.List.{flat_map, range_with_len}
use Rattle.std.proofs.lemmas.Bool.{cases_lt}
use Rattle.eos_base.specs.Fallible.{◌>>=◌}
use Rattle.eos_evidence.specs.declared.segment.Segment.{Segment}
use Rattle.eos_evidence.specs.declared.fault.AddFault.{AddFault}
use Rattle.eos_evidence.specs.Evidence.{EvidenceParts}
use Rattle.eos_machine.specs.declared.config.Config.{Config}
use Rattle.eos_machine.specs.declared.item.Item.{Item}
use Rattle.eos_machine.specs.LogIndexes.{log_count}
use Rattle.eos_machine.specs.World.{World, log_at}
use Rattle.eos_machine.specs.declared.state.Election.{Election}
use Rattle.eos_machine.specs.Evidences.{log_segments, cluster_segments, adding, HaveTexts}
use Rattle.eos_log_writer.proofs.Adding.{range_step}
use Rattle.std.specs.Prelude.{IsOk}
use Rattle.std.proofs.Common.{map}
use Rattle.std.specs.List.{All}
use Rattle.eos_evidence.specs.declared.application.App.{App}
use Rattle.eos_evidence.specs.declared.ends.End.{End}
use Rattle.eos_evidence.specs.declared.fault.SpecFault.{SpecFault}
use Rattle.eos_evidence.specs.SpecFields.{SpecFields, accepted}
use Rattle.eos_machine.specs.Evidences.{groups_of, end_of}
use Rattle.eos_machine.specs.Fitting.{IsFit}
use Rattle.eos_machine.proofs.AcceptedParts.{accepted_parts}
use Rattle.eos_evidence.specs.Evidence.{without_segments}
use Rattle.eos_log_writer.specs.declared.segments.LogFault.{LogFault}
use Rattle.eos_log_writer.specs.declared.segments.LogFault.TheVariants as faults
use Rattle.eos_machine.specs.Evidences.{parts_of}
use Rattle.eos_machine.specs.steps.Writable.{IsWritable}
use Rattle.eos_machine.proofs.AllAdded.{adding_both, segments_added}

-- what is left to add of the segments of all logs
log_added : (f : ℕ → List Segment) (e g : EvidenceParts) (all : Result EvidenceParts AddFault) (i n : ℕ) → i < n → all ≡ adding e (flat_map f (range_with_len i (n - i))) → adding e (f i) ≡ Ok g
    → all ≡ adding g (flat_map f (range_with_len (i + 1) (n - (i + 1))))
log_added f e g all i n l h a =
    h ∙ (ap (λ ks. adding e (flat_map f ks)) (range_step i n l) ∙ (adding_both e (f i) (flat_map f (range_with_len (i + 1) (n - (i + 1)))) ∙ ap (λ r. r >>= λ k. adding k (flat_map f (range_with_len (i + 1) (n - (i + 1))))) a))

pub logs_step : (c d : Config) (w : World) (e g : EvidenceParts) (all : Result EvidenceParts AddFault) (p : ℕ) (log : List Item) → c ≡ d → log ≡ log_at w p → p < log_count c
    → all ≡ adding e (flat_map (λ q. log_segments d q w.elections (log_at w q)) (range_with_len p (log_count d - p))) → adding e (log_segments c p w.elections log) ≡ Ok g
    → all ≡ adding g (flat_map (λ q. log_segments d q w.elections (log_at w q)) (range_with_len (p + 1) (log_count d - (p + 1))))
logs_step c d w e g all p log m is l h a =
    log_added (λ q. log_segments d q w.elections (log_at w q)) e g all p (log_count d) (subst (λ k. p < log_count k) m l) h
    (subst (λ k. adding e (log_segments k p w.elections (log_at w p)) ≡ Ok g) m (subst (λ xs. adding e (log_segments c p w.elections xs) ≡ Ok g) is a))

-- before any of them
pub first_logs : (c : Config) (w : World) (e : EvidenceParts)
    → adding e (cluster_segments c w) ≡ adding e (flat_map (λ p. log_segments c p w.elections (log_at w p)) (range_with_len 0 (log_count c - 0)))
first_logs c w e = let k : log_count c ≡ log_count c - 0 = omega arith in ap (λ j. adding e (flat_map (λ p. log_segments c p w.elections (log_at w p)) (range_with_len 0 j))) k

-- ---- what is written reads back

pub logs_written : (c d : Config) (w : World) (p : ℕ) (log : List Item) → c ≡ d → log ≡ log_at w p → ((q : ℕ) → q < p → HaveTexts d q w.elections (log_at w q)) → HaveTexts c p w.elections log → (q : ℕ) → q < p + 1 → HaveTexts d q w.elections (log_at w q)
logs_written c d w p log m is h k q l = elim (cases_lt q p) [
  | inl b ↦ h q b
  | inr b ↦ let e : q ≡ p = omega (arith, b, l) in subst (λ r. HaveTexts d r w.elections (log_at w r)) (sym e) (subst (HaveTexts d p w.elections) is (subst (λ x. HaveTexts x p w.elections log) m k))
]

pub all_logs : (c d : Config) (w : World) (p n : ℕ) → c ≡ d → n ≡ log_count c → n ≤ p → ((q : ℕ) → q < p → HaveTexts d q w.elections (log_at w q)) → (q : ℕ) → q < log_count d → HaveTexts d q w.elections (log_at w q)
all_logs c d w p n m e l h q k = let f = ap log_count m in h q (omega (arith, f, e, l, k))

-- ---- nothing is refused

pub only_memory : (f : LogFault) → ((let r : Result (Unit {0}) LogFault = Err f in r ≡ Err faults.Refused) → ⊥) → f ≡ faults.OutOfMemory
only_memory faults.Refused d = absurd (d refl)
only_memory faults.OutOfMemory d = refl

pub whole_taken : (c : Config) (w : World) (e : EvidenceParts) → IsWritable c w → e ≡ without_segments (parts_of c w) → IsOk (adding e (cluster_segments c w))
whole_taken c w e g is = let a = segments_added c w g in subst (λ x. IsOk (adding x (cluster_segments c w))) (sym is) (subst IsOk (sym a.is) refl)

-- the next log
pub log_taken : (c : Config) (w : World) (all : Result EvidenceParts AddFault) (e : EvidenceParts) (p : ℕ) → IsOk all → p < log_count c
    → all ≡ adding e (flat_map (λ q. log_segments c q w.elections (log_at w q)) (range_with_len p (log_count c - p))) → IsOk (adding e (log_segments c p w.elections (log_at w p)))
log_taken c w all e p o l h =
    at (adding e (log_segments c p w.elections (log_at w p))) (subst IsOk (h ∙ (ap (λ ks. adding e (flat_map (λ q. log_segments c q w.elections (log_at w q)) ks)) (range_step p (log_count c) l)
    ∙ adding_both e (log_segments c p w.elections (log_at w p)) (flat_map (λ q. log_segments c q w.elections (log_at w q)) (range_with_len (p + 1) (log_count c - (p + 1)))))) o)
  where
    at : (r : Result EvidenceParts AddFault) → IsOk (r >>= λ f. adding f (flat_map (λ q. log_segments c q w.elections (log_at w q)) (range_with_len (p + 1) (log_count c - (p + 1))))) → IsOk r
    at (Ok f) k = refl
    at (Err x) k = k

-- what add_log says, of the log at a place
pub log_only : (c d : Config) (w : World) (p : ℕ) (es : List Election) (log : List Item) (b : EvidenceParts) (R : Type 0) → c ≡ d → es ≡ w.elections → log ≡ log_at w p → IsWritable d w → p < log_count d → IsOk (adding b (log_segments d p w.elections (log_at w p)))
    → (p < log_count c → All (IsFit c) log → IsOk (adding b (log_segments c p es log)) → R) → R
log_only c d w p es log b R e f i g l o h =
    h (subst (λ k. p < log_count k) (sym e) l)
    (subst (λ k. All (IsFit k) log) (sym e) (subst (All (IsFit d)) (sym i) (g.fit p)))
    (subst (λ k. IsOk (adding b (log_segments k p es log))) (sym e) (subst (λ x. IsOk (adding b (log_segments d p x log))) (sym f) (subst (λ xs. IsOk (adding b (log_segments d p w.elections xs))) (sym i) o)))

pub spec_taken : (c : Config) (w : World) → IsWritable c w → (apps : List App) (ends : List End) (f : SpecFault) → apps ≡ groups_of c → ends ≡ map (end_of c w) (range_with_len 0 (log_count c))
    → (let r : Result SpecFields SpecFault = Err f in r ≡ accepted (record { apps = apps; ends = ends })) → ⊥
spec_taken c w g apps ends f a e h =
    let s : accepted (record { apps = apps; ends = ends }) ≡ accepted (parts_of c w) = λ i. accepted (record { apps = a i; ends = e i }) in
    unlike f (parts_of c w) (h ∙ (s ∙ accepted_parts c w g.sizes g.short))
  where
    unlike : (f : SpecFault) (p : SpecFields) → (let r : Result SpecFields SpecFault = Err f in r ≡ Ok p) → ⊥
    unlike f p q = cc q

pub same_spec : (c : Config) (w : World) (s : SpecFields) → IsWritable c w → accepted (parts_of c w) ≡ Ok s → s ≡ parts_of c w
same_spec c w s g h = inner s (parts_of c w) (sym h ∙ accepted_parts c w g.sizes g.short)
  where
    inner : (a b : SpecFields) → (let r : Result SpecFields SpecFault = Ok a in r ≡ Ok b) → a ≡ b
    inner a b q = cc q
