-- The first of all faults is the least that stands, also of the outputs that an input lacks.
use Rattle.std.proofs.Common.{◌≡◌, ◌<◌, ℕ, List, [], ◌∷◌, Option, refl, sym, ap, subst, ◌∙◌, inl, inr, ◌⊎◌, true, arith}
use Rattle.std.specs.Prelude.{nat_lt}
use Rattle.std.specs.Ordering.{nat_cmp, on, then_cmp, ordering_reverse}
use Rattle.std.specs.Cmp.{IsTotalOrder}
use Rattle.std.specs.declared.cmp.Ordering.{Ordering}
use Rattle.std.specs.declared.cmp.Ordering.TheVariants.{Less, Equal}
use Rattle.std.proofs.lemmas.Bool.{lt-ltb}
use Rattle.std.proofs.lemmas.Cmp.{nat_cmp_total, on_total, then_total, tied_itself}
use Rattle.eos_base.specs.Members.{Has}
use Rattle.eos_base.specs.Least.{UpTo, NoneStands}
use Rattle.eos_base.proofs.LeastOf.{upto_itself, upto_trans}
use Rattle.eos_evidence.specs.declared.application.App.{App}
use Rattle.eos_evidence.specs.Evidence.{EvidenceParts}
use Rattle.eos_fold.specs.Parts.{PartLog}
use Rattle.eos_table.specs.LogFaults.{log_cmp}
use Rattle.eos_table.specs.MatchFaults.{fault_cmp as match_cmp}
use Rattle.eos_table.proofs.LogOrder.{log_total}
use Rattle.eos_table.proofs.MatchOrder.{fault_total as match_total}
use Rattle.eos_claims.specs.declared.fault.OutputFault.{OutputFault}
use Rattle.eos_claims.specs.Faults as outputs
use Rattle.eos_claims.proofs.FaultOrder.{place_total, fault_total as output_total}
use Rattle.eos_commits.specs.Commits.{Group}
use Rattle.eos_commits.specs.Faults.{visible_cmp}
use Rattle.eos_commits.proofs.VisibleOrder.{visible_total}
use Rattle.eos_verdict.specs.declared.lineage_fault.LineageFault.TheVariants.{Record, Output}
use Rattle.eos_lineage.specs.Faults.{place_of}
use Rattle.eos_commits.specs.EvidenceLogs.{AreLogsOf}
use Rattle.eos_verdict.specs.declared.verdict.Fault.{Fault}
use Rattle.eos_verdict.specs.declared.verdict.Fault.TheVariants.{Partition as InPartition, Log, Match, Lineage}
use Rattle.eos_verdict.specs.declared.verdict.Verdict.TheVariants.{No}
use Rattle.eos_check.proofs.VerdictsUnique.{partition_total}
use Rattle.eos_check.specs.Verdicts.{Stands, partition_cmp, verdict_cmp, IsVerdictOf}
use Rattle.eos_base.proofs.WholeList.{first_less, less_upto, same_list}
use Rattle.eos_faults.specs.OneInput.{OfOneInput}
use Rattle.eos_source_check.specs.AllFaults.{IsLaterMissing, AreAllFaults}

-- a fault of outputs, with its group
abbrev Grouped : Type 0
Grouped = Option Group × OutputFault

abbrev grouped_cmp : List App → Grouped → Grouped → Ordering
grouped_cmp apps = then_cmp (on (λ (x : Grouped). place_of apps x.0) nat_cmp) (on (λ (x : Grouped). x.1) outputs.fault_cmp)

grouped_total : (apps : List App) → IsTotalOrder (grouped_cmp apps)
grouped_total apps = then_total (on_total (λ (x : Grouped). place_of apps x.0) nat_cmp_total) (on_total (λ (x : Grouped). x.1) output_total)

itself : (apps : List App) (f : Fault) → UpTo (verdict_cmp apps) f f
itself apps (InPartition f) = upto_itself partition_total f
itself apps (Log f) = upto_itself log_total f
itself apps (Match f) = upto_itself match_total f
itself apps (Lineage (Record f)) = upto_itself visible_total f
itself apps (Lineage (Output group f)) = upto_itself (grouped_total apps) (group, f)

below : (x y : ℕ) → x < y → nat_cmp x y ≡ Less
below x y h = let t : nat_lt x y ≡ true = lt-ltb x y h in rw t refl

-- no two each come before the other

reversed : (a b : Ordering) → a ≡ ordering_reverse b → a ≡ Less → b ≡ Less → ⊥
reversed a b e p q = let f : Less ≡ ordering_reverse Less = sym p ∙ (e ∙ ap ordering_reverse q) in absurd cc

pub apart : (apps : List App) (f g : Fault) → verdict_cmp apps f g ≡ Less → verdict_cmp apps g f ≡ Less → ⊥
apart apps (InPartition f) (InPartition g) p q = reversed (partition_cmp f g) (partition_cmp g f) (partition_total.antisymm f g) p q
apart apps (InPartition f) (Log g) p q = absurd cc
apart apps (InPartition f) (Match g) p q = absurd cc
apart apps (InPartition f) (Lineage g) p q = absurd cc
apart apps (Log f) (InPartition g) p q = absurd cc
apart apps (Log f) (Log g) p q = reversed (log_cmp f g) (log_cmp g f) (log_total.antisymm f g) p q
apart apps (Log f) (Match g) p q = absurd cc
apart apps (Log f) (Lineage g) p q = absurd cc
apart apps (Match f) (InPartition g) p q = absurd cc
apart apps (Match f) (Log g) p q = absurd cc
apart apps (Match f) (Match g) p q = reversed (match_cmp f g) (match_cmp g f) (match_total.antisymm f g) p q
apart apps (Match f) (Lineage g) p q = absurd cc
apart apps (Lineage f) (InPartition g) p q = absurd cc
apart apps (Lineage f) (Log g) p q = absurd cc
apart apps (Lineage f) (Match g) p q = absurd cc
apart apps (Lineage (Record f)) (Lineage (Record g)) p q = reversed (visible_cmp f g) (visible_cmp g f) (visible_total.antisymm f g) p q
apart apps (Lineage (Record f)) (Lineage (Output h g)) p q = absurd cc
apart apps (Lineage (Output h f)) (Lineage (Record g)) p q = absurd cc
apart apps (Lineage (Output h f)) (Lineage (Output i g)) p q = reversed (grouped_cmp apps (h, f) (i, g)) (grouped_cmp apps (i, g) (h, f)) ((grouped_total apps).antisymm (h, f) (i, g)) p q

-- an output of lesser number that the same input lacks comes first
sooner : (apps : List App) (group : Option Group) (g f : OutputFault) → OfOneInput g f → g.output < f.output → UpTo (grouped_cmp apps) (group, g) (group, f)
sooner apps group g f one lt =
    let place : nat_cmp (place_of apps group) (place_of apps group) ≡ Equal = tied_itself nat_cmp_total (place_of apps group) in
    let source : outputs.place_cmp g.source f.source ≡ Equal = subst (λ z. outputs.place_cmp g.source z ≡ Equal) one.source (tied_itself place_total g.source) in
    let output : nat_cmp g.output f.output ≡ Less = below g.output f.output lt in
    rw (place, source, output) refl

-- what comes before the one comes before the other
chain : (apps : List App) (x : Fault) (group : Option Group) (g f : OutputFault) → OfOneInput g f → g.output < f.output
    → UpTo (verdict_cmp apps) x (Lineage (Output group g)) → UpTo (verdict_cmp apps) x (Lineage (Output group f))
chain apps (InPartition x) group g f one lt le = refl
chain apps (Log x) group g f one lt le = refl
chain apps (Match x) group g f one lt le = refl
chain apps (Lineage (Record x)) group g f one lt le = refl
chain apps (Lineage (Output other x)) group g f one lt le = upto_trans (grouped_total apps) (other, x) (group, g) (group, f) le (sooner apps group g f one lt)

module _ (e : EvidenceParts) (ls : List PartLog) (of : AreLogsOf e.partitions ls) where
  pub first_of_all : (x : Fault) (xs : List Fault) → AreAllFaults e ls of (x ∷ xs) → IsVerdictOf e ls of (No x)
  first_of_all x xs all = record { stands = all.each x (inl refl); least = λ f s. least f (all.all f s) }
    where
      member : (f : Fault) → Has (x ∷ xs) f → UpTo (verdict_cmp e.spec.apps) x f
      member f (inl q) = subst (λ z. UpTo (verdict_cmp e.spec.apps) x z) q (itself e.spec.apps x)
      member f (inr h) = less_upto (verdict_cmp e.spec.apps x f) (first_less (verdict_cmp e.spec.apps) x xs all.rises f h)

      least : (f : Fault) → Has (x ∷ xs) f ⊎ IsLaterMissing (x ∷ xs) f → UpTo (verdict_cmp e.spec.apps) x f
      least f (inl h) = member f h
      least (InPartition f) (inr later) = absurd later
      least (Log f) (inr later) = absurd later
      least (Match f) (inr later) = absurd later
      least (Lineage (Record f)) (inr later) = absurd later
      least (Lineage (Output group f)) (inr later) = chain e.spec.apps x group later.0 f later.2 later.3 (member (Lineage (Output group later.0)) later.1)

  pub none_of_all : AreAllFaults e ls of [] → NoneStands (Stands e ls of)
  none_of_all all = λ f s. none f (all.all f s)
    where
      none : (f : Fault) → Has [] f ⊎ IsLaterMissing [] f → ⊥
      none f (inl h) = h
      none (InPartition f) (inr later) = later
      none (Log f) (inr later) = later
      none (Match f) (inr later) = later
      none (Lineage (Record f)) (inr later) = later
      none (Lineage (Output group f)) (inr later) = later.1

  -- the one list has what the other has

  lesser_not : (f g : OutputFault) → f ≡ g → g.output < f.output → ⊥
  lesser_not f g q lt = let same : f.output ≡ g.output = ap (λ (z : OutputFault). z.output) q in absurd (omega (arith, same, lt))

  within : (xs ys : List Fault) → AreAllFaults e ls of xs → AreAllFaults e ls of ys → (f : Fault) → Has xs f → Has ys f
  within xs ys all other f h = go f h (other.all f (all.each f h))
    where
      -- what an input lacks, and a lesser output that the same input lacks
      lesser : (group : Option Group) (f g : OutputFault) → Has xs (Lineage (Output group f)) → OfOneInput g f → g.output < f.output
          → Has xs (Lineage (Output group g)) ⊎ IsLaterMissing xs (Lineage (Output group g)) → ⊥
      lesser group f g h one lt (inl k) = lesser_not f g (sym (all.one_missing group g f k h one)) lt
      lesser group f g h one lt (inr later) =
          let less = later.3 in
          let through : OfOneInput later.0 f = record { first = later.2.first; second = one.second; source = later.2.source ∙ one.source } in
          lesser_not f later.0 (sym (all.one_missing group later.0 f later.1 h through)) (omega (arith, less, lt))

      go : (f : Fault) → Has xs f → Has ys f ⊎ IsLaterMissing ys f → Has ys f
      go f h (inl k) = k
      go (InPartition f) h (inr later) = absurd later
      go (Log f) h (inr later) = absurd later
      go (Match f) h (inr later) = absurd later
      go (Lineage (Record f)) h (inr later) = absurd later
      go (Lineage (Output group f)) h (inr later) = absurd (lesser group f later.0 h later.2 later.3 (all.all (Lineage (Output group later.0)) (other.each (Lineage (Output group later.0)) later.1)))

  pub one_list : (xs ys : List Fault) → AreAllFaults e ls of xs → AreAllFaults e ls of ys → xs ≡ ys
  one_list xs ys all other = same_list (verdict_cmp e.spec.apps) (apart e.spec.apps) xs ys all.rises other.rises (within xs ys all other) (within ys xs other all)
