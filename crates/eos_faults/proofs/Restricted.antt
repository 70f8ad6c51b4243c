-- What stands of an application that has the claims and inputs of some sources alone: the faults of these sources.
use Rattle.std.proofs.Common.{◌≡◌, ℕ, Bool, true, List, refl, sym, subst, inl, inr}
use Rattle.std.specs.Prelude.{pos, ◌<ℤ◌, ◌≤ℤ◌}
use Rattle.eos_base.specs.Members.{Has}
use Rattle.eos_base.proofs.Membership.{filter_has, has_filter}
use Rattle.eos_claims.specs.declared.place.Place.{Place}
use Rattle.eos_claims.specs.declared.fault.OutputFault.{OutputFault}
use Rattle.eos_claims.specs.declared.fault.OutputKind.{OutputKind}
use Rattle.eos_claims.specs.declared.fault.OutputKind.TheVariants.{ForeignSource, NoSuchInput, Early, CountDisagrees, NumberRange, Repeated, Missing, OtherTransaction}
use Rattle.eos_claims.specs.Outputs.{PlacedClaim, Application, ReadsSources, IsBelow, IsPassed, Names, committed_offset}
use Rattle.eos_claims.specs.Candidates.{AreApart}
use Rattle.eos_claims.specs.Faults.{AtClaim, IsLeastClaim, IsTop, StandsAs, Stands}
use Rattle.eos_faults.specs.steps.OutputFaultsGathered.{AreOutputFaults}
use Rattle.eos_faults.specs.steps.Ranges.{is_source_in, restricted, AreFaultsWithin}

-- ---- what is found of a source in two applications

-- they have the same claims of a source, both have it as an input or neither, and read and commit the same
record AreSameAt (i : Place) (a b : Application) : Type 0 where
  sources : a.sources ≡ b.sources
  commits : a.commits ≡ b.commits
  there : Has a.inputs i → Has b.inputs i
  back : Has b.inputs i → Has a.inputs i
  claims : (c : PlacedClaim) → c.source ≡ i → Has a.claims c → Has b.claims c
  claims_back : (c : PlacedClaim) → c.source ≡ i → Has b.claims c → Has a.claims c

turned : (i : Place) (a b : Application) → AreSameAt i a b → AreSameAt i b a
turned i a b s = record { sources = sym s.sources; commits = sym s.commits; there = s.back; back = s.there; claims = s.claims_back; claims_back = s.claims }

module _ (i : Place) (a b : Application) (s : AreSameAt i a b) where
  names_too : (c : PlacedClaim) → Names a i c → Names b i c
  names_too c n = record { has = s.claims c n.source n.has; source = n.source }

  names_back : (c : PlacedClaim) → Names b i c → Names a i c
  names_back c n = record { has = s.claims_back c n.source n.has; source = n.source }

  least_too : (c : PlacedClaim) → IsLeastClaim a i c → IsLeastClaim b i c
  least_too c l = record { names = names_too c l.names; least = λ d n. l.least d (names_back d n) }

  top_too : (top : ℕ) → IsTop a i top → IsTop b i top
  top_too top (inl c) = inl (c.0, least_too c.0 c.1, c.2)
  top_too top (inr none) = inr (λ c n. none.0 c (names_back c n), none.1)

  below_too : IsBelow a i → IsBelow b i
  below_too h = record { input = s.there h.input; below = subst (λ ms. pos i.offset <ℤ committed_offset ms i.partition) s.commits h.below }

  passed_back : (c : PlacedClaim) → IsPassed b c → IsPassed a c
  passed_back c p = record {
    writer = p.writer;
    transactional = p.transactional;
    commit = p.commit;
    has = subst (λ ms. Has ms p.commit) (sym s.commits) p.has;
    same = p.same;
    partition = p.partition;
    past = p.past;
  }

module _ (a b : Application) (f : OutputFault) (s : AreSameAt f.source a b) where
  at_too : AtClaim a f → AtClaim b f
  at_too c = record { claim = c.claim; has = s.claims c.claim c.source c.has; source = c.source; output = c.output; at = c.at }

  stands_as : (k : OutputKind) → StandsAs a f k → StandsAs b f k
  unfolding at_too
  stands_as ForeignSource st = (at_too st.0, λ h. st.1 (subst (λ ts. Has ts f.source.partition.topic) (sym s.sources) h))
  stands_as NoSuchInput st = (at_too st.0, subst (λ ts. Has ts f.source.partition.topic) s.sources st.1, λ h. st.2 (s.back h))
  stands_as Early st = (at_too st.0, s.there st.1, subst (λ ms. committed_offset ms f.source.partition ≤ℤ pos f.source.offset) s.commits st.2)
  stands_as CountDisagrees st = (at_too st.0, st.1, least_too f.source a b s st.1 st.2, st.3)
  stands_as NumberRange st = (at_too st.0, st.1)
  stands_as Repeated st = (at_too st.0, st.1, names_too f.source a b s st.1 st.2, st.3, st.4)
  stands_as Missing st = record {
    below = below_too f.source a b s st.below;
    top = st.top;
    is_top = top_too f.source a b s st.top st.is_top;
    first = st.first;
    last = st.last;
    absent = λ c n. st.absent c (names_back f.source a b s c n);
    at = st.at;
  }
  stands_as OtherTransaction st = (at_too st.0, below_too f.source a b s st.1, λ p. st.2 (passed_back f.source a b s st.0.claim p))

  stands_too : Stands a f → Stands b f
  stands_too = stands_as f.kind

-- ---- an application of some sources

module _ (within : Place → Bool) (a : Application) where
  abbrev part : Application
  part = restricted within a

  same_at : (i : Place) → within i ≡ true → AreSameAt i part a
  same_at i w = record {
    sources = refl;
    commits = refl;
    there = λ h. (filter_has within a.inputs i h).0;
    back = λ h. has_filter within a.inputs i h w;
    claims = λ c e h. (filter_has (is_source_in within) a.claims c h).0;
    claims_back = λ c e h. has_filter (is_source_in within) a.claims c h (subst (λ p. within p ≡ true) (sym e) w);
  }

  pub reads_within : ReadsSources a → ReadsSources part
  reads_within reads i h = reads i (filter_has within a.inputs i h).0

  pub apart_within : AreApart a → AreApart part
  apart_within apart c d h k = apart c d (filter_has (is_source_in within) a.claims c h).0 (filter_has (is_source_in within) a.claims d k).0

  of_claim : (f : OutputFault) → AtClaim part f → within f.source ≡ true
  of_claim f c = subst (λ p. within p ≡ true) c.source (filter_has (is_source_in within) a.claims c.claim c.has).1

  source_within : (f : OutputFault) (k : OutputKind) → StandsAs part f k → within f.source ≡ true
  source_within f ForeignSource st = of_claim f st.0
  source_within f NoSuchInput st = of_claim f st.0
  source_within f Early st = of_claim f st.0
  source_within f CountDisagrees st = of_claim f st.0
  source_within f NumberRange st = of_claim f st.0
  source_within f Repeated st = of_claim f st.0
  source_within f Missing st = (filter_has within a.inputs f.source st.below.input).1
  source_within f OtherTransaction st = of_claim f st.0

  pub faults_within : (list : List OutputFault) → AreOutputFaults part list → AreFaultsWithin within a list
  faults_within list are = record {
    rises = are.rises;
    each = λ f h. let st = are.each f h in let w = source_within f f.kind st in (stands_too part a f (same_at f.source w) st, w);
    all = λ f st w. are.all f (stands_too a part f (turned f.source part a (same_at f.source w)) st);
    one_missing = are.one_missing;
  }
