-- What is found in the sets of topics.
use Rattle.std.proofs.Common.{◌≡◌, List, map, refl, sym, ap, subst, true, IsPermutation}
use Rattle.std.specs.Ordering.{nat_cmp, is_eq}
use Rattle.std.specs.Cmp.{IsTotalOrder}
use Rattle.std.specs.Cmp.Lexicographic.{slice_cmp}
use Rattle.std.specs.declared.cmp.Ordering.{Ordering}
use Rattle.std.proofs.lemmas.Cmp.{nat_list_cmp_total, on_total, then_total}
use Rattle.std.proofs.lemmas.List.Sorted.{list_any-IsPermutation}
use Rattle.eos_base.specs.Members.{Has, is_found}
use Rattle.eos_base.specs.steps.Least.{IsExact}
use Rattle.eos_base.proofs.Exact.{then_parts, bytes_exact}
use Rattle.eos_base.proofs.Membership.{found_by, found_has, has_found, flat_has, has_flat, map_has, has_map}
use Rattle.eos_evidence.specs.declared.application.App.{App}
use Rattle.eos_evidence.specs.SpecFields.{outputs_of}
use Rattle.eos_commits.specs.contracts.roles.TopicRefOrd.TheImpl.{ghosts as topic_ghosts}
use Rattle.eos_commits.specs.contracts.roles.SourceRefOrd.TheImpl.{ghosts as source_ghosts}
use Rattle.eos_commits.specs.declared.roles.TopicRef.{TopicRef}
use Rattle.eos_commits.specs.declared.roles.SourceRef.{SourceRef}
use Rattle.eos_commits.specs.Commits.{Group, Topic}
use Rattle.eos_commits.specs.steps.Roles.{Source, source_cmp, sources_in, sources_of, plain_topic, plain_source, RoleSets}

pub topic_has : (xs : List TopicRef) (k : TopicRef) → is_found topic_ghosts.cmp xs k ≡ is_found (slice_cmp nat_cmp) (map plain_topic xs) (plain_topic k)
topic_has xs k = found_by plain_topic (slice_cmp nat_cmp) topic_ghosts.cmp (λ a b. refl) xs k

pub source_has : (xs : List SourceRef) (k : SourceRef) → is_found source_ghosts.cmp xs k ≡ is_found source_cmp (map plain_source xs) (plain_source k)
source_has xs k = found_by plain_source source_cmp source_ghosts.cmp (λ a b. refl) xs k

-- a list in another order has the same members
pub found_in_order : {X : Type 0} (cmp : X → X → Ordering) (xs ys : List X) (k : X) → IsPermutation xs ys → is_found cmp ys k ≡ is_found cmp xs k
found_in_order cmp xs ys k p = sym (list_any-IsPermutation (λ y. is_eq (cmp y k)) xs ys p)

pub source_total : IsTotalOrder source_cmp
source_total = then_total (on_total (λ s. s.0) nat_list_cmp_total) (on_total (λ s. s.1) nat_list_cmp_total)

pub source_exact : IsExact source_cmp
source_exact x y e =
    let r = then_parts (slice_cmp nat_cmp x.0 y.0) (slice_cmp nat_cmp x.1 y.1) e in
    let p = bytes_exact x.0 y.0 r.0 in
    let q = bytes_exact x.1 y.1 r.1 in
    λ i. (p i, q i)

-- a group and a topic that are found are an application's
pub record IsRead (apps : List App) (group : Group) (topic : Topic) : Type 0 where
  pub app : App
  pub has : Has apps app
  pub group_is : app.group ≡ group
  pub source : Has app.sources topic

pub found_is_read : (apps : List App) (group : Group) (topic : Topic) → is_found source_cmp (sources_of apps) (group, topic) ≡ true → IsRead apps group topic
found_is_read apps group topic e =
    let h = found_has source_cmp source_exact (sources_of apps) (group, topic) e in
    let a = flat_has sources_in apps (group, topic) h in
    let t = map_has (λ t. pair a.0.group t) a.0.sources (group, topic) a.2 in
    record { app = a.0; has = a.1; group_is = ap (λ (s : Source). s.0) t.2; source = subst (Has a.0.sources) (ap (λ (s : Source). s.1) t.2) t.1 }
  where
    pair : Group → Topic → Source
    pair g t = (g, t)

pub read_is_found : (apps : List App) (group : Group) (topic : Topic) → IsRead apps group topic → is_found source_cmp (sources_of apps) (group, topic) ≡ true
read_is_found apps group topic r =
    let h : Has (sources_of apps) (r.app.group, topic) = has_flat sources_in apps r.app (r.app.group, topic) r.has (has_map (λ t. (r.app.group, t)) r.app.sources topic r.source) in
    has_found source_cmp source_total (sources_of apps) (group, topic) (subst (λ (g : Group). Has (sources_of apps) (g, topic)) r.group_is h)

-- the look-ups say what the applications read and write
pub record AreRoles (apps : List App) (r : RoleSets) : Type 0 where
  pub outputs : (t : Topic) → is_found (slice_cmp nat_cmp) r.outputs t ≡ is_found (slice_cmp nat_cmp) (outputs_of apps) t
  pub sources : (g : Group) (t : Topic) → is_found source_cmp r.sources (g, t) ≡ is_found source_cmp (sources_of apps) (g, t)

pub roles : (apps : List App) (r : RoleSets) → IsPermutation (sources_of apps) r.sources → IsPermutation (outputs_of apps) r.outputs → AreRoles apps r
roles apps r p q = record {
  outputs = λ t. found_in_order (slice_cmp nat_cmp) (outputs_of apps) r.outputs t q;
  sources = λ g t. found_in_order source_cmp (sources_of apps) r.sources (g, t) p;
}
