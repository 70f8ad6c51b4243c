use Rattle.std.proofs.Common.{◌≡◌, List, Some, string_bytes, sym, ap, ◌∙◌, subst}
use Rattle.serde_json.specs.View.{view, members_view}
use Rattle.eos_evidence.specs.declared.ends.End.{End}
use Rattle.eos_evidence.specs.Manifest.{end_of, ends_of}
use Rattle.eos_evidence.proofs.ManifestParts.{with_rest, one_more}
use Rattle.eos_evidence.proofs.manifest_reader.read_members.Goals as goal

pub loop-name-preserved : goal.loop-name-preserved
loop-name-preserved c =
    let whole = ends_of (members_view c.args.members.now.entries) in
    let left = ends_of (members_view c.next.new.self) in
    let done = c.loop-name.ends.items in
    let value = view c.in-Some.value.now in
    let here = end_of (string_bytes c.in-Some.name.now) value in
    let said : Some c.in-Some-2.end ≡ here = sym c.in-Some-2.is ∙ (c.in_ok-end.ensures ∙ ap (λ name. end_of name value) c.as_str.ensures.value) in
    let before = subst (λ ms. with_rest done (ends_of (members_view ms)) ≡ whole) c.in-Some.ensures.steps c.loop-name.invariant in
    subst (λ (ends : List End). with_rest ends left ≡ whole) (sym c.in_ok-push.ensures.items) (one_more done c.in-Some-2.end here left whole said before)
