use Rattle.std.proofs.Common.{◌≡◌, List, length, get_or, slice_get, option_map, Option, Some, None, refl, sym, ap, ◌∙◌, arith, rules}
use Rattle.std.specs.Option.{option_or}
use Rattle.eos_claims.specs.declared.claim.Claim.{Claim}
use Rattle.eos_claims.specs.Headers.{claim_of}
use Rattle.eos_claims.specs.Slots.{plain_claim}
use Rattle.eos_fold_file.specs.Records.{FoldText}
use Rattle.eos_fold_file.specs.steps.TextLists.{plain_text, text_with}
use Rattle.eos_fold_file.proofs.TextsListed.{texts_length, text_at, either_claim}
use Rattle.eos_fold_file.proofs.fold_texts.FoldTexts.view.Goals as goal

pub view-record-requires : goal.view-record-requires
view-record-requires c =
    let long : length c.self.inside.texts.list ≡ length c.args.self.now = sym (texts_length c.self.inside.texts.list c.self.inside.unsaid.items) ∙ ap length c.self.view_is in
    omega (arith, long, c.requires)

pub returns : goal.returns
returns c =
    let rs = c.self.inside.texts.list in
    let cs = c.self.inside.unsaid.items in
    let i = c.args.i in
    let r = c.view-record.result in
    let beside : option_map plain_claim c.claim_at.result ≡ get_or cs i None = c.claim_at.ensures ∙ ap (λ (xs : List (Option Claim)). get_or xs i None) c.as_slice.ensures.value in
    let or : c.or-claim.result ≡ option_or c.claim_at.result c.claim.result = search rules in
    let claim : option_map plain_claim c.or-claim.result ≡ option_or (get_or cs i None) (claim_of r.headers) =
    ap (option_map plain_claim) or ∙ either_claim c.claim_at.result c.claim.result (get_or cs i None) (claim_of r.headers) beside c.claim.ensures in
    let made : text_with r (get_or cs i None) ≡ plain_text (record { key = c.key.result; value = c.value.result; claim = c.or-claim.result }) = rw (c.key.ensures, c.value.ensures, claim) refl in
    ap (λ (ts : List FoldText). slice_get ts i) (sym c.self.view_is) ∙ (text_at rs cs i r c.view-record.ensures ∙ ap Some made)
