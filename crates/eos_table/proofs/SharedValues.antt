-- The table of steps doesn't look at partitions.
use Rattle.std.proofs.Common.{◌≡◌, Option, Some, None, option_map, refl, sym, ap, ◌∙◌}
use Rattle.eos_txnlog.specs.declared.value.TxnValue.{TxnValue}
use Rattle.eos_txnlog.specs.Following.{step_verdict}
use Rattle.eos_table.specs.steps.Known.{bare_of}

bare : (a b : Option TxnValue) → step_verdict a b ≡ step_verdict (option_map bare_of a) (option_map bare_of b)
bare None None = refl
bare None (Some y) = refl
bare (Some x) None = refl
bare (Some x) (Some y) = refl

pub step_without : (a b x y : Option TxnValue) → option_map bare_of a ≡ option_map bare_of x → option_map bare_of b ≡ option_map bare_of y → step_verdict a b ≡ step_verdict x y
step_without a b x y first second =
    bare a b ∙ (ap (λ z. step_verdict z (option_map bare_of b)) first ∙ (ap (step_verdict (option_map bare_of x)) second ∙ sym (bare x y)))
