use Rattle.std.proofs.Common.{◌%◌, ◌^◌, ◌++◌, ◌∙◌, ap, sym, arith, append-nil, List}
use Rattle.std.proofs.lemmas.List.{take_all}
use Rattle.eos_manifest.specs.Coordinators.{weighted}
use Rattle.eos_manifest.proofs.JavaHashes.{unit_more}
use Rattle.eos_manifest.proofs.coordinator.with_char.Goals as goal

pub loop-unit-init : goal.loop-unit-init
loop-unit-init c = (c.encode_utf16.ensures.value, λ us is. is ∙ ap (λ (all : List _). weighted all % 2 ^ 32) (sym (append-nil us)))

pub loop-unit-preserved : goal.loop-unit-preserved
loop-unit-preserved c = (
  c.loop-unit.invariant.0,
  λ us is. unit_more us _ c.loop-unit.unit-index 0 _ _ c.loop-unit-test.true (c.loop-unit.invariant.1 us is) c.with_unit-bits.ensures,
)

pub returns : goal.returns
returns c = λ us is.
    c.loop-unit.invariant.1 us is ∙ ap (λ (all : List _). weighted (us ++ all) % 2 ^ 32) (take_all _ _ (omega arith) ∙ c.loop-unit.invariant.0)
