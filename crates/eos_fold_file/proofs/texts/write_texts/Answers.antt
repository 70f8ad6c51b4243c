use Rattle.std.proofs.Common.{◌≡◌, ◌<◌, ◌++◌, [], length, get_or, subst, sym, arith}
use Rattle.std.proofs.lemmas.Option.{get_or_from_slice_get}
use Rattle.eos_fold_file.specs.Legal.{IsLegalText}
use Rattle.eos_fold_file.specs.Texts.{key_values_text}
use Rattle.eos_fold_file.specs.steps.TextLists.{plain_text}
use Rattle.eos_fold_file.proofs.LegalFolds.{each_from_all}
use Rattle.eos_fold_file.proofs.Loop.{each_more}
use Rattle.eos_fold_file.proofs.TextLoop.{text_more, texts_done}
use Rattle.eos_fold_file.proofs.texts.write_texts.Goals as goal

pub loop-i-preserved : goal.loop-i-preserved
loop-i-preserved c =
    let ts = c.args.texts.now in
    let i = c.loop-i.i in
    let t = plain_text c.view-text.result in
    let is : get_or ts i t ≡ t = get_or_from_slice_get ts i t t c.view-text.ensures in
    let lt : i < length ts = omega (arith, c.loop-i-test.true, c.len-i-end.ensures) in
    record {
      text = text_more (c.args.out.now.items ++ key_values_text [] [] ts) c.loop-i.key.now c.loop-i.value.now c.loop-i.out.items _ c.last_of-key.result.now c.last_of-value.result.now
          ts i t t lt (sym is) c.last_of-key.ensures c.last_of-value.ensures c.loop-i.invariant.text c.in_ok-write_text.ensures.text;
      fit = each_more IsLegalText ts i t lt c.loop-i.invariant.fit (subst IsLegalText (sym is) c.in_ok-write_text.ensures.fit);
    }

pub returns-clause-text : goal.returns-clause-text
returns-clause-text c =
    let ts = c.args.texts.now in
    texts_done (c.args.out.now.items ++ key_values_text [] [] ts) c.loop-i.key.now c.loop-i.value.now c.loop-i.out.items ts c.loop-i.i (omega (arith, c.loop-i-test.false, c.len-i-end.ensures)) c.loop-i.invariant.text

pub returns-clause-fit : goal.returns-clause-fit
returns-clause-fit c = each_from_all IsLegalText c.args.texts.now (λ k d lt. c.loop-i.invariant.fit k d (omega (arith, c.loop-i-test.false, c.len-i-end.ensures, lt)))
