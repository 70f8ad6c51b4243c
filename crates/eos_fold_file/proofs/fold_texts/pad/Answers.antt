use Rattle.std.proofs.Common.{◌≡◌, ◌<◌, ◌∷◌, ◌++◌, [], None, length, arith, rules}
use Rattle.std.proofs.lemmas.List.{length-append}
use Rattle.eos_fold_file.proofs.TextsListed.{pad_more, pad_unsaid}
use Rattle.eos_fold_file.proofs.fold_texts.pad.Goals as goal

pub loop-claims-preserved : goal.loop-claims-preserved
loop-claims-preserved c =
    let old = c.args.claims.now.items in
    let cs = c.loop-claims.claims.items in
    let lt : length cs < c.args.count = search rules in
    let e : c.push.new.self.items ≡ cs ++ None ∷ [] = search rules in
    record {
      same = pad_more old cs c.push.new.self.items c.args.count lt e c.loop-claims.invariant.same;
      unsaid = pad_unsaid old cs c.push.new.self.items e c.loop-claims.invariant.unsaid;
      few = rw e (omega (arith, lt, length-append cs (None ∷ [])));
    }
