use Rattle.std.proofs.Common.{refl}
use Rattle.eos_story.proofs.BatchesTold.{headers_told}
use Rattle.eos_story.proofs.headers.push_names.Goals as goal

pub returns : goal.returns
returns c =
    headers_told _ _ _ _ _ c.args.place.now c.args.scene.now.headers.now c.in_ok-push_header.ensures c.in_ok-push_header-2.ensures c.in_ok-push_header-3.ensures c.in_ok-push_header-4.ensures c.in_ok-push_header-5.ensures refl refl refl refl refl
