use Rattle.std.proofs.Common.{◌∙◌, ap}
use Rattle.std.specs.List.{list_any}
use Rattle.patch_build.proofs.JumpLemmas.{any-insert_key}
use Rattle.patch_build.proofs.jumps.note.Goals as goal

pub returns-clause-ok : goal.returns-clause-ok
returns-clause-ok c = λ test.
    ap (list_any test) c.in_ok-insert.ensures.keys ∙ any-insert_key test c.args.addresses.now.keys c.args.at
