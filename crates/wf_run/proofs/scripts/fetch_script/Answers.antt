use Rattle.std.proofs.Common.{◌≡◌, None, rules}
use Rattle.wf_follow.specs.Unbuilt.{first_unbuilt}
use Rattle.wf_run.proofs.BuiltLemmas.{all_built}
use Rattle.wf_run.proofs.scripts.fetch_script.Goals as goal

pub returns-clause-built : goal.returns-clause-built
returns-clause-built g c =
    let none : first_unbuilt c.in-Ok.script.commands c.in-Ok.script.lines ≡ None = search rules in
    all_built c.in-Ok.script.commands c.in-Ok.script.lines c.in-Ok.ensures.kept.placed none
