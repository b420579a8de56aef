use Rattle.std.proofs.Common.{◌∙◌, sym}
use Rattle.wf_run.proofs.BuiltLemmas.{copied_line, unbuilt_found}
use Rattle.wf_run.proofs.scripts.first_unbuilt.Goals as goal

pub returns : goal.returns
returns c =
    c.copied.ensures ∙ copied_line c.get.result c.args.lines.now c.in_ok-place.place c.get.ensures.lookup.1 c.get.ensures.lookup.3
    ∙ sym (unbuilt_found c.args.commands.now c.args.lines.now c.in_ok-place.place (sym c.in_ok-place.ensures.value))
