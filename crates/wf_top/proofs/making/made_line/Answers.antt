use Rattle.std.proofs.Common.{◌∙◌, ap, arith}
use Rattle.wf_flat.specs.State.{FlatState}
use Rattle.wf_top.specs.Making.{ended_line}
use Rattle.wf_top.proofs.MakingLemmas.{line_is, made_few}
use Rattle.wf_top.proofs.making.made_line.Goals as goal

pub ended_line-requires : goal.ended_line-requires
ended_line-requires c =
    let few = made_few c.args.functions c.in_ok-ran.ran.script c.in_ok-ran.ran.machine c.in_ok-ran.ensures.ok in
    omega (arith, few)

pub returns-in-Ok-clause-ok : goal.returns-in-Ok-clause-ok
returns-in-Ok-clause-ok c =
    line_is c.args.functions c.in_ok-ran.ran.script c.in_ok-ran.ran.machine c.in-Ok.line.items c.in_ok-ran.ensures.ok
    (c.in-Ok.ensures ∙ ap (λ (flat : FlatState). ended_line c.args.functions c.in_ok-ran.ran.script flat.harts) c.state.ensures)
