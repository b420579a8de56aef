use Rattle.std.proofs.Common.{◌∙◌, ap, length, List}
use Rattle.wf_flat.specs.State.{HartState}
use Rattle.wf_flat.specs.contracts.state.Flat.{the_view}
use Rattle.wf_change.proofs.NotedLemmas.{length-others_changed, there_still}
use Rattle.wf_change.proofs.paging.map.Goals as goal

pub answer-requires : goal.answer-requires
answer-requires c =
    there_still c.args.flat.now (the_view (record c.flat.inside { harts = c.in_ok-harts.harts })) c.args.actor
    (ap (λ (harts : List HartState). length harts) c.in_ok-harts.ensures ∙ length-others_changed _ _ _)
    c.requires.there
