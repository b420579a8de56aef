use Rattle.std.proofs.Common.{◌∙◌, ap, length}
use Rattle.wf_flat.specs.State.{FlatState}
use Rattle.wf_change.proofs.NotedLemmas.{length-others_changed, there_still}
use Rattle.wf_change.proofs.paging.go.Goals as goal

pub answer-requires : goal.answer-requires
answer-requires c =
    let s : FlatState = c.args.flat.now in
    there_still s c.pages_going.new.flat c.args.actor
    (ap (λ (t : FlatState). length t.harts) (c.pages_going.ensures.state) ∙ ap (λ (t : FlatState). length t.harts) c.in_ok-pages_noted.ensures.state ∙ length-others_changed s.harts _ _)
    c.requires.there
