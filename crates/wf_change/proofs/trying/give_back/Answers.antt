use Rattle.std.proofs.Common.{◌∙◌, ap, slice_get}
use Rattle.wf_flat.specs.State.{FlatState}
use Rattle.wf_flat.specs.Changes.{change_page, given_back}
use Rattle.wf_change.proofs.HeldLemmas.{given_noted}
use Rattle.wf_change.proofs.NotedLemmas.{get-others_changed}
use Rattle.wf_change.proofs.trying.give_back.Goals as goal

pub returns-clause-state : goal.returns-clause-state
returns-clause-state c =
    let page = c.in-Some.page in
    let put = c.has_put-put.result in
    c.give_page.ensures
    ∙ ap (λ (t : FlatState). change_page t page (given_back t.limits.last_writes put)) c.in_ok-pages_noted.ensures.state
    ∙ given_noted c.args.flat.now c.args.h page put c.in-Some.ensures c.has_put-put.ensures

pub returns-clause-hart : goal.returns-clause-hart
returns-clause-hart c =
    let s : FlatState = c.args.flat.now in
    ap (λ (t : FlatState). slice_get t.harts c.args.h) c.give_page.ensures
    ∙ ap (λ (t : FlatState). slice_get t.harts c.args.h) c.in_ok-pages_noted.ensures.state
    ∙ get-others_changed s.harts c.args.h _
