use Rattle.std.proofs.Common.{◌≡◌, ◌∙◌, ap, List, length, arith}
use Rattle.std.proofs.lemmas.List.{with_items_is}
use Rattle.wf_flat.specs.State.{PageState}
use Rattle.wf_flat.specs.contracts.state.Flat.{the_view}
use Rattle.wf_flat.proofs.ChangeLemmas.{paged}
use Rattle.wf_flat.proofs.state.Flat.take_page.Goals as goal

pub returns : goal.returns
returns c =
    let len : length c.take_in.new.pages ≡ c.self.inside.pages.len = omega arith in
    let e = with_items_is c.self.inside.pages c.take_in.new.pages len ∙ (rw c.deref_mut.ensures.value at c.take_in.ensures) in
    rw (← c.self.view_is) (ap (λ (pages : List PageState). paged (the_view c.self.inside) pages) e)
