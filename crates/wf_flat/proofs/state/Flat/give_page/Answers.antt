use Rattle.std.proofs.Common.{◌≡◌, ◌∙◌, ap, List, length, arith}
use Rattle.std.proofs.lemmas.List.{with_items_is}
use Rattle.wf_flat.specs.State.{PageState}
use Rattle.wf_flat.specs.contracts.state.Flat.{the_view}
use Rattle.wf_flat.proofs.ChangeLemmas.{paged}
use Rattle.wf_flat.proofs.state.Flat.give_page.Goals as goal

pub returns : goal.returns
returns c =
    let len : length c.give_in.new.pages ≡ c.self.inside.pages.len = omega arith in
    let e = with_items_is c.self.inside.pages c.give_in.new.pages len ∙ (rw (c.deref_mut.ensures.value, c.last_writes-last_writes.ensures, ← c.self.view_is) at c.give_in.ensures) in
    rw (← c.self.view_is) (ap (λ (pages : List PageState). paged (the_view c.self.inside) pages) e)
