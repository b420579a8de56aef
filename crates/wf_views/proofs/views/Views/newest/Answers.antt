use Rattle.std.proofs.Common.{◌≡◌, ◌∙◌, ◌-◌, Some, length, slice_get, sym, ap, List}
use Rattle.std.specs.List.{last_or}
use Rattle.wf_views.specs.declared.views.Place.{Place}
use Rattle.wf_views.specs.Views.{ViewsValue, newest_of}
use Rattle.wf_views.proofs.KeptLemmas.{generations_are, last_is}
use Rattle.wf_views.proofs.views.Views.newest.Goals as goal

pub returns-in-Some : goal.returns-in-Some
returns-in-Some c =
    let ps = c.self.inside.places.items in
    let here : slice_get ps (length ps - 1) ≡ Some c.in-Some.place.now = ap (λ (qs : List Place). slice_get qs (length qs - 1)) (sym c.deref.ensures.value) ∙ sym c.in-Some.ensures.value in
    ap (λ (v : ViewsValue). newest_of v) (sym c.self.view_is)
    ∙ ap (last_or c.self.inside.last) (generations_are c.self.inside.slab ps c.self.invariant.at)
    ∙ last_is ps c.self.inside.last c.in-Some.place.now here
