use Rattle.std.proofs.Common.{◌∙◌, sym, ap, get_or}
use Rattle.std.specs.Prelude.{option_copied}
use Rattle.std.proofs.lemmas.Option.{slice_get-get_or}
use Rattle.slab.specs.Slab.{get}
use Rattle.wf_views.specs.declared.views.Place.{Place}
use Rattle.wf_views.specs.Views.{ViewsValue, view_of}
use Rattle.wf_views.proofs.KeptLemmas.{view_found}
use Rattle.wf_views.proofs.ChangeLemmas.{none_found}
use Rattle.wf_views.proofs.views.Views.find.Goals as goal

pub returns-in_err-at : goal.returns-in_err-at
returns-in_err-at c =
    ap option_copied c.from_residual.ensures
    ∙ sym (none_found c.args.self.now c.self.inside.slab c.self.inside.places.items c.deref.result.now c.self.inside.last c.self.inside.room c.args.generation c.self.view_is c.self.invariant.at c.deref.ensures.value c.in_err-at.ensures)

pub returns : goal.returns
returns c =
    let ps = c.self.inside.places.items in
    let i = c.in_ok-at.at in
    let f = rw c.deref.ensures.value at c.in_ok-at.ensures in
    let here = f.1 ∙ slice_get-get_or ps i c.index-place.result.now f.0 in
    c.get.ensures ∙ ap (λ (p : Place). get c.self.inside.slab p.key) c.index-place.ensures
    ∙ sym (view_found c.self.inside.slab ps c.args.generation (get_or ps i c.index-place.result.now) c.self.invariant.at here)
    ∙ ap (λ (v : ViewsValue). view_of v c.args.generation) c.self.view_is
