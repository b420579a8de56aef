use Rattle.std.proofs.Common.{◌∙◌, ap, vec_capacity}
use Rattle.wf_views.specs.contracts.view.View.{the_view}
use Rattle.wf_views.specs.Lists.{number_removed}
use Rattle.wf_views.specs.Views.{ViewValue, without_resident}
use Rattle.wf_views.proofs.KeptLemmas.{kept_changed}
use Rattle.wf_views.proofs.ChangeLemmas.{residents_are, one_changes}
use Rattle.wf_views.proofs.views.Views.release.Goals as goal

pub invariant_of-self : goal.invariant_of-self
invariant_of-self c =
    kept_changed c.self.inside.slab c.self.inside.places.items c.self.inside.last c.self.inside.room (vec_capacity c.self.inside.places) c.key_of-key.result c.index_mut-view.result.now _ c.self.invariant c.index_mut-view.ensures.value
    (ap (λ (v : ViewValue). v.generation) c.view.view_is)

pub returns : goal.returns
returns c =
    let e = c.remove.ensures ∙ ap (λ n. number_removed n c.view.inside.residents) c.from.ensures in
    let w = residents_are (the_view c.view.inside) c.index_mut-view.result.now c.remove.new.self (number_removed c.args.hart) c.view.view_is e in
    one_changes c.args.self.now c.self.inside.slab c.self.inside.places.items c.deref.result.now c.self.inside.last c.self.inside.room c.args.generation c.key_of-key.result c.index_mut-view.result.now _ (without_resident c.args.hart)
    c.self.view_is c.self.invariant.at c.key_of-key.ensures c.deref.ensures.value c.index_mut-view.ensures.value w
