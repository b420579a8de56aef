use Rattle.std.proofs.Common.{◌≡◌, ◌∙◌, ◌+◌, None, sym, ap, subst, get_or, arith, vec_capacity}
use Rattle.std.proofs.lemmas.Option.{slice_get-get_or}
use Rattle.std.specs.Prelude.{OnSome}
use Rattle.slab.specs.Slab.{get, Updates, slab_len}
use Rattle.wf_views.specs.declared.views.Place.{Place}
use Rattle.wf_views.specs.Views.{ViewsValue, view_of}
use Rattle.wf_views.proofs.KeptLemmas.{seen, at_nth, view_found, kept_removed, views_without}
use Rattle.wf_views.proofs.KeyLemmas.{key_of_found}
use Rattle.wf_views.specs.Kept.{place_number, AreViews}
use Rattle.wf_views.proofs.ChangeLemmas.{none_found, none_less, one_less}
use Rattle.wf_views.proofs.views.Views.remove.Goals as goal

pub returns-in_err-at-clause-value : goal.returns-in_err-at-clause-value
returns-in_err-at-clause-value c =
    c.from_residual.ensures
    ∙ sym (none_found c.args.self.now c.self.inside.slab c.self.inside.places.items c.deref.result.now c.self.inside.last c.self.inside.room c.args.generation c.self.view_is c.self.invariant.at c.deref.ensures.value c.in_err-at.ensures)

pub returns-in_err-at-clause-rest : goal.returns-in_err-at-clause-rest
returns-in_err-at-clause-rest c =
    none_less c.args.self.now c.self.inside.slab c.self.inside.places.items c.deref.result.now c.self.inside.last c.self.inside.room c.args.generation c.self.view_is c.self.invariant.at c.deref.ensures.value c.in_err-at.ensures

pub invariant_of-self : goal.invariant_of-self
invariant_of-self c =
    let ps = c.self.inside.places.items in
    let i = c.in_ok-at.at in
    let p = c.remove-place.result in
    let f = rw c.deref.ensures.value at c.in_ok-at.ensures in
    let u = subst (λ (q : Place). Updates c.self.inside.slab c.try_remove.new.self q.key None) c.remove-place.ensures.value c.try_remove.ensures.updates in
    let v = seen (get c.self.inside.slab (get_or ps i p).key) (get_or ps i p).generation (at_nth c.self.inside.slab ps i p c.self.invariant.at f.0) in
    let is = c.try_remove.ensures.value ∙ ap (λ (q : Place). get c.self.inside.slab q.key) c.remove-place.ensures.value ∙ v.1 in
    let len = subst (λ o. OnSome o (slab_len c.try_remove.new.self + 1 ≡ slab_len c.self.inside.slab)) is c.try_remove.ensures.len in
    subst (AreViews c.try_remove.new.self c.remove-place.new.self.items c.self.inside.last c.self.inside.room) (sym c.remove-place.ensures.capacity)
    (kept_removed c.self.inside.slab c.try_remove.new.self ps c.remove-place.new.self.items c.self.inside.last c.self.inside.room (vec_capacity c.self.inside.places) i p c.self.invariant f.0 u c.remove-place.ensures.items (omega (arith, len)) c.try_remove.ensures.capacity (omega (arith, c.remove-place.ensures.len)))

pub returns-clause-value : goal.returns-clause-value
returns-clause-value c =
    let ps = c.self.inside.places.items in
    let i = c.in_ok-at.at in
    let f = rw c.deref.ensures.value at c.in_ok-at.ensures in
    let here = f.1 ∙ slice_get-get_or ps i c.remove-place.result f.0 in
    c.try_remove.ensures.value ∙ ap (λ (p : Place). get c.self.inside.slab p.key) c.remove-place.ensures.value
    ∙ sym (view_found c.self.inside.slab ps c.args.generation (get_or ps i c.remove-place.result) c.self.invariant.at here)
    ∙ ap (λ (v : ViewsValue). view_of v c.args.generation) c.self.view_is

pub returns-clause-rest : goal.returns-clause-rest
returns-clause-rest c =
    let ps = c.self.inside.places.items in
    let i = c.in_ok-at.at in
    let p = c.remove-place.result in
    let f = rw c.deref.ensures.value at c.in_ok-at.ensures in
    let here = f.1 ∙ slice_get-get_or ps i p f.0 in
    let g = key_of_found place_number ps c.args.generation (get_or ps i p) here in
    let u = subst (λ (q : Place). Updates c.self.inside.slab c.try_remove.new.self q.key None) c.remove-place.ensures.value c.try_remove.ensures.updates in
    one_less c.args.self.now _ _ c.self.inside.last c.self.inside.room c.args.generation c.self.view_is
    (views_without c.self.inside.slab c.try_remove.new.self ps c.remove-place.new.self.items i c.args.generation p c.self.invariant.at c.self.invariant.rising f.0 g u c.remove-place.ensures.items)
