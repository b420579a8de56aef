use Rattle.std.proofs.Common.{sym, ap, vec_capacity, refl, subst}
use Rattle.wf_views.specs.Views.{ViewValue, IsAbove}
use Rattle.wf_views.specs.declared.views.Place.{Place}
use Rattle.wf_views.proofs.KeptLemmas.{kept_added, views_with}
use Rattle.wf_views.proofs.ChangeLemmas.{one_more, above_last, some_room}
use Rattle.wf_views.proofs.views.Views.add.Goals as goal

pub invariant_of-self : goal.invariant_of-self
invariant_of-self c =
    let q : Place = record { generation = c.view.inside.generation; key = c.insert_reserved-key.result } in
    let g = ap (λ (v : ViewValue). v.generation) c.view.view_is in
    let above = above_last c.args.self.now c.reserve.new.self _ c.self.inside.last c.self.inside.room c.args.view.generation _ c.self.view_is c.in_ok-reserve.ensures.ok c.requires in
    kept_added c.self.inside.slab c.insert_reserved-key.new.self c.self.inside.places.items c.push_reserved.new.self.items c.self.inside.last c.self.inside.room (vec_capacity c.self.inside.places) (vec_capacity c.push_reserved.new.self) c.insert_reserved-key.result _ q
    c.self.invariant c.insert_reserved-key.ensures.updates c.insert_reserved-key.ensures.was_vacant refl (sym g) (subst (IsAbove c.self.inside.last) (sym g) above) c.insert_reserved-key.ensures.len c.insert_reserved-key.ensures.capacity c.push_reserved.ensures.items c.push_reserved.ensures.capacity (some_room c.args.self.now c.reserve.new.self _ c.self.inside.last c.self.inside.room c.self.view_is c.in_ok-reserve.ensures.ok)

pub returns-clause-ok : goal.returns-clause-ok
returns-clause-ok c =
    let q : Place = record { generation = c.view.inside.generation; key = c.insert_reserved-key.result } in
    one_more c.args.self.now c.reserve.new.self c.args.view _ _ c.self.inside.last c.self.inside.room c.view.inside.generation c.self.view_is c.in_ok-reserve.ensures.ok
    (views_with c.self.inside.slab c.insert_reserved-key.new.self c.self.inside.places.items c.push_reserved.new.self.items c.insert_reserved-key.result _ q c.self.invariant.at c.insert_reserved-key.ensures.updates c.insert_reserved-key.ensures.was_vacant refl c.push_reserved.ensures.items)
    (ap (λ (v : ViewValue). v.generation) c.view.view_is)
