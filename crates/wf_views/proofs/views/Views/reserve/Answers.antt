use Rattle.std.proofs.Common.{rules, arith, vec_capacity}
use Rattle.wf_views.proofs.KeptLemmas.{kept_reserved, len_reserved}
use Rattle.wf_views.proofs.views.Views.reserve.Goals as goal

pub invariant_of-self : goal.invariant_of-self
invariant_of-self c =
    kept_reserved c.self.inside.slab c.reserve.new.self c.self.inside.places.items _ c.self.inside.last c.self.inside.room (vec_capacity c.self.inside.places) c.self.inside.room _ c.self.invariant c.reserve.ensures.rest_kept (search rules)
    (omega (arith, c.self.invariant.slab_room, len_reserved c.self.inside.slab c.reserve.new.self c.reserve.ensures.rest_kept, c.reserve.ensures.capacity)) (omega (arith, c.self.invariant.list_room))

pub invariant_of-self-in_err-reserve-2 : goal.invariant_of-self-in_err-reserve-2
invariant_of-self-in_err-reserve-2 c =
    kept_reserved c.self.inside.slab c.reserve.new.self c.self.inside.places.items _ c.self.inside.last c.self.inside.room (vec_capacity c.self.inside.places) c.self.inside.room _ c.self.invariant c.reserve.ensures.rest_kept (search rules)
    (omega (arith, c.self.invariant.slab_room, len_reserved c.self.inside.slab c.reserve.new.self c.reserve.ensures.rest_kept, c.reserve.ensures.capacity)) (omega (arith, c.self.invariant.list_room, c.reserve-2.ensures.len, c.reserve-2.ensures.capacity))

pub invariant_of-self-2 : goal.invariant_of-self-2
invariant_of-self-2 c =
    kept_reserved c.self.inside.slab c.reserve.new.self c.self.inside.places.items _ c.self.inside.last c.self.inside.room (vec_capacity c.self.inside.places) c.args.room _ c.self.invariant c.reserve.ensures.rest_kept (search rules)
    (omega (arith, c.in_ok-reserve.ensures.room)) (omega (arith, c.reserve-2.ensures.len, c.in_ok-reserve-2.ensures.ok))
