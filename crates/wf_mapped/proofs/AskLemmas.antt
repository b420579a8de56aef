-- A mapping that is asked for, planned and carried out.
use Rattle.std.proofs.Common.{◌≡◌, None, sym, ap, subst, map}
use Rattle.wf_outside.specs.Lists.{IsRising}
use Rattle.wf_frames.specs.Layout.{WordsValue}
use Rattle.wf_views.specs.declared.plan.Plan.{Plan}
use Rattle.wf_views.specs.declared.records.Records.{Records}
use Rattle.wf_views.specs.Views.{generation_number}
use Rattle.wf_homes.specs.Stands.{StandsFor}
use Rattle.wf_mapping.specs.declared.layout.Mapping.{Mapping}
use Rattle.wf_mapping.specs.Plans.{IsMapPlan}
use Rattle.wf_mapping.specs.Refusals.{refusal_in}
use Rattle.wf_mapping.specs.Room.{DifferInRoom, with_map_room}
use Rattle.wf_mapping.proofs.RoomLemmas.{room_alike}
use Rattle.wf_mapped.proofs.AllowedLemmas.{may_be_done}
use Rattle.wf_mapped.proofs.RoomLemmas.{room_made}
use Rattle.wf_mapped.specs.Mapped.{CanAskForMap, HaveMapRoom, IsCurrentMap, IsMapCarriedOut, PagesAreMapped}
use Rattle.wf_mapped.specs.Raising.{CanBeRaised}

-- frames have no room
pub raised_alike : (r q : Records) → DifferInRoom r q → CanBeRaised r.frames → CanBeRaised q.frames
raised_alike r q differ all = subst CanBeRaised (sym (ap (λ (x : Records). x.frames) differ)) all

-- the plan that is made is current
pub plan_current : (words : WordsValue) (r q : Records) (mapping : Mapping) (plan : Plan) → CanAskForMap words r mapping → DifferInRoom r q → q ≡ with_map_room r mapping → IsMapPlan q mapping plan → refusal_in q mapping ≡ None → IsRising (map generation_number q.views.views) → IsCurrentMap words q plan
plan_current words r q mapping plan ask differ made is none up =
    let st : StandsFor words q ask.homes ask.state = room_alike r q differ words ask.homes ask.state ask.stands in
    record {
      mapping = mapping;
      homes = ask.homes;
      state = ask.state;
      stands = st;
      tidy = ask.takes.tidy;
      may = may_be_done words q ask.homes ask.state mapping st up ask.takes ask.can none;
      is_plan = is;
      room = subst (λ (x : Records). HaveMapRoom x mapping) (sym made) (room_made r mapping);
      raised = raised_alike r q differ ask.raised;
      births = ask.births;
    }

pub pages_mapped : (words new : WordsValue) (r q p : Records) (mapping : Mapping) (plan : Plan) → CanAskForMap words r mapping → DifferInRoom r q → IsMapPlan q mapping plan → refusal_in q mapping ≡ None → IsRising (map generation_number q.views.views) → IsMapCarriedOut words q plan new p
    → PagesAreMapped words r mapping new p
pages_mapped words new r q p mapping plan ask differ is none up carried homes s st takes =
    let now : StandsFor words q homes s = room_alike r q differ words homes s st in
    carried mapping homes s now takes.tidy (may_be_done words q homes s mapping now up takes ask.can none) (raised_alike r q differ ask.raised) is
