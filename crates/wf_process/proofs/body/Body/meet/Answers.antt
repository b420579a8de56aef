use Rattle.std.proofs.Common.{sym, subst}
use Rattle.wf_process.specs.Bodies.{BodyValue}
use Rattle.wf_process.specs.Meeting.{CanMeetPage}
use Rattle.wf_process.proofs.MeetingLemmas.{can_plan_meeting, met_then, pieces_can}
use Rattle.wf_process.proofs.body.Body.meet.Goals as goal

pub sync-requires : goal.sync-requires
sync-requires c =
    let can = subst (λ (b : BodyValue). CanMeetPage b c.args.generation c.args.page) (sym c.self.view_is) c.requires in
    can_plan_meeting _ c.args.generation c.args.page can

pub carry_out-requires-clause-pieces : goal.carry_out-requires-clause-pieces
carry_out-requires-clause-pieces c =
    let can = subst (λ (b : BodyValue). CanMeetPage b c.args.generation c.args.page) (sym c.self.view_is) c.requires in
    pieces_can _ c.args.generation c.args.page can c.sync.new.self.records c.in_ok-plan.plan c.in_ok-plan.ensures.alike c.in_ok-plan.ensures.plan c.len-rising.ensures.rising c.in_ok-plan.ensures.room

pub returns-clause-met : goal.returns-clause-met
returns-clause-met c =
    let can = subst (λ (b : BodyValue). CanMeetPage b c.args.generation c.args.page) (sym c.self.view_is) c.requires in
    met_then _ c.args.generation c.args.page can c.sync.new.self.records c.in_ok-plan.plan c.in_ok-plan.ensures.alike c.in_ok-plan.ensures.plan c.len-rising.ensures.rising c.carry_out.new.words c.carry_out.new.records c.carry_out.ensures
    c.args.hart c.args.self.now c.leave.new.self c.self.view_is c.leave.ensures
