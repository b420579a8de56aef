use Rattle.wf_mapped.proofs.AskLemmas.{pages_mapped, plan_current}
use Rattle.wf_mapped.proofs.carrying.map_pages.Goals as goal

pub carry_map-requires : goal.carry_map-requires
carry_map-requires c =
    plan_current c.args.words.now c.args.records.now c.plan_map.new.records c.args.mapping c.in_ok-plan.plan c.requires c.in_ok-plan.ensures.alike c.in_ok-plan.ensures.room c.in_ok-plan.ensures.plan c.in_ok-plan.ensures.fault c.views_rise.ensures

pub returns-clause-mapped : goal.returns-clause-mapped
returns-clause-mapped c =
    pages_mapped c.args.words.now c.carry_map.new.words c.args.records.now c.plan_map.new.records c.carry_map.new.records c.args.mapping c.in_ok-plan.plan c.requires c.in_ok-plan.ensures.alike c.in_ok-plan.ensures.plan c.in_ok-plan.ensures.fault c.views_rise.ensures c.carry_map.ensures.carried
