use Rattle.std.proofs.Common.{◌≡◌, ◌∙◌, Option, None, rules, sym, subst}
use Rattle.std.specs.Prelude.{MatchResult}
use Rattle.wf_outside.specs.declared.refusal.Refusal.{Refusal}
use Rattle.wf_residents.specs.Refusals.{IsFaultOf}
use Rattle.wf_residents.proofs.RoomLemmas.{room_alike, room_refusal, room_residence, room_to_move}
use Rattle.wf_residents.proofs.migrating.plan_migration.Goals as goal

pub fill_migration-requires-clause-can : goal.fill_migration-requires-clause-can
fill_migration-requires-clause-can c = room_residence c.args.records.now c.prepare_migration.new.records c.args.migration.generation c.args.migration.hart c.in_ok-plan.ensures.made c.requires

pub returns-in_err-fill_migration-clause-fault : goal.returns-in_err-fill_migration-clause-fault
returns-in_err-fill_migration-clause-fault c =
    let same = room_refusal c.args.records.now c.prepare_migration.new.records c.args.migration c.in_ok-plan.ensures.made in
    subst (λ (o : Option Refusal). MatchResult c.from_residual-in_err-fill_migration.result (λ x. o ≡ None) (IsFaultOf o)) same (search rules)

pub returns-in_err-fill_migration-clause-alike : goal.returns-in_err-fill_migration-clause-alike
returns-in_err-fill_migration-clause-alike c = room_alike c.args.records.now c.prepare_migration.new.records c.args.migration.generation c.in_ok-plan.ensures.made

pub returns-clause-room : goal.returns-clause-room
returns-clause-room c = room_to_move c.args.records.now c.prepare_migration.new.records c.args.migration c.in_ok-plan.ensures.made

pub returns-clause-fault : goal.returns-clause-fault
returns-clause-fault c = sym (room_refusal c.args.records.now c.prepare_migration.new.records c.args.migration c.in_ok-plan.ensures.made) ∙ c.in_ok-fill_migration.ensures.refused

pub returns-clause-alike : goal.returns-clause-alike
returns-clause-alike c = room_alike c.args.records.now c.prepare_migration.new.records c.args.migration.generation c.in_ok-plan.ensures.made
