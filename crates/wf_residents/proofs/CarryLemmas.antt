-- Plans of moves and deletes that are carried out, and the room that a move takes.
use Rattle.std.proofs.Common.{◌≡◌, List, map, sym, ap, subst, ◌∙◌}
use Rattle.wf_outside.specs.Lists.{IsRising}
use Rattle.wf_frames.specs.Layout.{WordsValue}
use Rattle.wf_views.specs.declared.plan.Change.TheVariants.{Dead}
use Rattle.wf_views.specs.declared.plan.Piece.{Piece}
use Rattle.wf_views.specs.declared.plan.Plan.{Plan}
use Rattle.wf_views.specs.declared.records.Records.{Records}
use Rattle.wf_views.specs.Views.{generation_number}
use Rattle.wf_effects.specs.Effects.{generation_dead, hart_moved}
use Rattle.wf_homes.specs.Homes.{homes_in}
use Rattle.wf_homes.specs.Stands.{StandsFor}
use Rattle.wf_space.specs.Changes.{MayNote, with_change, with_changes}
use Rattle.wf_space.specs.Pieces.{ArePerformed}
use Rattle.wf_residents.specs.Carried.{IsDeleted, IsDeletionNow, IsMigrated, IsMigrationNow}
use Rattle.wf_residents.specs.Plans.{migration_changes}
use Rattle.wf_residents.proofs.DeadLemmas.{dead_standing}
use Rattle.wf_residents.proofs.EndViewLemmas.{dead_may}
use Rattle.wf_residents.proofs.MoveLemmas.{move_may, move_standing}

-- a move
pub migration_may : (words : WordsValue) (r : Records) (plan : Plan) → IsMigrationNow words r plan → IsRising (map generation_number r.views.views) → MayNote r plan.changes.items
migration_may words r plan now up = subst (MayNote r) (sym now.is_plan.changes) ((move_may words r now.homes now.state now.migration now.stands up now.may).1 now.room)

pub migration_carried : (words new : WordsValue) (r q : Records) (plan : Plan) → IsRising (map generation_number r.views.views) → ArePerformed words (with_changes r plan.changes.items) plan.pieces.items new q → IsMigrated words r plan q
migration_carried words new r q plan up performed = λ m homes s st may is. (
    let one : (new ≡ words) × (q ≡ with_changes r plan.changes.items) = subst (λ (pieces : List Piece). ArePerformed words (with_changes r plan.changes.items) pieces new q) is.pieces performed in
    let two : q ≡ with_changes r (migration_changes r m) = one.1 ∙ ap (with_changes r) is.changes in
    subst (λ (x : Records). StandsFor words x homes (hart_moved s m.hart m.generation)) (sym two) (move_standing words r homes s m st up may)
    )

-- a delete
pub deletion_may : (words : WordsValue) (r : Records) (plan : Plan) → IsDeletionNow words r plan → MayNote r plan.changes.items
deletion_may words r plan now = subst (MayNote r) (sym now.is_plan.changes) (dead_may words r now.homes now.state now.generation now.stands now.may)

pub deletion_carried : (words new : WordsValue) (r q : Records) (plan : Plan) → ArePerformed words (with_changes r plan.changes.items) plan.pieces.items new q → IsDeleted words r plan q
deletion_carried words new r q plan performed = λ g homes s st may again is. (
    let one : (new ≡ words) × (q ≡ with_changes r plan.changes.items) = subst (λ (pieces : List Piece). ArePerformed words (with_changes r plan.changes.items) pieces new q) is.pieces performed in
    let two : q ≡ with_change r (Dead g) = one.1 ∙ ap (with_changes r) is.changes in
    subst (λ (x : Records). StandsFor words x (homes_in homes (generation_dead s g)) (generation_dead s g)) (sym two) (dead_standing words r homes s g st may again).0
    )
