-- What holds of each job: its plan can be carried out, and what comes of it.
use Rattle.std.proofs.Common.{◌≡◌, ◌<◌, ◌≤◌, ◌+◌, ◌*◌, ◌%◌, ◌^◌, ◌==◌, ◌&&◌, ℕ, zero, suc, List, [], ◌∷◌, Bool, true, false, Some, None, map, refl, sym, ap, subst, ◌∙◌, inl, inr, arith, nat_lt, if◌then◌else◌}
use Rattle.std.specs.Prelude.{nat_le}
use Rattle.std.specs.List.{AllByRecursion, range_with_len}
use Rattle.std.proofs.lemmas.Bool.Decides.{nat_tests}
use Rattle.wf_outside.specs.declared.refusal.Refusal.TheVariants.{Argument}
use Rattle.wf_outside.specs.Lists.{IsRising}
use Rattle.wf_outside.specs.Pages.{page_of}
use Rattle.wf_frames.specs.Layout.{WordsValue}
use Rattle.wf_views.specs.declared.plan.Change.{Change}
use Rattle.wf_views.specs.declared.plan.Piece.{Piece}
use Rattle.wf_views.specs.declared.plan.Plan.{Plan}
use Rattle.wf_views.specs.declared.records.Records.{Records}
use Rattle.wf_views.specs.Views.{generation_number}
use Rattle.wf_flat.specs.State.{FlatState, PageState}
use Rattle.wf_effects.specs.Effects.{going_in, pages_going}
use Rattle.wf_homes.specs.Homes.{Homes}
use Rattle.wf_homes.specs.Stands.{StandsFor}
use Rattle.wf_homes.proofs.ListLemmas.{true_or_false}
use Rattle.wf_verdict.specs.Verdict.{bad_range, pages_from}
use Rattle.wf_space.specs.declared.job.Job.{Job}
use Rattle.wf_space.specs.declared.job.Job.TheVariants.{Sync, Unmap}
use Rattle.wf_space.specs.Carried.{IsCarriedOut, IsCurrent, JobsCanBePlanned, MayBeDone, StandAlike, StandsAfter}
use Rattle.wf_space.specs.Changes.{MayNote, with_changes}
use Rattle.wf_space.specs.Jobs.{IsPlanOf, RecordsHaveRoom, with_room_for}
use Rattle.wf_space.specs.Pieces.{ArePerformed, MayPerformAll}
use Rattle.wf_space.specs.Unmapping.{CanUnmap, each_done, homes_left, page_going, state_left, unmap_changes, unmap_pieces}
use Rattle.wf_space.proofs.GoingLemmas.{gone_if}
use Rattle.wf_space.proofs.MayLemmas.{unmap_may}
use Rattle.wf_space.proofs.MeetLemmas.{can_sync, carried, changes_may, pieces_may}
use Rattle.wf_space.proofs.RoomLemmas.{roomy_stands}
use Rattle.wf_space.proofs.UnmapLemmas.{unmap_standing}

-- the pages of a range rise
range_above : (a n m : ℕ) → m < a → AllByRecursion (λ k. m < k) (range_with_len a n)
range_above a zero m lt = tt
range_above a (suc n) m lt = (lt, range_above (a + 1) n m (omega arith))

range_rising : (a n : ℕ) → IsRising (range_with_len a n)
range_rising a zero = tt
range_rising a (suc n) = (range_above (a + 1) n a (omega arith), range_rising (a + 1) n)

-- all pages of a range are Going
none_in : (first : ℕ) (ps : List PageState) → map (going_in first 0) ps ≡ ps
none_in first [] = refl
none_in first (p ∷ ps) = elim (true_or_false (nat_le first p.number)) [
  | inl t ↦ (let f : nat_lt p.number (first + 0) ≡ false = grind (arith, nat_tests) in rw (t, f) (ap (λ (qs : List PageState). p ∷ qs) (none_in first ps)))
  | inr t ↦ (rw t (ap (λ (qs : List PageState). p ∷ qs) (none_in first ps)))
]

one_in : (first n : ℕ) (p : PageState) → going_in (first + 1) n (gone_if first p) ≡ going_in first (suc n) p
one_in first n p = elim (true_or_false (p.number == first)) [
  | inl t ↦ (
      let a : nat_le (first + 1) p.number ≡ false = grind (arith, nat_tests) in
      let b : nat_le first p.number ≡ true = grind (arith, nat_tests) in
      let c : nat_lt p.number (first + suc n) ≡ true = grind (arith, nat_tests) in
      rw (t, a, b, c) refl
      )
  | inr t ↦ (elim (true_or_false (nat_le first p.number)) [
    | inl b ↦ (
        let a : nat_le (first + 1) p.number ≡ true = grind (arith, nat_tests) in
        let e : first + 1 + n ≡ first + suc n = omega arith in
        let c : nat_lt p.number (first + 1 + n) ≡ nat_lt p.number (first + suc n) = ap (nat_lt p.number) e in
        rw (t, a, b, c) refl
        )
    | inr b ↦ (
        let a : nat_le (first + 1) p.number ≡ false = grind (arith, nat_tests) in
        rw (t, a, b) refl
        )
  ])
]

all_in : (first n : ℕ) (ps : List PageState) → map (going_in (first + 1) n) (map (gone_if first) ps) ≡ map (going_in first (suc n)) ps
all_in first n [] = refl
all_in first n (p ∷ ps) =
    ap (λ (q : PageState). q ∷ map (going_in (first + 1) n) (map (gone_if first) ps)) (one_in first n p) ∙ ap (λ (qs : List PageState). going_in first (suc n) p ∷ qs) (all_in first n ps)

going_all : (n first : ℕ) (s : FlatState) → each_done page_going (range_with_len first n) s ≡ pages_going s first n
going_all zero first s = ap (λ (ps : List PageState). let t : FlatState = record s { pages = ps } in t) (sym (none_in first s.pages))
going_all (suc n) first s =
    going_all n (first + 1) (page_going first s) ∙ ap (λ (ps : List PageState). let t : FlatState = record s { pages = ps } in t) (all_in first n s.pages)

-- a range that is not bad is one of addresses
range_low : (va pages : ℕ) → bad_range va pages ≡ None → page_of va + pages ≤ 0x4000000
range_low va pages e = elim (true_or_false (nat_le (va + 4096 * pages) (2 ^ 38))) [
  | inl t ↦ (let le : va + 4096 * pages ≤ 2 ^ 38 = grind (arith, nat_tests) in omega arith)
  | inr t ↦ absurd (refused ((va % 4096 == 0) && nat_le 1 pages && nat_le pages 256) (nat_le (va + 4096 * pages) (2 ^ 38)) t e)
]
  where
    refused : (a b : Bool) → b ≡ false → (if a && b then None else Some Argument) ≡ None → ⊥
    refused true b f h = (let k : Some Argument ≡ None = rw f at h in absurd cc)
    refused false b f h = absurd cc

unmap_can : (words : WordsValue) (r : Records) (homes : Homes) (s : FlatState) (va pages : ℕ) → StandsFor words r homes s → MayBeDone s (Unmap va pages) → IsRising (map generation_number r.views.views) → CanUnmap words r (pages_from va pages)
unmap_can words r homes s va pages st may up = unmap_may words r homes s (pages_from va pages) st may.1 (range_rising (page_of va) pages) up

job_changes : (words : WordsValue) (r : Records) (homes : Homes) (s : FlatState) (job : Job) (plan : Plan) → StandsFor words r homes s → MayBeDone s job → IsPlanOf r job plan → RecordsHaveRoom r job → IsRising (map generation_number r.views.views) → MayNote r plan.changes.items
job_changes words r homes s (Unmap va pages) plan st may is room up = subst (MayNote r) (sym is.changes) (unmap_can words r homes s va pages st may up).changes
job_changes words r homes s (Sync g page) plan st may is room up = changes_may words r homes s g page st may plan is room

job_pieces : (words : WordsValue) (r : Records) (homes : Homes) (s : FlatState) (job : Job) (plan : Plan) → StandsFor words r homes s → MayBeDone s job → IsPlanOf r job plan → IsRising (map generation_number r.views.views) → MayPerformAll words (with_changes r plan.changes.items) plan.pieces.items
job_pieces words r homes s (Unmap va pages) plan st may is up =
    subst (λ (changes : List Change). MayPerformAll words (with_changes r changes) plan.pieces.items) (sym is.changes)
    (subst (MayPerformAll words (with_changes r (unmap_changes (pages_from va pages)))) (sym is.pieces) (unmap_can words r homes s va pages st may up).pieces)
job_pieces words r homes s (Sync g page) plan st may is up = pieces_may words r homes s g page st may plan is

job_done : (words : WordsValue) (r : Records) (homes : Homes) (s : FlatState) (job : Job) (plan : Plan) → StandsFor words r homes s → MayBeDone s job → IsPlanOf r job plan → IsRising (map generation_number r.views.views)
    → (new : WordsValue) (q : Records) → ArePerformed words (with_changes r plan.changes.items) plan.pieces.items new q → StandsAfter words new q homes s job
job_done words r homes s (Unmap va pages) plan st may is up new q performed =
    let ps : List ℕ = pages_from va pages in
    let one : ArePerformed words (with_changes r plan.changes.items) (unmap_pieces r ps) new q = subst (λ (pieces : List Piece). ArePerformed words (with_changes r plan.changes.items) pieces new q) is.pieces performed in
    let two : ArePerformed words (with_changes r (unmap_changes ps)) (unmap_pieces r ps) new q = subst (λ (changes : List Change). ArePerformed words (with_changes r changes) (unmap_pieces r ps) new q) is.changes one in
    subst (λ (t : FlatState). StandsFor new q (homes_left words s.limits.last_birth homes ps) (state_left words homes t ps)) (going_all pages (page_of va) s)
    (unmap_standing words new r q homes s ps st may.1 (range_rising (page_of va) pages) up two)
job_done words r homes s (Sync g page) plan st may is up new q performed = λ h. carried words r homes s g page st may plan is new q performed h

pub current_changes : (words : WordsValue) (r : Records) (plan : Plan) → IsCurrent words r plan → IsRising (map generation_number r.views.views) → MayNote r plan.changes.items
current_changes words r plan c up = job_changes words r c.homes c.state c.job plan c.stands c.may c.is_plan c.room up

pub current_pieces : (words : WordsValue) (r : Records) (plan : Plan) → IsCurrent words r plan → IsRising (map generation_number r.views.views) → MayPerformAll words (with_changes r plan.changes.items) plan.pieces.items
current_pieces words r plan c up = job_pieces words r c.homes c.state c.job plan c.stands c.may c.is_plan up

pub carried_out : (words new : WordsValue) (r q : Records) (plan : Plan) → IsRising (map generation_number r.views.views) → ArePerformed words (with_changes r plan.changes.items) plan.pieces.items new q → IsCarriedOut words r plan new q
carried_out words new r q plan up performed = λ job homes s st may is. job_done words r homes s job plan st may is up new q performed

-- what words and records stand for stays where room is made
pub room_alike : (r q : Records) (job : Job) → q ≡ with_room_for r job → StandAlike r q
room_alike r q (Unmap va pages) e = λ words homes s st. subst (λ (p : Records). StandsFor words p homes s) (sym e) st
room_alike r q (Sync g page) e = λ words homes s st. subst (λ (p : Records). StandsFor words p homes s) (sym e) (roomy_stands words r homes s g 1 st)

pub can_plan : JobsCanBePlanned
can_plan words r homes s (Unmap va pages) st may = range_low va pages may.0
can_plan words r homes s (Sync g page) st may = can_sync words r homes s g page st may
