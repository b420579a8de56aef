-- What words and records stand for after the whole call of a job.
use Rattle.std.specs.Prelude.{ℕ, true, false, Some, None, ◌≡◌, ◌<◌, IsSomeAnd}
use Rattle.std.specs.List.{AllByRecursion}
use Rattle.wf_outside.specs.declared.sizes.TheConstants.{ADDRESS_PAGES}
use Rattle.wf_outside.specs.Pages.{page_of}
use Rattle.wf_frames.specs.Layout.{WordsValue}
use Rattle.wf_views.specs.declared.plan.Plan.{Plan}
use Rattle.wf_views.specs.declared.records.Records.{Records}
use Rattle.wf_flat.specs.declared.state.Stage.TheVariants.{Here}
use Rattle.wf_flat.specs.Changes.{page_met}
use Rattle.wf_flat.specs.Memory.{data_in, has_met}
use Rattle.wf_flat.specs.State.{FlatState}
use Rattle.wf_effects.specs.Effects.{pages_going}
use Rattle.wf_effects.specs.Generations.{is_live}
use Rattle.wf_homes.specs.Homes.{Homes, TextOf, has_tenant}
use Rattle.wf_homes.specs.Stands.{StandsFor}
use Rattle.wf_verdict.specs.Verdict.{bad_range, pages_from}
use Rattle.wf_space.specs.declared.fault.SpaceFault.{SpaceFault}
use Rattle.wf_space.specs.declared.fault.SpaceFault.TheVariants.{Memory, Refused}
use Rattle.wf_space.specs.declared.job.Job.{Job}
use Rattle.wf_space.specs.declared.job.Job.TheVariants.{Sync, Unmap}
use Rattle.wf_space.specs.Jobs.{CanDo, IsPlanOf, RecordsHaveRoom, refusal_in}
use Rattle.wf_space.specs.Unmapping.{MayUnmap, homes_left, state_left}

-- why no plan of a job was made: memory ran out, or this is what the job is refused for
abbrev pub IsSpaceFault : Records → Job → SpaceFault → Type 0
IsSpaceFault r job Memory = Unit {0}
IsSpaceFault r job (Refused reason) = refusal_in r job ≡ Some reason

-- In a state a generation may meet a page of data: the page is Here and none of the generation's
-- text; the generation lives and hasn't met it; and pages are those of addresses.
pub record MaySync (s : FlatState) (generation page : ℕ) : Type 0 where
  pub here : IsSomeAnd (data_in s.pages page) (λ p. p.stage ≡ Here)
  pub no_text : has_tenant s (TextOf generation page) ≡ false
  pub live : is_live s generation ≡ true
  pub new : has_met s.met generation page ≡ false
  pub low : AllByRecursion (λ p. p.number < ADDRESS_PAGES) s.pages

-- a job may be done in a state: an unmap of a range of pages that is none of a bad one, which may be
-- unmapped at once; or a generation may meet a page
abbrev pub MayBeDone : FlatState → Job → Type 0
MayBeDone s (Unmap va pages) = (bad_range va pages ≡ None) × MayUnmap s (pages_from va pages)
MayBeDone s (Sync generation page) = MaySync s generation page

-- Words and records stand for the state after a job's call, with the homes after it; the words
-- before it tell which frames wear out. Pages that are unmapped were Going and are gone, one after
-- another; and a generation meets a page by the call of any hart, where all homes stay.
abbrev pub StandsAfter : WordsValue → WordsValue → Records → Homes → FlatState → Job → Type 0
StandsAfter old words r homes s (Unmap va pages) =
    StandsFor words r (homes_left old s.limits.last_birth homes (pages_from va pages))
    (state_left old homes (pages_going s (page_of va) pages) (pages_from va pages))
StandsAfter old words r homes s (Sync generation page) =
    (h : ℕ) → StandsFor words r homes (page_met s h generation page)

-- a plan is that of a job that may be done now, in the state that words and records stand for, and
-- there is room for its changes
pub record IsCurrent (words : WordsValue) (r : Records) (plan : Plan) : Type 0 where
  pub job : Job
  pub homes : Homes
  pub state : FlatState
  pub stands : StandsFor words r homes state
  pub may : MayBeDone state job
  pub is_plan : IsPlanOf r job plan
  pub room : RecordsHaveRoom r job

-- where a plan was carried out, words and records stand for the state after the call of the job
-- whose plan it is
abbrev pub IsCarriedOut : WordsValue → Records → Plan → WordsValue → Records → Type 0
IsCarriedOut old r plan new q =
    (job : Job) (homes : Homes) (s : FlatState) → StandsFor old r homes s → MayBeDone s job
    → IsPlanOf r job plan → StandsAfter old new q homes s job

-- whatever words and records stand for, they do so still with other records
abbrev pub StandAlike : Records → Records → Type 0
StandAlike r q =
    (words : WordsValue) (homes : Homes) (s : FlatState) → StandsFor words r homes s
    → StandsFor words q homes s

-- a job that may be done in the state that words and records stand for can be planned by the records
abbrev pub JobsCanBePlanned : Type 0
JobsCanBePlanned =
    (words : WordsValue) (r : Records) (homes : Homes) (s : FlatState) (job : Job)
    → StandsFor words r homes s → MayBeDone s job → CanDo r job
