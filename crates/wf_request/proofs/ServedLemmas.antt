-- Whole calls of the kernel's own actor.
use Rattle.std.proofs.Common.{◌≡◌, ◌<◌, ◌+◌, ◌^◌, ◌++◌, ℕ, List, [], ◌∷◌, Bool, false, Option, Some, None, length, map, refl, sym, subst, ap, ◌∙◌}
use Rattle.std.specs.Prelude.{MatchBool, slice_get}
use Rattle.std.specs.List.{AllByRecursion, filter}
use Rattle.wf_outside.specs.Images.{DeltaValue}
use Rattle.wf_flat.specs.declared.event.Actor.{Actor}
use Rattle.wf_flat.specs.declared.event.Actor.TheVariants.{Kernel}
use Rattle.wf_flat.specs.declared.event.Event.TheVariants.{Enter}
use Rattle.wf_flat.specs.declared.event.Entry.{Entry}
use Rattle.wf_flat.specs.State.{FlatState, HartState, PageState}
use Rattle.wf_flat.specs.Accesses.{is_ending}
use Rattle.wf_flat.specs.Changes.{entered}
use Rattle.wf_flat.specs.Steps.{MayAct, is_inside}
use Rattle.wf_flat.proofs.ListLemmas.{and_some}
use Rattle.wf_verdict.specs.declared.requests.Request.{Request}
use Rattle.wf_verdict.specs.declared.requests.Request.TheVariants.{Clones, Deletes, Patches}
use Rattle.wf_verdict.specs.declared.work.Todo.{Todo}
use Rattle.wf_verdict.specs.declared.work.Todo.TheVariants.{Exactly, Leaves}
use Rattle.wf_verdict.specs.Requests.{IsKernelRequest}
use Rattle.wf_verdict.specs.Verdict.{IsOfRun, IsPatch}
use Rattle.wf_verdict.specs.Work.{done_about}
use Rattle.wf_legal.specs.Calls.{GoesOn, Settling, may_go}
use Rattle.wf_legal.specs.Legal.{Allows, IsLegal, Moment, after, at_rest, end_of}
use Rattle.wf_sound.specs.Laws.{AllowedCanBeMade, EntriesKeepSound, JournalsKeepSound}
use Rattle.wf_sound.specs.Sound.{IsSound, IsSoundPage}
use Rattle.wf_sound.proofs.AllLemmas.{all_get, all_more}
use Rattle.wf_sound.proofs.OwnerLemmas.{delta_there}
use Rattle.wf_service.specs.Adding.{Adds}
use Rattle.wf_service.specs.Calling.{entered_at}
use Rattle.wf_service.specs.Resting.{IsResting, IsSettled}
use Rattle.wf_service.proofs.QuietLemmas.{IsFree, rest_of}
use Rattle.wf_request.specs.Requesting.{CanBeUndone, IsServed, all_done, by_kernel, entries_of, event_of}
use Rattle.wf_request.proofs.WorkLemmas.{AllGo, HasAsked, IsDoneWith, IsWorkFor, but_last, done_with, request_goes, request_work}

-- a request of the kernel's own actor is one of the run
pub request_of_run : (deltas : List DeltaValue) (request : Request) → IsKernelRequest deltas request → AllByRecursion IsPatch deltas → IsOfRun deltas request
request_of_run deltas (Clones generation) may patches = tt
request_of_run deltas (Deletes generation) may patches = tt
request_of_run deltas (Patches patch) may patches =
    let w = delta_there deltas patch may in
    and_some (slice_get deltas patch) IsPatch w.0 w.1 (all_get IsPatch deltas patch w.0 patches w.1)
request_of_run deltas request may patches = absurd may

-- what is done about it can be taken back
pub can_undo : (keeps : EntriesKeepSound) (can : AllowedCanBeMade) (deltas : List DeltaValue) (s : FlatState) (request : Request) (todo : List Todo) → HasAsked deltas s request → AllByRecursion IsFree s.harts → todo ≡ done_about deltas s 0 request → CanBeUndone deltas s todo
can_undo keeps can deltas s request todo asked free is =
    let sound = asked.sound in
    subst (CanBeUndone deltas s) (sym is) (record {
      no_try = free;
      births = all_more (IsSoundPage s.limits s.births) (λ page. page.birth < s.births) (λ page is. is.birth) s.pages sound.state.pages;
      can = (request_goes keeps can deltas s request asked).can;
      maps = but_last request (done_about deltas s 0 request) (request_work deltas s request asked.may);
    })

-- nothing is owed at its Enter, and nothing leaves
owes_none : (pages : List PageState) → AllByRecursion IsSettled pages → map (λ page. page.number) (filter may_go pages) ≡ []
owes_none [] all = refl
owes_none (page ∷ pages) all = rw all.0.0 (owes_none pages all.1)

settled_stays : (page : PageState) → IsSettled page → is_ending page.stage ≡ false
settled_stays page is = rw is.0 refl

enter_leads : (deltas : List DeltaValue) (s : FlatState) → IsResting s → after (at_rest deltas s) Kernel Enter ≡ entered_at deltas (entered s Kernel)
enter_leads deltas s rests = ap (λ (owed : List ℕ). (let m : Moment = record { deltas = deltas; flat = entered s Kernel; call = Some (Settling owed None) } in m)) (owes_none s.pages rests.free)

enter_allowed : (deltas : List DeltaValue) (s : FlatState) → IsResting s → Allows (at_rest deltas s) Kernel Enter
enter_allowed deltas s rests =
    let m : Moment = at_rest deltas s in
    subst (λ (b : Bool). MatchBool b (GoesOn deltas s Kernel None Enter) (MayAct s Kernel Enter)) (sym (ap (λ (o : Option Actor). is_inside o Kernel) rests.no_one)) rests.no_one

-- it has entered
pub has_asked : (keeps : EntriesKeepSound) (deltas : List DeltaValue) (s mid : FlatState) (request : Request) → IsSound (at_rest deltas s) → IsResting s → s.births + 65536 < 2 ^ 64 → IsKernelRequest deltas request → mid ≡ entered s Kernel → HasAsked deltas mid request
has_asked keeps deltas s mid request sound rests births may is = subst (λ (f : FlatState). HasAsked deltas f request) (sym is) (record {
  sound = subst IsSound (enter_leads deltas s rests) (keeps (at_rest deltas s) Kernel Enter sound (enter_allowed deltas s rests));
  inside = refl;
  births = births;
  may = may;
})

-- the things to do are events
all_events : (request : Request) (todo : List Todo) → IsWorkFor request todo → todo ≡ map Exactly (map event_of todo)
all_events request [] work = refl
all_events request (Exactly event ∷ []) work = refl
all_events request (Leaves page ∷ []) work = absurd work
all_events request (Exactly event ∷ x ∷ xs) work = ap (λ (l : List Todo). Exactly event ∷ l) (all_events request (x ∷ xs) work.1)
all_events request (Leaves page ∷ x ∷ xs) work = absurd work.0

all_entries : (todo : List Todo) → map (λ next. by_kernel (event_of next)) todo ≡ map by_kernel (map event_of todo)
all_entries [] = refl
all_entries (next ∷ todo) = ap (λ (l : List Entry). by_kernel (event_of next) ∷ l) (all_entries todo)

-- the whole call
record IsWhole (deltas : List DeltaValue) (s new : FlatState) (todo : List Todo) : Type 0 where
  legal : IsLegal (at_rest deltas s) (entries_of todo)
  reached : end_of (at_rest deltas s) (entries_of todo) ≡ at_rest deltas new

whole_goes : (deltas : List DeltaValue) (s new : FlatState) (todo : List Todo) → IsResting s → AllGo (entered_at deltas (entered s Kernel)) todo → new ≡ all_done deltas (entered s Kernel) todo → IsWhole deltas s new todo
whole_goes deltas s new todo rests goes is =
    let entries : List Entry = map (λ next. by_kernel (event_of next)) todo in
    let first = enter_leads deltas s rests in
    record {
      legal = (enter_allowed deltas s rests, subst (λ (m : Moment). IsLegal m entries) (sym first) goes.legal);
      reached = ap (λ (m : Moment). end_of m entries) first ∙ goes.reached ∙ ap (λ (f : FlatState). at_rest deltas f) (sym is);
    }

module _ (keeps : EntriesKeepSound) (journals : JournalsKeepSound) (can : AllowedCanBeMade) (deltas : List DeltaValue) (s : FlatState) (request : Request) (sound : IsSound (at_rest deltas s)) (rests : IsResting s) (births : s.births + 65536 < 2 ^ 64) (may : IsKernelRequest deltas request) where
  call_whole : (new : FlatState) → new ≡ all_done deltas (entered s Kernel) (done_about deltas (entered s Kernel) 0 request) → IsWhole deltas s new (done_about deltas (entered s Kernel) 0 request)
  call_whole new is = whole_goes deltas s new (done_about deltas (entered s Kernel) 0 request) rests (request_goes keeps can deltas (entered s Kernel) request (has_asked keeps deltas s (entered s Kernel) request sound rests births may refl)) is

  pub call_adds : (new : FlatState) (before now : List Entry) → new ≡ all_done deltas (entered s Kernel) (done_about deltas (entered s Kernel) 0 request) → now ≡ before ++ entries_of (done_about deltas (entered s Kernel) 0 request) → Adds (at_rest deltas s) before (at_rest deltas new) now (IsServed request deltas s)
  call_adds new before now is written =
      let todo : List Todo = done_about deltas (entered s Kernel) 0 request in
      let all = call_whole new is in
      record {
        made = entries_of todo;
        appended = written;
        legal = all.legal;
        reached = sym all.reached;
        fits = record {
          events = map event_of todo;
          done = all_events request todo (request_work deltas (entered s Kernel) request may);
          is = ap (λ (l : List Entry). by_kernel Enter ∷ l) (all_entries todo);
        };
      }

  call_with : (new : FlatState) → new ≡ all_done deltas (entered s Kernel) (done_about deltas (entered s Kernel) 0 request) → IsDoneWith (entered s Kernel) new
  call_with new is = subst (IsDoneWith (entered s Kernel)) (sym is)
      (done_with request deltas (entered s Kernel) (done_about deltas (entered s Kernel) 0 request) (request_work deltas (entered s Kernel) request may) refl rests.no_try (all_more IsSettled (λ page. is_ending page.stage ≡ false) settled_stays s.pages rests.free))

  pub call_rests : (new : FlatState) → new ≡ all_done deltas (entered s Kernel) (done_about deltas (entered s Kernel) 0 request) → IsResting new
  call_rests new is =
      let all = call_whole new is in
      let with = call_with new is in
      rest_of deltas new (subst IsSound all.reached (journals (at_rest deltas s) (entries_of (done_about deltas (entered s Kernel) 0 request)) sound all.legal)) with.inside (subst (AllByRecursion IsFree) (sym with.harts) rests.no_try) with.stays

  pub call_harts : (new : FlatState) → new ≡ all_done deltas (entered s Kernel) (done_about deltas (entered s Kernel) 0 request) → length new.harts ≡ length s.harts
  call_harts new is = let with = call_with new is in ap (λ (harts : List HartState). length harts) with.harts

-- what is taken back
pub call_back : (s mid new back : FlatState) → mid ≡ entered s Kernel → new ≡ mid → back ≡ record new { inside = None } → IsResting s → back ≡ s
call_back s mid new back entered_is same left rests =
    left ∙ ap (λ (f : FlatState). (let t : FlatState = record f { inside = None } in t)) (same ∙ entered_is) ∙ sym (ap (λ (o : Option Actor). (let t : FlatState = record s { inside = o } in t)) rests.no_one)

-- of a state that it has entered
pub as_entered : (deltas : List DeltaValue) (s mid new : FlatState) (request : Request) → mid ≡ entered s Kernel → new ≡ all_done deltas mid (done_about deltas mid 0 request) → new ≡ all_done deltas (entered s Kernel) (done_about deltas (entered s Kernel) 0 request)
as_entered deltas s mid new request entered_is is = is ∙ ap (λ (f : FlatState). all_done deltas f (done_about deltas f 0 request)) entered_is

pub as_written : (deltas : List DeltaValue) (s mid : FlatState) (request : Request) (before now : List Entry) → mid ≡ entered s Kernel → now ≡ before ++ entries_of (done_about deltas mid 0 request)
    → now ≡ before ++ entries_of (done_about deltas (entered s Kernel) 0 request)
as_written deltas s mid request before now entered_is is = is ∙ ap (λ (f : FlatState). before ++ entries_of (done_about deltas f 0 request)) entered_is
