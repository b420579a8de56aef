-- From an Ending of a page on its holder alone touches it, up to its End.
use Rattle.std.proofs.Common.{◌≡◌, ◌≢◌, ◌⊎◌, inl, inr, ℕ, List, [], ◌∷◌, ◌++◌, Option, Some, None, Bool, true, false, not, is_some, ◌&&◌, ◌+◌, ◌==◌, ◌%◌, refl, sym, subst, ap, ◌∙◌, arith}
use Rattle.std.specs.Prelude.{nat_le, nat_lt, slice_get, if◌then◌else◌, unwrap_or}
use Rattle.std.specs.Option.{option_map, IfSome}
use Rattle.std.proofs.lemmas.Bool.{and_parts, cases_eq}
use Rattle.std.proofs.lemmas.Bool.Decides.{nat_tests}
use Rattle.wf_outside.specs.Pages.{page_of}
use Rattle.wf_flat.specs.declared.event.Actor.{Actor}
use Rattle.wf_flat.specs.declared.event.Actor.TheVariants.{Hart, Kernel}
use Rattle.wf_flat.specs.declared.event.Event.{Event}
use Rattle.wf_flat.specs.declared.event.Event.TheVariants.{Take, Put, Swap, End, Map, Going, Ending, Gone}
use Rattle.wf_flat.specs.declared.event.Entry.{Entry}
use Rattle.wf_flat.specs.declared.state.Stage.TheVariants as stages
use Rattle.wf_flat.specs.State.{FlatState, PageState}
use Rattle.wf_flat.specs.Memory.{data_in}
use Rattle.wf_flat.specs.Accesses.{holder_is, holds_page, in_reach, is_ending, is_free}
use Rattle.wf_flat.specs.Changes.{given_back, put_with, taken_by}
use Rattle.wf_flat.proofs.FoundLemmas.{data_number}
use Rattle.wf_flat.proofs.ListLemmas.{some_and}
use Rattle.wf_effects.specs.Effects.{delta_of, ending, going_in}
use Rattle.wf_effects.specs.Ranges.{is_page_ending}
use Rattle.wf_legal.specs.Events.{flat_after}
use Rattle.wf_legal.specs.Legal.{Moment, Allows, IsLegal, after, at_rest, end_of}
use Rattle.wf_legal.proofs.JournalLemmas.{end_of-append}
use Rattle.wf_next.proofs.ActLemmas.{free_unheld, taking}
use Rattle.wf_laws.specs.Holders.{EndingIsForHolder, HasNoEnd, HasNoMap, Touches, maps}
use Rattle.wf_laws.proofs.CallLemmas.{IsLateCall, acts, acts_outside, call_kept, ending_held, first_begins}
use Rattle.wf_laws.proofs.CarryLemmas.{KeepsIf, at_two, carried, carried_if}
use Rattle.wf_laws.proofs.PageLemmas.{at_number, data_after, given_by, mapped_at, page_after}
use Rattle.wf_laws.proofs.HolderLemmas.{IsHeld, entry_of, held_after, held_there, holder_self, touch_held, touched}
use Rattle.wf_laws.proofs.GripLemmas.{IsSettled, end_page, gripped_start, settled_after}
use Rattle.wf_laws.proofs.RequestLemmas.{going_stays}
use Rattle.wf_laws.proofs.StayLemmas.{at_stays, given_stays, gone_stays, if_map, or_stays}
use Rattle.wf_laws.proofs.TouchLemmas.{away_mapped}

-- a page is Ending, if it is there
abbrev IsEndingPage : PageState → Type 0
IsEndingPage page = is_ending page.stage ≡ true

abbrev IsFreePage : PageState → Type 0
IsFreePage page = is_free page ≡ true

-- an unmap passes it over
passed_over : (s : FlatState) (first n k : ℕ) (page : PageState) → data_in s.pages k ≡ Some page → is_ending page.stage ≡ true → ((nat_le first k && nat_lt k (first + n)) ≡ true → is_page_ending s k ≡ false) → going_in first n page ≡ page
passed_over s first n k page is ends stays = by_test (nat_le first page.number && nat_lt page.number (first + n)) refl
  where
    by_test : (b : Bool) → (nat_le first page.number && nat_lt page.number (first + n)) ≡ b → (if b then record page { stage = stages.Going } else page) ≡ page
    by_test true t = absurd (
        let one : page.number ≡ k = data_number s.pages k page is in
        let here : (nat_le first k && nat_lt k (first + n)) ≡ true = subst (λ (k : ℕ). (nat_le first k && nat_lt k (first + n)) ≡ true) one t in
        let not_ending = stays here in
        let is_so : is_page_ending s k ≡ true = ap (λ (o : Option PageState). unwrap_or (option_map (λ (page : PageState). is_ending page.stage) o) false) is ∙ ends in
        cc)
    by_test false t = refl

going_begins : (m : Moment) (actor : Actor) (first n k : ℕ) → IsLateCall m.call → Allows m actor (Going first n) → (nat_le first k && nat_lt k (first + n)) ≡ true → is_page_ending m.flat k ≡ false
going_begins m actor first n k late a inside = going_stays m.deltas m.flat actor first n k (first_begins m actor (Going first n) refl refl (λ leave. leave) late a) inside

-- what an Ending page keeps, up to its next mapping
page_ends : (P : PageState → Type 0) → ((p : PageState) (words : List ℕ) → P p → P (record p { words = words })) → ((last : ℕ) (put : Bool) (p : PageState) → P p → P (given_back last put p)) → ((p : PageState) → P p → P (ending p))
    → (m : Moment) (actor : Actor) (e : Event) (k : ℕ) → ((h page : ℕ) (p : PageState) → actor ≡ Hart h → e ≡ Take page → data_in m.flat.pages k ≡ Some p → P p → P (at_number page (taken_by h) p))
    → IsLateCall m.call → Allows m actor e → maps k e ≡ false → IfSome (data_in m.flat.pages k) IsEndingPage → IfSome (data_in m.flat.pages k) P → IfSome (page_after m.deltas m.flat actor e k (data_in m.flat.pages k)) P
page_ends P written given ended m (Hart h) (Take page) k taken late a unmapped ends p = if_map P (at_number page (taken_by h)) (data_in m.flat.pages k) (λ found is held. taken h page found refl refl is held) p
page_ends P written given ended m (Hart h) (Put va width value) k taken late a unmapped ends p =
    if_map P (at_number (page_of va) (put_with (va % 4096) width value)) (data_in m.flat.pages k) (λ found is held. at_stays P (page_of va) (put_with (va % 4096) width value) (λ p e. written p _ e) found held) p
page_ends P written given ended m (Hart h) (Swap va width old new) k taken late a unmapped ends p =
    if_map P (at_number (page_of va) (put_with (va % 4096) width new)) (data_in m.flat.pages k) (λ found is held. at_stays P (page_of va) (put_with (va % 4096) width new) (λ p e. written p _ e) found held) p
page_ends P written given ended m (Hart h) (End pc) k taken late a unmapped ends p =
    if_map P (given_by m.flat h (slice_get m.flat.harts h)) (data_in m.flat.pages k) (λ found is held. given_stays P m.flat h (slice_get m.flat.harts h) given found held) p
page_ends P written given ended m actor (Map first n write patch) k taken late a unmapped ends p =
    or_stays P (data_in m.flat.pages k) (mapped_at (delta_of m.deltas patch) write first m.flat.births n k) (away_mapped m.deltas m.flat first n write patch k unmapped) p
page_ends P written given ended m actor (Going first n) k taken late a unmapped ends p =
    if_map P (going_in first n) (data_in m.flat.pages k) (λ found is held. subst P (sym (passed_over m.flat first n k found is (subst (λ (o : Option PageState). IfSome o IsEndingPage) is ends) (going_begins m actor first n k late a))) held) p
page_ends P written given ended m actor (Ending page) k taken late a unmapped ends p = if_map P (at_number page ending) (data_in m.flat.pages k) (λ found is held. at_stays P page ending ended found held) p
page_ends P written given ended m actor (Gone page worn) k taken late a unmapped ends p = gone_stays P (k == page) (data_in m.flat.pages k) p
page_ends P written given ended m actor e k taken late a unmapped ends p = p

ends_after : (m : Moment) (actor : Actor) (e : Event) (k : ℕ) → IsLateCall m.call → Allows m actor e → maps k e ≡ false → IfSome (data_in m.flat.pages k) IsEndingPage → IfSome (data_in (flat_after m.deltas m.flat actor e).pages k) IsEndingPage
ends_after m actor e k late a unmapped ends = subst (λ (o : Option PageState). IfSome o IsEndingPage) (sym (data_after m.deltas m.flat actor e k))
    (page_ends IsEndingPage (λ p words e. e) (λ last put p e. e) (λ p e. refl) m actor e k (λ h page p is_actor is_event is ends. at_stays IsEndingPage page (taken_by h) (λ p e. e) p ends) late a unmapped ends ends)

-- nobody takes it
untaken : (m : Moment) (h page k : ℕ) (p : PageState) → IsLateCall m.call → Allows m (Hart h) (Take page) → data_in m.flat.pages k ≡ Some p → is_ending p.stage ≡ true → at_number page (taken_by h) p ≡ p
untaken m h page k p late a is ends = by_test (p.number == page) refl
  where
    by_test : (b : Bool) → (p.number == page) ≡ b → (if b then taken_by h p else p) ≡ p
    by_test true t = absurd (
        let w = some_and (slice_get m.flat.harts h) _ (acts_outside m h (Take page) refl late a) in
        let take = taking m.flat w.0 page w.2.1 in
        let one : p.number ≡ k = data_number m.flat.pages k p is in
        let same : k ≡ page = grind (arith, nat_tests) in
        let found : data_in m.flat.pages page ≡ Some p = subst (λ (n : ℕ). data_in m.flat.pages n ≡ Some p) same is in
        let there : data_in m.flat.pages page ≡ Some take.page = ap (data_in m.flat.pages) take.is_number ∙ take.is_page in
        let both : take.page ≡ p = cc in
        let reach : in_reach m.flat w.0 p ≡ true = subst (λ (p : PageState). in_reach m.flat w.0 p ≡ true) both (and_parts _ _ take.takes.1).0 in
        let open_still : not (is_ending p.stage) ≡ true = (and_parts (not (is_ending p.stage)) _ reach).0 in
        let never : not (is_ending p.stage) ≡ false = rw ends refl in
        cc)
    by_test false t = refl

free_after : (m : Moment) (actor : Actor) (e : Event) (k : ℕ) → IsLateCall m.call → Allows m actor e → maps k e ≡ false → IfSome (data_in m.flat.pages k) IsEndingPage → IfSome (data_in m.flat.pages k) IsFreePage → IfSome (data_in (flat_after m.deltas m.flat actor e).pages k) IsFreePage
free_after m actor e k late a unmapped ends free = subst (λ (o : Option PageState). IfSome o IsFreePage) (sym (data_after m.deltas m.flat actor e k))
    (page_ends IsFreePage (λ p words e. e) (λ last put p e. refl) (λ p e. e) m actor e k (λ h page p is_actor is_event is free.
    let b : Allows m (Hart h) (Take page) = subst (λ (e : Event). Allows m (Hart h) e) is_event (subst (λ (actor : Actor). Allows m actor e) is_actor a) in
    subst IsFreePage (sym (untaken m h page k p late b is (subst (λ (o : Option PageState). IfSome o IsEndingPage) is ends))) free) late a unmapped ends free)

-- a page that is Ending and free, or is not there
abbrev IsShut : ℕ → Moment → Type 0
IsShut page m = IsLateCall m.call × IfSome (data_in m.flat.pages page) IsEndingPage × IfSome (data_in m.flat.pages page) IsFreePage

shut_on : (page : ℕ) → KeepsIf (IsShut page) (λ entry. maps page entry.event ≡ false)
shut_on page m entry p unmapped a = (
  call_kept m entry.actor entry.event p.0,
  ends_after m entry.actor entry.event page p.0 a unmapped p.1,
  free_after m entry.actor entry.event page p.0 a unmapped p.1 p.2,
)

-- is touched by nobody
shut_touch : (m : Moment) (other page : ℕ) (event : Event) → IsShut page m → Allows m (Hart other) event → Touches m.flat other page event → ⊥
shut_touch m other page event shut a touch =
    let t = touched m other page event shut.0 a touch in
    let ends : is_ending t.page.stage ≡ true = subst (λ (o : Option PageState). IfSome o IsEndingPage) t.is_page shut.1 in
    let free : is_free t.page ≡ true = subst (λ (o : Option PageState). IfSome o IsFreePage) t.is_page shut.2 in
    elim t.either [
      | inl reach ↦ (let open_still = (and_parts (not (is_ending t.page.stage)) _ reach.1).0 in let never : not (is_ending t.page.stage) ≡ false = rw ends refl in cc)
      | inr holder ↦ (let unheld = free_unheld other t.page.holder free in cc)
    ]

-- a page that is Ending, and that a hart holds
abbrev IsLeft : ℕ → ℕ → Moment → Type 0
IsLeft h page m = IsSettled m × IfSome (data_in m.flat.pages page) IsEndingPage × IsHeld m.flat h page

-- an End of a hart or not
record IsEnd (h : ℕ) (entry : Entry) : Type 0 where
  pc : ℕ
  is : entry ≡ entry_of (Hart h) (End pc)

end_or_not : (h : ℕ) (actor : Actor) (e : Event) → IsEnd h (entry_of actor e) ⊎ ((pc : ℕ) → entry_of actor e ≢ entry_of (Hart h) (End pc))
end_or_not h (Hart k) (End pc) = elim (cases_eq h k) [
  | inl same ↦ inl (record { pc = pc; is = ap (λ (k : ℕ). entry_of (Hart k) (End pc)) (sym same) })
  | inr apart ↦ inr (λ pc' is. apart (let actors : Hart k ≡ Hart h = ap (λ (entry : Entry). entry.actor) is in cc))
]
end_or_not h (Hart k) e = inr (λ pc is. let events : e ≡ End pc = ap (λ (entry : Entry). entry.event) is in cc)
end_or_not h Kernel e = inr (λ pc is. let actors : Kernel ≡ Hart h = ap (λ (entry : Entry). entry.actor) is in cc)

-- at its End it is free
end_free : (m : Moment) (h page pc : ℕ) → IsLeft h page m → Allows m (Hart h) (End pc) → IfSome (data_in (flat_after m.deltas m.flat (Hart h) (End pc)).pages page) IsFreePage
end_free m h page pc left a =
    let g = left.0.1 h page left.2 in
    let w = some_and (slice_get m.flat.harts h) _ (acts m h (End pc) g.outside a) in
    let found = held_there h (data_in m.flat.pages page) left.2 in
    subst (λ (o : Option PageState). IfSome o IsFreePage) (sym (end_page m.flat h page w.0 found.0 g left.2 w.1 found.1)) refl

left_on : (m : Moment) (middle : List Entry) (h other page : ℕ) (event : Event) → IsLeft h page m → IsLegal m middle → HasNoMap page middle → Allows (end_of m middle) (Hart other) event → Touches (end_of m middle).flat other page event → (other ≡ h) × HasNoEnd h middle
left_on m [] h other page event left l unmapped a touch = (touch_held m h other page event left.0.0 a touch left.2, tt)
left_on m (entry ∷ middle) h other page event left l unmapped a touch = elim (end_or_not h entry.actor entry.event) [
  | inl ends ↦ absurd (
      let b : Allows m (Hart h) (End ends.pc) = subst (λ (entry : Entry). Allows m entry.actor entry.event) ends.is l.0 in
      let next : Moment = after m entry.actor entry.event in
      let free : IfSome (data_in next.flat.pages page) IsFreePage = subst (λ (entry : Entry). IfSome (data_in (flat_after m.deltas m.flat entry.actor entry.event).pages page) IsFreePage) (sym ends.is) (end_free m h page ends.pc left b) in
      let shut : IsShut page next = (call_kept m entry.actor entry.event left.0.0, ends_after m entry.actor entry.event page left.0.0 l.0 unmapped.0 left.1, free) in
      shut_touch (end_of next middle) other page event (carried_if (IsShut page) _ (shut_on page) next middle unmapped.1 shut l.1) a touch)
  | inr unended ↦ (
      let next : IsLeft h page (after m entry.actor entry.event) = (
        settled_after m entry.actor entry.event left.0 l.0,
        ends_after m entry.actor entry.event page left.0.0 l.0 unmapped.0 left.1,
        held_after m h page entry.actor entry.event left.0.0 l.0 unended left.2,
      ) in
      let rest = left_on (after m entry.actor entry.event) middle h other page event next l.1 unmapped.1 a touch in
      (rest.0, (unended, rest.1)))
]

-- the page has a holder then
holder_there : (holder : Option ℕ) → not (is_some holder) ≡ false → (h : ℕ) × (holder ≡ Some h)
holder_there None e = absurd (cc)
holder_there (Some h) e = (h, refl)

ending_ends : (m : Moment) (actor : Actor) (page : ℕ) → IfSome (data_in (flat_after m.deltas m.flat actor (Ending page)).pages page) IsEndingPage
ending_ends m actor page = subst (λ (o : Option PageState). IfSome o IsEndingPage) (sym (data_after m.deltas m.flat actor (Ending page) page)) (by_page (data_in m.flat.pages page) refl)
  where
    by_page : (o : Option PageState) → data_in m.flat.pages page ≡ o → IfSome (option_map (at_number page ending) o) IsEndingPage
    by_page None is = tt
    by_page (Some found) is =
        let one : found.number ≡ page = data_number m.flat.pages page found is in
        let here : (found.number == page) ≡ true = grind (arith, nat_tests) in
        rw here refl

pub for_holder : EndingIsForHolder
for_holder deltas s front middle back actor other page event none l unmapped touch =
    let start : Moment = at_rest deltas s in
    let leaves : Entry = record { actor = actor; event = Ending page } in
    let w = at_two start front leaves middle (record { actor = Hart other; event = event }) back l in
    let before : Moment = end_of start front in
    let settled : IsSettled before = carried IsSettled settled_after start front (tt, gripped_start s none) w.first.legal in
    let found = some_and (data_in before.flat.pages page) _ (ending_held before actor page settled.0 w.first.allowed) in
    let holder = holder_there found.0.holder found.2 in
    let h : ℕ = holder.0 in
    let held : IsHeld before.flat h page = subst (λ (o : Option PageState). holds_page h o ≡ true) (sym found.1) (subst (λ (o : Option ℕ). holder_is o h ≡ true) (sym holder.1) (holder_self h)) in
    let left : IsLeft h page (after before actor (Ending page)) = (
      settled_after before actor (Ending page) settled w.first.allowed,
      ending_ends before actor page,
      held_after before h page actor (Ending page) settled.0 w.first.allowed (λ pc is. let events : Ending page ≡ End pc = ap (λ (entry : Entry). entry.event) is in cc) held,
    ) in
    let same : end_of start (front ++ leaves ∷ middle) ≡ end_of (after before actor (Ending page)) middle = end_of-append start front (leaves ∷ middle) in
    let a = subst (λ (m : Moment). Allows m (Hart other) event) same w.second in
    let touches = subst (λ (m : Moment). Touches m.flat other page event) same touch in
    let its = left_on (after before actor (Ending page)) middle h other page event left w.first.rest unmapped a touches in
    (subst (λ (h : ℕ). IsHeld before.flat h page) (sym its.0) held, subst (λ (h : ℕ). HasNoEnd h middle) (sym its.0) its.1)
