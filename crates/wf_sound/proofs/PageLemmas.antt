-- The invariant is kept where a hart's entry changes a page of data: it takes the page, writes in it, or gives it back.
use Rattle.std.proofs.Common.{◌≡◌, ◌≢◌, ◌<◌, ◌≤◌, ◌+◌, ◌==◌, ◌&&◌, ℕ, List, Bool, true, false, Option, Some, None, map, refl, sym, ap, subst, ◌∙◌, inl, inr, arith, is_some, if◌then◌else◌, length-set}
use Rattle.std.specs.Prelude.{slice_get, IsSomeAnd, nat_lt, not}
use Rattle.std.specs.Option.{option_map}
use Rattle.std.specs.List.{AllByRecursion}
use Rattle.std.proofs.lemmas.Bool.Decides.{nat_tests}
use Rattle.wf_outside.specs.Images.{DeltaValue}
use Rattle.wf_outside.specs.Pages.{page_of}
use Rattle.wf_flat.specs.declared.event.Actor.{Actor}
use Rattle.wf_flat.specs.declared.event.Actor.TheVariants.{Hart}
use Rattle.wf_flat.specs.declared.state.Life.TheVariants.{Running}
use Rattle.wf_flat.specs.State.{FlatState, HartState, PageState}
use Rattle.wf_outside.specs.Lists.{IsRising}
use Rattle.wf_flat.specs.Lists.{changed_at, others_changed}
use Rattle.wf_flat.specs.Ordered.{page_numbers}
use Rattle.wf_flat.specs.Memory.{data_in}
use Rattle.wf_flat.specs.Accesses.{Access, access_of, holder_is, holds, holds_page, is_ending, is_free}
use Rattle.rv_inst.specs.declared.want.Want.TheVariants as want
use Rattle.wf_flat.specs.Steps.{access_in, is_inside, want_in}
use Rattle.wf_flat.specs.Changes.{ended, given_back, noted, put_with, taken_by}
use Rattle.wf_flat.proofs.ListLemmas.{and_some, some_and}
use Rattle.wf_sound.specs.Sound.{HasHolder, HoldsWritten, IsHolder, IsSoundHart, IsSoundState}
use Rattle.wf_sound.proofs.AllLemmas.{all_both, all_found, all_more, all_named, found_map, one_or_two}
use Rattle.wf_sound.proofs.HandLemmas.{hand_after}
use Rattle.wf_sound.proofs.HartLemmas.{noted_is, stepped_changed, stepped_others, stepped_twice}
use Rattle.wf_sound.proofs.HolderLemmas.{holder_after}
use Rattle.wf_sound.proofs.OwnLemmas.{ended_sound}
use Rattle.wf_sound.proofs.StateLemmas.{IsPageAfter, page_same, paired_map, state_after, tried_with}
use Rattle.wf_sound.proofs.TryLemmas.{ComesNone, Keeps, KeepsOthers, at_hart}

-- a page, if it has the number, changes
abbrev pub at_number : ℕ → (PageState → PageState) → PageState → PageState
at_number n f page = if page.number == n then f page else page

-- by whether it has the number
pub at_here : (n : ℕ) (f : PageState → PageState) (page : PageState) → page.number ≡ n → at_number n f page ≡ f page
at_here n f page e = grind (arith, nat_tests)

pub at_past : (n : ℕ) (f : PageState → PageState) (page : PageState) → page.number ≢ n → at_number n f page ≡ page
at_past n f page e = grind (arith, nat_tests)

at_number_kept : (n : ℕ) (f : PageState → PageState) → ((page : PageState) → (f page).number ≡ page.number) → (page : PageState) → (at_number n f page).number ≡ page.number
at_number_kept n f same page = elim (one_or_two page.number n) [
  | inl e ↦ (ap (λ (p : PageState). p.number) (at_here n f page e) ∙ same page)
  | inr apart ↦ ap (λ (p : PageState). p.number) (at_past n f page apart)
]

-- what is found where a page changes
pub found_at : (n : ℕ) (f : PageState → PageState) → ((page : PageState) → (f page).number ≡ page.number) → (pages : List PageState) (m : ℕ) → data_in (map (at_number n f) pages) m ≡ option_map (at_number n f) (data_in pages m)
found_at n f same pages m = found_map (λ (page : PageState). page.number) (at_number n f) (at_number_kept n f same) pages m

-- of the pages of the state the one that is found alone has the number
pub only_page : (pages : List PageState) (n : ℕ) (page : PageState) → IsRising (page_numbers pages) → data_in pages n ≡ Some page → AllByRecursion (λ other. other.number ≡ n → other ≡ page) pages
only_page pages n page up found = all_more (λ other. data_in pages other.number ≡ Some other) (λ other. other.number ≡ n → other ≡ page)
    (λ other named e. (let k : data_in pages n ≡ Some other = subst (λ (m : ℕ). data_in pages m ≡ Some other) e named in cc)) pages (all_named (λ (page : PageState). page.number) pages up)

none_free : (o : Option ℕ) (h : ℕ) → not (is_some o) ≡ true → holder_is o h ≡ true → ⊥
none_free None h free e = cc
none_free (Some k) h free e = cc

both_hold : (o : Option ℕ) (h k : ℕ) → holder_is o h ≡ true → holder_is o k ≡ true → k ≡ h
both_hold None h k e f = absurd cc
both_hold (Some o) h k e f = grind (arith, nat_tests)

holds_by : (n h : ℕ) (f : PageState → PageState) (o : Option PageState) → ((page : PageState) → o ≡ Some page → holder_is page.holder h ≡ true → holder_is (at_number n f page).holder h ≡ true) → holds_page h o ≡ true → holds_page h (option_map (at_number n f) o) ≡ true
holds_by n h f None more e = absurd cc
holds_by n h f (Some page) more e = more page refl e

put_holder : (n at width value : ℕ) (page : PageState) → (at_number n (put_with at width value) page).holder ≡ page.holder
put_holder n at width value page = elim (one_or_two page.number n) [
  | inl e ↦ ap (λ (p : PageState). p.holder) (at_here n (put_with at width value) page e)
  | inr apart ↦ ap (λ (p : PageState). p.holder) (at_past n (put_with at width value) page apart)
]

holds_put : (pages : List PageState) (n at width value h m : ℕ) → holds_page h (data_in pages m) ≡ true → holds_page h (data_in (map (at_number n (put_with at width value)) pages) m) ≡ true
holds_put pages n at width value h m e =
    subst (λ (o : Option PageState). holds_page h o ≡ true) (sym (found_at n (put_with at width value) (λ page. refl) pages m))
    (holds_by n h (put_with at width value) (data_in pages m) (λ page known is. rw (put_holder n at width value page) is) e)

counted : (b : Bool) (writes last : ℕ) → (b ≡ true → writes < last) → writes ≤ last → (if b then writes + 1 else writes) ≤ last
counted true writes last lt le = let k : writes < last = lt refl in omega arith
counted false writes last lt le = le

below_last : (put : Bool) (writes last : ℕ) → (put && nat_lt writes last) ≡ true → writes < last
below_last true writes last e = grind (arith, nat_tests)
below_last false writes last e = absurd cc

module _ (deltas : List DeltaValue) (s : FlatState) (h : ℕ) (hart : HartState) (there : slice_get s.harts h ≡ Some hart) (sound : IsSoundState deltas s) where
  -- a hart takes a page that is free
  module _ (access : Access) (n : ℕ) (found : PageState) (runs : hart.life ≡ Running) (outside : is_inside s.inside (Hart h) ≡ false) (wants : access_in hart ≡ Some access) (is_of : n ≡ page_of access.va)
      (found_is : data_in s.pages n ≡ Some found) (free : is_free found ≡ true) (stays : is_ending found.stage ≡ false) where
    taken_holder : (page : PageState) → (page.number ≡ n → page ≡ found) → (o : ℕ) → holder_is page.holder o ≡ true → holder_is (at_number n (taken_by h) page).holder o ≡ true
    taken_holder page only o holds = elim (one_or_two page.number n) [
      | inl e ↦ absurd (none_free page.holder o (rw (only e) free) holds)
      | inr apart ↦ subst (λ (p : PageState). holder_is p.holder o ≡ true) (sym (at_past n (taken_by h) page apart)) holds
    ]

    holds_taken : (m : ℕ) → holds_page h (data_in s.pages m) ≡ true → holds_page h (data_in (map (at_number n (taken_by h)) s.pages) m) ≡ true
    holds_taken m e =
        subst (λ (o : Option PageState). holds_page h o ≡ true) (sym (found_at n (taken_by h) (λ page. refl) s.pages m))
        (holds_by n h (taken_by h) (data_in s.pages m)
        (λ page known is. taken_holder page (all_found (λ (page : PageState). page.number) (λ page. page.number ≡ n → page ≡ found) s.pages m page (only_page s.pages n found sound.ordered.pages found_is) known) h is) e)

    taking_page : (page : PageState) → (page.number ≡ n → page ≡ found) → HasHolder s page
        → IsPageAfter s (tried_with s (map (at_number n (taken_by h)) s.pages) (others_changed s.harts h (noted n)) s.inside) h page (at_number n (taken_by h) page)
    taking_page page only held =
        let t : FlatState = tried_with s (map (at_number n (taken_by h)) s.pages) (others_changed s.harts h (noted n)) s.inside in
        let step = stepped_others (noted n) (noted_is n) s.harts h in
        let now : slice_get t.harts h ≡ Some hart = step.own ∙ ap (option_map (λ (x : HartState). x)) there in
        elim (one_or_two page.number n) [
          | inl e ↦ subst (IsPageAfter s t h page) (sym (at_here n (taken_by h) page e)) (record {
            number = refl;
            birth = refl;
            stage = refl;
            words = refl;
            writes = λ le. le;
            held = λ before. and_some (slice_get t.harts h) (IsHolder t h page.number) hart now (record { runs = runs; outside = outside; access = and_some (access_in hart) (λ a. page.number ≡ page_of a.va) access wants (e ∙ is_of) });
            kept = λ o apart holds. absurd (none_free page.holder o (rw (only e) free) holds);
            free = λ ends is. absurd (let k : is_ending page.stage ≡ false = rw (only e) stays in cc);
          })
          | inr apart ↦ subst (IsPageAfter s t h page) (sym (at_past n (taken_by h) page apart)) (page_same s t h page (holder_after s t h (λ x. x) step (λ o e. e) page.number page.holder
              (λ x known holds is. record { runs = is.runs; outside = is.outside; access = is.access })))
        ]

    pub take_keeps : Keeps deltas s (tried_with s (map (at_number n (taken_by h)) s.pages) (others_changed s.harts h (noted n)) s.inside)
    take_keeps =
        let pages : List PageState = map (at_number n (taken_by h)) s.pages in
        let harts : List HartState = others_changed s.harts h (noted n) in
        let t : FlatState = tried_with s pages harts s.inside in
        let step = stepped_others (noted n) (noted_is n) s.harts h in
        let paired = paired_map (IsPageAfter s t h) (at_number n (taken_by h)) s.pages (all_both (λ page. page.number ≡ n → page ≡ found) (HasHolder s) (λ page. IsPageAfter s t h page (at_number n (taken_by h) page))
        taking_page s.pages (only_page s.pages n found sound.ordered.pages found_is) sound.held) in
        record {
          state = state_after s pages harts s.inside h (λ x. x) paired deltas step (λ x known is. record {
            generation = is.generation;
            live = is.live;
            registers = is.registers;
            zero_register = is.zero_register;
            reservation = is.reservation;
            written = λ a wants writes put. holds_taken (page_of a.va) (is.written a wants writes put);
          }) sound;
          hand = λ o call in_hand. hand_after s pages harts s.inside h (λ x. x) paired deltas step (λ x known runs. runs) o call (λ e x known calls. calls) in_hand;
        }

  -- a hart writes in a page that it holds
  module _ (g : HartState → HartState) (access : Access) (n at width value : ℕ) (wants : access_in hart ≡ Some access) (held : holds s h access ≡ true)
      (life : (g hart).life ≡ hart.life) (same_want : want_in (g hart) ≡ want_in hart) (own : HoldsWritten s h (g hart) → IsSoundHart s h hart → IsSoundHart s h (g hart)) where
    writing_page : (page : PageState) → HasHolder s page
        → IsPageAfter s (tried_with s (map (at_number n (put_with at width value)) s.pages) (changed_at s.harts h g) s.inside) h page (at_number n (put_with at width value) page)
    writing_page page of =
        let t : FlatState = tried_with s (map (at_number n (put_with at width value)) s.pages) (changed_at s.harts h g) s.inside in
        let still : HasHolder s page → HasHolder t page =
        holder_after s t h g (stepped_changed s.harts h g) (λ o e. e) page.number page.holder
        (λ other known holds. at_hart (λ x. IsHolder s h page.number x → IsHolder t h page.number (g x)) s.harts h hart there
        (λ is. record { runs = life ∙ is.runs; outside = is.outside; access = subst (λ (o : Option Access). IsSomeAnd o (λ access. page.number ≡ page_of access.va)) (sym (ap access_of same_want)) is.access }) other known) in
        elim (one_or_two page.number n) [
          | inl e ↦ subst (IsPageAfter s t h page) (sym (at_here n (put_with at width value) page e)) (record {
            number = refl;
            birth = refl;
            stage = refl;
            words = rw length-set refl;
            writes = λ le. le;
            held = still;
            kept = λ o apart holds. holds;
            free = λ ends is. is;
          })
          | inr apart ↦ subst (IsPageAfter s t h page) (sym (at_past n (put_with at width value) page apart)) (page_same s t h page still)
        ]

    pub put_keeps : Keeps deltas s (tried_with s (map (at_number n (put_with at width value)) s.pages) (changed_at s.harts h g) s.inside)
    put_keeps =
        let pages : List PageState = map (at_number n (put_with at width value)) s.pages in
        let harts : List HartState = changed_at s.harts h g in
        let t : FlatState = tried_with s pages harts s.inside in
        let step = stepped_changed s.harts h g in
        let paired = paired_map (IsPageAfter s t h) (at_number n (put_with at width value)) s.pages (all_more (HasHolder s) (λ page. IsPageAfter s t h page (at_number n (put_with at width value) page)) writing_page s.pages sound.held) in
        let holding : HoldsWritten s h (g hart) = λ a wanted writes put. (let k : a ≡ access = (let w : access_in hart ≡ Some a = sym (ap access_of same_want) ∙ wanted in cc) in subst (λ (b : Access). holds s h b ≡ true) (sym k) held) in
        let now : IsSoundHart s h hart → IsSoundHart t h (g hart) = λ was. (let is = own holding was in record {
          generation = is.generation;
          live = is.live;
          registers = is.registers;
          zero_register = is.zero_register;
          reservation = is.reservation;
          written = λ a wants writes put. holds_put s.pages n at width value h (page_of a.va) (is.written a wants writes put);
        }) in
        record {
          state = state_after s pages harts s.inside h g paired deltas step (at_hart (λ x. IsSoundHart s h x → IsSoundHart t h (g x)) s.harts h hart there now) sound;
          hand = λ o call in_hand. hand_after s pages harts s.inside h g paired deltas step (at_hart (λ x. x.life ≡ Running → (g x).life ≡ Running) s.harts h hart there (λ runs. life ∙ runs)) o call
              (λ e. at_hart (λ x. want_in x ≡ Some want.Call → want_in (g x) ≡ Some want.Call) s.harts h hart there (λ calls. same_want ∙ calls)) in_hand;
        }

  -- a hart's try ends, and the page that it holds is given back
  module _ (access : Access) (found : PageState) (inside : Option Actor) (comes : ComesNone s.inside inside) (wants : access_in hart ≡ Some access)
      (found_is : data_in s.pages (page_of access.va) ≡ Some found) (held : holder_is found.holder h ≡ true) where
    giving_page : (page : PageState) → (page.number ≡ page_of access.va → page ≡ found) → HasHolder s page
        → IsPageAfter s (tried_with s (map (at_number (page_of access.va) (given_back s.limits.last_writes hart.put)) s.pages) (changed_at (others_changed s.harts h (noted (page_of access.va))) h ended) inside) h page
        (at_number (page_of access.va) (given_back s.limits.last_writes hart.put) page)
    giving_page page only of =
        let n : ℕ = page_of access.va in
        let f : PageState → PageState = given_back s.limits.last_writes hart.put in
        let t : FlatState = tried_with s (map (at_number n f) s.pages) (changed_at (others_changed s.harts h (noted n)) h ended) inside in
        let step = stepped_twice s.harts (others_changed s.harts h (noted n)) t.harts h (λ x. x) ended (stepped_others (noted n) (noted_is n) s.harts h) (stepped_changed (others_changed s.harts h (noted n)) h ended) in
        elim (one_or_two page.number n) [
          | inl e ↦ subst (IsPageAfter s t h page) (sym (at_here n f page e)) (record {
            number = refl;
            birth = refl;
            stage = refl;
            words = refl;
            writes = counted (hart.put && nat_lt page.writes s.limits.last_writes) page.writes s.limits.last_writes (below_last hart.put page.writes s.limits.last_writes);
            held = λ before. tt;
            kept = λ o apart holds. absurd (apart (both_hold page.holder h o (rw (only e) held) holds));
            free = λ ends is. refl;
          })
          | inr apart ↦ subst (IsPageAfter s t h page) (sym (at_past n f page apart)) (page_same s t h page (holder_after s t h ended step comes page.number page.holder
              (λ other known holds. at_hart (λ x. IsHolder s h page.number x → IsHolder t h page.number (ended x)) s.harts h hart there
              (λ is. absurd (let w = some_and (access_in hart) (λ a. page.number ≡ page_of a.va) is.access in let k : w.0 ≡ access = (let c : access_in hart ≡ Some w.0 = w.1 in cc) in apart (w.2 ∙ ap (λ (a : Access). page_of a.va) k))) other known)))
        ]

    pub end_keeps : KeepsOthers deltas s (tried_with s (map (at_number (page_of access.va) (given_back s.limits.last_writes hart.put)) s.pages) (changed_at (others_changed s.harts h (noted (page_of access.va))) h ended) inside) h
    end_keeps =
        let n : ℕ = page_of access.va in
        let f : PageState → PageState = given_back s.limits.last_writes hart.put in
        let pages : List PageState = map (at_number n f) s.pages in
        let harts : List HartState = changed_at (others_changed s.harts h (noted n)) h ended in
        let t : FlatState = tried_with s pages harts inside in
        let step = stepped_twice s.harts (others_changed s.harts h (noted n)) harts h (λ x. x) ended (stepped_others (noted n) (noted_is n) s.harts h) (stepped_changed (others_changed s.harts h (noted n)) h ended) in
        let paired = paired_map (IsPageAfter s t h) (at_number n f) s.pages (all_both (λ page. page.number ≡ n → page ≡ found) (HasHolder s) (λ page. IsPageAfter s t h page (at_number n f page))
        (λ page only of. giving_page page only of) s.pages (only_page s.pages n found sound.ordered.pages found_is) sound.held) in
        let now : (x : HartState) → IsSoundHart s h x → IsSoundHart t h (ended x) = λ x was. (let is = ended_sound s h x was in record {
          generation = is.generation;
          live = is.live;
          registers = is.registers;
          zero_register = is.zero_register;
          reservation = is.reservation;
          written = λ a wants writes put. absurd cc;
        }) in
        record {
          state = state_after s pages harts inside h ended paired deltas step (λ x known is. now x is) sound;
          hand = λ o call outside in_hand. hand_after s pages harts inside h ended paired deltas step (λ x known runs. runs) o call (λ e. absurd cc) in_hand;
        }
