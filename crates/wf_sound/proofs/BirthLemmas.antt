-- Births rise by no more than there are entries, and pages.
use Rattle.std.proofs.Common.{◌≡◌, ◌≤◌, ◌+◌, ◌%◌, ◌==◌, ◌++◌, ℕ, List, [], ◌∷◌, Bool, true, false, Option, Some, None, length, refl, arith, if◌then◌else◌, length-append}
use Rattle.std.specs.Prelude.{slice_get, not}
use Rattle.std.proofs.lemmas.List.{length-map}
use Rattle.std.specs.List.{filter}
use Rattle.wf_outside.specs.Images.{DeltaValue}
use Rattle.wf_outside.specs.Lists.{IsRising}
use Rattle.wf_outside.specs.Pages.{page_of}
use Rattle.wf_flat.specs.declared.event.Actor.{Actor}
use Rattle.wf_flat.specs.declared.event.Actor.TheVariants.{Hart, Kernel}
use Rattle.wf_flat.specs.declared.event.Event.{Event}
use Rattle.wf_flat.specs.declared.event.Event.TheVariants.{Fetch, Look, Take, Put, Swap, Miss, End, Again, Wait, Enter, Sync, Trap, Exit, Out, Idle, Map, Going, Ending, Gone, Born, Move, Dead, Refused}
use Rattle.wf_flat.specs.declared.event.Entry.{Entry}
use Rattle.wf_flat.specs.State.{FlatState, HartState, PageState}
use Rattle.wf_flat.specs.Memory.{data_in}
use Rattle.wf_flat.specs.Ordered.{page_numbers}
use Rattle.wf_flat.specs.Accesses.{Access, holds}
use Rattle.wf_flat.specs.Steps.{access_in}
use Rattle.wf_flat.specs.Changes.{change_page, give_back_by, give_back_of, given_back, note_page, put_with, taken_by}
use Rattle.wf_flat.proofs.SortLemmas.{length-sorted_by}
use Rattle.wf_effects.specs.Effects.{delta_of, ending, going_in, mapped, mapped_pages}
use Rattle.wf_verdict.proofs.FrameLemmas.{length-mapped_pages}
use Rattle.wf_legal.specs.Events.{flat_after}
use Rattle.wf_legal.specs.Legal.{IsLegal, Moment, after, end_of}
use Rattle.wf_sound.specs.Sound.{IsSound}
use Rattle.wf_sound.proofs.LeaveLemmas.{gone_length, length_kept}
use Rattle.wf_sound.proofs.AllLemmas.{none_found}
use Rattle.wf_sound.proofs.PageLemmas.{at_number}
use Rattle.wf_sound.proofs.SoundLemmas.{entry_keeps, journal_keeps}

-- births rise by no more than pages, and one
abbrev AreFew : FlatState → FlatState → Type 0
AreFew s t = t.births + length s.pages ≤ s.births + length t.pages + 1

few_gone : (pages : List PageState) (n : ℕ) → IsRising (page_numbers pages) → length pages ≤ length (filter (λ (page : PageState). not (page.number == n)) pages) + 1
few_gone pages n up = by_found (data_in pages n) refl
  where
    by_found : (o : Option PageState) → data_in pages n ≡ o → length pages ≤ length (filter (λ (page : PageState). not (page.number == n)) pages) + 1
    by_found None e = let same : filter (λ (page : PageState). not (page.number == n)) pages ≡ pages = length_kept pages n (none_found (λ (page : PageState). page.number) pages n e) in rw same (omega arith)
    by_found (Some page) e = let len = gone_length pages n page up e in omega arith

few_given : (s : FlatState) (h n : ℕ) (f : PageState → PageState) (b : Bool) → length (if b then note_page (change_page s n f) h n else s).pages ≡ length s.pages
few_given s h n f true = length-map s.pages (at_number n f)
few_given s h n f false = refl

few_back : (s : FlatState) (h : ℕ) (hart : HartState) (o : Option Access) → length (give_back_of s h hart o).pages ≡ length s.pages
few_back s h hart None = refl
few_back s h hart (Some access) = few_given s h (page_of access.va) (given_back s.limits.last_writes hart.put) (holds s h access)

few_ended : (s : FlatState) (h : ℕ) (o : Option HartState) → length (give_back_by s h o).pages ≡ length s.pages
few_ended s h None = refl
few_ended s h (Some hart) = few_back s h hart (access_in hart)

same_births : (s : FlatState) (h : ℕ) (o : Option HartState) → (give_back_by s h o).births ≡ s.births
same_births s h None = refl
same_births s h (Some hart) = by_access (access_in hart)
  where
    by_test : (n : ℕ) (f : PageState → PageState) (b : Bool) → (if b then note_page (change_page s n f) h n else s).births ≡ s.births
    by_test n f true = refl
    by_test n f false = refl

    by_access : (o : Option Access) → (give_back_of s h hart o).births ≡ s.births
    by_access None = refl
    by_access (Some access) = by_test (page_of access.va) (given_back s.limits.last_writes hart.put) (holds s h access)

few_map : (s : FlatState) (first n : ℕ) (write : Bool) (delta : Option DeltaValue) → AreFew s (mapped s first n write delta)
few_map s first n write delta =
    let new : List PageState = mapped_pages delta write first s.births n in
    let all = length-sorted_by (λ (page : PageState). page.number) (s.pages ++ new) in
    let both = length-append s.pages new in
    let more = length-mapped_pages delta write first s.births n in
    omega arith

few_same : (s t : FlatState) → t.births ≡ s.births → length t.pages ≡ length s.pages → AreFew s t
few_same s t births pages = omega (arith, births, pages)

few_less : (s t : FlatState) → t.births ≡ s.births → length s.pages ≤ length t.pages + 1 → AreFew s t
few_less s t births pages = omega (arith, births, pages)

-- an entry
few_births : (deltas : List DeltaValue) (s : FlatState) (actor : Actor) (event : Event) → IsRising (page_numbers s.pages) → AreFew s (flat_after deltas s actor event)
few_births deltas s (Hart h) (Fetch pc word) up = few_same s (flat_after deltas s (Hart h) (Fetch pc word)) refl refl
few_births deltas s (Hart h) (Look va width value) up = few_same s (flat_after deltas s (Hart h) (Look va width value)) refl refl
few_births deltas s (Hart h) (Take page) up = few_same s (flat_after deltas s (Hart h) (Take page)) refl (length-map s.pages (at_number page (taken_by h)))
few_births deltas s (Hart h) (Put va width value) up = few_same s (flat_after deltas s (Hart h) (Put va width value)) refl (length-map s.pages (at_number (page_of va) (put_with (va % 4096) width value)))
few_births deltas s (Hart h) (Swap va width old new) up = few_same s (flat_after deltas s (Hart h) (Swap va width old new)) refl (length-map s.pages (at_number (page_of va) (put_with (va % 4096) width new)))
few_births deltas s (Hart h) (Miss va) up = few_same s (flat_after deltas s (Hart h) (Miss va)) refl refl
few_births deltas s (Hart h) (End pc) up = few_same s (flat_after deltas s (Hart h) (End pc)) (same_births s h (slice_get s.harts h)) (few_ended s h (slice_get s.harts h))
few_births deltas s (Hart h) (Again page) up = few_same s (flat_after deltas s (Hart h) (Again page)) refl refl
few_births deltas s (Hart h) (Wait on) up = few_same s (flat_after deltas s (Hart h) (Wait on)) refl refl
few_births deltas s (Hart h) Enter up = few_same s (flat_after deltas s (Hart h) Enter) refl refl
few_births deltas s (Hart h) (Sync generation page) up = few_same s (flat_after deltas s (Hart h) (Sync generation page)) refl refl
few_births deltas s (Hart h) (Trap cause value) up = few_same s (flat_after deltas s (Hart h) (Trap cause value)) refl refl
few_births deltas s (Hart h) (Exit code) up = few_same s (flat_after deltas s (Hart h) (Exit code)) refl refl
few_births deltas s (Hart h) (Out byte) up = few_same s (flat_after deltas s (Hart h) (Out byte)) refl refl
few_births deltas s (Hart h) Idle up = few_same s s refl refl
few_births deltas s (Hart h) (Map page n write patch) up = few_map s page n write (delta_of deltas patch)
few_births deltas s (Hart h) (Going page n) up = few_same s (flat_after deltas s (Hart h) (Going page n)) refl (length-map s.pages (going_in page n))
few_births deltas s (Hart h) (Ending page) up = few_same s (flat_after deltas s (Hart h) (Ending page)) refl (length-map s.pages (at_number page ending))
few_births deltas s (Hart h) (Gone page worn) up = few_less s (flat_after deltas s (Hart h) (Gone page worn)) refl (few_gone s.pages page up)
few_births deltas s (Hart h) (Born generation parent patch) up = few_same s (flat_after deltas s (Hart h) (Born generation parent patch)) refl refl
few_births deltas s (Hart h) (Move generation) up = few_same s (flat_after deltas s (Hart h) (Move generation)) refl refl
few_births deltas s (Hart h) (Dead generation) up = few_same s (flat_after deltas s (Hart h) (Dead generation)) refl refl
few_births deltas s (Hart h) (Refused reason) up = few_same s (flat_after deltas s (Hart h) (Refused reason)) refl refl
few_births deltas s Kernel (Map page n write patch) up = few_map s page n write (delta_of deltas patch)
few_births deltas s Kernel (Going page n) up = few_same s (flat_after deltas s Kernel (Going page n)) refl (length-map s.pages (going_in page n))
few_births deltas s Kernel (Ending page) up = few_same s (flat_after deltas s Kernel (Ending page)) refl (length-map s.pages (at_number page ending))
few_births deltas s Kernel (Gone page worn) up = few_less s (flat_after deltas s Kernel (Gone page worn)) refl (few_gone s.pages page up)
few_births deltas s Kernel (Fetch pc word) up = few_same s s refl refl
few_births deltas s Kernel (Look va width value) up = few_same s s refl refl
few_births deltas s Kernel (Take page) up = few_same s s refl refl
few_births deltas s Kernel (Put va width value) up = few_same s s refl refl
few_births deltas s Kernel (Swap va width old new) up = few_same s s refl refl
few_births deltas s Kernel (Miss va) up = few_same s s refl refl
few_births deltas s Kernel (End pc) up = few_same s s refl refl
few_births deltas s Kernel (Again page) up = few_same s s refl refl
few_births deltas s Kernel (Wait on) up = few_same s s refl refl
few_births deltas s Kernel Enter up = few_same s (flat_after deltas s Kernel Enter) refl refl
few_births deltas s Kernel (Sync generation page) up = few_same s s refl refl
few_births deltas s Kernel (Trap cause value) up = few_same s s refl refl
few_births deltas s Kernel (Exit code) up = few_same s s refl refl
few_births deltas s Kernel (Out byte) up = few_same s s refl refl
few_births deltas s Kernel Idle up = few_same s s refl refl
few_births deltas s Kernel (Born generation parent patch) up = few_same s (flat_after deltas s Kernel (Born generation parent patch)) refl refl
few_births deltas s Kernel (Move generation) up = few_same s s refl refl
few_births deltas s Kernel (Dead generation) up = few_same s (flat_after deltas s Kernel (Dead generation)) refl refl
few_births deltas s Kernel (Refused reason) up = few_same s (flat_after deltas s Kernel (Refused reason)) refl refl

few_steps : (m : Moment) (entries : List Entry) → IsSound m → IsLegal m entries → (end_of m entries).flat.births + length m.flat.pages ≤ m.flat.births + length (end_of m entries).flat.pages + length entries
few_steps m [] sound legal = omega arith
few_steps m (entry ∷ entries) sound legal =
    let next : Moment = after m entry.actor entry.event in
    let one : AreFew m.flat next.flat = few_births m.deltas m.flat entry.actor entry.event sound.state.ordered.pages in
    let rest = few_steps next entries (entry_keeps m entry.actor entry.event sound legal.0) legal.1 in
    omega arith

-- a journal
pub few_over : (m : Moment) (entries : List Entry) → IsSound m → IsLegal m entries → (end_of m entries).flat.births ≤ m.flat.births + 65536 + length entries
few_over m entries sound legal =
    let steps = few_steps m entries sound legal in
    let state = (journal_keeps m entries sound legal).state in
    let frames = state.frames in
    let most = state.limits.many_frames in
    omega arith
