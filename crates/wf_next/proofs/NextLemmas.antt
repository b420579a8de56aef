-- What an undisturbed hart may do outside is its next event.
use Rattle.std.proofs.Common.{◌≡◌, ◌≢◌, inl, inr, ℕ, List, Option, Some, None, Bool, true, false, ◌&&◌, ◌||◌, ◌%◌, ◌*◌, ◌^◌, if◌then◌else◌, refl, sym, subst, ap, ◌∙◌}
use Rattle.std.specs.Prelude.{is_some, slice_get, option_and_then}
use Rattle.rv_inst.specs.declared.want.Want.{Want}
use Rattle.rv_inst.specs.declared.want.Want.TheVariants as want
use Rattle.wf_outside.specs.declared.sizes.TheConstants.{PAGE_SIZE}
use Rattle.wf_outside.specs.Pages.{PageValue, page_of}
use Rattle.wf_flat.specs.declared.event.Actor.{Actor}
use Rattle.wf_flat.specs.declared.event.Actor.TheVariants.{Hart}
use Rattle.wf_flat.specs.declared.event.Event.{Event}
use Rattle.wf_flat.specs.declared.event.Event.TheVariants.{Fetch, Look, Take, Put, Swap, Miss, End, Again, Wait, Enter, Idle}
use Rattle.wf_flat.specs.declared.event.WaitFor.TheVariants as waits
use Rattle.wf_flat.specs.declared.state.Life.{Life}
use Rattle.wf_flat.specs.declared.state.Life.TheVariants.{Running, Exited, Trapped}
use Rattle.wf_flat.specs.State.{FlatState, HartState, PageState}
use Rattle.wf_flat.specs.Memory.{word_at, number_in, data_in}
use Rattle.wf_flat.specs.Accesses.{Access, access_of, generation_text, accessed_text, accessed_data, has_moved, in_reach, is_held_by_other, holder_is, holds, holds_page}
use Rattle.wf_flat.specs.Steps.{Ask, MayAct, MayFetch, MayLook, MayTake, MayPut, MaySwap, MayMiss, MayEnd, MayTryAgain, MayWait, MayWaitForPage, want_in, access_in, arch_after, ask_of, is_done, is_page_going, is_kept_from, may_read, ReadsData, Reads, put_of, swap_of, is_conditional, misses}
use Rattle.wf_effects.specs.Generations.{is_running}
use Rattle.wf_next.specs.Determined.{IsOwn, IsUndisturbed}
use Rattle.wf_next.specs.Next.{next_asking, next_in_try, next_of_access, next_of_data, next_of_held, next_of_read, next_of_write, next_outside, next_unasked, write_of}
use Rattle.std.proofs.lemmas.Bool.{and_parts}
use Rattle.std.proofs.lemmas.Bool.Decides.{nat_tests}
use Rattle.std.proofs.Common.{arith}
use Rattle.std.specs.List.{AllByRecursion}
use Rattle.wf_flat.specs.declared.event.WaitFor.{WaitFor}
use Rattle.wf_flat.proofs.ListLemmas.{some_and}
use Rattle.wf_next.proofs.ActLemmas.{Takes, va_of, width_of, at_some, conditional_writes, free_unheld, held_page, missing, read_unread, take_unmissed, taking, undone}
use Rattle.wf_next.proofs.QuietLemmas.{done_by, fetch_access, fetch_quiet, found_all, in_try, look_quiet, miss_quiet, not_done, put_quiet, swap_quiet, take_quiet}

unasked : (s : FlatState) (h : ℕ) (hart : HartState) → hart.life ≡ Running → ask_of s h hart ≡ None → next_outside s h hart ≡ next_unasked s h hart hart.fetched
unasked s h hart runs quiet = rw (runs, quiet) refl

asks : (o : Option Ask) → o ≢ None → is_some o ≡ true
asks None not_so = absurd (not_so refl)
asks (Some ask) not_so = refl

asked : (s : FlatState) (h : ℕ) (hart : HartState) → hart.life ≡ Running → ask_of s h hart ≢ None → next_outside s h hart ≡ Some (next_asking s.inside)
asked s h hart runs asking = rw (runs, asks (ask_of s h hart) asking) refl

stopped : (life : Life) → life ≢ Running → is_running life ≡ false
stopped Running not_so = absurd (not_so refl)
stopped (Exited code) not_so = refl
stopped (Trapped cause value) not_so = refl

idle : (s : FlatState) (h : ℕ) (hart : HartState) → hart.life ≢ Running → next_outside s h hart ≡ Some Idle
idle s h hart not_so = rw (stopped hart.life not_so) refl

-- a fetch
fetches : (s : FlatState) (h : ℕ) (hart : HartState) (pc word : ℕ) → MayFetch (generation_text s hart.generation) hart pc word → next_unasked s h hart hart.fetched ≡ Some (Fetch pc word)
fetches s h hart pc word p =
    let at : word_at (generation_text s hart.generation) hart.arch.pc ≡ Some word = subst (λ (a : ℕ). word_at (generation_text s hart.generation) a ≡ Some word) p.1 p.2 in
    let next : next_unasked s h hart None ≡ Some (Fetch hart.arch.pc word) = rw at refl in
    subst (λ (o : Option ℕ). next_unasked s h hart o ≡ Some (Fetch pc word)) (sym p.0) (next ∙ ap (λ (a : ℕ). Some (Fetch a word)) (sym p.1))

-- a hart in a try
tries : (s : FlatState) (h : ℕ) (hart : HartState) (o : Option ℕ) → o ≢ None → next_unasked s h hart o ≡ next_in_try s h hart
tries s h hart None not_so = absurd (not_so refl)
tries s h hart (Some word) not_so = refl

ends : (s : FlatState) (h : ℕ) (hart : HartState) (pc : ℕ) → MayEnd hart pc → next_unasked s h hart hart.fetched ≡ Some (End pc)
ends s h hart pc p =
    let trying = tries s h hart hart.fetched (λ none. let not_so = not_done hart none in let is = p.0 in cc) in
    let next : next_in_try s h hart ≡ Some (End (arch_after hart).pc) = rw p.0 refl in
    trying ∙ next ∙ ap (λ (a : ℕ). Some (End a)) (sym p.1)

undone_step : (done : Bool) (o : Option Access) (access : Access) (f : Access → Option Event) (end : Event) → done ≡ false → o ≡ Some access → (if done then Some end else option_and_then f o) ≡ f access
undone_step done o access f end d e = rw (d, e) refl

accesses : (s : FlatState) (h : ℕ) (hart : HartState) (access : Access) → access_in hart ≡ Some access → hart.looked ≡ None → next_unasked s h hart hart.fetched ≡ next_of_access s h hart access
accesses s h hart access e none =
    tries s h hart hart.fetched (λ unfetched. fetch_access hart access unfetched e)
    ∙ undone_step (is_done hart (want_in hart)) (access_in hart) access (λ access. next_of_access s h hart access) (End (arch_after hart).pc) (undone hart access e none) e

-- a read
reads_data : (s : FlatState) (h : ℕ) (hart : HartState) (access : Access) (value : ℕ) (o : Option PageState) → accessed_data s access ≡ o → ReadsData s h hart access o value → next_of_read s h hart access None ≡ Some (Look access.va access.width value)
reads_data s h hart access value None is p = absurd p
reads_data s h hart access value (Some page) is p =
    let looks : next_of_data s h hart access page ≡ Look access.va access.width (number_in page.words (access.va % PAGE_SIZE) access.width) = rw p.0 refl in
    let next : next_of_read s h hart access None ≡ Some (next_of_data s h hart access page) = rw is refl in
    next ∙ ap Some (looks ∙ ap (λ (n : ℕ). Look access.va access.width n) (sym p.1))

reads : (s : FlatState) (h : ℕ) (hart : HartState) (access : Access) (value : ℕ) (o : Option PageValue) → Reads s h hart access o value → next_of_read s h hart access o ≡ Some (Look access.va access.width value)
reads s h hart access value None p = reads_data s h hart access value (accessed_data s access) refl p
reads s h hart access value (Some page) p = ap (λ (n : ℕ). Some (Look access.va access.width n)) (sym p)

looks : (s : FlatState) (h : ℕ) (hart : HartState) (va width value : ℕ) → MayLook s h hart va width value → next_unasked s h hart hart.fetched ≡ Some (Look va width value)
looks s h hart va width value p =
    let access : Access = record { va = va; width = width; write = false } in
    accesses s h hart access p.0 p.1 ∙ reads s h hart access value (accessed_text s hart access) p.2

-- a take
take_reads : (s : FlatState) (h : ℕ) (hart : HartState) (access : Access) (page : PageState) → accessed_text s hart access ≡ None → accessed_data s access ≡ Some page → may_read s h hart access page ≡ false → next_of_read s h hart access (accessed_text s hart access) ≡ Some (Take (page_of access.va))
take_reads s h hart access page text is unread = rw (text, is, unread) refl

take_writes : (s : FlatState) (h : ℕ) (hart : HartState) (access : Access) → holds s h access ≡ false → (is_conditional (want_in hart) && misses s hart access) ≡ false → next_of_write s h hart access ≡ Some (Take (page_of access.va))
take_writes s h hart access unheld unmissed = rw (unheld, unmissed) refl

by_write : (s : FlatState) (h : ℕ) (hart : HartState) (access : Access) (b : Bool) → access.write ≡ b → next_of_access s h hart access ≡ (if b then next_of_write s h hart access else next_of_read s h hart access (accessed_text s hart access))
by_write s h hart access b e = ap (λ (b : Bool). if b then next_of_write s h hart access else next_of_read s h hart access (accessed_text s hart access)) e

take_access : (s : FlatState) (h : ℕ) (hart : HartState) (access : Access) (page : PageState) (b : Bool) → access.write ≡ b → access_in hart ≡ Some access → accessed_text s hart access ≡ None → accessed_data s access ≡ Some page → Takes s hart access page → next_of_access s h hart access ≡ Some (Take (page_of access.va))
take_access s h hart access page true write e text is takes =
    let unheld : holds s h access ≡ false = subst (λ (o : Option PageState). holds_page h o ≡ false) (sym is) (free_unheld h page.holder takes.0) in
    by_write s h hart access true write ∙ take_writes s h hart access unheld (take_unmissed s hart access page e is takes)
take_access s h hart access page false write e text is takes =
    by_write s h hart access false write ∙ take_reads s h hart access page text is (read_unread s h hart access page e write takes)

takes : (s : FlatState) (h : ℕ) (hart : HartState) (number : ℕ) → MayTake s hart (access_in hart) number → next_unasked s h hart hart.fetched ≡ Some (Take number)
takes s h hart number p =
    let t = taking s hart number p in
    accesses s h hart t.access t.is_access t.unlooked ∙ take_access s h hart t.access t.page t.access.write refl t.is_access t.not_text t.is_page t.takes ∙ ap (λ (n : ℕ). Some (Take n)) (sym t.is_number)

-- a write that holds its page
held_writes : (s : FlatState) (h : ℕ) (hart : HartState) (access : Access) (page : PageState) → holds s h access ≡ true → accessed_data s access ≡ Some page → next_of_write s h hart access ≡ next_of_held hart access page
held_writes s h hart access page held is =
    let next : next_of_write s h hart access ≡ option_and_then (λ page. next_of_held hart access page) (accessed_data s access) = rw held refl in
    next ∙ ap (λ (o : Option PageState). option_and_then (λ page. next_of_held hart access page) o) is

puts_want : (o : Option Want) (access : Access) (old whole : ℕ) → access_of o ≡ Some access → put_of o ≡ Some whole → write_of o old ≡ Some (Put access.va access.width (whole % 2 ^ (8 * access.width)))
puts_want (Some (want.Put va width value)) access old whole e p =
    let vas : va ≡ access.va = ap va_of e in
    let widths : width ≡ access.width = ap width_of e in
    let wholes : value ≡ whole = cc in
    rw (vas, widths, wholes) refl
puts_want (Some (want.PutIf va width value)) access old whole e p =
    let vas : va ≡ access.va = ap va_of e in
    let widths : width ≡ access.width = ap width_of e in
    let wholes : value ≡ whole = cc in
    rw (vas, widths, wholes) refl
puts_want o access old whole e p = absurd (cc)

puts : (s : FlatState) (h : ℕ) (hart : HartState) (va width value : ℕ) → MayPut s h hart va width value → next_unasked s h hart hart.fetched ≡ Some (Put va width value)
puts s h hart va width value p =
    let access : Access = record { va = va; width = width; write = true } in
    let page = held_page h (accessed_data s access) p.1 in
    let whole = some_and (put_of (want_in hart)) _ p.4 in
    accesses s h hart access p.0 p.2 ∙ held_writes s h hart access page.0 p.1 page.1
    ∙ puts_want (want_in hart) access (number_in page.0.words (va % PAGE_SIZE) width) whole.0 p.0 whole.1
    ∙ ap (λ (n : ℕ). Some (Put va width n)) (sym whole.2)

swaps_want : (o : Option Want) (access : Access) (old new : ℕ) → access_of o ≡ Some access → swap_of o old ≡ Some new → write_of o old ≡ Some (Swap access.va access.width old new)
swaps_want (Some (want.Swap va width op value)) access old new e p =
    let vas : va ≡ access.va = ap va_of e in
    let widths : width ≡ access.width = ap width_of e in
    cc
swaps_want o access old new e p = absurd (cc)

swaps : (s : FlatState) (h : ℕ) (hart : HartState) (va width old new : ℕ) → MaySwap s h hart va width old new → next_unasked s h hart hart.fetched ≡ Some (Swap va width old new)
swaps s h hart va width old new p =
    let access : Access = record { va = va; width = width; write = true } in
    let page = some_and (accessed_data s access) _ p.4 in
    let next = swaps_want (want_in hart) access old new p.0 p.5 in
    accesses s h hart access p.0 p.2 ∙ held_writes s h hart access page.0 p.1 page.1
    ∙ ap (λ (n : ℕ). write_of (want_in hart) n) (sym page.2) ∙ next

-- a miss
misses_write : (s : FlatState) (h : ℕ) (hart : HartState) (access : Access) → holds s h access ≡ false → is_conditional (want_in hart) ≡ true → misses s hart access ≡ true → next_of_write s h hart access ≡ Some (Miss access.va)
misses_write s h hart access unheld conditional miss =
    let both : (is_conditional (want_in hart) && misses s hart access) ≡ true = rw (conditional, miss) refl in
    rw (unheld, both) refl

missed : (s : FlatState) (h : ℕ) (hart : HartState) (va : ℕ) → MayMiss s h hart (access_in hart) va → next_unasked s h hart hart.fetched ≡ Some (Miss va)
missed s h hart va p =
    let m = missing s h hart va p in
    accesses s h hart m.access m.is_access m.unlooked ∙ by_write s h hart m.access true (conditional_writes (want_in hart) m.access m.conditional m.is_access)
    ∙ misses_write s h hart m.access m.unheld m.conditional m.misses ∙ ap (λ (n : ℕ). Some (Miss n)) (sym m.is_va)

-- no undisturbed hart gives its try up
going_here : (h : ℕ) (pages : List PageState) (number : ℕ) (o : Option PageState) → data_in pages number ≡ o → AllByRecursion (IsOwn h) pages → is_page_going o ≡ false
going_here h pages number None e all = refl
going_here h pages number (Some page) e all = rw (found_all (IsOwn h) pages number page all e).0 refl

no_again : (s : FlatState) (h : ℕ) (hart : HartState) (page : ℕ) → IsUndisturbed s h hart → MayTryAgain s h hart (access_in hart) page → ⊥
no_again s h hart page u p = by_access (access_in hart) refl p
  where
    by_access : (o : Option Access) → access_in hart ≡ o → MayTryAgain s h hart o page → ⊥
    by_access None e p = p
    by_access (Some access) e p =
        let quiet = in_try s h hart access u e in
        let still : has_moved hart page ≡ false = rw quiet.0 refl in
        let here = going_here h s.pages page (data_in s.pages page) refl quiet.1 in
        let neither : (has_moved hart page || is_page_going (data_in s.pages page)) ≡ false = rw (still, here) refl in
        let either = p.3 in
        cc

-- nor does it wait for a holder
own_held : (h : ℕ) (page : PageState) → IsOwn h page → is_held_by_other h page ≡ false
own_held h page (here, inl none) = rw none refl
own_held h page (here, inr own) = let e : holder_is (Some h) h ≡ true = grind (arith, nat_tests) in rw (own, e) refl

kept_from : (s : FlatState) (h : ℕ) (hart : HartState) (number : ℕ) (o : Option PageState) → data_in s.pages number ≡ o → AllByRecursion (IsOwn h) s.pages → is_kept_from s h hart o ≡ true → ⊥
kept_from s h hart number None e all p = cc
kept_from s h hart number (Some page) e all p =
    let not_so = own_held h page (found_all (IsOwn h) s.pages number page all e) in
    let is = (and_parts (in_reach s hart page) (is_held_by_other h page) p).1 in
    cc

no_wait : (s : FlatState) (h : ℕ) (hart : HartState) (page : ℕ) → IsUndisturbed s h hart → MayWaitForPage s h hart (access_in hart) page → ⊥
no_wait s h hart page u p = by_access (access_in hart) refl p
  where
    by_access : (o : Option Access) → access_in hart ≡ o → MayWaitForPage s h hart o page → ⊥
    by_access None e p = p
    by_access (Some access) e p =
        kept_from s h hart page (data_in s.pages page) refl (in_try s h hart access u e).1 p.2

waits_for : (s : FlatState) (h : ℕ) (hart : HartState) (on : WaitFor) → hart.life ≡ Running → IsUndisturbed s h hart → MayWait s h hart on → next_outside s h hart ≡ Some (Wait on)
waits_for s h hart (waits.Page page) runs u p = absurd (no_wait s h hart page u p)
waits_for s h hart (waits.Kernel other) runs u p = asked s h hart runs p.1 ∙ ap (λ (o : Option Actor). Some (next_asking o)) p.0.0

-- outside
pub outside : (s : FlatState) (h : ℕ) (hart : HartState) (e : Event) → slice_get s.harts h ≡ Some hart → IsUndisturbed s h hart → MayAct s (Hart h) e → next_outside s h hart ≡ Some e
outside s h hart (Fetch pc word) is u p =
    let q = at_some (slice_get s.harts h) _ hart is p in
    unasked s h hart q.0 (fetch_quiet s h hart pc word q.1) ∙ fetches s h hart pc word q.1
outside s h hart (Look va width value) is u p =
    let q = at_some (slice_get s.harts h) _ hart is p in
    unasked s h hart q.0 (look_quiet s h hart va width value u q.1) ∙ looks s h hart va width value q.1
outside s h hart (Take page) is u p =
    let q = at_some (slice_get s.harts h) _ hart is p in
    unasked s h hart q.0 (take_quiet s h hart page u q.1) ∙ takes s h hart page q.1
outside s h hart (Put va width value) is u p =
    let q = at_some (slice_get s.harts h) _ hart is p in
    unasked s h hart q.0 (put_quiet s h hart va width value q.1) ∙ puts s h hart va width value q.1
outside s h hart (Swap va width old new) is u p =
    let q = at_some (slice_get s.harts h) _ hart is p in
    unasked s h hart q.0 (swap_quiet s h hart va width old new q.1) ∙ swaps s h hart va width old new q.1
outside s h hart (Miss va) is u p =
    let q = at_some (slice_get s.harts h) _ hart is p in
    unasked s h hart q.0 (miss_quiet s h hart va u q.1) ∙ missed s h hart va q.1
outside s h hart (End pc) is u p =
    let q = at_some (slice_get s.harts h) _ hart is p in
    unasked s h hart q.0 (done_by s h hart hart.fetched q.1.0) ∙ ends s h hart pc q.1
outside s h hart (Again page) is u p =
    let q = at_some (slice_get s.harts h) _ hart is p in
    absurd (no_again s h hart page u q.1)
outside s h hart (Wait on) is u p =
    let q = at_some (slice_get s.harts h) _ hart is p in
    waits_for s h hart on q.0 u q.1
outside s h hart Enter is u p =
    let q = at_some (slice_get s.harts h) _ hart is p in
    asked s h hart q.0 q.1.1 ∙ ap (λ (o : Option Actor). Some (next_asking o)) q.1.0
outside s h hart Idle is u p = idle s h hart (at_some (slice_get s.harts h) _ hart is p)
outside s h hart e is u p = absurd p
