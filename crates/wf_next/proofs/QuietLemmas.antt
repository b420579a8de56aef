-- Where a hart is undisturbed, what it may do outside asks for nothing.
use Rattle.std.proofs.Common.{◌≡◌, inl, inr, ℕ, List, [], ◌∷◌, Option, Some, None, Bool, true, false, not, ◌&&◌, ◌==◌, refl, sym, subst, ◌∙◌}
use Rattle.std.specs.Prelude.{is_some, nat_lt, option_and_then}
use Rattle.std.specs.List.{AllByRecursion}
use Rattle.std.specs.Option.{option_map}
use Rattle.std.proofs.lemmas.Bool.{and_parts, or_cases}
use Rattle.rv_inst.specs.declared.inst.Inst.{Inst}
use Rattle.rv_inst.specs.declared.want.Want.{Want}
use Rattle.rv_inst.specs.declared.want.Want.TheVariants.{Nothing, Call}
use Rattle.rv_inst.specs.declared.want.Want.TheVariants as want
use Rattle.rv_inst.specs.Decoding.{inst_of}
use Rattle.rv_inst.specs.Meanings.{want_of}
use Rattle.wf_outside.specs.Pages.{PageValue}
use Rattle.wf_flat.specs.declared.state.Stage.{Stage}
use Rattle.wf_flat.specs.declared.state.Stage.TheVariants.{Here}
use Rattle.wf_flat.specs.State.{FlatState, HartState, PageState}
use Rattle.wf_flat.specs.Lists.{found_by}
use Rattle.wf_flat.specs.Memory.{data_in, word_at}
use Rattle.wf_flat.specs.Accesses.{Access, access_of, generation_text, accessed_text, accessed_data, is_here, is_reached, is_barred, is_free, holder_is, holds}
use Rattle.wf_flat.specs.Steps.{MayFetch, MayLook, MayTake, MayPut, MaySwap, MayMiss, want_in, access_in, ask_of, ask_by, ask_of_word, ask_of_want, ask_of_access, asks_access, is_lost, is_done, has_ended, Reads, misses, misses_page}
use Rattle.wf_next.specs.Determined.{IsOwn, IsUndisturbed}
use Rattle.wf_next.proofs.ActLemmas.{taking, missing, missed_page, reads_page}

-- in no try, a hart has no access, and has nothing done
pub no_access : (hart : HartState) → hart.fetched ≡ None → access_in hart ≡ None
no_access hart e = rw e refl

pub not_done : (hart : HartState) → hart.fetched ≡ None → is_done hart (want_in hart) ≡ false
not_done hart e = rw e refl

-- so it has none at all
pub fetch_access : (hart : HartState) (access : Access) → hart.fetched ≡ None → access_in hart ≡ Some access → ⊥
fetch_access hart access e a = let none = no_access hart e in cc

-- in no try, at a word of its text, it asks for nothing
no_ask : (s : FlatState) (h : ℕ) (hart : HartState) (word : ℕ) → hart.fetched ≡ None → word_at (generation_text s hart.generation) hart.arch.pc ≡ Some word → ask_of s h hart ≡ None
no_ask s h hart word e r = rw (e, r) refl

pub fetch_quiet : (s : FlatState) (h : ℕ) (hart : HartState) (pc word : ℕ) → MayFetch (generation_text s hart.generation) hart pc word → ask_of s h hart ≡ None
fetch_quiet s h hart pc word p = no_ask s h hart word p.0 (subst (λ (a : ℕ). word_at (generation_text s hart.generation) a ≡ Some word) p.1 p.2)

-- what is done asks for nothing
done_access : (s : FlatState) (h : ℕ) (hart : HartState) (access : Access) → is_some hart.looked ≡ true → ask_of_access s h hart (Some access) ≡ None
done_access s h hart access e = rw e refl

done_ended : (s : FlatState) (h : ℕ) (hart : HartState) (o : Option Access) → has_ended hart o ≡ true → ask_of_access s h hart o ≡ None
done_ended s h hart None d = refl
done_ended s h hart (Some access) d = done_access s h hart access (and_parts (is_some hart.looked) _ d).0

done_want : (s : FlatState) (h : ℕ) (hart : HartState) (o : Option Want) → is_done hart o ≡ true → ask_of_want s h hart o ≡ None
done_want s h hart (Some Nothing) d = refl
done_want s h hart (Some Call) d = absurd (cc)
done_want s h hart (Some (want.Trap cause value)) d = absurd (cc)
done_want s h hart o d = done_ended s h hart (access_of o) d

done_word : (s : FlatState) (h : ℕ) (hart : HartState) (word : ℕ) (o : Option Inst) → is_done hart (option_map (λ (inst : Inst). want_of inst hart.arch) o) ≡ true → ask_of_word s h hart word o ≡ None
done_word s h hart word None d = absurd (cc)
done_word s h hart word (Some inst) d = done_want s h hart (Some (want_of inst hart.arch)) d

pub done_by : (s : FlatState) (h : ℕ) (hart : HartState) (fetched : Option ℕ) → is_done hart (option_map (λ (inst : Inst). want_of inst hart.arch) (option_and_then inst_of fetched)) ≡ true → ask_by s h hart fetched ≡ None
done_by s h hart None d = absurd (cc)
done_by s h hart (Some word) d = done_word s h hart word (inst_of word) d

-- an access that asks for nothing
quiet_access : (s : FlatState) (h : ℕ) (hart : HartState) (access : Access) → asks_access s h hart access ≡ false → ask_of_access s h hart (Some access) ≡ None
quiet_access s h hart access n = rw n refl

quiet_want : (s : FlatState) (h : ℕ) (hart : HartState) (o : Option Want) (access : Access) → access_of o ≡ Some access → asks_access s h hart access ≡ false → ask_of_want s h hart o ≡ None
quiet_want s h hart None access e n = absurd (cc)
quiet_want s h hart (Some Nothing) access e n = absurd (cc)
quiet_want s h hart (Some Call) access e n = absurd (cc)
quiet_want s h hart (Some (want.Trap cause value)) access e n = absurd (cc)
quiet_want s h hart o access e n = subst (λ (a : Option Access). ask_of_access s h hart a ≡ None) (sym e) (quiet_access s h hart access n)

quiet_word : (s : FlatState) (h : ℕ) (hart : HartState) (word : ℕ) (o : Option Inst) (access : Access) → access_of (option_map (λ (inst : Inst). want_of inst hart.arch) o) ≡ Some access → asks_access s h hart access ≡ false → ask_of_word s h hart word o ≡ None
quiet_word s h hart word None access e n = absurd (cc)
quiet_word s h hart word (Some inst) access e n = quiet_want s h hart (Some (want_of inst hart.arch)) access e n

quiet_by : (s : FlatState) (h : ℕ) (hart : HartState) (fetched : Option ℕ) (access : Access) → access_of (option_map (λ (inst : Inst). want_of inst hart.arch) (option_and_then inst_of fetched)) ≡ Some access → asks_access s h hart access ≡ false → ask_by s h hart fetched ≡ None
quiet_by s h hart None access e n = absurd (cc)
quiet_by s h hart (Some word) access e n = quiet_word s h hart word (inst_of word) access e n

-- of a page that is held, or is not barred, or of a store-conditional that is lost
when_held : (looked lost barred : Bool) → (not looked && not true && not lost && barred) ≡ false
when_held true lost barred = refl
when_held false lost barred = refl

when_open : (looked held lost : Bool) → (not looked && not held && not lost && false) ≡ false
when_open true held lost = refl
when_open false true lost = refl
when_open false false true = refl
when_open false false false = refl

when_lost : (looked held barred : Bool) → (not looked && not held && not true && barred) ≡ false
when_lost true held barred = refl
when_lost false true barred = refl
when_lost false false barred = refl

held : (s : FlatState) (h : ℕ) (hart : HartState) (access : Access) → holds s h access ≡ true → asks_access s h hart access ≡ false
held s h hart access e = subst (λ (b : Bool). (not (is_some hart.looked) && not b && not (is_lost (want_in hart) hart.reservation) && is_barred s hart access) ≡ false) (sym e) (when_held (is_some hart.looked) (is_lost (want_in hart) hart.reservation) (is_barred s hart access))

unbarred : (s : FlatState) (h : ℕ) (hart : HartState) (access : Access) → is_barred s hart access ≡ false → asks_access s h hart access ≡ false
unbarred s h hart access e = subst (λ (b : Bool). (not (is_some hart.looked) && not (holds s h access) && not (is_lost (want_in hart) hart.reservation) && b) ≡ false) (sym e) (when_open (is_some hart.looked) (holds s h access) (is_lost (want_in hart) hart.reservation))

lost : (s : FlatState) (h : ℕ) (hart : HartState) (access : Access) → is_lost (want_in hart) hart.reservation ≡ true → asks_access s h hart access ≡ false
lost s h hart access e = subst (λ (b : Bool). (not (is_some hart.looked) && not (holds s h access) && not b && is_barred s hart access) ≡ false) (sym e) (when_lost (is_some hart.looked) (holds s h access) (is_barred s hart access))

-- so a hart that holds the page of its access asks for nothing
pub held_quiet : (s : FlatState) (h : ℕ) (hart : HartState) (access : Access) → access_in hart ≡ Some access → holds s h access ≡ true → ask_of s h hart ≡ None
held_quiet s h hart access is e = quiet_by s h hart hart.fetched access is (held s h hart access e)

-- what holds of all pages holds of the one of a number
found_by_test : (P : PageState → Type 0) (p : PageState) (pages : List PageState) (n : ℕ) (page : PageState) (b : Bool) → (p.number == n) ≡ b → P p → (found_by (λ (p : PageState). p.number) pages n ≡ Some page → P page) → found_by (λ (p : PageState). p.number) (p ∷ pages) n ≡ Some page → P page
found_by_test P p pages n page true t first rest e =
    let f : found_by (λ (p : PageState). p.number) (p ∷ pages) n ≡ Some p = rw t refl in
    let same : p ≡ page = cc in
    subst P same first
found_by_test P p pages n page false t first rest e =
    let f : found_by (λ (p : PageState). p.number) (p ∷ pages) n ≡ found_by (λ (p : PageState). p.number) pages n = rw t refl in
    rest (sym f ∙ e)

pub found_all : (P : PageState → Type 0) (pages : List PageState) (n : ℕ) (page : PageState) → AllByRecursion P pages → data_in pages n ≡ Some page → P page
found_all P [] n page a e = absurd (cc)
found_all P (p ∷ pages) n page a e = found_by_test P p pages n page (p.number == n) refl a.0 (found_all P pages n page a.1) e

-- where nothing disturbs, a page in reach is not barred
here_of : (stage : Stage) → stage ≡ Here → is_here stage ≡ true
here_of stage e = rw e refl

reached_open : (s : FlatState) (hart : HartState) (access : Access) (page : PageState) → hart.moved ≡ [] → accessed_text s hart access ≡ None → accessed_data s access ≡ Some page → page.stage ≡ Here → is_reached s hart access page ≡ true → is_barred s hart access ≡ false
reached_open s hart access page moved none is stage reached =
    let here : is_here page.stage ≡ true = here_of page.stage stage in
    rw (none, moved, is, here, reached) refl

-- nothing disturbs a try
abbrev pub IsQuiet : FlatState → ℕ → HartState → Type 0
IsQuiet s h hart = (hart.moved ≡ []) × AllByRecursion (IsOwn h) s.pages

-- a hart with an access is in a try
pub in_try : (s : FlatState) (h : ℕ) (hart : HartState) (access : Access) → IsUndisturbed s h hart → access_in hart ≡ Some access → IsQuiet s h hart
in_try s h hart access (inl none) e = absurd (fetch_access hart access none.0 e)
in_try s h hart access (inr quiet) e = quiet

-- what may look, take, put, swap or miss asks for nothing
look_asks : (s : FlatState) (h : ℕ) (hart : HartState) (access : Access) (value : ℕ) (o : Option PageValue) → IsQuiet s h hart → access.write ≡ false → accessed_text s hart access ≡ o → Reads s h hart access o value → asks_access s h hart access ≡ false
look_asks s h hart access value (Some page) u write text p = unbarred s h hart access (rw (text, write) refl)
look_asks s h hart access value None u write text p =
    let w = reads_page s h hart access value (accessed_data s access) p in
    elim (or_cases (is_free w.0 && is_reached s hart access w.0 && nat_lt w.0.writes s.limits.last_writes) (holder_is w.0.holder h) w.2) [
      | inl free ↦ unbarred s h hart access (reached_open s hart access w.0 u.0 text w.1 (found_all (IsOwn h) s.pages _ w.0 u.1 w.1).0 (and_parts _ _ (and_parts _ _ free).0).1)
      | inr holder ↦ held s h hart access (rw w.1 holder)
    ]

pub look_quiet : (s : FlatState) (h : ℕ) (hart : HartState) (va width value : ℕ) → IsUndisturbed s h hart → MayLook s h hart va width value → ask_of s h hart ≡ None
look_quiet s h hart va width value u p =
    let access : Access = record { va = va; width = width; write = false } in
    quiet_by s h hart hart.fetched access p.0 (look_asks s h hart access value (accessed_text s hart access) (in_try s h hart access u p.0) refl refl p.2)

pub take_quiet : (s : FlatState) (h : ℕ) (hart : HartState) (number : ℕ) → IsUndisturbed s h hart → MayTake s hart (access_in hart) number → ask_of s h hart ≡ None
take_quiet s h hart number u p =
    let t = taking s hart number p in
    let v = in_try s h hart t.access u t.is_access in
    quiet_by s h hart hart.fetched t.access t.is_access (unbarred s h hart t.access (reached_open s hart t.access t.page v.0 t.not_text t.is_page (found_all (IsOwn h) s.pages _ t.page v.1 t.is_page).0 t.takes.1))

pub put_quiet : (s : FlatState) (h : ℕ) (hart : HartState) (va width value : ℕ) → MayPut s h hart va width value → ask_of s h hart ≡ None
put_quiet s h hart va width value p =
    let access : Access = record { va = va; width = width; write = true } in
    quiet_by s h hart hart.fetched access p.0 (held s h hart access p.1)

pub swap_quiet : (s : FlatState) (h : ℕ) (hart : HartState) (va width old new : ℕ) → MaySwap s h hart va width old new → ask_of s h hart ≡ None
swap_quiet s h hart va width old new p =
    let access : Access = record { va = va; width = width; write = true } in
    quiet_by s h hart hart.fetched access p.0 (held s h hart access p.1)

no_text_page : (o : Option PageValue) → not (is_some o) ≡ true → o ≡ None
no_text_page None e = refl
no_text_page (Some page) e = absurd (cc)

miss_asks : (s : FlatState) (h : ℕ) (hart : HartState) (access : Access) → IsQuiet s h hart → misses s hart access ≡ true → asks_access s h hart access ≡ false
miss_asks s h hart access u p =
    elim (or_cases (is_lost (want_in hart) hart.reservation) (not (is_some (accessed_text s hart access)) && misses_page s hart access (accessed_data s access)) p) [
      | inl is ↦ lost s h hart access is
      | inr other ↦ (
          let w = and_parts (not (is_some (accessed_text s hart access))) (misses_page s hart access (accessed_data s access)) other in
          let page = missed_page s hart access (accessed_data s access) w.1 in
          unbarred s h hart access (reached_open s hart access page.0 u.0 (no_text_page (accessed_text s hart access) w.0) page.1 (found_all (IsOwn h) s.pages _ page.0 u.1 page.1).0 page.2))
    ]

pub miss_quiet : (s : FlatState) (h : ℕ) (hart : HartState) (va : ℕ) → IsUndisturbed s h hart → MayMiss s h hart (access_in hart) va → ask_of s h hart ≡ None
miss_quiet s h hart va u p =
    let m = missing s h hart va p in
    quiet_by s h hart hart.fetched m.access m.is_access (miss_asks s h hart m.access (in_try s h hart m.access u m.is_access) m.misses)
