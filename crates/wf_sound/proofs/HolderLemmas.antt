-- Who holds no page: a hart that asks, and one whose access is not to a page that it holds.
use Rattle.std.proofs.Common.{◌≡◌, ◌≢◌, ◌==◌, ◌&&◌, ℕ, Bool, true, false, Option, Some, None, refl, ap, subst, ◌∙◌, arith, is_some, if◌then◌else◌}
use Rattle.std.specs.Prelude.{slice_get, IfSome, not, option_and_then}
use Rattle.std.specs.Option.{option_map}
use Rattle.std.specs.List.{AllByRecursion}
use Rattle.std.proofs.lemmas.Bool.Decides.{nat_tests}
use Rattle.wf_outside.specs.Pages.{page_of}
use Rattle.rv_inst.specs.declared.inst.Inst.{Inst}
use Rattle.rv_inst.specs.declared.want.Want.{Want}
use Rattle.rv_inst.specs.declared.want.Want.TheVariants.{Nothing, Look, Put, Swap, Reserve, PutIf, Call, Trap}
use Rattle.rv_inst.specs.Decoding.{inst_of}
use Rattle.rv_inst.specs.Meanings.{want_of}
use Rattle.wf_flat.specs.declared.event.Actor.TheVariants.{Hart}
use Rattle.wf_flat.specs.State.{FlatState, HartState, PageState}
use Rattle.wf_flat.specs.Ordered.{IsOrdered}
use Rattle.wf_flat.specs.Memory.{data_in}
use Rattle.wf_flat.specs.Accesses.{Access, access_of, holder_is, holds, holds_page, is_barred}
use Rattle.wf_flat.specs.Steps.{Faulted, OfHart, access_in, ask_by, ask_of, ask_of_access, ask_of_want, ask_of_word, asks_access, is_inside, is_lost, want_in}
use Rattle.wf_flat.proofs.ListLemmas.{and_some, some_and}
use Rattle.wf_sound.specs.Sound.{HasHolder, IsHolder}
use Rattle.wf_sound.proofs.AllLemmas.{all_both, all_named}
use Rattle.wf_sound.proofs.HartLemmas.{OtherNow, OwnNow, Stepped, stood_before}

-- a hart does not hold the page of its access, if it is in a try of one
abbrev pub HoldsNot : FlatState → ℕ → HartState → Type 0
HoldsNot s h hart = (access : Access) → access_in hart ≡ Some access → holds s h access ≡ false

asks_by : (a b c d : Bool) → (not a && not b && not c && d) ≡ true → b ≡ false
asks_by true b c d e = absurd cc
asks_by false true c d e = absurd cc
asks_by false false c d e = refl

asks_some : (s : FlatState) (h : ℕ) (hart : HartState) (access : Access) (b : Bool) → asks_access s h hart access ≡ b → (if b then Some (Faulted access) else None) ≢ None → holds s h access ≡ false
asks_some s h hart access true e asks = asks_by (is_some hart.looked) (holds s h access) (is_lost (want_in hart) hart.reservation) (is_barred s hart access) e
asks_some s h hart access false e asks = absurd (asks refl)

asks_of_access : (s : FlatState) (h : ℕ) (hart : HartState) (o : Option Access) → ask_of_access s h hart o ≢ None → (access : Access) → o ≡ Some access → holds s h access ≡ false
asks_of_access s h hart None asks access e = absurd cc
asks_of_access s h hart (Some one) asks access e =
    let k : one ≡ access = cc in
    subst (λ (a : Access). holds s h a ≡ false) k (asks_some s h hart one (asks_access s h hart one) refl asks)

asks_of_want : (s : FlatState) (h : ℕ) (hart : HartState) (want : Want) → ask_of_want s h hart (Some want) ≢ None → (access : Access) → access_of (Some want) ≡ Some access → holds s h access ≡ false
asks_of_want s h hart Nothing asks access e = absurd cc
asks_of_want s h hart (Look va width) asks access e = asks_of_access s h hart (access_of (Some (Look va width))) asks access e
asks_of_want s h hart (Put va width value) asks access e = asks_of_access s h hart (access_of (Some (Put va width value))) asks access e
asks_of_want s h hart (Swap va width op value) asks access e = asks_of_access s h hart (access_of (Some (Swap va width op value))) asks access e
asks_of_want s h hart (Reserve va width) asks access e = asks_of_access s h hart (access_of (Some (Reserve va width))) asks access e
asks_of_want s h hart (PutIf va width value) asks access e = asks_of_access s h hart (access_of (Some (PutIf va width value))) asks access e
asks_of_want s h hart Call asks access e = absurd cc
asks_of_want s h hart (Trap cause value) asks access e = absurd cc

asks_of_inst : (s : FlatState) (h : ℕ) (hart : HartState) (word : ℕ) (o : Option Inst) → ask_of_word s h hart word o ≢ None → (access : Access) → access_of (option_map (λ (inst : Inst). want_of inst hart.arch) o) ≡ Some access → holds s h access ≡ false
asks_of_inst s h hart word None asks access e = absurd cc
asks_of_inst s h hart word (Some inst) asks access e = asks_of_want s h hart (want_of inst hart.arch) asks access e

-- a hart between tries wants no access
pub no_access : (hart : HartState) → hart.fetched ≡ None → access_in hart ≡ None
no_access hart e = rw e refl

asks_by_fetched : (s : FlatState) (h : ℕ) (hart : HartState) (o : Option ℕ) → hart.fetched ≡ o → ask_of s h hart ≢ None → HoldsNot s h hart
asks_by_fetched s h hart None e asks access wants = absurd (let k = no_access hart e in cc)
asks_by_fetched s h hart (Some word) e asks access wants =
    asks_of_inst s h hart word (inst_of word) (subst (λ (o : Option ℕ). ask_by s h hart o ≢ None) e asks) access
    (subst (λ (o : Option ℕ). access_of (option_map (λ (inst : Inst). want_of inst hart.arch) (option_and_then inst_of o)) ≡ Some access) e wants)

-- a hart that asks holds no page
pub asks_not : (s : FlatState) (h : ℕ) (hart : HartState) → ask_of s h hart ≢ None → HoldsNot s h hart
asks_not s h hart asks = asks_by_fetched s h hart hart.fetched refl asks

-- nor does one between tries
pub free_not : (s : FlatState) (h : ℕ) (hart : HartState) → hart.fetched ≡ None → HoldsNot s h hart
free_not s h hart e access wants = absurd (let k = no_access hart e in cc)

holder_by : (s : FlatState) (h : ℕ) (hart : HartState) (page : PageState) (o : Option ℕ) → slice_get s.harts h ≡ Some hart → HoldsNot s h hart → page.holder ≡ o → IfSome o (λ h. OfHart s h (IsHolder s h page.number)) → data_in s.pages page.number ≡ Some page → holder_is o h ≡ false
holder_by s h hart page None at none is of found = refl
holder_by s h hart page (Some o) at none is of found = by_test (o == h) refl
  where
    same_hart : (x : HartState) → slice_get s.harts o ≡ Some x → o ≡ h → x ≡ hart
    same_hart x e same = let k : slice_get s.harts h ≡ Some x = rw (← same) e in cc

    holding : (x : HartState) → x ≡ hart → IsHolder s o page.number x → (access : Access) × (access_in hart ≡ Some access) × (page.number ≡ page_of access.va)
    holding x e is = some_and (access_in hart) (λ access. page.number ≡ page_of access.va) (rw e at is.access)

    by_test : (b : Bool) → (o == h) ≡ b → b ≡ false
    by_test false e = refl
    by_test true e =
        let same : o ≡ h = grind (arith, nat_tests) in
        let there = some_and (slice_get s.harts o) (IsHolder s o page.number) of in
        let wants = holding there.0 (same_hart there.0 there.1 same) there.2 in
        let free : holds s h wants.0 ≡ false = none wants.0 wants.1 in
        let at_page : data_in s.pages (page_of wants.0.va) ≡ Some page = rw (← wants.2) found in
        let held : holds s h wants.0 ≡ true = ap (holds_page h) at_page ∙ ap (λ (p : Option ℕ). holder_is p h) is ∙ e in
        absurd cc

-- a hart that does not hold the page of its access holds none
pub holds_none : (s : FlatState) (h : ℕ) (hart : HartState) → IsOrdered s → AllByRecursion (HasHolder s) s.pages → slice_get s.harts h ≡ Some hart → HoldsNot s h hart → AllByRecursion (λ page. holder_is page.holder h ≡ false) s.pages
holds_none s h hart ordered held at none =
    all_both (HasHolder s) (λ page. data_in s.pages page.number ≡ Some page) (λ page. holder_is page.holder h ≡ false) (λ page of found. holder_by s h hart page page.holder at none refl of found)
    s.pages held (all_named (λ (page : PageState). page.number) s.pages ordered.pages)

-- the holder of a page stays one
pub holder_after : (s t : FlatState) (a : ℕ) (g : HartState → HartState) → Stepped s.harts t.harts a g → ((o : ℕ) → is_inside s.inside (Hart o) ≡ false → is_inside t.inside (Hart o) ≡ false) → (n : ℕ) (o : Option ℕ)
    → ((hart : HartState) → slice_get s.harts a ≡ Some hart → holder_is o a ≡ true → IsHolder s a n hart → IsHolder t a n (g hart))
    → IfSome o (λ h. OfHart s h (IsHolder s h n)) → IfSome o (λ h. OfHart t h (IsHolder t h n))
holder_after s t a g step outside n None own of = tt
holder_after s t a g step outside n (Some o) own of =
    let there = some_and (slice_get s.harts o) (IsHolder s o n) of in
    elim (stood_before s.harts t.harts a g step o there.0 there.1) [
      | OwnNow same at ↦ own_now there.0 same there.1 at there.2
      | OtherNow new apart at is ↦ (
          let bare : IsHolder t o n (record there.0 { moved = new.moved }) = record { runs = there.2.runs; outside = outside o (there.2.outside); access = there.2.access } in
          and_some (slice_get t.harts o) (IsHolder t o n) new at (rw is bare))
    ]
  where
    own_now : (old : HartState) → o ≡ a → slice_get s.harts o ≡ Some old → slice_get t.harts o ≡ Some (g old) → IsHolder s o n old → OfHart t o (IsHolder t o n)
    own_now old same at now is =
        let self : holder_is (Some o) a ≡ true = grind (arith, nat_tests) in
        let new : IsHolder t a n (g old) = own old (rw (← same) at) self (rw (← same) is) in
        and_some (slice_get t.harts o) (IsHolder t o n) (g old) now (rw same new)
