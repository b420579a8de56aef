-- A machine between two units, and within a unit of a hart outside the kernel: what the hart's entries
-- keep.
use Rattle.std.proofs.Common.{◌≡◌, ◌⊎◌, ℕ, List, [], Option, Some, None, Bool, true, false, refl, sym, subst, ap, ◌∙◌, inl, inr}
use Rattle.std.specs.Prelude.{IsSomeAnd, slice_get, ◌==◌, ◌%◌, if◌then◌else◌}
use Rattle.std.specs.Option.{option_map}
use Rattle.std.specs.List.{AllByRecursion}
use Rattle.wf_outside.specs.declared.sizes.TheConstants.{PAGE_SIZE}
use Rattle.wf_outside.specs.Pages.{page_of}
use Rattle.wf_flat.specs.declared.event.Actor.{Actor}
use Rattle.wf_flat.specs.declared.event.Actor.TheVariants.{Hart}
use Rattle.wf_flat.specs.declared.event.Event.TheVariants.{Fetch, Take, Idle}
use Rattle.wf_flat.specs.declared.state.Life.TheVariants.{Running}
use Rattle.wf_flat.specs.State.{FlatState, HartState}
use Rattle.wf_flat.specs.Lists.{changed_at, others_changed}
use Rattle.wf_flat.specs.Accesses.{Access, holds}
use Rattle.wf_flat.specs.Serving.{AllBut}
use Rattle.wf_flat.specs.Steps.{MayAct, MayTake, access_in, ask_of}
use Rattle.wf_flat.specs.Changes.{without, change_hart, change_page, leave_hart, note_page, noted, noted_in, page_taken, fetched_with, looked_with, put_with, given_back, written_by, swapped_by, missed, ended, give_back_by, give_back_of, bytes_put, bytes_swapped, try_ended}
use Rattle.wf_flat.proofs.ListLemmas.{some_and, and_some, others_same}
use Rattle.wf_legal.proofs.JournalLemmas.{self_inside}
use Rattle.wf_next.proofs.ActLemmas.{at_some}
use Rattle.wf_next.proofs.QuietLemmas.{held_quiet}
use Rattle.wf_follow.proofs.HartLemmas.{all_changed, all_there, at_changed, but_changed}
use Rattle.wf_follow.proofs.PageLemmas.{IsAtMost, IsFree, IsKept, given, kept_free, taken, unheld, written}

-- a hart in no try, for which no page has moved
abbrev pub IsStill : HartState → Type 0
IsStill hart = (hart.fetched ≡ None) × (hart.moved ≡ [])

-- between two units: no hart is in a try, no page is held or leaving, and nobody is inside
pub record IsRest (s : FlatState) : Type 0 where
  pub harts : AllByRecursion IsStill s.harts
  pub pages : AllByRecursion IsFree s.pages
  pub inside : s.inside ≡ None

-- the number of the page of the access of a hart's try
abbrev pub accessed : HartState → Option ℕ
accessed hart = option_map (λ access. page_of access.va) (access_in hart)

-- The hart of a unit: no page has moved for it, it runs where it is in a try, and the page that it
-- holds, if any, is that of its access.
pub record IsTrying (held : Option ℕ) (hart : HartState) : Type 0 where
  pub still : hart.moved ≡ []
  pub runs : (hart.fetched ≡ None) ⊎ (hart.life ≡ Running)
  pub keeps : (held ≡ None) ⊎ (held ≡ accessed hart)

-- it is so, and the others are still
abbrev pub AreOneTrying : ℕ → Option ℕ → List HartState → Type 0
AreOneTrying h held harts =
    AllBut IsStill h harts × IsSomeAnd (slice_get harts h) (IsTrying held)

-- within a unit of a hart, where nobody is inside
pub record IsMoving (h : ℕ) (s : FlatState) : Type 0 where
  pub held : Option ℕ
  pub harts : AreOneTrying h held s.harts
  pub pages : AllByRecursion (IsKept h held) s.pages
  pub outside : s.inside ≡ None

-- a hart that changes, where the change leaves it so
pub one_changes : (h : ℕ) (held now : Option ℕ) (harts : List HartState) (f : HartState → HartState) → AreOneTrying h held harts → ((hart : HartState) → slice_get harts h ≡ Some hart → IsTrying held hart → IsTrying now (f hart))
    → AreOneTrying h now (changed_at harts h f)
one_changes h held now harts f one keep =
    let w = some_and (slice_get harts h) (IsTrying held) one.1 in
    (but_changed IsStill f h harts one.0, and_some (slice_get (changed_at harts h f) h) (IsTrying now) (f w.0) (at_changed f harts h w.0 w.1) (keep w.0 w.1 w.2))

hart_moves : (h : ℕ) (s : FlatState) (f : HartState → HartState) → IsMoving h s → ((held : Option ℕ) (hart : HartState) → IsTrying held hart → IsTrying held (f hart)) → IsMoving h (change_hart s h f)
hart_moves h s f k keep =
    record { held = k.held; harts = one_changes h k.held k.held s.harts f k.harts (λ hart is t. keep k.held hart t); pages = k.pages; outside = k.outside }

-- still harts note nothing
still_noted : (page : ℕ) (hart : HartState) → IsStill hart → noted page hart ≡ hart
still_noted page hart still = let none = still.0 in rw none refl

still_noted_in : (generation page : ℕ) (hart : HartState) → IsStill hart → noted_in generation page hart ≡ hart
still_noted_in generation page hart still = by_test (hart.generation == generation)
  where
    by_test : (b : Bool) → (if b then noted page hart else hart) ≡ hart
    by_test true = still_noted page hart still
    by_test false = refl

others_note : (h page : ℕ) (held : Option ℕ) (harts : List HartState) → AreOneTrying h held harts → AreOneTrying h held (others_changed harts h (noted page))
others_note h page held harts one = subst (AreOneTrying h held) (sym (others_same IsStill (noted page) (still_noted page) harts h one.0)) one

pub others_note_in : (h generation page : ℕ) (held : Option ℕ) (harts : List HartState) → AreOneTrying h held harts → AreOneTrying h held (others_changed harts h (noted_in generation page))
others_note_in h generation page held harts one =
    subst (AreOneTrying h held) (sym (others_same IsStill (noted_in generation page) (still_noted_in generation page) harts h one.0)) one

-- a hart in no try holds no page
none_accessed : (hart : HartState) → hart.fetched ≡ None → accessed hart ≡ None
none_accessed hart e = rw e refl

holds_none : (held : Option ℕ) (hart : HartState) → IsTrying held hart → accessed hart ≡ None → held ≡ None
holds_none held hart t e = elim t.keeps [ inl none ↦ none | inr is ↦ is ∙ e ]

at_most : (held : Option ℕ) (hart : HartState) (n : ℕ) → IsTrying held hart → accessed hart ≡ Some n → IsAtMost held n
at_most held hart n t e = elim t.keeps [ inl none ↦ inl none | inr is ↦ inr (is ∙ e) ]

accessed_by : (hart : HartState) (o : Option Access) → access_in hart ≡ o → accessed hart ≡ option_map (λ access. page_of access.va) o
accessed_by hart o e = ap (λ (a : Option Access). option_map (λ access. page_of access.va) a) e

-- it leaves the kernel, if it is inside, and is in no try any more
left : (h : ℕ) → without (Some (Hart h)) (Hart h) ≡ None
left h = rw (self_inside h) refl

pub leaves : (h : ℕ) (o : Option Actor) → (o ≡ None) ⊎ (o ≡ Some (Hart h)) → without o (Hart h) ≡ None
leaves h o side = elim side [
  | inl e ↦ subst (λ (i : Option Actor). without i (Hart h) ≡ None) (sym e) refl
  | inr e ↦ subst (λ (i : Option Actor). without i (Hart h) ≡ None) (sym e) (left h)
]

pub rests : (h : ℕ) (held : Option ℕ) (s : FlatState) (g : HartState → HartState) → AreOneTrying h held s.harts → AllByRecursion IsFree s.pages → (s.inside ≡ None) ⊎ (s.inside ≡ Some (Hart h)) → ((hart : HartState) → (g hart).fetched ≡ None)
    → ((hart : HartState) → (g hart).moved ≡ hart.moved) → IsRest (leave_hart s h g)
rests h held s g one free side none same =
    record {
      harts = all_changed IsStill g h s.harts one.0 (λ hart is. (none hart, same hart ∙ (at_some (slice_get s.harts h) (IsTrying held) hart is one.1).still));
      pages = free;
      inside = leaves h s.inside side;
    }

-- the page that it holds is given back
ends_of : (h : ℕ) (held : Option ℕ) (s : FlatState) (hart : HartState) → IsTrying held hart → AreOneTrying h held s.harts → AllByRecursion (IsKept h held) s.pages → (s.inside ≡ None) ⊎ (s.inside ≡ Some (Hart h))
    → IsRest (leave_hart (give_back_of s h hart (access_in hart)) h ended)
ends_of h held s hart trying one pages side = by_access (access_in hart) refl
  where
    by_holds : (access : Access) → access_in hart ≡ Some access → (b : Bool) → holds s h access ≡ b
        → IsRest (leave_hart (if b then note_page (change_page s (page_of access.va) (given_back s.limits.last_writes hart.put)) h (page_of access.va) else s) h ended)
    by_holds access e true has =
        rests h held (note_page (change_page s (page_of access.va) (given_back s.limits.last_writes hart.put)) h (page_of access.va)) ended
        (others_note h (page_of access.va) held s.harts one)
        (given h (page_of access.va) s.limits.last_writes hart.put held s.pages (at_most held hart (page_of access.va) trying (accessed_by hart (Some access) e)) pages)
        side (λ hart. refl) (λ hart. refl)
    by_holds access e false has =
        rests h held s ended one (unheld h (page_of access.va) held s.pages (at_most held hart (page_of access.va) trying (accessed_by hart (Some access) e)) has pages)
        side (λ hart. refl) (λ hart. refl)

    by_access : (o : Option Access) → access_in hart ≡ o → IsRest (leave_hart (give_back_of s h hart o) h ended)
    by_access None e = rests h held s ended one (kept_free h held s.pages (holds_none held hart trying (accessed_by hart None e)) pages) side (λ hart. refl) (λ hart. refl)
    by_access (Some access) e = by_holds access e (holds s h access) refl

pub ends_at : (h : ℕ) (held : Option ℕ) (s : FlatState) → AreOneTrying h held s.harts → AllByRecursion (IsKept h held) s.pages → (s.inside ≡ None) ⊎ (s.inside ≡ Some (Hart h)) → IsRest (try_ended s h)
ends_at h held s one pages side =
    let w = some_and (slice_get s.harts h) (IsTrying held) one.1 in
    subst (λ (o : Option HartState). IsRest (leave_hart (give_back_by s h o) h ended)) (sym w.1) (ends_of h held s w.0 w.2 one pages side)

pub ends : (h : ℕ) (s : FlatState) → IsMoving h s → IsRest (try_ended s h)
ends h s k = ends_at h k.held s k.harts k.pages (inl k.outside)

-- a fetch
pub fetches : (h pc word : ℕ) (s : FlatState) → IsMoving h s → MayAct s (Hart h) (Fetch pc word) → IsMoving h (change_hart s h (fetched_with word))
fetches h pc word s k may =
    let w = some_and (slice_get s.harts h) (IsTrying k.held) k.harts.1 in
    let q = at_some (slice_get s.harts h) _ w.0 w.1 may in
    let none : k.held ≡ None = holds_none k.held w.0 w.2 (none_accessed w.0 q.1.0) in
    record {
      held = None;
      harts = one_changes h k.held None s.harts (fetched_with word) k.harts (λ hart is t. record { still = refl; runs = inr (at_some (slice_get s.harts h) _ hart is may).0; keeps = inl refl });
      pages = subst (λ (o : Option ℕ). AllByRecursion (IsKept h o) s.pages) none k.pages;
      outside = k.outside;
    }

-- a read and a miss
pub looks : (h va width value : ℕ) (s : FlatState) → IsMoving h s → IsMoving h (change_hart s h (looked_with s va width value))
looks h va width value s k = hart_moves h s (looked_with s va width value) k (λ held hart t. record { still = t.still; runs = t.runs; keeps = t.keeps })

pub misses : (h : ℕ) (s : FlatState) → IsMoving h s → IsMoving h (change_hart s h missed)
misses h s k = hart_moves h s missed k (λ held hart t. record { still = t.still; runs = t.runs; keeps = t.keeps })

-- the page of its access is taken
take_accessed : (s : FlatState) (hart : HartState) (page : ℕ) (o : Option Access) → MayTake s hart o page → option_map (λ access. page_of access.va) o ≡ Some page
take_accessed s hart page None p = absurd p
take_accessed s hart page (Some access) p = ap Some (sym p.0)

pub takes : (h page : ℕ) (s : FlatState) → IsMoving h s → MayAct s (Hart h) (Take page) → IsMoving h (page_taken s h page)
takes h page s k may =
    let w = some_and (slice_get s.harts h) (IsTrying k.held) k.harts.1 in
    let q = at_some (slice_get s.harts h) _ w.0 w.1 may in
    let is : accessed w.0 ≡ Some page = take_accessed s w.0 page (access_in w.0) q.1 in
    let one : AreOneTrying h (Some page) s.harts = (k.harts.0, and_some (slice_get s.harts h) (IsTrying (Some page)) w.0 w.1 (record { still = w.2.still; runs = w.2.runs; keeps = inr (sym is) })) in
    record {
      held = Some page;
      harts = others_note h page (Some page) s.harts one;
      pages = taken h page k.held s.pages (at_most k.held w.0 page w.2 is) k.pages;
      outside = k.outside;
    }

-- bytes of a page are written
page_moves : (h n at width value : ℕ) (s : FlatState) → IsMoving h s → IsMoving h (change_page s n (put_with at width value))
page_moves h n at width value s k = record { held = k.held; harts = k.harts; pages = written h n at width value k.held s.pages k.pages; outside = k.outside }

pub puts : (h va width value : ℕ) (s : FlatState) → IsMoving h s → IsMoving h (bytes_put s h va width value)
puts h va width value s k =
    hart_moves h (change_page s (page_of va) (put_with (va % PAGE_SIZE) width value)) written_by (page_moves h (page_of va) (va % PAGE_SIZE) width value s k)
    (λ held hart t. record { still = t.still; runs = t.runs; keeps = t.keeps })

pub swaps : (h va width old new : ℕ) (s : FlatState) → IsMoving h s → IsMoving h (bytes_swapped s h va width old new)
swaps h va width old new s k =
    hart_moves h (change_page s (page_of va) (put_with (va % PAGE_SIZE) width new)) (swapped_by old) (page_moves h (page_of va) (va % PAGE_SIZE) width new s k)
    (λ held hart t. record { still = t.still; runs = t.runs; keeps = t.keeps })

-- where it asks it holds no page
pub asks_free : (h : ℕ) (s : FlatState) (hart : HartState) (held : Option ℕ) (o : Option Access) → access_in hart ≡ o → IsTrying held hart → AllByRecursion (IsKept h held) s.pages → (ask_of s h hart ≡ None → ⊥) → AllByRecursion IsFree s.pages
asks_free h s hart held None e t kept asks = kept_free h held s.pages (holds_none held hart t (accessed_by hart None e)) kept
asks_free h s hart held (Some access) e t kept asks = by_holds (holds s h access) refl
  where
    by_holds : (b : Bool) → holds s h access ≡ b → AllByRecursion IsFree s.pages
    by_holds true has = absurd (asks (held_quiet s h hart access e has))
    by_holds false has = unheld h (page_of access.va) held s.pages (at_most held hart (page_of access.va) t (accessed_by hart (Some access) e)) has kept

-- a hart that doesn't run is in no try
pub idles : (h : ℕ) (s : FlatState) → IsMoving h s → MayAct s (Hart h) Idle → IsRest s
idles h s k may =
    let w = some_and (slice_get s.harts h) (IsTrying k.held) k.harts.1 in
    let q = at_some (slice_get s.harts h) _ w.0 w.1 may in
    let no_try : w.0.fetched ≡ None = elim w.2.runs [ inl none ↦ none | inr runs ↦ absurd (q runs) ] in
    record {
      harts = all_there IsStill h s.harts k.harts.0 (λ hart is. (
          let same : w.0 ≡ hart = (let e = w.1 in cc) in
          subst IsStill same (no_try, w.2.still)));
      pages = kept_free h k.held s.pages (holds_none k.held w.0 w.2 (none_accessed w.0 no_try)) k.pages;
      inside = k.outside;
    }
