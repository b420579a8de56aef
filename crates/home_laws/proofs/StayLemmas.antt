-- Homes that are settled stay so behind entries that change nothing of what lies in frames.
use Rattle.std.proofs.Common.{◌≡◌, ◌++◌, ◌||◌, ℕ, List, [], ◌∷◌, Bool, true, false, map, not, refl, sym, ap, ◌∙◌, is_some}
use Rattle.std.specs.List.{filter, fold, zip}
use Rattle.std.specs.Set.{is_member}
use Rattle.wf_outside.specs.Pages.{LimitsValue}
use Rattle.wf_flat.specs.declared.event.Event.{Event}
use Rattle.wf_flat.specs.declared.event.Event.TheVariants.{Fetch, Look, Take, Put, Swap, Miss, End, Again, Wait, Enter, Sync, Trap, Exit, Out, Idle, Map, Going, Ending, Gone, Born, Move, Dead, Refused}
use Rattle.wf_flat.specs.declared.event.Entry.{Entry}
use Rattle.wf_flat.specs.State.{FlatState}
use Rattle.wf_legal.specs.Legal.{Moment, after, end_of}
use Rattle.wf_homes.specs.Homes.{Homes, Tenant, free_frames, home_frame, homes_behind, homes_in, same_tenant, tenants_of}
use Rattle.wf_tables.specs.Settled.{change_tenants, changes_tenants}
use Rattle.home_laws.specs.Laws.{HomesStay}
use Rattle.home_laws.proofs.EventLemmas.{HasSame, event_same, tenants_same}

-- the homes for these tenants, in so many frames
abbrev left_of : List Tenant → Homes → Homes
left_of tenants homes = record homes { homes = filter (λ home. is_member same_tenant tenants home.0) homes.homes }

abbrev new_of : List Tenant → ℕ → Homes → Homes
new_of tenants frames homes =
    record homes { homes = homes.homes ++ zip (filter (λ tenant. not (is_some (home_frame homes tenant))) tenants) (free_frames frames homes) }

abbrev homes_for : List Tenant → ℕ → Homes → Homes
homes_for tenants frames homes = new_of tenants frames (left_of tenants homes)

homes_by : (homes : Homes) (s : FlatState) → homes_in homes s ≡ homes_for (tenants_of s) s.limits.frames homes
homes_by homes s = refl

-- the same tenants have the same homes
same_homes : (homes : Homes) (s t : FlatState) → HasSame s t → homes_in homes t ≡ homes_in homes s
same_homes homes s t same =
    homes_by homes t ∙ ap (λ (ts : List Tenant). homes_for ts t.limits.frames homes) (tenants_same s t same) ∙ ap (λ (limits : LimitsValue). homes_for (tenants_of s) limits.frames homes) same.limits ∙ sym (homes_by homes s)

-- such an event gives no home up
behind_same : (homes : Homes) (event : Event) → changes_tenants event ≡ false → homes_behind homes event ≡ homes
behind_same homes (Map page n write patch) e = absurd cc
behind_same homes (Gone page worn) e = absurd cc
behind_same homes (Born generation parent patch) e = absurd cc
behind_same homes (Dead generation) e = absurd cc
behind_same homes (Fetch pc word) e = refl
behind_same homes (Look va width value) e = refl
behind_same homes (Take page) e = refl
behind_same homes (Put va width value) e = refl
behind_same homes (Swap va width old new) e = refl
behind_same homes (Miss va) e = refl
behind_same homes (End pc) e = refl
behind_same homes (Again page) e = refl
behind_same homes (Wait on) e = refl
behind_same homes Enter e = refl
behind_same homes (Sync generation page) e = refl
behind_same homes (Trap cause value) e = refl
behind_same homes (Exit code) e = refl
behind_same homes (Out byte) e = refl
behind_same homes Idle e = refl
behind_same homes (Going page n) e = refl
behind_same homes (Ending page) e = refl
behind_same homes (Move generation) e = refl
behind_same homes (Refused reason) e = refl

neither : (a b : Bool) → (a || b) ≡ false → (a ≡ false) × (b ≡ false)
neither true b e = absurd cc
neither false b e = (refl, e)

-- entry by entry
folds_same : (homes : Homes) (entries : List Entry) → change_tenants entries ≡ false → fold homes_behind homes (map (λ entry. entry.event) entries) ≡ homes
folds_same homes [] e = refl
folds_same homes (entry ∷ entries) e =
    let both = neither (changes_tenants entry.event) (change_tenants entries) e in
    ap (λ (h : Homes). fold homes_behind h (map (λ entry. entry.event) entries)) (behind_same homes entry.event both.0) ∙ folds_same homes entries both.1

stays : (homes : Homes) (m : Moment) (entries : List Entry) → change_tenants entries ≡ false → homes_in homes (end_of m entries).flat ≡ homes_in homes m.flat
stays homes m [] e = refl
stays homes m (entry ∷ entries) e =
    let both = neither (changes_tenants entry.event) (change_tenants entries) e in
    stays homes (after m entry.actor entry.event) entries both.1
    ∙ same_homes homes m.flat (after m entry.actor entry.event).flat (event_same m.deltas m.flat entry.actor entry.event both.0)

pub stay : HomesStay
stay homes m entries settled plain =
    ap (λ (h : Homes). homes_in h (end_of m entries).flat) (folds_same homes entries plain) ∙ stays homes m entries plain ∙ settled
