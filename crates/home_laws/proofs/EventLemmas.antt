-- Events that leave what lies in frames as it is.
use Rattle.std.proofs.Common.{◌≡◌, ◌+◌, ◌++◌, ◌&&◌, ℕ, List, [], ◌∷◌, Bool, true, false, Option, Some, None, map, refl, sym, ap, ◌∙◌}
use Rattle.std.specs.Prelude.{nat_le, nat_lt, slice_get}
use Rattle.std.specs.List.{flat_map}
use Rattle.wf_outside.specs.Images.{DeltaValue}
use Rattle.wf_flat.specs.declared.event.Actor.{Actor}
use Rattle.wf_flat.specs.declared.event.Actor.TheVariants.{Hart, Kernel}
use Rattle.wf_flat.specs.declared.event.Event.{Event}
use Rattle.wf_flat.specs.declared.event.Event.TheVariants.{Fetch, Look, Take, Put, Swap, Miss, End, Again, Wait, Enter, Sync, Trap, Exit, Out, Idle, Map, Going, Ending, Gone, Born, Move, Dead, Refused}
use Rattle.wf_flat.specs.State.{FlatState, GenState, HartState, PageState}
use Rattle.wf_flat.specs.Accesses.{Access, holds}
use Rattle.wf_flat.specs.Changes.{give_back, give_back_by, give_back_of, given_back, put_with, taken_by}
use Rattle.wf_flat.specs.Ordered.{page_numbers}
use Rattle.wf_flat.specs.Steps.{access_in}
use Rattle.wf_flat.proofs.ChangeLemmas.{change_numbers}
use Rattle.wf_effects.specs.Effects.{ending, going_in}
use Rattle.wf_homes.specs.Homes.{DataOf, Tenant, node_tenants, tenants_of, text_tenants}
use Rattle.wf_tables.specs.Settled.{changes_tenants}
use Rattle.wf_legal.specs.Events.{flat_after}

-- generations, numbers of pages of data and sizes are the same
pub record HasSame (s t : FlatState) : Type 0 where
  pub gens : t.gens ≡ s.gens
  pub numbers : page_numbers t.pages ≡ page_numbers s.pages
  pub limits : t.limits ≡ s.limits

all_same : (s : FlatState) → HasSame s s
all_same s = record { gens = refl; numbers = refl; limits = refl }

-- so what lies in frames is the same
data_tenants : (pages : List PageState) → map (λ page. DataOf page.number) pages ≡ map DataOf (page_numbers pages)
data_tenants [] = refl
data_tenants (page ∷ pages) = ap (λ (ts : List Tenant). DataOf page.number ∷ ts) (data_tenants pages)

abbrev tenants_with : List GenState → List ℕ → List Tenant
tenants_with gens numbers = flat_map text_tenants gens ++ map DataOf numbers ++ flat_map node_tenants gens

tenants_by : (s : FlatState) → tenants_of s ≡ tenants_with s.gens (page_numbers s.pages)
tenants_by s = ap (λ (ts : List Tenant). flat_map text_tenants s.gens ++ ts ++ flat_map node_tenants s.gens) (data_tenants s.pages)

pub tenants_same : (s t : FlatState) → HasSame s t → tenants_of t ≡ tenants_of s
tenants_same s t same =
    tenants_by t ∙ ap (λ (gens : List GenState). tenants_with gens (page_numbers t.pages)) same.gens ∙ ap (tenants_with s.gens) same.numbers ∙ sym (tenants_by s)

-- a page that is given back keeps its number
given_of : (s : FlatState) (h : ℕ) (hart : HartState) (access : Option Access) → HasSame s (give_back_of s h hart access)
given_of s h hart None = all_same s
given_of s h hart (Some access) = by_test (holds s h access) refl
  where
    by_test : (b : Bool) → holds s h access ≡ b → HasSame s (give_back_of s h hart (Some access))
    by_test true e = rw e (record { gens = refl; numbers = change_numbers s _ (given_back s.limits.last_writes hart.put) (λ page. refl); limits = refl })
    by_test false e = rw e (all_same s)

given_by : (s : FlatState) (h : ℕ) (o : Option HartState) → HasSame s (give_back_by s h o)
given_by s h None = all_same s
given_by s h (Some hart) = given_of s h hart (access_in hart)

given : (s : FlatState) (h : ℕ) → HasSame s (give_back s h)
given s h = given_by s h (slice_get s.harts h)

-- so does a page that is going
going_number : (first n : ℕ) (page : PageState) → (going_in first n page).number ≡ page.number
going_number first n page = by_test (nat_le first page.number && nat_lt page.number (first + n)) refl
  where
    by_test : (b : Bool) → (nat_le first page.number && nat_lt page.number (first + n)) ≡ b → (going_in first n page).number ≡ page.number
    by_test true e = rw e refl
    by_test false e = rw e refl

going_numbers : (first n : ℕ) (pages : List PageState) → page_numbers (map (going_in first n) pages) ≡ page_numbers pages
going_numbers first n [] = refl
going_numbers first n (page ∷ pages) = cons_is (going_number first n page) (going_numbers first n pages)
  where
    cons_is : {a b : ℕ} {ns ms : List ℕ} → a ≡ b → ns ≡ ms → a ∷ ns ≡ b ∷ ms
    cons_is p q = cc

-- an event that changes nothing of what lies in frames
pub event_same : (deltas : List DeltaValue) (s : FlatState) (actor : Actor) (event : Event) → changes_tenants event ≡ false → HasSame s (flat_after deltas s actor event)
event_same deltas s Kernel (Fetch pc word) e = all_same s
event_same deltas s (Hart h) (Fetch pc word) e = record { gens = refl; numbers = refl; limits = refl }
event_same deltas s Kernel (Look va width value) e = all_same s
event_same deltas s (Hart h) (Look va width value) e = record { gens = refl; numbers = refl; limits = refl }
event_same deltas s Kernel (Take page) e = all_same s
event_same deltas s (Hart h) (Take page) e = record { gens = refl; numbers = change_numbers s page (taken_by h) (λ p. refl); limits = refl }
event_same deltas s Kernel (Put va width value) e = all_same s
event_same deltas s (Hart h) (Put va width value) e = record { gens = refl; numbers = change_numbers s _ (put_with _ width value) (λ p. refl); limits = refl }
event_same deltas s Kernel (Swap va width old new) e = all_same s
event_same deltas s (Hart h) (Swap va width old new) e = record { gens = refl; numbers = change_numbers s _ (put_with _ width new) (λ p. refl); limits = refl }
event_same deltas s Kernel (Miss va) e = all_same s
event_same deltas s (Hart h) (Miss va) e = record { gens = refl; numbers = refl; limits = refl }
event_same deltas s Kernel (End pc) e = all_same s
event_same deltas s (Hart h) (End pc) e = let g = given s h in record { gens = g.gens; numbers = g.numbers; limits = g.limits }
event_same deltas s Kernel (Again page) e = all_same s
event_same deltas s (Hart h) (Again page) e = record { gens = refl; numbers = refl; limits = refl }
event_same deltas s Kernel (Wait on) e = all_same s
event_same deltas s (Hart h) (Wait on) e = record { gens = refl; numbers = refl; limits = refl }
event_same deltas s actor Enter e = record { gens = refl; numbers = refl; limits = refl }
event_same deltas s Kernel (Sync generation page) e = all_same s
event_same deltas s (Hart h) (Sync generation page) e = record { gens = refl; numbers = refl; limits = refl }
event_same deltas s Kernel (Trap cause value) e = all_same s
event_same deltas s (Hart h) (Trap cause value) e = record { gens = refl; numbers = refl; limits = refl }
event_same deltas s Kernel (Exit code) e = all_same s
event_same deltas s (Hart h) (Exit code) e = record { gens = refl; numbers = refl; limits = refl }
event_same deltas s Kernel (Out byte) e = record { gens = refl; numbers = refl; limits = refl }
event_same deltas s (Hart h) (Out byte) e = record { gens = refl; numbers = refl; limits = refl }
event_same deltas s actor Idle e = all_same s
event_same deltas s Kernel (Going page n) e = record { gens = refl; numbers = going_numbers page n s.pages; limits = refl }
event_same deltas s (Hart h) (Going page n) e = record { gens = refl; numbers = going_numbers page n s.pages; limits = refl }
event_same deltas s Kernel (Ending page) e = record { gens = refl; numbers = change_numbers s page ending (λ p. refl); limits = refl }
event_same deltas s (Hart h) (Ending page) e = record { gens = refl; numbers = change_numbers s page ending (λ p. refl); limits = refl }
event_same deltas s Kernel (Move generation) e = all_same s
event_same deltas s (Hart h) (Move generation) e = record { gens = refl; numbers = refl; limits = refl }
event_same deltas s Kernel (Refused reason) e = record { gens = refl; numbers = refl; limits = refl }
event_same deltas s (Hart h) (Refused reason) e = record { gens = refl; numbers = refl; limits = refl }
event_same deltas s actor (Map page n write patch) e = absurd cc
event_same deltas s actor (Gone page worn) e = absurd cc
event_same deltas s actor (Born generation parent patch) e = absurd cc
event_same deltas s actor (Dead generation) e = absurd cc
