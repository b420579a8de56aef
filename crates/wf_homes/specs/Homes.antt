-- Homes: the frame in which each page and each node lies, and how those after a call are made from
-- those before it.
use Rattle.std.specs.Prelude.{ℕ, List, [], ◌∷◌, ◌++◌, Bool, false, Option, ◌≡◌, ◌<◌, ◌/◌, ◌==◌, ◌&&◌, not, if◌then◌else◌, is_some, length, map, nat_eq}
use Rattle.std.specs.List.{AllByRecursion, IsDistinct, cons_option, filter, flat_map, fold, range_with_len, zip}
use Rattle.std.specs.Map.{keys_of, lookup, values_of}
use Rattle.std.specs.Set.{is_member}
use Rattle.wf_outside.specs.declared.sizes.TheConstants.{PAGE_WORDS}
use Rattle.wf_outside.specs.Images.{text_numbers}
use Rattle.wf_flat.specs.declared.event.Event.{Event}
use Rattle.wf_flat.specs.declared.event.Event.TheVariants.{Fetch, Look, Take, Put, Swap, Miss, End, Again, Wait, Enter, Sync, Trap, Exit, Out, Idle, Map, Going, Ending, Gone, Born, Move, Dead, Refused}
use Rattle.wf_flat.specs.State.{FlatState, GenState}
use Rattle.wf_flat.specs.Boot.{places_with}

-- What lies in a frame: a page of a generation's text; a page of data; or a node of a generation's
-- page table, by its level and its prefix. The prefix is the number of any page below the node,
-- divided by 512 once at level 0, twice at level 1, and three times at level 2, where it is 0.
pub data Tenant : Type 0 where
  TextOf : ℕ → ℕ → Tenant
  DataOf : ℕ → Tenant
  NodeOf : ℕ → ℕ → ℕ → Tenant

-- whether two tenants are the same
abbrev pub same_tenant : Tenant → Tenant → Bool
same_tenant (TextOf g page) (TextOf h other) = (g == h) && (page == other)
same_tenant (DataOf page) (DataOf other) = page == other
same_tenant (NodeOf g level prefix) (NodeOf h other below) =
    (g == h) && (level == other) && (prefix == below)
same_tenant tenant other = false

-- the nodes at levels 1 and 0 of 512 places of which some are reached: the one at level 1, and
-- behind it that of each of the places that is reached
abbrev pub nodes_below : List ℕ → ℕ → List (ℕ × ℕ)
nodes_below reach upper =
    (1, upper) ∷ map (λ place. (0, place)) (filter (λ place. place / PAGE_WORDS == upper) reach)

-- the nodes of a page table that reaches these places, each by its level and prefix: the root, and
-- then in the order of pages, an upper node before those below it
abbrev pub tree_nodes : List ℕ → List (ℕ × ℕ)
tree_nodes reach = (2, 0) ∷ flat_map (nodes_below reach) (places_with [] reach)

-- the pages of text of a generation, if it lives
abbrev pub text_tenants : GenState → List Tenant
text_tenants gen = if gen.live then map (TextOf gen.number) (text_numbers gen.text) else []

-- the nodes of a generation's page table, if it lives
abbrev pub node_tenants : GenState → List Tenant
node_tenants gen =
    if gen.live then map (λ node. NodeOf gen.number node.0 node.1) (tree_nodes gen.reach) else []

-- Whatever lies in a frame, in the order in which frames are taken: pages of text by generation and
-- number, pages of data by number, and nodes by generation.
abbrev pub tenants_of : FlatState → List Tenant
tenants_of s =
    flat_map text_tenants s.gens ++ map (λ page. DataOf page.number) s.pages
    ++ flat_map node_tenants s.gens

-- whether a state has such a tenant
abbrev pub has_tenant : FlatState → Tenant → Bool
has_tenant s tenant = is_member same_tenant (tenants_of s) tenant

-- the homes: each tenant with its frame; and the frames that are worn, which are no home ever again
pub record Homes : Type 0 where
  pub homes : List (Tenant × ℕ)
  pub worn : List ℕ

-- the frame that is the home of a tenant, if it has one
abbrev pub home_frame : Homes → Tenant → Option ℕ
home_frame homes tenant = lookup (same_tenant tenant) homes.homes

-- a frame is a home
abbrev pub is_home : Homes → ℕ → Bool
is_home homes frame = is_member nat_eq (values_of homes.homes) frame

-- a frame is worn
abbrev pub is_worn : Homes → ℕ → Bool
is_worn homes frame = is_member nat_eq homes.worn frame

-- the frames, of so many, that are no home and not worn, rising
abbrev pub free_frames : ℕ → Homes → List ℕ
free_frames count homes =
    filter (λ frame. not (is_home homes frame) && not (is_worn homes frame))
    (range_with_len 0 count)

-- what is there no longer gives its home up
abbrev pub without_left : Homes → FlatState → Homes
without_left homes s =
    record homes { homes = filter (λ home. has_tenant s home.0) homes.homes }

-- what is there and has no home yet, in the order in which frames are taken
abbrev pub newcomers : Homes → FlatState → List Tenant
newcomers homes s = filter (λ tenant. not (is_some (home_frame homes tenant))) (tenants_of s)

-- what is there and has no home yet gets one: in order, the lowest frames that are no home and not
-- worn
abbrev pub with_new : Homes → FlatState → Homes
with_new homes s =
    record homes {
      homes = homes.homes ++ zip (newcomers homes s) (free_frames s.limits.frames homes);
    }

-- the homes in a state, from those before it: what stays keeps its own, what left gives it up, and
-- what is new gets the lowest free frames
abbrev pub homes_in : Homes → FlatState → Homes
homes_in homes s = with_new (without_left homes s) s

-- the homes at the start of a run: all of a state is new
abbrev pub homes_at_boot : FlatState → Homes
homes_at_boot s = homes_in (record { homes = []; worn = [] }) s

-- a page of data is gone: its home is given up, and never used again where it is worn
abbrev pub without_page : Homes → ℕ → Bool → Homes
without_page homes page worn =
    record {
      homes = filter (λ home. not (same_tenant (DataOf page) home.0)) homes.homes;
      worn = if worn then cons_option (home_frame homes (DataOf page)) homes.worn else homes.worn;
    }

-- what an event makes of homes at once: the home of a page that is gone is given up. Whatever else
-- comes or leaves does so when its call is made.
abbrev pub homes_behind : Homes → Event → Homes
homes_behind homes (Gone page worn) = without_page homes page worn
homes_behind homes (Fetch pc word) = homes
homes_behind homes (Look va width value) = homes
homes_behind homes (Take page) = homes
homes_behind homes (Put va width value) = homes
homes_behind homes (Swap va width old new) = homes
homes_behind homes (Miss va) = homes
homes_behind homes (End pc) = homes
homes_behind homes (Again page) = homes
homes_behind homes (Wait on) = homes
homes_behind homes Enter = homes
homes_behind homes (Sync generation page) = homes
homes_behind homes (Trap cause value) = homes
homes_behind homes (Exit code) = homes
homes_behind homes (Out byte) = homes
homes_behind homes Idle = homes
homes_behind homes (Map page n write patch) = homes
homes_behind homes (Going page n) = homes
homes_behind homes (Ending page) = homes
homes_behind homes (Born generation parent patch) = homes
homes_behind homes (Move generation) = homes
homes_behind homes (Dead generation) = homes
homes_behind homes (Refused reason) = homes

-- the homes after a call, from those before it: its events, and the state after them
abbrev pub homes_after : Homes → List Event → FlatState → Homes
homes_after homes events s = homes_in (fold homes_behind homes events) s

-- no tenant and no frame is there twice, home or worn; all are frames of the machine; and as many
-- are worn as the state counts
pub record AreSeparate (homes : Homes) (s : FlatState) : Type 0 where
  pub once : IsDistinct same_tenant (keys_of homes.homes)
  pub apart : IsDistinct nat_eq (values_of homes.homes ++ homes.worn)
  pub low : AllByRecursion (λ frame. frame < s.limits.frames) (values_of homes.homes ++ homes.worn)
  pub counted : length homes.worn ≡ s.worn

-- these are homes for a state: whatever is there has one, and nothing else has
pub record AreHomes (homes : Homes) (s : FlatState) : Type 0 where
  pub separate : AreSeparate homes s
  pub each : (tenant : Tenant) → is_some (home_frame homes tenant) ≡ has_tenant s tenant
