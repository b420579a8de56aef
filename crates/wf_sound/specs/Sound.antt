-- What holds at every moment of a legal journal.
use Rattle.std.specs.Prelude.{ℕ, List, [], ◌∷◌, ◌++◌, Option, Some, None, Contains, IfSome, IsSomeAnd, true, false, ◌≡◌, ◌<◌, ◌≤◌, ◌+◌, ◌^◌, length, map, nat_eq, slice_get, slice_index}
use Rattle.std.specs.List.{AllByRecursion, IsDistinct, flat_map, fold, range_with_len}
use Rattle.wf_outside.specs.declared.sizes.TheConstants.{ADDRESS_PAGES}
use Rattle.wf_outside.specs.Images.{DeltaValue, data_numbers, text_numbers}
use Rattle.wf_outside.specs.Lists.{IsRising}
use Rattle.wf_outside.specs.Pages.{AreLimits, IsPage, LimitsValue, page_of}
use Rattle.rv_inst.specs.declared.want.Want.TheVariants.{Call}
use Rattle.wf_flat.specs.declared.event.Actor.{Actor}
use Rattle.wf_flat.specs.declared.event.Actor.TheVariants.{Hart, Kernel}
use Rattle.wf_flat.specs.declared.event.Event.TheVariants.{Born, End}
use Rattle.wf_flat.specs.declared.state.Life.TheVariants.{Running}
use Rattle.wf_flat.specs.declared.state.Reservation.{Reservation}
use Rattle.wf_flat.specs.State.{FlatState, GenState, HartState, PageState}
use Rattle.wf_flat.specs.Ordered.{IsGen, IsOrdered}
use Rattle.wf_flat.specs.Counts.{used_of}
use Rattle.wf_flat.specs.Memory.{data_in}
use Rattle.wf_flat.specs.Accesses.{Access, holds, is_ending, is_going}
use Rattle.wf_flat.specs.Steps.{OfHart, OfRunning, access_in, is_inside, want_in}
use Rattle.wf_effects.specs.declared.ranges.PageRun.{PageRun}
use Rattle.wf_effects.specs.Generations.{is_live}
use Rattle.wf_effects.specs.Ranges.{is_data, is_live_text}
use Rattle.wf_effects.specs.Effects.{generation_born, mapped}
use Rattle.wf_effects.specs.Texts.{IsPlaced}
use Rattle.wf_verdict.specs.declared.verdict.TheConstants.{MOST_GENERATIONS}
use Rattle.wf_verdict.specs.declared.work.Todo.{Todo}
use Rattle.wf_verdict.specs.declared.work.Todo.TheVariants.{Exactly, Leaves}
use Rattle.wf_verdict.specs.Work.{map_of}
use Rattle.wf_legal.specs.Calls as calls
use Rattle.wf_legal.specs.Calls.{Doing, Settling, is_above, may_go}
use Rattle.wf_legal.specs.Legal.{Moment}

-- a patch of a run: whole pages, by rising number, no page twice, and jumps that are placed
pub record IsDelta (delta : DeltaValue) : Type 0 where
  pub private_pages : AllByRecursion (λ page. IsPage page.number page.words) delta.private
  pub shared_pages : AllByRecursion (λ page. IsPage page.number page.words) delta.shared
  pub private_rising : IsRising (text_numbers delta.private)
  pub shared_rising : IsRising (data_numbers delta.shared)
  pub distinct : IsDistinct nat_eq (text_numbers delta.private ++ data_numbers delta.shared)
  pub placed : AllByRecursion IsPlaced delta.jumps

-- a page of data is whole, its writes are no more than are counted, and its birth was numbered
pub record IsSoundPage (limits : LimitsValue) (births : ℕ) (page : PageState) : Type 0 where
  pub is_page : IsPage page.number page.words
  pub writes : page.writes ≤ limits.last_writes
  pub birth : page.birth < births

-- the holder of a page runs, outside the kernel, and is in a try of an access to the page
pub record IsHolder (s : FlatState) (h page : ℕ) (hart : HartState) : Type 0 where
  pub runs : hart.life ≡ Running
  pub outside : is_inside s.inside (Hart h) ≡ false
  pub access : IsSomeAnd (access_in hart) (λ access. page ≡ page_of access.va)

-- the holder of a page, if it has one, is a hart that is there and may hold it
abbrev pub HasHolder : FlatState → PageState → Type 0
HasHolder s page = IfSome page.holder (λ h. OfHart s h (IsHolder s h page.number))

-- a generation keeps its order, its text is whole, it has patches of the run alone, and while it
-- lives, no page of its text is one of data
pub record IsSoundGen (deltas : List DeltaValue) (s : FlatState) (gen : GenState) : Type 0 where
  pub kept : IsGen gen.text gen.reach
  pub whole : AllByRecursion (λ page. IsPage page.number page.words) gen.text
  pub patches : gen.patches ≤ length deltas
  pub apart : gen.live ≡ true → AllByRecursion (λ n. is_data s n ≡ false) (text_numbers gen.text)

-- a generation stands at the place of its number, behind its parent
abbrev pub IsInPlace : ℕ → GenState → Type 0
IsInPlace g gen = (gen.number ≡ g) × IfSome gen.parent (λ parent. parent < g)

-- a reservation was left below the last count of writes, on a page that was numbered
abbrev pub IsLeft : FlatState → Reservation → Type 0
IsLeft s reservation =
    (reservation.writes < s.limits.last_writes) × (reservation.birth < s.births)

-- a hart that made its write, in a try of an access that writes, holds the page of the access
abbrev pub HoldsWritten : FlatState → ℕ → HartState → Type 0
HoldsWritten s h hart =
    (access : Access) → access_in hart ≡ Some access → access.write ≡ true → hart.put ≡ true
    → holds s h access ≡ true

-- a hart is in a generation that is there, and lives where the hart runs; it has 32 registers, the
-- first of them 0
pub record IsSoundHart (s : FlatState) (h : ℕ) (hart : HartState) : Type 0 where
  pub generation : hart.generation < length s.gens
  pub live : hart.life ≡ Running → is_live s hart.generation ≡ true
  pub registers : length hart.arch.x ≡ 32
  pub zero_register : slice_index hart.arch.x 0 ≡ 0
  pub reservation : IfSome hart.reservation (IsLeft s)
  pub written : HoldsWritten s h hart

-- what a generation has met: it lives, and the page is Here or Going
abbrev pub IsMet : FlatState → ℕ × ℕ → Type 0
IsMet s pair =
    (is_live s pair.0 ≡ true)
    × IsSomeAnd (data_in s.pages pair.1) (λ page. is_ending page.stage ≡ false)

-- what a state keeps, whichever call is open: its tables stand in order, each page, generation and
-- hart in them is sound, no birth stands twice, and its frames suffice
pub record IsSoundState (deltas : List DeltaValue) (s : FlatState) : Type 0 where
  pub ordered : IsOrdered s
  pub pages : AllByRecursion (IsSoundPage s.limits s.births) s.pages
  pub births : IsDistinct nat_eq (map (λ page. page.birth) s.pages)
  pub held : AllByRecursion (HasHolder s) s.pages
  pub some_gens : 0 < length s.gens
  pub few_gens : length s.gens ≤ MOST_GENERATIONS
  pub placed : (g : ℕ) (gen : GenState) → slice_get s.gens g ≡ Some gen → IsInPlace g gen
  pub gens : AllByRecursion (IsSoundGen deltas s) s.gens
  pub few_harts : length s.harts ≤ 64
  pub harts : (h : ℕ) (hart : HartState) → slice_get s.harts h ≡ Some hart → IsSoundHart s h hart
  pub met : AllByRecursion (IsMet s) s.met
  pub limits : AreLimits s.limits.frames s.limits.last_writes s.limits.last_birth
  pub frames : used_of s + s.worn ≤ s.limits.frames

-- no page is Going
abbrev pub HasNoneGoing : FlatState → Type 0
HasNoneGoing s = AllByRecursion (λ page. is_going page.stage ≡ false) s.pages

-- a page that a call owes is Ending and free, and above the last that went
abbrev pub IsOwed : FlatState → Option ℕ → ℕ → Type 0
IsOwed s last n =
    (is_above last n ≡ true) × IsSomeAnd (data_in s.pages n) (λ page. may_go page ≡ true)

-- a call that settles owes pages by rising number, and no page is Going
pub record IsSettling (s : FlatState) (owed : List ℕ) (last : Option ℕ) : Type 0 where
  pub rising : IsRising owed
  pub each : AllByRecursion (IsOwed s last) owed
  pub none_going : HasNoneGoing s

-- a hart has still to let pages leave, by rising number, which are those that are Going, and to end
-- its call
pub record IsHartWork (s : FlatState) (todo : List Todo) : Type 0 where
  pub pages : List ℕ
  pub next : ℕ
  pub is : todo ≡ map Leaves pages ++ Exactly (End next) ∷ []
  pub rising : IsRising pages
  pub going : AllByRecursion
      (λ n. IsSomeAnd (data_in s.pages n) (λ page. is_going page.stage ≡ true)) pages
  pub only : AllByRecursion (λ page. is_going page.stage ≡ true → Contains pages page.number)
      s.pages

-- the numbers of the pages of runs
abbrev pub run_numbers : List PageRun → List ℕ
run_numbers runs = flat_map (λ run. range_with_len run.first run.count) runs

-- runs of pages that are mapped one after another with a patch
abbrev pub runs_mapped : FlatState → DeltaValue → List PageRun → FlatState
runs_mapped s delta runs =
    fold (λ s run. mapped s run.first run.count run.write (Some delta)) s runs

-- a page is neither one of data nor text of a generation that lives
abbrev pub IsUnused : FlatState → ℕ → Type 0
IsUnused s n = (is_data s n ≡ false) × (is_live_text s n ≡ false)

-- The kernel's own actor has still to map runs of a patch, and then a generation is born with it,
-- of one that lives: there are frames for both, and none of its pages is there yet.
pub record IsKernelWork (deltas : List DeltaValue) (s : FlatState) (todo : List Todo)
    : Type 0 where
  pub patch : ℕ
  pub delta : DeltaValue
  pub runs : List PageRun
  pub parent : ℕ
  pub is : todo
      ≡ map (map_of patch) runs ++ Exactly (Born (length s.gens) parent (Some patch)) ∷ []
  pub of_run : slice_get deltas patch ≡ Some delta
  pub live : is_live s parent ≡ true
  pub few : length s.gens < MOST_GENERATIONS
  pub low : AllByRecursion (λ run. run.first + run.count ≤ ADDRESS_PAGES) runs
  pub distinct : IsDistinct nat_eq (text_numbers delta.private ++ run_numbers runs)
  pub unused : AllByRecursion (IsUnused s) (text_numbers delta.private ++ run_numbers runs)
  pub frames : used_of (generation_born deltas (runs_mapped s delta runs) parent (Some patch))
      + s.worn ≤ s.limits.frames
  pub none_going : HasNoneGoing s

-- What is in hand, by who is inside the kernel: nobody where no call is open, and else the kernel's
-- own actor, or a hart that is there and runs; one that has things to do is in a try of a call.
abbrev pub IsInHand : List DeltaValue → FlatState → Option Actor → Option calls.Call → Type 0
IsInHand deltas s None None = HasNoneGoing s
IsInHand deltas s None (Some call) = ⊥
IsInHand deltas s (Some actor) None = ⊥
IsInHand deltas s (Some Kernel) (Some (Settling owed last)) = IsSettling s owed last
IsInHand deltas s (Some (Hart h)) (Some (Settling owed last)) =
    OfRunning s h (λ hart. IsSettling s owed last)
IsInHand deltas s (Some Kernel) (Some (Doing todo)) = IsKernelWork deltas s todo
IsInHand deltas s (Some (Hart h)) (Some (Doing todo)) =
    OfRunning s h (λ hart. (want_in hart ≡ Some Call) × IsHartWork s todo)

-- what holds at every moment of a legal journal that begins where it holds
pub record IsSound (m : Moment) : Type 0 where
  pub few_deltas : length m.deltas < 2 ^ 32
  pub deltas : AllByRecursion IsDelta m.deltas
  pub state : IsSoundState m.deltas m.flat
  pub call : IsInHand m.deltas m.flat m.flat.inside m.call
