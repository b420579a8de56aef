-- Pages of data, of which some change, and what each entry makes of the page of a number.
use Rattle.std.proofs.Common.{◌≡◌, ◌≢◌, ◌≤◌, ℕ, zero, suc, ◌+◌, ◌-◌, ◌%◌, List, [], ◌∷◌, ◌++◌, Option, Some, None, Bool, true, false, not, ◌&&◌, map, ◌==◌, refl, ap, ◌∙◌, arith}
use Rattle.std.specs.Prelude.{if◌then◌else◌, nat_le, nat_lt, slice_get}
use Rattle.std.specs.List.{filter}
use Rattle.wf_outside.specs.Images.{DeltaValue}
use Rattle.wf_outside.specs.Pages.{page_of}
use Rattle.wf_flat.specs.declared.event.Actor.{Actor}
use Rattle.wf_flat.specs.declared.event.Actor.TheVariants.{Hart, Kernel}
use Rattle.wf_flat.specs.declared.event.Event.{Event}
use Rattle.wf_flat.specs.declared.event.Event.TheVariants.{Take, Put, Swap, End, Map, Going, Ending, Gone}
use Rattle.wf_flat.specs.declared.state.Stage.TheVariants as stages
use Rattle.wf_flat.specs.Lists.{inserted_by, sorted_by}
use Rattle.wf_flat.specs.Accesses.{Access, holds}
use Rattle.wf_flat.specs.Steps.{access_in}
use Rattle.wf_flat.specs.Changes.{change_page, give_back_by, give_back_of, given_back, note_page, put_with, taken_by}
use Rattle.wf_effects.specs.Effects.{delta_of, ending, going_in, mapped_page, mapped_pages}
use Rattle.wf_legal.specs.Events.{flat_after}
use Rattle.std.specs.Option.{option_map}
use Rattle.std.proofs.lemmas.Bool.Decides.{nat_tests}
use Rattle.wf_flat.specs.State.{FlatState, HartState, PageState}
use Rattle.wf_flat.specs.Memory.{data_in}
use Rattle.wf_flat.proofs.FoundLemmas.{data_number}

-- where all pages change and keep their numbers
map_by : (g : PageState → PageState) (p : PageState) (pages : List PageState) (n : ℕ) (b : Bool) → (p.number == n) ≡ b → (g p).number ≡ p.number → data_in (map g pages) n ≡ option_map g (data_in pages n)
    → data_in (map g (p ∷ pages)) n ≡ option_map g (data_in (p ∷ pages) n)
map_by g p pages n true t k rest = let u : ((g p).number == n) ≡ true = ap (λ (a : ℕ). a == n) k ∙ t in rw (u, t) refl
map_by g p pages n false t k rest = let u : ((g p).number == n) ≡ false = ap (λ (a : ℕ). a == n) k ∙ t in rw (u, t) rest

pub data_map : (g : PageState → PageState) → ((p : PageState) → (g p).number ≡ p.number) → (pages : List PageState) (n : ℕ) → data_in (map g pages) n ≡ option_map g (data_in pages n)
data_map g k [] n = refl
data_map g k (p ∷ pages) n = map_by g p pages n (p.number == n) refl (k p) (data_map g k pages n)

-- where one page changes and keeps its number
abbrev pub at_number : ℕ → (PageState → PageState) → PageState → PageState
at_number n f p = if p.number == n then f p else p

pub at_number_kept : {A : Type 0} (field : PageState → A) (n : ℕ) (f : PageState → PageState) → ((p : PageState) → field (f p) ≡ field p) → (p : PageState) → field (at_number n f p) ≡ field p
at_number_kept {A} field n f k p = by_test (p.number == n)
  where
    by_test : (b : Bool) → field (if b then f p else p) ≡ field p
    by_test true = k p
    by_test false = refl

pub data_changed : (n : ℕ) (f : PageState → PageState) → ((p : PageState) → (f p).number ≡ p.number) → (pages : List PageState) (k : ℕ) → data_in (map (at_number n f) pages) k ≡ option_map (at_number n f) (data_in pages k)
data_changed n f keeps pages k = data_map (at_number n f) (at_number_kept (λ (p : PageState). p.number) n f keeps) pages k

-- the page that changes, and each other
pub data_there : (n : ℕ) (f : PageState → PageState) → ((p : PageState) → (f p).number ≡ p.number) → (pages : List PageState) (page : PageState) → data_in pages n ≡ Some page → data_in (map (at_number n f) pages) n ≡ Some (f page)
data_there n f keeps pages page is =
    let same : page.number ≡ n = data_number pages n page is in
    let test : (page.number == n) ≡ true = grind (arith, nat_tests) in
    let changed : at_number n f page ≡ f page = rw test refl in
    data_changed n f keeps pages n ∙ ap (option_map (at_number n f)) is ∙ ap Some changed

pub data_elsewhere : (n : ℕ) (f : PageState → PageState) → ((p : PageState) → (f p).number ≡ p.number) → (pages : List PageState) (k : ℕ) → k ≢ n → data_in (map (at_number n f) pages) k ≡ data_in pages k
data_elsewhere n f keeps pages k apart = data_changed n f keeps pages k ∙ unchanged (data_in pages k) refl
  where
    unchanged : (o : Option PageState) → data_in pages k ≡ o → option_map (at_number n f) o ≡ o
    unchanged None e = refl
    unchanged (Some page) e =
        let same : page.number ≡ k = data_number pages k page e in
        let test : (page.number == n) ≡ false = grind (arith, nat_tests) in
        let kept : at_number n f page ≡ page = rw test refl in
        ap Some kept

-- a page is given back by a hart
abbrev pub given_of : FlatState → HartState → ℕ → Option Access → PageState → PageState
given_of s hart h None page = page
given_of s hart h (Some access) page = if holds s h access then at_number (page_of access.va) (given_back s.limits.last_writes hart.put) page else page

abbrev pub given_by : FlatState → ℕ → Option HartState → PageState → PageState
given_by s h None page = page
given_by s h (Some hart) page = given_of s hart h (access_in hart) page

map_id : (o : Option PageState) → o ≡ option_map (λ (p : PageState). p) o
map_id None = refl
map_id (Some page) = refl

give_test : (b : Bool) (s : FlatState) (h n k : ℕ) (f : PageState → PageState) → ((p : PageState) → (f p).number ≡ p.number)
    → data_in (if b then note_page (change_page s n f) h n else s).pages k ≡ option_map (λ (p : PageState). if b then at_number n f p else p) (data_in s.pages k)
give_test true s h n k f keeps = data_changed n f keeps s.pages k
give_test false s h n k f keeps = map_id (data_in s.pages k)

give_of : (s : FlatState) (h k : ℕ) (hart : HartState) (o : Option Access) → data_in (give_back_of s h hart o).pages k ≡ option_map (given_of s hart h o) (data_in s.pages k)
give_of s h k hart None = map_id (data_in s.pages k)
give_of s h k hart (Some access) = give_test (holds s h access) s h (page_of access.va) k (given_back s.limits.last_writes hart.put) (λ p. refl)

give_by : (s : FlatState) (h k : ℕ) (o : Option HartState) → data_in (give_back_by s h o).pages k ≡ option_map (given_by s h o) (data_in s.pages k)
give_by s h k None = map_id (data_in s.pages k)
give_by s h k (Some hart) = give_of s h k hart (access_in hart)

-- the first of two that is there
abbrev pub or_else : Option PageState → Option PageState → Option PageState
or_else None other = other
or_else (Some page) other = Some page

-- the page of a number among pages that are mapped
abbrev pub in_range : ℕ → ℕ → ℕ → Bool
in_range first n k = nat_le first k && nat_lt k (first + n)

abbrev pub mapped_at : Option DeltaValue → Bool → ℕ → ℕ → ℕ → ℕ → Option PageState
mapped_at delta write first birth n k = if in_range first n k then Some (mapped_page delta write k (birth + (k - first))) else None

mapped_by : (delta : Option DeltaValue) (write : Bool) (first birth n k : ℕ) (b : Bool) → (first == k) ≡ b → data_in (mapped_pages delta write (first + 1) (birth + 1) n) k ≡ mapped_at delta write (first + 1) (birth + 1) n k
    → data_in (mapped_pages delta write first birth (suc n)) k ≡ mapped_at delta write first birth (suc n) k
mapped_by delta write first birth n k true t rest =
    let same : first ≡ k = grind (arith, nat_tests) in
    let there : in_range first (suc n) k ≡ true = grind (arith, nat_tests) in
    let at : birth + (k - first) ≡ birth = omega arith in
    rw (t, there, at, same) refl
mapped_by delta write first birth n k false t rest =
    let apart : in_range first (suc n) k ≡ in_range (first + 1) n k = grind (arith, nat_tests) in
    rw (t, apart) (rest ∙ by_range (in_range (first + 1) n k) refl)
  where
    by_range : (b : Bool) → in_range (first + 1) n k ≡ b → (if b then Some (mapped_page delta write k (birth + 1 + (k - (first + 1)))) else None) ≡ (if b then Some (mapped_page delta write k (birth + (k - first))) else None)
    by_range true e =
        let later : birth + 1 + (k - (first + 1)) ≡ birth + (k - first) = (let from : first + 1 ≤ k = grind (arith, nat_tests) in omega arith) in
        ap (λ (b : ℕ). Some (mapped_page delta write k b)) later
    by_range false e = refl

pub data_mapped : (delta : Option DeltaValue) (write : Bool) (first birth n k : ℕ) → data_in (mapped_pages delta write first birth n) k ≡ mapped_at delta write first birth n k
data_mapped delta write first birth zero k = let none : in_range first 0 k ≡ false = grind (arith, nat_tests) in rw none refl
data_mapped delta write first birth (suc n) k = mapped_by delta write first birth n k (first == k) refl (data_mapped delta write (first + 1) (birth + 1) n k)

-- sorting leaves which page has a number
data_append : (one other : List PageState) (k : ℕ) → data_in (one ++ other) k ≡ or_else (data_in one k) (data_in other k)
data_append [] other k = refl
data_append (p ∷ one) other k = by_test (p.number == k) refl (data_append one other k)
  where
    by_test : (b : Bool) → (p.number == k) ≡ b → data_in (one ++ other) k ≡ or_else (data_in one k) (data_in other k) → data_in (p ∷ one ++ other) k ≡ or_else (data_in (p ∷ one) k) (data_in other k)
    by_test true t rest = rw t refl
    by_test false t rest = rw t rest

abbrev numbered : PageState → ℕ
numbered page = page.number

data_inserted : (p : PageState) (pages : List PageState) (k : ℕ) → data_in (inserted_by numbered p pages) k ≡ data_in (p ∷ pages) k
data_inserted p [] k = refl
data_inserted p (q ∷ pages) k = by_order (nat_lt q.number p.number) refl (data_inserted p pages k)
  where
    by_numbers : (a b : Bool) → (p.number == k) ≡ a → (q.number == k) ≡ b → nat_lt q.number p.number ≡ true → data_in (inserted_by numbered p pages) k ≡ data_in (p ∷ pages) k → data_in (q ∷ inserted_by numbered p pages) k ≡ data_in (p ∷ q ∷ pages) k
    by_numbers true true s t low rest = absurd (grind (arith, nat_tests))
    by_numbers true false s t low rest = let here : data_in (inserted_by numbered p pages) k ≡ Some p = rest ∙ rw s refl in rw (t, s) here
    by_numbers false true s t low rest = rw (t, s) refl
    by_numbers false false s t low rest = let here : data_in (inserted_by numbered p pages) k ≡ data_in pages k = rest ∙ rw s refl in rw (t, s) here

    by_order : (b : Bool) → nat_lt q.number p.number ≡ b → data_in (inserted_by numbered p pages) k ≡ data_in (p ∷ pages) k → data_in (inserted_by numbered p (q ∷ pages)) k ≡ data_in (p ∷ q ∷ pages) k
    by_order true low rest = rw low (by_numbers (p.number == k) (q.number == k) refl refl low rest)
    by_order false low rest = rw low refl

data_next : (p : PageState) (one other : List PageState) (k : ℕ) → data_in one k ≡ data_in other k → data_in (p ∷ one) k ≡ data_in (p ∷ other) k
data_next p one other k e = by_test (p.number == k) refl
  where
    by_test : (b : Bool) → (p.number == k) ≡ b → data_in (p ∷ one) k ≡ data_in (p ∷ other) k
    by_test true t = rw t refl
    by_test false t = rw t e

data_sorted : (pages : List PageState) (k : ℕ) → data_in (sorted_by numbered pages) k ≡ data_in pages k
data_sorted [] k = refl
data_sorted (p ∷ pages) k = data_inserted p (sorted_by numbered pages) k ∙ data_next p (sorted_by numbered pages) pages k (data_sorted pages k)

-- where a page is gone
data_without : (pages : List PageState) (n k : ℕ) → data_in (filter (λ (p : PageState). not (p.number == n)) pages) k ≡ (if k == n then None else data_in pages k)
data_without [] n k = by_test (k == n)
  where
    by_test : (b : Bool) → ◌≡◌ {A = Option PageState} None (if b then None else None)
    by_test true = refl
    by_test false = refl
data_without (p ∷ pages) n k = by_tests (p.number == n) (p.number == k) (k == n) refl refl refl (data_without pages n k)
  where
    by_tests : (a b c : Bool) → (p.number == n) ≡ a → (p.number == k) ≡ b → (k == n) ≡ c → data_in (filter (λ (p : PageState). not (p.number == n)) pages) k ≡ (if k == n then None else data_in pages k)
        → data_in (filter (λ (p : PageState). not (p.number == n)) (p ∷ pages)) k ≡ (if k == n then None else data_in (p ∷ pages) k)
    by_tests true true true s t u rest = rw (s, u) (rest ∙ rw u refl)
    by_tests true true false s t u rest = absurd (grind (arith, nat_tests))
    by_tests true false true s t u rest = rw (s, u) (rest ∙ rw u refl)
    by_tests true false false s t u rest = rw (s, u, t) (rest ∙ rw u refl)
    by_tests false true true s t u rest = absurd (grind (arith, nat_tests))
    by_tests false true false s t u rest = rw (s, t, u) refl
    by_tests false false true s t u rest = rw (s, t, u) (rest ∙ rw u refl)
    by_tests false false false s t u rest = rw (s, t, u) (rest ∙ rw u refl)

-- what an actor changes that is a hart
abbrev pub if_hart : Actor → (ℕ → Option PageState) → Option PageState → Option PageState
if_hart (Hart h) change o = change h
if_hart Kernel change o = o

-- what an entry makes of the page of a number
abbrev pub page_after : List DeltaValue → FlatState → Actor → Event → ℕ → Option PageState → Option PageState
page_after deltas s actor (Take page) k o = if_hart actor (λ h. option_map (at_number page (taken_by h)) o) o
page_after deltas s actor (Put va width value) k o = if_hart actor (λ h. option_map (at_number (page_of va) (put_with (va % 4096) width value)) o) o
page_after deltas s actor (Swap va width old new) k o = if_hart actor (λ h. option_map (at_number (page_of va) (put_with (va % 4096) width new)) o) o
page_after deltas s actor (End pc) k o = if_hart actor (λ h. option_map (given_by s h (slice_get s.harts h)) o) o
page_after deltas s actor (Map first n write patch) k o = or_else o (mapped_at (delta_of deltas patch) write first s.births n k)
page_after deltas s actor (Going first n) k o = option_map (going_in first n) o
page_after deltas s actor (Ending page) k o = option_map (at_number page ending) o
page_after deltas s actor (Gone page worn) k o = if k == page then None else o
page_after deltas s actor e k o = o

going_number : (first n : ℕ) (p : PageState) → (going_in first n p).number ≡ p.number
going_number first n p = by_test (nat_le first p.number && nat_lt p.number (first + n))
  where
    by_test : (b : Bool) → (if b then record p { stage = stages.Going } else p).number ≡ p.number
    by_test true = refl
    by_test false = refl

mapped_after : (deltas : List DeltaValue) (s : FlatState) (first n : ℕ) (write : Bool) (patch : Option ℕ) (k : ℕ)
    → data_in (sorted_by numbered (s.pages ++ mapped_pages (delta_of deltas patch) write first s.births n)) k ≡ or_else (data_in s.pages k) (mapped_at (delta_of deltas patch) write first s.births n k)
mapped_after deltas s first n write patch k =
    data_sorted (s.pages ++ mapped_pages (delta_of deltas patch) write first s.births n) k ∙ data_append s.pages (mapped_pages (delta_of deltas patch) write first s.births n) k
    ∙ ap (or_else (data_in s.pages k)) (data_mapped (delta_of deltas patch) write first s.births n k)

pub data_after : (deltas : List DeltaValue) (s : FlatState) (actor : Actor) (e : Event) (k : ℕ) → data_in (flat_after deltas s actor e).pages k ≡ page_after deltas s actor e k (data_in s.pages k)
data_after deltas s (Hart h) (Take page) k = data_changed page (taken_by h) (λ p. refl) s.pages k
data_after deltas s (Hart h) (Put va width value) k = data_changed (page_of va) (put_with (va % 4096) width value) (λ p. refl) s.pages k
data_after deltas s (Hart h) (Swap va width old new) k = data_changed (page_of va) (put_with (va % 4096) width new) (λ p. refl) s.pages k
data_after deltas s (Hart h) (End pc) k = give_by s h k (slice_get s.harts h)
data_after deltas s (Hart h) (Map first n write patch) k = mapped_after deltas s first n write patch k
data_after deltas s (Hart h) (Going first n) k = data_map (going_in first n) (going_number first n) s.pages k
data_after deltas s (Hart h) (Ending page) k = data_changed page ending (λ p. refl) s.pages k
data_after deltas s (Hart h) (Gone page worn) k = data_without s.pages page k
data_after deltas s (Hart h) e k = refl
data_after deltas s Kernel (Map first n write patch) k = mapped_after deltas s first n write patch k
data_after deltas s Kernel (Going first n) k = data_map (going_in first n) (going_number first n) s.pages k
data_after deltas s Kernel (Ending page) k = data_changed page ending (λ p. refl) s.pages k
data_after deltas s Kernel (Gone page worn) k = data_without s.pages page k
data_after deltas s Kernel e k = refl
