-- Homes of a machine, behind what it makes.
use Rattle.std.proofs.Common.{◌≡◌, ◌+◌, ◌++◌, ℕ, List, [], ◌∷◌, Option, None, length, drop, map, refl, sym, subst, ap, ◌∙◌, length-append, arith, Bool, true, false, Some, is_some}
use Rattle.std.specs.List.{fold}
use Rattle.wf_outside.specs.Images.{DeltaValue}
use Rattle.wf_flat.specs.declared.event.Actor.{Actor}
use Rattle.wf_flat.specs.declared.event.Entry.{Entry}
use Rattle.wf_flat.specs.State.{FlatState}
use Rattle.wf_homes.specs.Homes.{Homes, homes_after, homes_behind}
use Rattle.wf_legal.specs.Legal.{Moment, at_rest, end_of}
use Rattle.wf_tables.specs.Settled.{AreSettled, change_tenants}
use Rattle.home_laws.specs.Laws.{HomesSettle, HomesStay}
use Rattle.wf_follow.specs.Places.{homes_along, homes_by}
use Rattle.wf_service.specs.Adding.{Adds}
use Rattle.wf_driver.specs.Housing.{AreHomesOf, AreOwnHomesOf, homes_now, own_homes}
use Rattle.wf_driver.specs.Machines.{AreHomesIn, homes_wanted}

-- what is left behind all
rest_of : (xs ys : List Entry) → drop (length xs) (xs ++ ys) ≡ ys
rest_of [] ys = refl
rest_of (x ∷ xs) ys = rest_of xs ys

none_left : (xs : List Entry) → drop (length xs) xs ≡ []
none_left [] = refl
none_left (x ∷ xs) = none_left xs

-- homes that were made for entries by a call
abbrev made_by : Homes → List Entry → Homes
made_by homes entries = fold homes_behind homes (map (λ (entry : Entry). entry.event) entries)

-- the homes now are settled
pub now_settled : HomesSettle → (homes : Homes) (accounted : ℕ) (entries : List Entry) (s : FlatState) → AreSettled (homes_now homes accounted entries s) s
now_settled law homes accounted entries s = law (made_by homes (drop accounted entries)) s

-- so many that are all account for all
pub all_accounted : (homes : Homes) (accounted : ℕ) (entries : List Entry) (s : FlatState) → AreSettled homes s → accounted ≡ length entries → homes_now homes accounted entries s ≡ homes
all_accounted homes accounted entries s settled all =
    ap (λ (n : ℕ). homes_now homes n entries s) all ∙ ap (λ (es : List Entry). homes_after homes (map (λ (entry : Entry). entry.event) es) s) (none_left entries) ∙ settled

pub all_of : (homes : Homes) (accounted : ℕ) (entries : List Entry) (s : FlatState) → AreSettled homes s → accounted ≡ length entries → AreHomesOf homes accounted entries s
all_of homes accounted entries s settled all = record {
  low = rw all (omega arith);
  stay = λ plain. all_accounted homes accounted entries s settled all;
}

-- the homes along entries at whose end no call is open
along : (homes : Homes) (made : List Entry) (s t : FlatState) → s ≡ t → s.inside ≡ None → homes_after homes (map (λ (entry : Entry). entry.event) made) s ≡ homes_along homes made t
along homes made s t same outside =
    sym (ap (λ (o : Option Actor). homes_by o (made_by homes made) s) outside) ∙ ap (homes_along homes made) same

-- what is left to account for behind more entries
left_behind : (entries later made : List Entry) (accounted : ℕ) → later ≡ entries ++ made → accounted ≡ length entries → drop accounted later ≡ made
left_behind entries later made accounted appended all =
    ap (λ (n : ℕ). drop n later) all ∙ ap (drop (length entries)) appended ∙ rest_of entries made

-- homes that account for all entries, behind more
pub now_along : (deltas : List DeltaValue) (s next : FlatState) (entries later : List Entry) (P : List Entry → Type 0) (homes : Homes) (accounted : ℕ) → accounted ≡ length entries → next.inside ≡ None
    → (adds : Adds (at_rest deltas s) entries (at_rest deltas next) later P)
    → homes_now homes accounted later next ≡ homes_along homes adds.made (end_of (at_rest deltas s) adds.made).flat
now_along deltas s next entries later P homes accounted all outside adds =
    ap (λ (es : List Entry). homes_after homes (map (λ (entry : Entry). entry.event) es) next) (left_behind entries later adds.made accounted adds.appended all)
    ∙ along homes adds.made next (end_of (at_rest deltas s) adds.made).flat (ap (λ (m : Moment). m.flat) adds.reached) outside

-- they stay where nothing changes
pub of_along : HomesStay → (deltas : List DeltaValue) (s next : FlatState) (entries later : List Entry) (P : List Entry → Type 0) (homes : Homes) (accounted : ℕ) → AreSettled homes s → accounted ≡ length entries
    → Adds (at_rest deltas s) entries (at_rest deltas next) later P → AreHomesOf homes accounted later next
of_along law deltas s next entries later P homes accounted settled all adds =
    let long : length later ≡ length entries + length adds.made = ap (λ (es : List Entry). length es) adds.appended ∙ length-append entries adds.made in
    let left : drop accounted later ≡ adds.made = left_behind entries later adds.made accounted adds.appended all in
    record {
      low = omega arith;
      stay = λ plain. (
          ap (λ (es : List Entry). homes_after homes (map (λ (entry : Entry). entry.event) es) next) left
          ∙ ap (λ (m : Moment). homes_after homes (map (λ (entry : Entry). entry.event) adds.made) m.flat) adds.reached
          ∙ law homes (at_rest deltas s) adds.made settled (sym (ap change_tenants left) ∙ plain));
    }

-- ---- homes of a machine, if it has some

abbrev AreOwnSettled : Option Homes → FlatState → Type 0
AreOwnSettled None s = Unit {0}
AreOwnSettled (Some homes) s = AreSettled homes s

own_settled : HomesSettle → (old : Option Homes) (before : ℕ) (entries : List Entry) (s : FlatState) → AreOwnSettled (own_homes old before entries s) s
own_settled law None before entries s = tt
own_settled law (Some homes) before entries s = now_settled law homes before entries s

own_accounted : (homes : Option Homes) (accounted : ℕ) (entries : List Entry) (s : FlatState) → AreOwnSettled homes s → accounted ≡ length entries → own_homes homes accounted entries s ≡ homes
own_accounted None accounted entries s settled all = refl
own_accounted (Some homes) accounted entries s settled all = ap (λ (h : Homes). (let o : Option Homes = Some h in o)) (all_accounted homes accounted entries s settled all)

own_of : (homes : Option Homes) (accounted : ℕ) (entries : List Entry) (s : FlatState) → AreOwnSettled homes s → accounted ≡ length entries → AreOwnHomesOf homes accounted entries s
own_of None accounted entries s settled all = tt
own_of (Some homes) accounted entries s settled all = all_of homes accounted entries s settled all

-- it has some as long as it had
pub own_some : (homes : Option Homes) (accounted : ℕ) (entries : List Entry) (s : FlatState) → is_some (own_homes homes accounted entries s) ≡ is_some homes
own_some None accounted entries s = refl
own_some (Some homes) accounted entries s = refl

-- The homes of a machine account for all entries: they are those now.
pub record IsAccounted (flat : FlatState) (entries : List Entry) (old : Option Homes) (before : ℕ) (homes : Option Homes) (accounted : ℕ) : Type 0 where
  pub now : homes ≡ own_homes old before entries flat
  pub all : accounted ≡ length entries

accounted_settled : HomesSettle → (flat : FlatState) (entries : List Entry) (old : Option Homes) (before : ℕ) (homes : Option Homes) (accounted : ℕ) → IsAccounted flat entries old before homes accounted → AreOwnSettled homes flat
accounted_settled law flat entries old before homes accounted is = subst (λ (h : Option Homes). AreOwnSettled h flat) (sym is.now) (own_settled law old before entries flat)

-- so many account for all, and the homes now are the same
pub still_now : HomesSettle → (flat : FlatState) (entries : List Entry) (old : Option Homes) (before : ℕ) (homes : Option Homes) (accounted : ℕ) → IsAccounted flat entries old before homes accounted
    → own_homes homes accounted entries flat ≡ own_homes old before entries flat
still_now law flat entries old before homes accounted is = own_accounted homes accounted entries flat (accounted_settled law flat entries old before homes accounted is) is.all ∙ is.now

pub still_of : HomesSettle → (flat : FlatState) (entries : List Entry) (old : Option Homes) (before : ℕ) (homes : Option Homes) (accounted : ℕ) → IsAccounted flat entries old before homes accounted → AreOwnHomesOf homes accounted entries flat
still_of law flat entries old before homes accounted is = own_of homes accounted entries flat (accounted_settled law flat entries old before homes accounted is) is.all

-- behind more entries they are those along these
pub own_along : (deltas : List DeltaValue) (s next : FlatState) (entries later : List Entry) (P : List Entry → Type 0) (own : Option Homes) (accounted : ℕ) → accounted ≡ length entries → next.inside ≡ None
    → (adds : Adds (at_rest deltas s) entries (at_rest deltas next) later P) (homes : Homes) → AreHomesIn own homes
    → AreHomesIn (own_homes own accounted later next) (homes_along homes adds.made (end_of (at_rest deltas s) adds.made).flat)
own_along deltas s next entries later P None accounted all outside adds homes is = tt
own_along deltas s next entries later P (Some own) accounted all outside adds homes is =
    now_along deltas s next entries later P own accounted all outside adds ∙ ap (λ (h : Homes). homes_along h adds.made (end_of (at_rest deltas s) adds.made).flat) is

own_stay : HomesStay → (deltas : List DeltaValue) (s next : FlatState) (entries later : List Entry) (P : List Entry → Type 0) (homes : Option Homes) (accounted : ℕ) → AreOwnSettled homes s → accounted ≡ length entries
    → Adds (at_rest deltas s) entries (at_rest deltas next) later P → AreOwnHomesOf homes accounted later next
own_stay law deltas s next entries later P None accounted settled all adds = tt
own_stay law deltas s next entries later P (Some homes) accounted settled all adds = of_along law deltas s next entries later P homes accounted settled all adds

pub more_of : HomesSettle → HomesStay → (deltas : List DeltaValue) (flat next : FlatState) (entries later : List Entry) (P : List Entry → Type 0) (old : Option Homes) (before : ℕ) (homes : Option Homes) (accounted : ℕ)
    → IsAccounted flat entries old before homes accounted → Adds (at_rest deltas flat) entries (at_rest deltas next) later P → AreOwnHomesOf homes accounted later next
more_of settle stay deltas flat next entries later P old before homes accounted is adds =
    own_stay stay deltas flat next entries later P homes accounted (accounted_settled settle flat entries old before homes accounted is) is.all adds

-- the homes of a start, where they are wanted
pub wanted_settled : HomesSettle → (wanted : Bool) (s : FlatState) → AreOwnSettled (homes_wanted wanted s) s
wanted_settled law true s = law (record { homes = []; worn = [] }) s
wanted_settled law false s = tt

pub start_accounted : HomesSettle → (wanted : Bool) (s : FlatState) (homes : Option Homes) (entries : List Entry) → homes ≡ homes_wanted wanted s → entries ≡ [] → own_homes homes 0 entries s ≡ homes_wanted wanted s
start_accounted law wanted s homes entries is none =
    own_accounted homes 0 entries s (subst (λ (h : Option Homes). AreOwnSettled h s) (sym is) (wanted_settled law wanted s)) (sym (ap (λ (es : List Entry). length es) none)) ∙ is

pub start_of : HomesSettle → (wanted : Bool) (s : FlatState) (homes : Option Homes) (entries : List Entry) → homes ≡ homes_wanted wanted s → entries ≡ [] → AreOwnHomesOf homes 0 entries s
start_of law wanted s homes entries is none =
    own_of homes 0 entries s (subst (λ (h : Option Homes). AreOwnSettled h s) (sym is) (wanted_settled law wanted s)) (sym (ap (λ (es : List Entry). length es) none))
