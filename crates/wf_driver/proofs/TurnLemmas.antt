-- Whose turn it is, and turns that are made.
use Rattle.std.proofs.Common.{◌≡◌, ◌≢◌, ◌<◌, ◌≤◌, ◌+◌, ◌-◌, ◌++◌, ℕ, zero, suc, List, [], ◌∷◌, Bool, true, false, cond, Option, Some, None, is_some, length, get_or, drop, refl, sym, subst, ap, ◌∙◌, inl, inr, arith}
use Rattle.std.specs.Prelude.{◌&&◌, IfSome, IsSomeAnd, if◌then◌else◌, nat_le, nat_lt, position, slice_get, slice_range}
use Rattle.std.specs.Option.{option_or}
use Rattle.std.specs.List.{position_or_len}
use Rattle.std.proofs.lemmas.Bool.Decides.{nat_tests}
use Rattle.std.proofs.lemmas.List.{get_or-drop, length-drop, take_rest}
use Rattle.std.proofs.lemmas.List.Quantifiers.{position-Some}
use Rattle.std.proofs.lemmas.List.Sums.{fails_before_first}
use Rattle.wf_text.proofs.NumberLemmas.{chosen}
use Rattle.wf_flat.specs.Boot.{boot_hart}
use Rattle.wf_flat.specs.declared.event.Actor.TheVariants.{Hart}
use Rattle.wf_flat.specs.declared.event.Event.TheVariants.{Idle}
use Rattle.wf_flat.specs.declared.state.Life.{Life}
use Rattle.wf_flat.specs.declared.state.Life.TheVariants.{Running}
use Rattle.wf_flat.specs.declared.event.Entry.{Entry}
use Rattle.wf_flat.specs.State.{FlatState, HartState}
use Rattle.wf_flat.specs.Steps.{OfHart}
use Rattle.wf_effects.specs.Generations.{is_running}
use Rattle.wf_outside.specs.Images.{DeltaValue}
use Rattle.wf_service.specs.Resting.{IsResting}
use Rattle.wf_report.specs.Listings.{ListingValue}
use Rattle.wf_follow.specs.Places.{Place}
use Rattle.wf_follow.specs.Units.{IsTurn, IsTurnOf, IsUnitOf, hart_in_turn, lowest_running, number_behind, only}
use Rattle.wf_driver.proofs.StepLemmas.{allowed_outside}
use Rattle.wf_driver.specs.Machines.{MachineValue, moment_of, no_homes, place_of}
use Rattle.wf_driver.specs.Making.{HasMade}
use Rattle.wf_driver.specs.Housing.{own_homes}
use Rattle.wf_driver.specs.Keeping.{IsKept, IsReady}
use Rattle.wf_homes.specs.Homes.{Homes}
use Rattle.wf_legal.specs.Legal.{at_rest}
use Rattle.wf_service.specs.Adding.{Adds}
use Rattle.home_laws.specs.Laws.{HomesSettle, HomesStay}
use Rattle.wf_driver.proofs.HousingLemmas.{IsAccounted, own_along, own_some}
use Rattle.wf_driver.proofs.KeepLemmas.{kept_on}
use Rattle.wf_driver.proofs.PlaceLemmas.{AreAlong, behind_homes, place_behind, shown}

abbrev given : ℕ → Option ℕ
given h = Some h

-- a hart of this number is taken
abbrev is_taken : ℕ → ℕ → HartState → Bool
is_taken least h hart = nat_le least h && is_running hart.life

-- the first that is taken stands at this place
lowest_at : (least h : ℕ) (harts : List HartState) (i : ℕ) (d : HartState) → i < length harts → is_taken least (h + i) (get_or harts i d) ≡ true
    → ((k : ℕ) → k < i → is_taken least (h + k) (get_or harts k d) ≡ false) → lowest_running least h harts ≡ Some (h + i)
lowest_at least h [] i d lt here_taken not_taken = absurd (omega arith)
lowest_at least h (hart ∷ harts) zero d lt here_taken not_taken =
    let here : is_taken least h hart ≡ true = ap (λ (k : ℕ). is_taken least k hart) (omega arith) ∙ here_taken in
    ap (λ (b : Bool). cond b (Some h) (lowest_running least (suc h) harts)) here ∙ ap given (omega arith)
lowest_at least h (hart ∷ harts) (suc i) d lt here_taken not_taken =
    let first : is_taken least h hart ≡ false = ap (λ (k : ℕ). is_taken least k hart) (omega arith) ∙ not_taken 0 (omega arith) in
    let step : (k : ℕ) → suc h + k ≡ h + suc k = λ k. omega arith in
    ap (λ (b : Bool). cond b (Some h) (lowest_running least (suc h) harts)) first
    ∙ lowest_at least (suc h) harts i d (omega arith) (ap (λ (n : ℕ). is_taken least n (get_or harts i d)) (step i) ∙ here_taken)
    (λ k lk. ap (λ (n : ℕ). is_taken least n (get_or harts k d)) (step k) ∙ not_taken (suc k) (omega arith))
    ∙ ap given (step i)

-- none is taken
lowest_nowhere : (least h : ℕ) (harts : List HartState) (d : HartState) → ((k : ℕ) → k < length harts → is_taken least (h + k) (get_or harts k d) ≡ false) → lowest_running least h harts ≡ None
lowest_nowhere least h [] d not_taken = refl
lowest_nowhere least h (hart ∷ harts) d not_taken =
    let first : is_taken least h hart ≡ false = ap (λ (k : ℕ). is_taken least k hart) (omega arith) ∙ not_taken 0 (omega arith) in
    let step : (k : ℕ) → suc h + k ≡ h + suc k = λ k. omega arith in
    ap (λ (b : Bool). cond b (Some h) (lowest_running least (suc h) harts)) first
    ∙ lowest_nowhere least (suc h) harts d (λ k lk. ap (λ (n : ℕ). is_taken least n (get_or harts k d)) (step k) ∙ not_taken (suc k) (omega arith))

abbrev runs : HartState → Bool
runs hart = is_running hart.life

-- some hart
abbrev some_hart : HartState
some_hart = boot_hart 0 0

at_least : (least k : ℕ) → nat_le least k ≡ true → least ≤ k
at_least least k e = grind (arith, nat_tests)

high : (least k : ℕ) → least ≤ k → nat_le least k ≡ true
high least k le = grind (arith, nat_tests)

below_taken : (least k : ℕ) (hart : HartState) → nat_le least k ≡ false → is_taken least k hart ≡ false
below_taken least k hart e = ap (λ (b : Bool). b && runs hart) e

above_taken : (least k : ℕ) (hart : HartState) → nat_le least k ≡ true → is_taken least k hart ≡ runs hart
above_taken least k hart e = ap (λ (b : Bool). b && runs hart) e

-- the hart at a place behind the least number
behind_least : (least i : ℕ) (harts : List HartState) → is_taken least (0 + (least + i)) (get_or harts (least + i) some_hart) ≡ runs (get_or (drop least harts) i some_hart)
behind_least least i harts =
    above_taken least (0 + (least + i)) (get_or harts (least + i) some_hart) (high least (0 + (least + i)) (omega arith)) ∙ ap runs (sym (get_or-drop least harts i some_hart))

-- where none of those at places below one behind the least number runs, none before that place is taken
none_before : (least i : ℕ) (harts : List HartState) → ((j : ℕ) → j < i → runs (get_or (drop least harts) j some_hart) ≡ false)
    → (k : ℕ) → k < least + i → is_taken least (0 + k) (get_or harts k some_hart) ≡ false
none_before least i harts not_taken k lk = by_place (nat_le least (0 + k)) refl
  where
    by_place : (b : Bool) → nat_le least (0 + k) ≡ b → is_taken least (0 + k) (get_or harts k some_hart) ≡ false
    by_place false e = below_taken least (0 + k) (get_or harts k some_hart) e
    by_place true e =
        let le : least ≤ 0 + k = at_least least (0 + k) e in
        let same : least + (k - least) ≡ k = omega arith in
        ap (λ (n : ℕ). is_taken least (0 + n) (get_or harts n some_hart)) (sym same) ∙ behind_least least (k - least) harts ∙ not_taken (k - least) (omega arith)

-- the lowest that runs is found behind the least number
pub lowest_found : (least i : ℕ) (harts : List HartState) → least ≤ length harts → position (λ (hart : HartState). is_running hart.life) (drop least harts) ≡ Some i → lowest_running least 0 harts ≡ Some (least + i)
lowest_found least i harts le e =
    let place = position-Some runs (drop least harts) i some_hart e in
    let lt : i < length (drop least harts) = place.0 in
    let long : length (drop least harts) ≡ length harts - least = length-drop least harts in
    let found : lowest_running least 0 harts ≡ Some (0 + (least + i)) =
    lowest_at least 0 harts (least + i) some_hart (omega arith) (behind_least least i harts ∙ place.1) (none_before least i harts place.2) in
    found ∙ ap given (omega arith)

past : (n m : ℕ) → nat_lt n m ≡ false → m ≤ n
past n m e = grind (arith, nat_tests)

-- or there is none
pub lowest_missed : (least : ℕ) (harts : List HartState) → least ≤ length harts → position (λ (hart : HartState). is_running hart.life) (drop least harts) ≡ None → lowest_running least 0 harts ≡ None
lowest_missed least harts le e =
    let rest : List HartState = drop least harts in
    let long : length (drop least harts) ≡ length harts - least = length-drop least harts in
    elim (chosen (nat_lt (position_or_len runs rest) (length rest)) (Some (position_or_len runs rest)) None None e) [
      | inl p ↦ let none : Some (position_or_len runs rest) ≡ None = p.1 in absurd cc
      | inr p ↦
          let all : length rest ≤ position_or_len runs rest = past (position_or_len runs rest) (length rest) p.0 in
          lowest_nowhere least 0 harts some_hart
          (λ k lk. none_before least (length rest) harts (λ j lj. fails_before_first runs rest j some_hart (omega arith)) k (omega arith))
    ]

low : (least k : ℕ) → k < least → nat_le least k ≡ false
low least k lt = grind (arith, nat_tests)

-- none stands behind the last
pub lowest_past : (least : ℕ) (harts : List HartState) → length harts < least → lowest_running least 0 harts ≡ None
lowest_past least [] lt = refl
lowest_past least (hart ∷ harts) lt =
    lowest_nowhere least 0 (hart ∷ harts) hart (λ k lk. below_taken least (0 + k) (get_or (hart ∷ harts) k hart) (low least (0 + k) (omega arith)))

-- the same of what is left of harts from a number on
pub found_behind : (least i : ℕ) (harts rest : List HartState) → least ≤ length harts → rest ≡ slice_range harts least (length harts)
    → Some i ≡ position (λ (hart : HartState). is_running hart.life) rest → Some (least + i) ≡ lowest_running least 0 harts
found_behind least i harts rest le is e =
    sym (lowest_found least i harts le (ap (position runs) (sym (is ∙ take_rest harts least)) ∙ sym e))

pub missed_behind : (least : ℕ) (harts rest : List HartState) → least ≤ length harts → rest ≡ slice_range harts least (length harts)
    → None ≡ position (λ (hart : HartState). is_running hart.life) rest → lowest_running least 0 harts ≡ None
missed_behind least harts rest le is e =
    lowest_missed least harts le (ap (position runs) (sym (is ∙ take_rest harts least)) ∙ sym e)

-- what holds of both holds of the one that is taken
pub either_holds : (a b : Option ℕ) (P : ℕ → Type 0) → IfSome a P → IfSome b P → IfSome (option_or a b) P
either_holds None b P p q = q
either_holds (Some x) b P p q = p

-- where none is taken there is none
neither : (a b : Option ℕ) → option_or a b ≡ None → b ≡ None
neither None b e = e
neither (Some x) b e = absurd (cc)

-- where no hart runs, the first, if there is one, has stopped
stopped : (life : Life) → is_running life ≡ false → life ≢ Running
stopped life e is = let t : is_running life ≡ true = ap is_running is in absurd (cc)

first_stopped : (s : FlatState) → 1 ≤ length s.harts → lowest_running 0 0 s.harts ≡ None → OfHart s 0 (λ hart. hart.life ≢ Running)
first_stopped s some none = by_harts s.harts some none
  where
    by_life : (hart : HartState) (harts : List HartState) (b : Bool) → is_running hart.life ≡ b → (if b then Some 0 else lowest_running 0 1 harts) ≡ None → hart.life ≢ Running
    by_life hart harts true t e = absurd (cc)
    by_life hart harts false t e = stopped hart.life t

    by_harts : (harts : List HartState) → 1 ≤ length harts → lowest_running 0 0 harts ≡ None → IsSomeAnd (slice_get harts 0) (λ hart. hart.life ≢ Running)
    by_harts [] n e = absurd (omega arith)
    by_harts (hart ∷ harts) n e = by_life hart harts (is_running hart.life) refl e

-- a turn of a hart
turned_from : (a b : MachineValue) (h : ℕ) → hart_in_turn (place_of a no_homes) ≡ Some h → HasMade (IsUnitOf h) a b → HasMade IsTurn a (record b { last = Some h })
turned_from a b h turn made =
    record {
      made = made.made;
      entries = made.entries;
      listings = made.listings;
      legal = made.legal;
      reached = made.reached;
      fits = record {
        each = λ homes own. (
            let x = made.fits.each homes own in
            record {
              after = x.after;
              own = x.own;
              leads = subst (λ (o : Option ℕ). IsTurnOf o (place_of a homes) made.made (record (place_of b x.after) { last = Some h })) (sym turn)
                  (x.leads.0, ap (λ (p : Place). record p { last = Some h }) x.leads.1);
            });
        kept = made.fits.kept;
      };
    }

-- what an idle of hart 0 makes, where no hart runs
pub idle_adds : (deltas : List DeltaValue) (flat : FlatState) (entries later : List Entry) (last : Option ℕ) → IsResting flat → 1 ≤ length flat.harts
    → option_or (lowest_running (number_behind last) 0 flat.harts) (lowest_running 0 0 flat.harts) ≡ None → later ≡ entries ++ only (Hart 0) Idle
    → Adds (at_rest deltas flat) entries (at_rest deltas flat) later (λ es. es ≡ only (Hart 0) Idle)
idle_adds deltas flat entries later last rests some turn is =
    let inside : flat.inside ≡ None = rests.no_one in
    let first = first_stopped flat some (neither (lowest_running (number_behind last) 0 flat.harts) (lowest_running 0 0 flat.harts) turn) in
    record {
      made = only (Hart 0) Idle;
      appended = is;
      legal = (allowed_outside (at_rest deltas flat) 0 Idle inside first, tt);
      reached = rw inside refl;
      fits = refl;
    }

idled_from : (a b : MachineValue) → hart_in_turn (place_of a no_homes) ≡ None → (c : Adds (moment_of a) a.entries (moment_of b) b.entries (λ es. es ≡ only (Hart 0) Idle)) → AreAlong a c.made b → is_some b.homes ≡ is_some a.homes → b.listings ≡ a.listings → b.last ≡ a.last
    → length b.flat.harts ≡ length a.flat.harts → HasMade IsTurn a b
idled_from a b turn c along kept listings last harts =
    record {
      made = c.made;
      entries = c.appended;
      listings = listings;
      legal = c.legal;
      reached = c.reached;
      fits = record {
        each = λ homes own. record {
          after = behind_homes a homes c.made;
          own = along homes own;
          leads = subst (λ (o : Option ℕ). IsTurnOf o (place_of a homes) c.made (place_of b (behind_homes a homes c.made))) (sym turn) (c.fits, place_behind a b 0 c.made homes c.appended last c.reached harts);
        };
        kept = kept;
      };
    }

-- a turn of a hart leaves a machine with these parts
pub turned : (a b : MachineValue) (deltas : List DeltaValue) (flat : FlatState) (homes : Option Homes) (entries : List Entry) (listings : List ListingValue) (last : Option ℕ) (h : ℕ) → hart_in_turn (place_of a no_homes) ≡ Some h → HasMade (IsUnitOf h) a b
    → shown deltas flat homes entries listings last ≡ b → HasMade IsTurn a (shown deltas flat homes entries listings (Some h))
turned a b deltas flat homes entries listings last h turn made view =
    subst (λ (m : MachineValue). HasMade IsTurn a (record m { last = Some h })) (sym view) (turned_from a b h turn made)

-- a turn where no hart runs
pub idled : (deltas : List DeltaValue) (flat : FlatState) (entries later : List Entry) (listings : List ListingValue) (last : Option ℕ) (m : MachineValue) (old : Option Homes) (before : ℕ) (homes : Option Homes) (accounted : ℕ)
    → shown deltas flat (own_homes old before entries flat) entries listings last ≡ m → IsAccounted flat entries old before homes accounted
    → IsResting flat → 1 ≤ length flat.harts → hart_in_turn (place_of m no_homes) ≡ None → later ≡ entries ++ only (Hart 0) Idle → HasMade IsTurn m (shown deltas flat (own_homes homes accounted later flat) later listings last)
idled deltas flat entries later listings last m old before homes accounted view accounts rests some turn is =
    let a : MachineValue = shown deltas flat homes entries listings last in
    let b : MachineValue = shown deltas flat (own_homes homes accounted later flat) later listings last in
    let same : a ≡ m = ap (λ (x : Option Homes). shown deltas flat x entries listings last) accounts.now ∙ view in
    let turn_of_a : hart_in_turn (place_of a no_homes) ≡ None = ap (λ (x : MachineValue). hart_in_turn (place_of x no_homes)) same ∙ turn in
    let c = idle_adds deltas flat entries later last rests some turn_of_a is in
    subst (λ (x : MachineValue). HasMade IsTurn x b) same
    (idled_from a b turn_of_a c (own_along deltas flat flat entries later (λ es. es ≡ only (Hart 0) Idle) homes accounted accounts.all rests.no_one c) (own_some homes accounted later flat) refl refl refl)

-- what the machine keeps, behind such a turn
pub idle_kept : HomesSettle → HomesStay → (deltas : List DeltaValue) (flat : FlatState) (entries later : List Entry) (listings : List ListingValue) (last : Option ℕ) (m : MachineValue) (old : Option Homes) (before : ℕ) (homes : Option Homes) (accounted : ℕ)
    → shown deltas flat (own_homes old before entries flat) entries listings last ≡ m → IsAccounted flat entries old before homes accounted
    → IsReady deltas flat entries → hart_in_turn (place_of m no_homes) ≡ None → later ≡ entries ++ only (Hart 0) Idle → IsKept deltas flat later homes accounted
idle_kept settle stay deltas flat entries later listings last m old before homes accounted view accounts ready turn is =
    let a : MachineValue = shown deltas flat (own_homes old before entries flat) entries listings last in
    let turn_of_a : hart_in_turn (place_of a no_homes) ≡ None = ap (λ (x : MachineValue). hart_in_turn (place_of x no_homes)) view ∙ turn in
    let c = idle_adds deltas flat entries later last ready.rests ready.some turn_of_a is in
    kept_on settle stay deltas flat flat entries later (λ es. es ≡ only (Hart 0) Idle) old before homes accounted accounts ready c ready.rests refl

-- whose turn it is in a machine, whose parts are these
pub next_found : (deltas : List DeltaValue) (flat : FlatState) (entries : List Entry) (listings : List ListingValue) (last : Option ℕ) (m : MachineValue) (above first : Option ℕ) (number : ℕ) (homes : Option Homes) → shown deltas flat homes entries listings last ≡ m
    → number ≡ number_behind last → above ≡ lowest_running number 0 flat.harts → first ≡ lowest_running 0 0 flat.harts → option_or above first ≡ hart_in_turn (place_of m no_homes)
next_found deltas flat entries listings last m above first number homes view n a f =
    ap (λ (x : Option ℕ). option_or x first) (a ∙ ap (λ (k : ℕ). lowest_running k 0 flat.harts) n)
    ∙ ap (λ (x : Option ℕ). option_or (lowest_running (number_behind last) 0 flat.harts) x) f
    ∙ ap (λ (x : MachineValue). hart_in_turn (place_of x no_homes)) view
