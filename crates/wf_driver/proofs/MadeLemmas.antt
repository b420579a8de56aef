-- What a machine made, one way after another, and the commands that it so obeyed.
use Rattle.std.proofs.Common.{◌≡◌, ◌<◌, ◌+◌, ◌++◌, ℕ, List, [], ◌∷◌, Option, Some, None, false, is_some, length, refl, sym, subst, ap, ◌∙◌, append_assoc, append-nil, add-one}
use Rattle.std.specs.Prelude.{Err, Ok, OnErr, Result}
use Rattle.wf_flat.specs.declared.event.Entry.{Entry}
use Rattle.wf_flat.specs.State.{FlatState}
use Rattle.wf_flat.specs.Follows.{IsUnit}
use Rattle.wf_legal.specs.Legal.{Moment, at_rest, end_of}
use Rattle.wf_legal.proofs.JournalLemmas.{legal-append, end_of-append}
use Rattle.wf_script.specs.declared.command.Command.{Command}
use Rattle.wf_script.specs.declared.command.Command.TheVariants.{Step, Run, Patch, Create, Delete, Tables, Regs, Mem}
use Rattle.wf_outside.specs.Images.{DeltaValue}
use Rattle.wf_flat.specs.declared.event.Actor.{Actor}
use Rattle.wf_verdict.specs.declared.requests.Request.{Request}
use Rattle.wf_verdict.specs.declared.requests.Request.TheVariants.{Clones, Deletes, Patches}
use Rattle.wf_verdict.specs.Requests.{IsKernelRequest}
use Rattle.wf_service.specs.Adding.{Adds}
use Rattle.wf_request.specs.Requesting.{IsServed}
use Rattle.wf_report.specs.Listings.{ListingValue, mem_lines, regs_lines}
use Rattle.wf_follow.specs.Places.{Place}
use Rattle.wf_follow.specs.Units.{IsTurn, IsUnitOf, Times}
use Rattle.wf_follow.specs.Follows.{IsCallOf, IsCallOrWait, Obeys}
use Rattle.wf_driver.specs.Machines.{AreHomesIn, MachineValue, moment_of, place_of, HasObeyed, HasStopped}
use Rattle.wf_driver.specs.Making.{HasMade, with_listing}
use Rattle.wf_driver.proofs.PlaceLemmas.{AreAlong, behind_homes, place_along, place_behind, shown, times_push}
use Rattle.wf_driver.proofs.HousingLemmas.{IsAccounted, own_along, own_some, still_now}
use Rattle.wf_driver.specs.Housing.{own_homes}
use Rattle.home_laws.specs.Laws.{HomesSettle}
use Rattle.wf_homes.specs.Homes.{Homes}
use Rattle.wf_tables.specs.Tables.{tables_lines}
use Rattle.wf_driver.proofs.ServedLemmas.{served_whole}

-- nothing
pub made_none : (One : Place → List Entry → Place → Type 0) (m : MachineValue) → HasMade (Times 0 One) m m
made_none One m =
    record { made = []; entries = sym (append-nil m.entries); listings = refl; legal = tt; reached = refl; fits = record { each = λ homes own. record { after = homes; own = own; leads = (refl, refl) }; kept = refl } }

-- one more
pub made_push : (n : ℕ) (One : Place → List Entry → Place → Type 0) (a b c : MachineValue) → HasMade (Times n One) a b → HasMade One b c → HasMade (Times (n + 1) One) a c
made_push n One a b c old one =
    rw add-one (record {
      made = old.made ++ one.made;
      entries = one.entries ∙ ap (λ (es : List Entry). es ++ one.made) old.entries ∙ append_assoc a.entries old.made one.made;
      listings = one.listings ∙ old.listings;
      legal = legal-append (moment_of a) old.made one.made old.legal (rw (← old.reached) one.legal);
      reached = one.reached ∙ ap (λ (m : Moment). end_of m one.made) old.reached ∙ sym (end_of-append (moment_of a) old.made one.made);
      fits = record {
        each = λ homes own. (
            let x = old.fits.each homes own in
            let y = one.fits.each x.after x.own in
            record { after = y.after; own = y.own; leads = times_push n One (place_of a homes) (place_of b x.after) (place_of c y.after) old.made one.made x.leads y.leads });
        kept = one.fits.kept ∙ old.fits.kept;
      };
    })

-- a unit of a hart
unit_from : (a b : MachineValue) (h : ℕ) → (c : Adds (moment_of a) a.entries (moment_of b) b.entries (IsUnit h)) → AreAlong a c.made b → is_some b.homes ≡ is_some a.homes → b.listings ≡ a.listings → b.last ≡ a.last
    → length b.flat.harts ≡ length a.flat.harts → HasMade (IsUnitOf h) a b
unit_from a b h c along kept listings last harts =
    record {
      made = c.made;
      entries = c.appended;
      listings = listings;
      legal = c.legal;
      reached = c.reached;
      fits = record {
        each = λ homes own. record { after = behind_homes a homes c.made; own = along homes own; leads = (c.fits, place_behind a b h c.made homes c.appended last c.reached harts) };
        kept = kept;
      };
    }

-- what a unit leaves of a machine, whose parts are these
pub unit_made : (deltas : List DeltaValue) (flat next : FlatState) (entries later : List Entry) (listings : List ListingValue) (last : Option ℕ) (m : MachineValue) (h : ℕ) (old : Option Homes) (before : ℕ) (homes : Option Homes) (accounted : ℕ)
    → shown deltas flat (own_homes old before entries flat) entries listings last ≡ m → IsAccounted flat entries old before homes accounted → next.inside ≡ None
    → Adds (at_rest deltas flat) entries (at_rest deltas next) later (IsUnit h) → length next.harts ≡ length flat.harts → HasMade (IsUnitOf h) m (shown deltas next (own_homes homes accounted later next) later listings last)
unit_made deltas flat next entries later listings last m h old before homes accounted view is outside c harts =
    let a : MachineValue = shown deltas flat homes entries listings last in
    let b : MachineValue = shown deltas next (own_homes homes accounted later next) later listings last in
    let same : a ≡ m = ap (λ (x : Option Homes). shown deltas flat x entries listings last) is.now ∙ view in
    subst (λ (x : MachineValue). HasMade (IsUnitOf h) x b) same
    (unit_from a b h c (own_along deltas flat next entries later (IsUnit h) homes accounted is.all outside c) (own_some homes accounted later next) refl refl harts)

-- and what an error leaves of it
pub unmade : HomesSettle → (deltas : List DeltaValue) (flat next : FlatState) (entries later : List Entry) (listings : List ListingValue) (last : Option ℕ) (m : MachineValue) (old : Option Homes) (before : ℕ) (homes : Option Homes) (accounted : ℕ)
    → shown deltas flat (own_homes old before entries flat) entries listings last ≡ m → IsAccounted flat entries old before homes accounted
    → next ≡ flat → later ≡ entries → shown deltas next (own_homes homes accounted later next) later listings last ≡ m
unmade law deltas flat next entries later listings last m old before homes accounted view is f e =
    ap (λ (x : FlatState). shown deltas x (own_homes homes accounted later x) later listings last) f ∙ ap (λ (x : List Entry). shown deltas flat (own_homes homes accounted x flat) x listings last) e
    ∙ ap (λ (x : Option Homes). shown deltas flat x entries listings last) (still_now law flat entries old before homes accounted is) ∙ view

-- where the homes could not be brought up to date, nothing has changed
pub unaccounted : (deltas : List DeltaValue) (flat : FlatState) (entries : List Entry) (listings : List ListingValue) (last : Option ℕ) (m : MachineValue) (old : Option Homes) (before : ℕ) (homes : Option Homes) (accounted : ℕ)
    → shown deltas flat (own_homes old before entries flat) entries listings last ≡ m → homes ≡ old → accounted ≡ before → shown deltas flat (own_homes homes accounted entries flat) entries listings last ≡ m
unaccounted deltas flat entries listings last m old before homes accounted view h n =
    ap (λ (x : Option Homes). shown deltas flat (own_homes x accounted entries flat) entries listings last) h ∙ ap (λ (x : ℕ). shown deltas flat (own_homes old x entries flat) entries listings last) n ∙ view

-- it has homes where it had
pub same_homes : (deltas : List DeltaValue) (flat next : FlatState) (entries later : List Entry) (listings : List ListingValue) (last : Option ℕ) (m : MachineValue) (old : Option Homes) (before : ℕ) (homes : Option Homes) (accounted : ℕ)
    → shown deltas flat (own_homes old before entries flat) entries listings last ≡ m → homes ≡ own_homes old before entries flat → is_some (own_homes homes accounted later next) ≡ is_some m.homes
same_homes deltas flat next entries later listings last m old before homes accounted view is =
    own_some homes accounted later next ∙ ap (λ (x : Option Homes). is_some x) is ∙ ap (λ (x : MachineValue). is_some x.homes) view

pub same_harts : (deltas : List DeltaValue) (flat next : FlatState) (homes : Option Homes) (entries : List Entry) (listings : List ListingValue) (last : Option ℕ) (m : MachineValue) → shown deltas flat homes entries listings last ≡ m
    → length next.harts ≡ length flat.harts → length next.harts ≡ length m.flat.harts
same_harts deltas flat next homes entries listings last m view e = e ∙ ap (λ (x : MachineValue). length x.flat.harts) view

-- a call of the kernel's own actor
served_from : (a b : MachineValue) (request : Request) → a.flat.inside ≡ None → IsKernelRequest a.deltas request → (c : Adds (moment_of a) a.entries (moment_of b) b.entries (IsServed request a.deltas a.flat)) → AreAlong a c.made b → is_some b.homes ≡ is_some a.homes → b.listings ≡ a.listings → b.last ≡ a.last
    → length b.flat.harts ≡ length a.flat.harts → HasMade (IsCallOf request) a b
served_from a b request outside may c along kept listings last harts =
    record {
      made = c.made;
      entries = c.appended;
      listings = listings;
      legal = c.legal;
      reached = c.reached;
      fits = record {
        each = λ homes own. record {
          after = behind_homes a homes c.made;
          own = along homes own;
          leads = (subst (λ (i : Option Actor). IsCallOrWait request i (place_of a homes) c.made) (sym outside) (served_whole request a.deltas a.flat c.made may c.fits), place_along a b c.made homes c.appended last c.reached harts);
        };
        kept = kept;
      };
    }

pub served_made : (deltas : List DeltaValue) (flat next : FlatState) (entries later : List Entry) (listings : List ListingValue) (last : Option ℕ) (m : MachineValue) (request : Request) (old : Option Homes) (before : ℕ) (homes : Option Homes) (accounted : ℕ)
    → shown deltas flat (own_homes old before entries flat) entries listings last ≡ m → IsAccounted flat entries old before homes accounted → next.inside ≡ None
    → flat.inside ≡ None → IsKernelRequest m.deltas request → Adds (at_rest deltas flat) entries (at_rest deltas next) later (IsServed request deltas flat) → length next.harts ≡ length flat.harts
    → HasMade (IsCallOf request) m (shown deltas next (own_homes homes accounted later next) later listings last)
served_made deltas flat next entries later listings last m request old before homes accounted view is after outside may c harts =
    let a : MachineValue = shown deltas flat homes entries listings last in
    let b : MachineValue = shown deltas next (own_homes homes accounted later next) later listings last in
    let same : a ≡ m = ap (λ (x : Option Homes). shown deltas flat x entries listings last) is.now ∙ view in
    let own : IsKernelRequest deltas request = subst (λ (x : MachineValue). IsKernelRequest x.deltas request) (sym view) may in
    subst (λ (x : MachineValue). HasMade (IsCallOf request) x b) same
    (served_from a b request outside own c (own_along deltas flat next entries later (IsServed request deltas flat) homes accounted is.all after c) (own_some homes accounted later next) refl refl harts)

-- so the command is obeyed whose entries are made in this way
obeyed : (command : Command) (Way : Place → List Entry → Place → Type 0) (a b : MachineValue) → ((p q : Place) (es : List Entry) → Way p es q → Obeys command p es [] q)
    → HasMade Way a b → HasObeyed command a b
obeyed command Way a b obeys made =
    record {
      made = made.made;
      listed = [];
      entries = made.entries;
      listings = made.listings ∙ sym (append-nil a.listings);
      legal = made.legal;
      reached = made.reached;
      obeys = record {
        each = λ homes own. (let x = made.fits.each homes own in record { after = x.after; own = x.own; leads = obeys (place_of a homes) (place_of b x.after) made.made x.leads });
        kept = made.fits.kept;
      };
    }

pub step_obeyed : (h n : ℕ) (a b : MachineValue) → HasMade (Times n (IsUnitOf h)) a b → HasObeyed (Step h n) a b
step_obeyed h n a b made = obeyed (Step h n) (Times n (IsUnitOf h)) a b (λ p q es way. record { block = way; listing = refl }) made

pub run_obeyed : (n : ℕ) (a b : MachineValue) → HasMade (Times n IsTurn) a b → HasObeyed (Run n) a b
run_obeyed n a b made = obeyed (Run n) (Times n IsTurn) a b (λ p q es way. record { block = way; listing = refl }) made

pub patch_obeyed : (index : ℕ) (a b : MachineValue) → HasMade (IsCallOf (Patches index)) a b → HasObeyed (Patch index false) a b
patch_obeyed index a b made = obeyed (Patch index false) (IsCallOf (Patches index)) a b (λ p q es way. record { block = way; listing = refl }) made

pub create_obeyed : (generation : ℕ) (a b : MachineValue) → HasMade (IsCallOf (Clones generation)) a b → HasObeyed (Create generation) a b
create_obeyed generation a b made = obeyed (Create generation) (IsCallOf (Clones generation)) a b (λ p q es way. record { block = way; listing = refl }) made

pub delete_obeyed : (generation : ℕ) (a b : MachineValue) → HasMade (IsCallOf (Deletes generation)) a b → HasObeyed (Delete generation) a b
delete_obeyed generation a b made = obeyed (Delete generation) (IsCallOf (Deletes generation)) a b (λ p q es way. record { block = way; listing = refl }) made

-- and it is cut short where fewer are made
pub step_stopped : (h k n : ℕ) (a b : MachineValue) → k < n → HasMade (Times k (IsUnitOf h)) a b → HasStopped (Step h n) a b
step_stopped h k n a b fewer made = record { cut = Step h k; is_cut = (refl, fewer); obeyed = step_obeyed h k a b made }

pub run_stopped : (k n : ℕ) (a b : MachineValue) → k < n → HasMade (Times k IsTurn) a b → HasStopped (Run n) a b
run_stopped k n a b fewer made = record { cut = Run k; is_cut = fewer; obeyed = run_obeyed k a b made }

-- one more listing of a machine, whose parts are these
pub listed : (deltas : List DeltaValue) (flat : FlatState) (homes : Option Homes) (entries : List Entry) (listings more : List ListingValue) (last : Option ℕ) (m : MachineValue) (place : ℕ) (lines : List ℕ) → shown deltas flat homes entries listings last ≡ m
    → place ≡ length entries → more ≡ listings ++ record { place = place; lines = lines } ∷ [] → shown deltas flat homes entries more last ≡ with_listing lines m
listed deltas flat homes entries listings more last m place lines view placed is =
    ap (λ (x : List ListingValue). shown deltas flat homes entries x last) (is ∙ ap (λ (x : ℕ). listings ++ record { place = x; lines = lines } ∷ []) placed) ∙ ap (with_listing lines) view

-- a listing at the place where the machine stands
pub regs_obeyed : (h : ℕ) (lines : List ℕ) (a b : MachineValue) → lines ≡ regs_lines h a.flat → b ≡ with_listing lines a → HasObeyed (Regs h) a b
regs_obeyed h lines a b are is =
    subst (λ (m : MachineValue). HasObeyed (Regs h) a m) (sym is)
    (record {
      made = [];
      listed = record { place = length a.entries; lines = lines } ∷ [];
      entries = sym (append-nil a.entries);
      listings = refl;
      legal = tt;
      reached = refl;
      obeys = record {
        each = λ homes own. record { after = homes; own = own; leads = record { block = (refl, refl); listing = record { lines = lines; is = refl; are = are } } };
        kept = refl;
      };
    })

pub mem_obeyed : (va n : ℕ) (lines : List ℕ) (a b : MachineValue) → lines ≡ mem_lines va n a.flat → b ≡ with_listing lines a → HasObeyed (Mem va n) a b
mem_obeyed va n lines a b are is =
    subst (λ (m : MachineValue). HasObeyed (Mem va n) a m) (sym is)
    (record {
      made = [];
      listed = record { place = length a.entries; lines = lines } ∷ [];
      entries = sym (append-nil a.entries);
      listings = refl;
      legal = tt;
      reached = refl;
      obeys = record {
        each = λ homes own. record { after = homes; own = own; leads = record { block = (refl, refl); listing = record { lines = lines; is = refl; are = are } } };
        kept = refl;
      };
    })

-- the homes of a machine that has some
own_is : (own : Option Homes) (h homes : Homes) → own ≡ Some h → AreHomesIn own homes → h ≡ homes
own_is None h homes e is = absurd cc
own_is (Some own) h homes e is = (let same : own ≡ h = cc in sym same ∙ is)

pub tables_obeyed : (generation : ℕ) (lines : List ℕ) (a b : MachineValue) (h : Homes) → a.homes ≡ Some h → lines ≡ tables_lines generation h a.flat → b ≡ with_listing lines a → HasObeyed (Tables generation) a b
tables_obeyed generation lines a b h some are is =
    subst (λ (m : MachineValue). HasObeyed (Tables generation) a m) (sym is)
    (record {
      made = [];
      listed = record { place = length a.entries; lines = lines } ∷ [];
      entries = sym (append-nil a.entries);
      listings = refl;
      legal = tt;
      reached = refl;
      obeys = record {
        each = λ homes own. record {
          after = homes;
          own = own;
          leads = record { block = (refl, refl); listing = record { lines = lines; is = refl; are = are ∙ ap (λ (x : Homes). tables_lines generation x a.flat) (own_is a.homes h homes some own) } };
        };
        kept = refl;
      };
    })

-- what comes with an error
pub at_err : {T E : Type 0} (r : Result T E) (e : E) (P : Type 0) → r ≡ Err e → OnErr r P → P
at_err (Ok x) e P is p = absurd (cc)
at_err (Err d) e P is p = p

-- an answer's error, whatever it is, comes with what holds
pub when_err : {T E : Type 0} (r : Result T E) (P : Type 0) → P → OnErr r P
when_err (Ok x) P p = tt
when_err (Err e) P p = p
