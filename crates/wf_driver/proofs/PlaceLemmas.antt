-- Places of a machine, and ways that are gone one after another.
use Rattle.std.proofs.Common.{◌≡◌, ◌+◌, ◌++◌, ℕ, zero, suc, List, [], ◌∷◌, Option, None, length, map, refl, sym, subst, ap, ◌∙◌, append_assoc, append-nil, length-append, arith}
use Rattle.wf_flat.specs.declared.event.Entry.{Entry}
use Rattle.wf_flat.specs.Lists.{changed_at}
use Rattle.wf_flat.specs.State.{FlatState, HartState}
use Rattle.wf_flat.proofs.ListLemmas.{changed_next}
use Rattle.wf_homes.specs.Homes.{Homes}
use Rattle.wf_legal.specs.Legal.{Moment, end_of}
use Rattle.wf_outside.specs.Images.{DeltaValue}
use Rattle.wf_report.specs.Listings.{ListingValue}
use Rattle.wf_follow.specs.Places.{Place, behind, homes_along, paced, unticked}
use Rattle.wf_follow.specs.Units.{Times}
use Rattle.wf_driver.specs.Machines.{AreHomesIn, MachineValue, moment_of, place_of}

-- a machine, by its parts
abbrev pub shown : List DeltaValue → FlatState → Option Homes → List Entry → List ListingValue → Option ℕ → MachineValue
shown deltas flat homes entries listings last =
    record { deltas = deltas; flat = flat; homes = homes; entries = entries; listings = listings; last = last }

-- a zero for each hart
abbrev pub zeros : List HartState → List ℕ
zeros harts = map (λ hart. 0) harts

zeros_same : (xs ys : List HartState) → length xs ≡ length ys → zeros xs ≡ zeros ys
zeros_same [] [] e = refl
zeros_same [] (y ∷ ys) e = absurd (omega arith)
zeros_same (x ∷ xs) [] e = absurd (omega arith)
zeros_same (x ∷ xs) (y ∷ ys) e = ap (λ (zs : List ℕ). 0 ∷ zs) (zeros_same xs ys (omega arith))

zeros_changed : (xs : List HartState) (h : ℕ) → changed_at (zeros xs) h (λ pace. 0) ≡ zeros xs
zeros_changed [] h = refl
zeros_changed (x ∷ xs) zero = refl
zeros_changed (x ∷ xs) (suc h) =
    changed_next 0 (zeros xs) h (λ pace. 0) ∙ ap (λ (zs : List ℕ). 0 ∷ zs) (zeros_changed xs h)

-- a place of a machine, by its parts
abbrev place : Moment → Homes → ℕ → Option ℕ → List ℕ → Place
place moment homes made last paces =
    record { moment = moment; homes = homes; made = made; last = last; begun = None; paces = paces; ticked = unticked }

same_place : (m n : Moment) (h k : Homes) (i j : ℕ) (a b : Option ℕ) (xs ys : List ℕ) → m ≡ n → h ≡ k → i ≡ j → a ≡ b → xs ≡ ys → place m h i a xs ≡ place n k j b ys
same_place m n h k i j a b xs ys p e q r s =
    ap (λ (x : Moment). place x h i a xs) p ∙ ap (λ (x : Homes). place n x i a xs) e ∙ ap (λ (x : ℕ). place n k x a xs) q ∙ ap (λ (x : Option ℕ). place n k j x xs) r ∙ ap (λ (x : List ℕ). place n k j b x) s

-- the homes behind entries of a machine, from those before
abbrev pub behind_homes : MachineValue → Homes → List Entry → Homes
behind_homes old homes made = homes_along homes made (end_of (moment_of old) made).flat

-- the new homes are those behind the entries, if there are some
abbrev pub AreAlong : MachineValue → List Entry → MachineValue → Type 0
AreAlong old made new = (homes : Homes) → AreHomesIn old.homes homes → AreHomesIn new.homes (behind_homes old homes made)

-- the place behind entries of a hart
pub place_behind : (old new : MachineValue) (h : ℕ) (made : List Entry) (homes : Homes) → new.entries ≡ old.entries ++ made → new.last ≡ old.last
    → moment_of new ≡ end_of (moment_of old) made → length new.flat.harts ≡ length old.flat.harts
    → place_of new (behind_homes old homes made) ≡ paced h 0 (behind (place_of old homes) made)
place_behind old new h made homes entries last reached harts =
    same_place (moment_of new) (end_of (moment_of old) made) (behind_homes old homes made) (behind_homes old homes made) (length new.entries) (length old.entries + length made) new.last old.last
    (zeros new.flat.harts) (changed_at (zeros old.flat.harts) h (λ pace. 0)) reached refl
    (ap (λ (es : List Entry). length es) entries ∙ length-append old.entries made) last
    (zeros_same new.flat.harts old.flat.harts harts ∙ sym (zeros_changed old.flat.harts h))

-- and behind those of the kernel's own actor
pub place_along : (old new : MachineValue) (made : List Entry) (homes : Homes) → new.entries ≡ old.entries ++ made → new.last ≡ old.last
    → moment_of new ≡ end_of (moment_of old) made → length new.flat.harts ≡ length old.flat.harts → place_of new (behind_homes old homes made) ≡ behind (place_of old homes) made
place_along old new made homes entries last reached harts =
    same_place (moment_of new) (end_of (moment_of old) made) (behind_homes old homes made) (behind_homes old homes made) (length new.entries) (length old.entries + length made) new.last old.last (zeros new.flat.harts) (zeros old.flat.harts) reached refl
    (ap (λ (es : List Entry). length es) entries ∙ length-append old.entries made) last (zeros_same new.flat.harts old.flat.harts harts)

-- one more of a way
pub times_push : (n : ℕ) (One : Place → List Entry → Place → Type 0) (p q r : Place) (es fs : List Entry) → Times n One p es q → One q fs r → Times (suc n) One p (es ++ fs) r
times_push zero One p q r es fs stays one =
    record {
      mid = r;
      front = fs;
      back = [];
      joined = ap (λ (xs : List Entry). xs ++ fs) stays.0 ∙ sym (append-nil fs);
      first = subst (λ (x : Place). One x fs r) stays.1 one;
      next = (refl, refl);
    }
times_push (suc n) One p q r es fs leads one =
    record {
      mid = leads.mid;
      front = leads.front;
      back = leads.back ++ fs;
      joined = ap (λ (xs : List Entry). xs ++ fs) leads.joined ∙ append_assoc leads.front leads.back fs;
      first = leads.first;
      next = times_push n One leads.mid q r leads.back fs leads.next one;
    }
