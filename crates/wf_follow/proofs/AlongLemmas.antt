-- Along a unit of a hart, at whose start the machine is between two units, and whose entries are legal:
-- no try is given up, the unit is determined, and at its end the machine is between two units again.
use Rattle.std.proofs.Common.{◌≡◌, ℕ, List, [], ◌∷◌, Bool, true, false, sym, subst, ap, ◌∙◌}
use Rattle.std.specs.Prelude.{MatchBool}
use Rattle.std.specs.List.{AllByRecursion}
use Rattle.wf_flat.specs.declared.event.Actor.{Actor}
use Rattle.wf_flat.specs.declared.event.Actor.TheVariants.{Hart}
use Rattle.wf_flat.specs.declared.event.Event.{Event}
use Rattle.wf_flat.specs.declared.event.Entry.{Entry}
use Rattle.wf_flat.specs.Follows.{IsUnit, ends_unit}
use Rattle.wf_legal.specs.Legal.{Moment, Allows, IsLegal, after, end_of}
use Rattle.wf_next.specs.Determined.{HartsAreDetermined}
use Rattle.wf_follow.proofs.BirthLemmas.{IsFew, few_along}
use Rattle.wf_follow.proofs.EntryLemmas.{AtRest, InUnit, IsWhole, along, begins, determined, whole_entry}

pub unit_begins : (h : ℕ) (m : Moment) (es : List Entry) → IsUnit h es → AtRest m → IsLegal m es → InUnit h m
unit_begins h m [] u rest p = absurd u
unit_begins h m (e ∷ es) u rest p = begins h m e.event rest (subst (λ (x : Actor). Allows m x e.event) u.0 p.0)

-- at its end the machine is between two units
end_by : (b : Bool) (h : ℕ) (n : Moment) (es : List Entry) → (IsUnit h es → InUnit h n → AtRest (end_of n es)) → MatchBool b (AtRest n) (InUnit h n) → MatchBool b (es ≡ []) (IsUnit h es) → AtRest (end_of n es)
end_by true h n es more rest none = subst (λ (xs : List Entry). AtRest (end_of n xs)) (sym none) rest
end_by false h n es more k u = more u k

pub unit_ends : (h : ℕ) (m : Moment) (es : List Entry) → IsUnit h es → InUnit h m → IsLegal m es → AtRest (end_of m es)
unit_ends h m [] u k p = absurd u
unit_ends h m (e ∷ es) u k p =
    end_by (ends_unit e.event) h (after m e.actor e.event) es (λ v l. unit_ends h (after m e.actor e.event) es v l p.1) (along h m e u.0 k p.0) u.1

-- none of its entries gives a try up
abbrev pub AreWhole : List Entry → Type 0
AreWhole entries = AllByRecursion (λ entry. IsWhole entry.event) entries

whole_by : (b : Bool) (h : ℕ) (n : Moment) (es : List Entry) → (IsUnit h es → InUnit h n → AreWhole es) → MatchBool b (AtRest n) (InUnit h n) → MatchBool b (es ≡ []) (IsUnit h es) → AreWhole es
whole_by true h n es more rest none = subst AreWhole (sym none) tt
whole_by false h n es more k u = more u k

pub unit_whole : (h : ℕ) (m : Moment) (es : List Entry) → IsUnit h es → InUnit h m → IsLegal m es → AreWhole es
unit_whole h m [] u k p = absurd u
unit_whole h m (e ∷ es) u k p = (
  whole_entry h m e u.0 k p.0,
  whole_by (ends_unit e.event) h (after m e.actor e.event) es (λ v l. unit_whole h (after m e.actor e.event) es v l p.1) (along h m e u.0 k p.0) u.1,
)

pub same_entry : (e f : Entry) → e.actor ≡ f.actor → e.event ≡ f.event → e ≡ f
same_entry e f a b =
    ap (λ (actor : Actor). (let x : Entry = record { actor = actor; event = e.event } in x)) a ∙ ap (λ (event : Event). (let x : Entry = record { actor = f.actor; event = event } in x)) b

-- so two units of one hart are one
same_by : (b : Bool) (h : ℕ) (n : Moment) (es fs : List Entry) → (IsUnit h es → IsUnit h fs → InUnit h n → es ≡ fs) → MatchBool b (AtRest n) (InUnit h n) → MatchBool b (es ≡ []) (IsUnit h es) → MatchBool b (fs ≡ []) (IsUnit h fs) → es ≡ fs
same_by true h n es fs same rest u v = u ∙ sym v
same_by false h n es fs same k u v = same u v k

pub unit_same : HartsAreDetermined → (h : ℕ) (m : Moment) (one other : List Entry) → IsUnit h one → IsUnit h other → InUnit h m → IsLegal m one → IsLegal m other → IsFew (end_of m one).flat → one ≡ other
unit_same law h m [] other u v k p q few = absurd u
unit_same law h m (e ∷ es) [] u v k p q few = absurd v
unit_same law h m (e ∷ es) (f ∷ fs) u v k p q few =
    let a : Allows m (Hart h) e.event = subst (λ (x : Actor). Allows m x e.event) u.0 p.0 in
    let b : Allows m (Hart h) f.event = subst (λ (x : Actor). Allows m x f.event) v.0 q.0 in
    let events : e.event ≡ f.event = determined law h m e.event f.event (few_along m (e ∷ es) few) k a b in
    let entries : e ≡ f = same_entry e f (u.0 ∙ sym v.0) events in
    let w : MatchBool (ends_unit e.event) (fs ≡ []) (IsUnit h fs) = subst (λ (x : Event). MatchBool (ends_unit x) (fs ≡ []) (IsUnit h fs)) (sym events) v.1 in
    let r : IsLegal (after m e.actor e.event) fs = subst (λ (x : Entry). IsLegal (after m x.actor x.event) fs) (sym entries) q.1 in
    let rest : es ≡ fs = same_by (ends_unit e.event) h (after m e.actor e.event) es fs (λ x y l. unit_same law h (after m e.actor e.event) es fs x y l p.1 r few) (along h m e u.0 k p.0) u.1 w in
    ap (λ (x : Entry). x ∷ es) entries ∙ ap (λ (xs : List Entry). f ∷ xs) rest
