-- What each entry of a journal keeps holds at its end.
use Rattle.std.proofs.Common.{◌≡◌, ◌++◌, List, [], ◌∷◌, refl, sym, subst}
use Rattle.std.specs.List.{AllByRecursion}
use Rattle.wf_flat.specs.declared.event.Actor.{Actor}
use Rattle.wf_flat.specs.declared.event.Event.{Event}
use Rattle.wf_flat.specs.declared.event.Entry.{Entry}
use Rattle.wf_legal.specs.Legal.{Moment, Allows, IsLegal, after, end_of}
use Rattle.wf_legal.proofs.JournalLemmas.{end_of-append, legal_back, legal_front}
use Rattle.wf_laws.proofs.CallLemmas.{IsLateCall, call_kept}

-- what each entry keeps
abbrev pub Keeps : (Moment → Type 0) → Type 0
Keeps P = (m : Moment) (actor : Actor) (e : Event) → P m → Allows m actor e → P (after m actor e)

pub carried : (P : Moment → Type 0) → Keeps P → (m : Moment) (entries : List Entry) → P m → IsLegal m entries → P (end_of m entries)
carried P keeps m [] p l = p
carried P keeps m (entry ∷ entries) p l = carried P keeps (after m entry.actor entry.event) entries (keeps m entry.actor entry.event p l.0) l.1

-- what each entry of a kind keeps
abbrev pub KeepsIf : (Moment → Type 0) → (Entry → Type 0) → Type 0
KeepsIf P Q = (m : Moment) (entry : Entry) → P m → Q entry → Allows m entry.actor entry.event → P (after m entry.actor entry.event)

pub carried_if : (P : Moment → Type 0) (Q : Entry → Type 0) → KeepsIf P Q → (m : Moment) (entries : List Entry) → AllByRecursion Q entries → P m → IsLegal m entries → P (end_of m entries)
carried_if P Q keeps m [] q p l = p
carried_if P Q keeps m (entry ∷ entries) q p l = carried_if P Q keeps (after m entry.actor entry.event) entries q.1 (keeps m entry p q.0 l.0) l.1

-- what is left to a call is late
pub late_end : (m : Moment) (entries : List Entry) → IsLateCall m.call → IsLegal m entries → IsLateCall (end_of m entries).call
late_end m entries late l = carried (λ (m : Moment). IsLateCall m.call) (λ m actor e p a. call_kept m actor e p) m entries late l

-- the patches of the run stay
pub kept_deltas : (m : Moment) (entries : List Entry) → (end_of m entries).deltas ≡ m.deltas
kept_deltas m [] = refl
kept_deltas m (entry ∷ entries) = kept_deltas (after m entry.actor entry.event) entries

-- a journal with an entry, and one with two
pub record At (m : Moment) (front : List Entry) (entry : Entry) (back : List Entry) : Type 0 where
  pub legal : IsLegal m front
  pub allowed : Allows (end_of m front) entry.actor entry.event
  pub rest : IsLegal (after (end_of m front) entry.actor entry.event) back

pub at : (m : Moment) (front : List Entry) (entry : Entry) (back : List Entry) → IsLegal m (front ++ entry ∷ back) → At m front entry back
at m front entry back l =
    let rest = legal_back m front (entry ∷ back) l in
    record { legal = legal_front m front (entry ∷ back) l; allowed = rest.0; rest = rest.1 }

pub record AtTwo (m : Moment) (front : List Entry) (one : Entry) (middle : List Entry) (other : Entry) : Type 0 where
  pub first : At m front one middle
  pub second : Allows (end_of m (front ++ one ∷ middle)) other.actor other.event

pub at_two : (m : Moment) (front : List Entry) (one : Entry) (middle : List Entry) (other : Entry) (back : List Entry) → IsLegal m (front ++ one ∷ middle ++ other ∷ back) → AtTwo m front one middle other
at_two m front one middle other back l =
    let last = at m (front ++ one ∷ middle) other back l in
    record { first = at m front one middle last.legal; second = last.allowed }

-- what holds behind the middle holds there
pub behind : (P : Moment → Type 0) (m : Moment) (front : List Entry) (one : Entry) (middle : List Entry) → P (end_of (after (end_of m front) one.actor one.event) middle) → P (end_of m (front ++ one ∷ middle))
behind P m front one middle p = subst P (sym (end_of-append m front (one ∷ middle))) p
