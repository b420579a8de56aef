-- The first entry that is not allowed.
use Rattle.std.proofs.Common.{◌≡◌, ◌↔◌, ◌<◌, ◌+◌, ◌++◌, ℕ, zero, suc, List, [], ◌∷◌, Some, length, take, get_or, Result, Err, refl, sym, ap, ◌∙◌, subst, inl, inr, arith}
use Rattle.std.proofs.lemmas.Bool.{cases_order}
use Rattle.std.proofs.lemmas.List.{take_more}
use Rattle.std.proofs.lemmas.Option.{slice_get-get_or}
use Rattle.std.specs.Prelude.{slice_get}
use Rattle.wf_flat.specs.declared.event.Event.{Event}
use Rattle.wf_flat.specs.declared.event.Entry.{Entry}
use Rattle.wf_legal.specs.Legal.{Allows, IsLegal, Moment, after, end_of}
use Rattle.wf_legal.proofs.JournalLemmas.{end_of-append, legal-append}
use Rattle.wf_replay.specs.declared.fault.ReplayFault.{ReplayFault}
use Rattle.wf_replay.specs.declared.fault.ReplayFault.TheVariants.{Bad}
use Rattle.wf_replay.specs.Replayed.{IsFirstIllegal}

same_some : {A : Type 0} (x y : A) → Some x ≡ Some y → x ≡ y
same_some x y e = cc

-- an entry of a legal journal is allowed where it stands
pub legal_at : (m : Moment) (journal : List Entry) (i : ℕ) (entry : Entry) → IsLegal m journal → slice_get journal i ≡ Some entry → Allows (end_of m (take i journal)) entry.actor entry.event
legal_at m [] i entry legal there = absurd (cc)
legal_at m (e ∷ journal) zero entry legal there = subst (λ (x : Entry). Allows m x.actor x.event) (same_some e entry there) legal.0
legal_at m (e ∷ journal) (suc i) entry legal there = legal_at (after m e.actor e.event) journal i entry legal.1 there

-- no entry of a legal journal is the first that is not allowed
pub legal_first : (m : Moment) (journal : List Entry) (i : ℕ) (rule : Event) → IsLegal m journal → IsFirstIllegal m journal i rule → ⊥
legal_first m journal i rule legal first = first.refused (legal_at m journal i first.entry legal first.there)

-- the front of a front, and an entry in it
take_front : (journal : List Entry) (i j : ℕ) → i < j → take i (take j journal) ≡ take i journal
take_front journal zero j lt = refl
take_front journal (suc i) zero lt = absurd (omega arith)
take_front [] (suc i) (suc j) lt = refl
take_front (e ∷ journal) (suc i) (suc j) lt = ap (λ (es : List Entry). e ∷ es) (take_front journal i j (omega arith))

get_front : (journal : List Entry) (i j : ℕ) → i < j → slice_get (take j journal) i ≡ slice_get journal i
get_front [] i zero lt = absurd (omega arith)
get_front [] i (suc j) lt = refl
get_front (e ∷ journal) i zero lt = absurd (omega arith)
get_front (e ∷ journal) zero (suc j) lt = refl
get_front (e ∷ journal) (suc i) (suc j) lt = get_front journal i j (omega arith)

-- one is not before the other
not_before : (m : Moment) (journal : List Entry) (i j : ℕ) (rule other : Event) → i < j → IsFirstIllegal m journal i rule → IsFirstIllegal m journal j other → ⊥
not_before m journal i j rule other lt one two =
    one.refused (subst (λ (front : List Entry). Allows (end_of m front) one.entry.actor one.entry.event) (take_front journal i j lt)
    (legal_at m (take j journal) i one.entry two.front (get_front journal i j lt ∙ one.there)))

-- there is one first
pub same_first : (m : Moment) (journal : List Entry) (i j : ℕ) (rule other : Event) → IsFirstIllegal m journal i rule → IsFirstIllegal m journal j other → (i ≡ j) × (rule ≡ other)
same_first m journal i j rule other one two = elim (cases_order i j) [
  | inl e ↦ (e, rules_same (subst (λ (k : ℕ). IsFirstIllegal m journal k other) (sym e) two))
  | inr w ↦ absurd (elim w [ inl lt ↦ not_before m journal i j rule other lt one two | inr lt ↦ not_before m journal j i other rule lt two one ])
]
  where
    rules_same : IsFirstIllegal m journal i other → rule ≡ other
    rules_same two =
        sym one.event ∙ ap (λ (e : Entry). e.event) (same_some one.entry two.entry (sym one.there ∙ two.there)) ∙ two.event

next_front : (journal : List Entry) (i : ℕ) (d : Entry) → i < length journal → take (i + 1) journal ≡ take i journal ++ get_or journal i d ∷ []
next_front journal i d lt = take_more journal i d lt

-- one more entry is allowed
pub legal_more : (m : Moment) (journal : List Entry) (i : ℕ) (d : Entry) → i < length journal → IsLegal m (take i journal) → Allows (end_of m (take i journal)) (get_or journal i d).actor (get_or journal i d).event → IsLegal m (take (i + 1) journal)
legal_more m journal i d lt legal allowed =
    subst (λ (es : List Entry). IsLegal m es) (sym (next_front journal i d lt)) (legal-append m (take i journal) (get_or journal i d ∷ []) legal (allowed, tt))

-- and the moment after it
pub end_more : (m : Moment) (journal : List Entry) (i : ℕ) (d : Entry) → i < length journal → after (end_of m (take i journal)) (get_or journal i d).actor (get_or journal i d).event ≡ end_of m (take (i + 1) journal)
end_more m journal i d lt =
    sym (ap (end_of m) (next_front journal i d lt) ∙ end_of-append m (take i journal) (get_or journal i d ∷ []))

-- the first entry that is not allowed
pub first_here : (m : Moment) (journal : List Entry) (i : ℕ) (d : Entry) → i < length journal → IsLegal m (take i journal) → (Allows (end_of m (take i journal)) (get_or journal i d).actor (get_or journal i d).event → ⊥) → IsFirstIllegal m journal i (get_or journal i d).event
first_here m journal i d lt legal refused = record {
  entry = get_or journal i d;
  there = slice_get-get_or journal i d lt;
  event = refl;
  front = legal;
  refused = refused;
}

-- what is told is the first, and nothing else is
pub told : (m : Moment) (journal : List Entry) (i index : ℕ) (event rule : Event) → IsFirstIllegal m journal i event → ((i ≡ index) × (event ≡ rule)) ↔ IsFirstIllegal m journal index rule
told m journal i index event rule first = (
  λ e. subst (λ (r : Event). IsFirstIllegal m journal index r) e.1 (subst (λ (k : ℕ). IsFirstIllegal m journal k event) e.0 first),
  λ other. same_first m journal i index event rule first other,
)

-- a machine where an entry is allowed is the one that is reached
pub allowed_there : (m n : Moment) (entry : Entry) → m ≡ n → Allows m entry.actor entry.event → Allows n entry.actor entry.event
allowed_there m n entry e allowed = subst (λ (x : Moment). Allows x entry.actor entry.event) e allowed

-- the answer that tells an entry
abbrev pub the_fault : {A : Type 0} → ℕ → Event → Result A ReplayFault
the_fault i event = Err (Bad i event)

same_fault : {A : Type 0} (i index : ℕ) (event rule : Event) → the_fault {A = A} i event ≡ the_fault index rule → (i ≡ index) × (event ≡ rule)
same_fault {A = A} i index event rule e = (let place : i ≡ index = cc in place, let same : event ≡ rule = cc in same)

one_fault : {A : Type 0} (i index : ℕ) (event rule : Event) → (i ≡ index) × (event ≡ rule) → the_fault {A = A} i event ≡ the_fault index rule
one_fault {A = A} i index event rule e = ap (λ (k : ℕ). the_fault {A = A} k event) e.0 ∙ ap (λ (r : Event). the_fault {A = A} index r) e.1

-- an answer tells the first entry that is not allowed
pub bad_told : {A : Type 0} (m : Moment) (journal : List Entry) (i index : ℕ) (event rule : Event) → IsFirstIllegal m journal i event → (the_fault {A = A} i event ≡ the_fault index rule) ↔ IsFirstIllegal m journal index rule
bad_told {A = A} m journal i index event rule first =
    let is = told m journal i index event rule first in
    (λ e. is.0 (same_fault {A = A} i index event rule e), λ other. one_fault {A = A} i index event rule (is.1 other))
