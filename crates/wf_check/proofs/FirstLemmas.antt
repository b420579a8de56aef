-- A journal has at most one first entry that is not allowed.
use Rattle.std.proofs.Common.{◌≡◌, ◌⊎◌, ℕ, zero, suc, List, [], ◌∷◌, Some, None, refl, sym, ap, ◌∙◌, subst, inl, inr}
use Rattle.wf_flat.specs.declared.event.Event.{Event}
use Rattle.wf_flat.specs.declared.event.Entry.{Entry}
use Rattle.wf_legal.specs.Legal.{Allows, IsLegal, Moment, after}
use Rattle.wf_replay.specs.Replayed.{IsFirstIllegal}

-- the first entry is not allowed
pub record IsHead (m : Moment) (entry : Entry) (index : ℕ) (rule : Event) : Type 0 where
  pub placed : index ≡ 0
  pub named : rule ≡ entry.event
  pub illegal : Allows m entry.actor entry.event → ⊥

-- the first entry is allowed, and one behind it is not
pub record IsBehind (m : Moment) (entry : Entry) (entries : List Entry) (index : ℕ) (rule : Event) : Type 0 where
  pub place : ℕ
  pub placed : index ≡ suc place
  pub allowed : Allows m entry.actor entry.event
  pub first : IsFirstIllegal (after m entry.actor entry.event) entries place rule

cases : (m : Moment) (entry : Entry) (entries : List Entry) (index : ℕ) (rule : Event) → IsFirstIllegal m (entry ∷ entries) index rule → IsHead m entry index rule ⊎ IsBehind m entry entries index rule
cases m entry entries zero rule first =
    let same : first.entry ≡ entry = cc (first.there) in
    inl (record { placed = refl; named = sym first.event ∙ ap (λ (e : Entry). e.event) same; illegal = subst (λ (e : Entry). Allows m e.actor e.event → ⊥) same first.refused })
cases m entry entries (suc place) rule first =
    inr (record {
      place = place;
      placed = refl;
      allowed = first.front.0;
      first = record { entry = first.entry; there = first.there; event = first.event; front = first.front.1; refused = first.refused };
    })

none_in_nil : (m : Moment) (index : ℕ) (rule : Event) → IsFirstIllegal m [] index rule → ⊥
none_in_nil m index rule first = let there : None ≡ Some first.entry = first.there in absurd cc

-- a journal that is legal has none
pub legal_has_none : (m : Moment) (journal : List Entry) (index : ℕ) (rule : Event) → IsLegal m journal → IsFirstIllegal m journal index rule → ⊥
legal_has_none m [] index rule legal first = none_in_nil m index rule first
legal_has_none m (entry ∷ entries) index rule legal first = elim (cases m entry entries index rule first) [
  | inl head ↦ head.illegal legal.0
  | inr behind ↦ legal_has_none (after m entry.actor entry.event) entries behind.place rule legal.1 behind.first
]

-- any two are one
pub first_is_one : (m : Moment) (journal : List Entry) (index place : ℕ) (rule other : Event) → IsFirstIllegal m journal index rule → IsFirstIllegal m journal place other → (index ≡ place) × (rule ≡ other)
first_is_one m [] index place rule other one two = absurd (none_in_nil m index rule one)
first_is_one m (entry ∷ entries) index place rule other one two = elim (cases m entry entries index rule one) [
  | inl head ↦ (elim (cases m entry entries place other two) [
    | inl same ↦ (head.placed ∙ sym same.placed, head.named ∙ sym same.named)
    | inr behind ↦ absurd (head.illegal behind.allowed)
  ])
  | inr behind ↦ (elim (cases m entry entries place other two) [
    | inl head ↦ absurd (head.illegal behind.allowed)
    | inr more ↦ (
        let ih = first_is_one (after m entry.actor entry.event) entries behind.place more.place rule other behind.first more.first in
        (behind.placed ∙ ap suc ih.0 ∙ sym more.placed, ih.1))
  ])
]
