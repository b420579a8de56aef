-- A body that stands for a state stands for that in which a hart of both has changed.
use Rattle.std.proofs.Common.{◌≡◌, ◌≢◌, ℕ, zero, suc, List, [], ◌∷◌, Option, Some, None, refl, sym, subst, ap, ◌∙◌, inl, inr}
use Rattle.std.specs.Prelude.{IsSomeAnd, slice_get}
use Rattle.std.specs.Option.{option_map}
use Rattle.wf_frames.specs.Layout.{WordsValue}
use Rattle.wf_flat.specs.declared.event.Actor.{Actor}
use Rattle.wf_flat.specs.declared.event.Actor.TheVariants.{Hart}
use Rattle.wf_flat.specs.declared.state.Life.TheVariants.{Running}
use Rattle.wf_flat.specs.declared.state.Reservation.{Reservation}
use Rattle.wf_flat.specs.Changes.{change_hart, leave_hart, without}
use Rattle.wf_flat.specs.Lists.{changed_at}
use Rattle.wf_flat.specs.State.{FlatState, HartState}
use Rattle.wf_flat.proofs.HartLemmas.{get-changed_at}
use Rattle.wf_flat.proofs.ListLemmas.{changed_next, length_changed}
use Rattle.wf_homes.specs.declared.reservation.CoreReservation.{CoreReservation}
use Rattle.wf_homes.specs.Homes.{Homes}
use Rattle.wf_homes.specs.Kept.{IsResident, KeepsReservation}
use Rattle.wf_homes.proofs.ListLemmas.{one_or_two}
use Rattle.wf_space.specs.Alike.{SameResidents, with_harts}
use Rattle.wf_space.proofs.AlikeLemmas.{harts_differ}
use Rattle.wf_process.specs.declared.hart.KeptHart.{KeptHart}
use Rattle.wf_process.specs.Bodies.{AreKeptHarts, BodyValue, IsBodyOf, IsKeptHart}

-- where another changes
pub changed_other : {A : Type 0} (f : A → A) (xs : List A) (h i : ℕ) → i ≢ h → slice_get (changed_at xs h f) i ≡ slice_get xs i
changed_other f [] h i apart = refl
changed_other f (x ∷ xs) zero zero apart = absurd (apart refl)
changed_other f (x ∷ xs) zero (suc i) apart = refl
changed_other f (x ∷ xs) (suc h) zero apart = rw (changed_next x xs h f) refl
changed_other f (x ∷ xs) (suc h) (suc i) apart = rw (changed_next x xs h f) (changed_other f xs h i (λ e. apart (ap suc e)))

-- what a change made, where it is there
pub record WasChanged {A : Type 0} (o : Option A) (f : A → A) (y : A) : Type 0 where
  pub before : A
  pub there : o ≡ Some before
  pub is : y ≡ f before

pub from_some : {A : Type 0} (x y : A) → Some x ≡ Some y → x ≡ y
from_some x y e = cc

pub changed_from : {A : Type 0} (o : Option A) (f : A → A) (y : A) → option_map f o ≡ Some y → WasChanged o f y
changed_from None f y e = absurd cc
changed_from (Some x) f y e = record { before = x; there = refl; is = sym (from_some (f x) y e) }

-- reservations are kept, whatever harts there are
keeps_still : (words : WordsValue) (homes : Homes) (s : FlatState) (harts : List HartState) (inside : Option Actor) (o : Option Reservation) (k : Option CoreReservation) → KeepsReservation words homes s o k → KeepsReservation words homes (with_harts s harts inside) o k
keeps_still words homes s harts inside None None kept = tt
keeps_still words homes s harts inside None (Some k) kept = absurd kept
keeps_still words homes s harts inside (Some o) None kept = absurd kept
keeps_still words homes s harts inside (Some o) (Some k) kept = record { va = kept.va; width = kept.width; writes = kept.writes; pages = kept.pages; frame = kept.frame; inc = kept.inc }

-- a hart is kept, whatever others do
kept_still : (words : WordsValue) (homes : Homes) (s : FlatState) (harts : List HartState) (inside : Option Actor) (hart : HartState) (kept : KeptHart) → IsKeptHart words homes s hart kept → IsKeptHart words homes (with_harts s harts inside) hart kept
kept_still words homes s harts inside hart kept is = record { told = record { generation = is.told.generation; arch = is.told.arch; fetched = is.told.fetched; looked = is.told.looked; put = is.told.put; life = is.told.life }; reservation = keeps_still words homes s harts inside hart.reservation kept.reservation is.reservation }

-- a change leaves a hart in its generation, and as alive as it was
pub record LeavesLife (f : HartState → HartState) : Type 0 where
  pub generation : (hart : HartState) → (f hart).generation ≡ hart.generation
  pub life : (hart : HartState) → (f hart).life ≡ hart.life

module _ (s : FlatState) (h : ℕ) (f : HartState → HartState) (inside : Option Actor) where
  abbrev changed : FlatState
  changed = with_harts s (changed_at s.harts h f) inside

  resides : (g : ℕ) → LeavesLife f → (o : Option HartState) → IsSomeAnd o (λ hart. (hart.life ≡ Running) × (hart.generation ≡ g)) → IsSomeAnd (option_map f o) (λ hart. (hart.life ≡ Running) × (hart.generation ≡ g))
  resides g leaves None is = is
  resides g leaves (Some hart) is = (leaves.life hart ∙ is.0, leaves.generation hart ∙ is.1)

  resided : (g : ℕ) → LeavesLife f → (o : Option HartState) → IsSomeAnd (option_map f o) (λ hart. (hart.life ≡ Running) × (hart.generation ≡ g)) → IsSomeAnd o (λ hart. (hart.life ≡ Running) × (hart.generation ≡ g))
  resided g leaves None is = is
  resided g leaves (Some hart) is = (sym (leaves.life hart) ∙ is.0, sym (leaves.generation hart) ∙ is.1)

  -- where the hart itself changes, and where another does
  pub same_residents : LeavesLife f → SameResidents s changed
  same_residents leaves g k = elim (one_or_two k h) [
    | inl e ↦ subst (λ (i : ℕ). (IsResident s g i → IsResident changed g i) × (IsResident changed g i → IsResident s g i)) (sym e) (
      λ is. subst (λ (o : Option HartState). IsSomeAnd o (λ hart. (hart.life ≡ Running) × (hart.generation ≡ g))) (sym (get-changed_at s.harts h f)) (resides g leaves (slice_get s.harts h) is),
      λ is. resided g leaves (slice_get s.harts h) (subst (λ (o : Option HartState). IsSomeAnd o (λ hart. (hart.life ≡ Running) × (hart.generation ≡ g))) (get-changed_at s.harts h f) is),
    )
    | inr apart ↦ (
      λ is. subst (λ (o : Option HartState). IsSomeAnd o (λ hart. (hart.life ≡ Running) × (hart.generation ≡ g))) (sym (changed_other f s.harts h k apart)) is,
      λ is. subst (λ (o : Option HartState). IsSomeAnd o (λ hart. (hart.life ≡ Running) × (hart.generation ≡ g))) (changed_other f s.harts h k apart) is,
    )
  ]

  module _ (words : WordsValue) (homes : Homes) (harts : List KeptHart) (c : KeptHart → KeptHart) (kept : AreKeptHarts words homes s harts)
      (one : (hart : HartState) (k : KeptHart) → slice_get s.harts h ≡ Some hart → IsKeptHart words homes s hart k → IsKeptHart words homes s (f hart) (c k)) where
    here : (hart : HartState) (k : KeptHart) → slice_get (changed_at s.harts h f) h ≡ Some hart → slice_get (changed_at harts h c) h ≡ Some k → IsKeptHart words homes s hart k
    here hart k e d =
        let x = changed_from (slice_get s.harts h) f hart (sym (get-changed_at s.harts h f) ∙ e) in
        let y = changed_from (slice_get harts h) c k (sym (get-changed_at harts h c) ∙ d) in
        let both : IsKeptHart words homes s (f x.before) (c y.before) = one x.before y.before x.there (kept.each h x.before y.before x.there y.there) in
        subst (λ (z : HartState). IsKeptHart words homes s z k) (sym x.is) (subst (λ (z : KeptHart). IsKeptHart words homes s (f x.before) z) (sym y.is) both)

    each_kept : (i : ℕ) (hart : HartState) (k : KeptHart) → slice_get (changed_at s.harts h f) i ≡ Some hart → slice_get (changed_at harts h c) i ≡ Some k → IsKeptHart words homes s hart k
    each_kept i hart k e d = elim (one_or_two i h) [
      | inl is ↦ here hart k (subst (λ (j : ℕ). slice_get (changed_at s.harts h f) j ≡ Some hart) is e) (subst (λ (j : ℕ). slice_get (changed_at harts h c) j ≡ Some k) is d)
      | inr apart ↦ kept.each i hart k (sym (changed_other f s.harts h i apart) ∙ e) (sym (changed_other c harts h i apart) ∙ d)
    ]

    pub harts_change : AreKeptHarts words homes changed (changed_at harts h c)
    harts_change = record {
      count = length_changed c harts h ∙ kept.count ∙ sym (length_changed f s.harts h);
      each = λ i hart k e d. kept_still words homes s (changed_at s.harts h f) inside hart k (each_kept i hart k e d);
    }

-- how a hart that is kept changes
abbrev pub KeepsHart : FlatState → ℕ → (HartState → HartState) → (KeptHart → KeptHart) → Type 0
KeepsHart s h f c =
    (words : WordsValue) (homes : Homes) (hart : HartState) (k : KeptHart) → slice_get s.harts h ≡ Some hart → IsKeptHart words homes s hart k → IsKeptHart words homes s (f hart) (c k)

-- a hart changes, and who is inside the kernel does in the same way
pub body_changes : (s : FlatState) (b : BodyValue) (h : ℕ) (f : HartState → HartState) (c : KeptHart → KeptHart) (inside : Option Actor) → LeavesLife f → KeepsHart s h f c → IsBodyOf s b
    → IsBodyOf (with_harts s (changed_at s.harts h f) inside) (record { words = b.words; records = b.records; harts = changed_at b.harts h c; inside = inside })
body_changes s b h f c inside leaves keeps is = record {
  homes = is.homes;
  stands = harts_differ b.words b.records is.homes s (changed_at s.harts h f) inside is.stands (same_residents s h f inside leaves);
  harts = harts_change s h f inside b.words is.homes b.harts c is.harts (keeps b.words is.homes);
  inside = refl;
}

-- one hart changes
pub hart_changes : (s : FlatState) (b : BodyValue) (h : ℕ) (f : HartState → HartState) (c : KeptHart → KeptHart) → LeavesLife f → KeepsHart s h f c → IsBodyOf s b
    → IsBodyOf (change_hart s h f) (record b { harts = changed_at b.harts h c })
hart_changes s b h f c leaves keeps is = let e = is.inside in subst (λ (o : Option Actor). IsBodyOf (change_hart s h f) (record { words = b.words; records = b.records; harts = changed_at b.harts h c; inside = o })) (sym e) (body_changes s b h f c s.inside leaves keeps is)

-- one hart leaves the kernel, if it is inside, and changes
pub hart_leaves : (s : FlatState) (b : BodyValue) (h : ℕ) (f : HartState → HartState) (c : KeptHart → KeptHart) → LeavesLife f → KeepsHart s h f c → IsBodyOf s b
    → IsBodyOf (leave_hart s h f) (record b { inside = without b.inside (Hart h); harts = changed_at b.harts h c })
hart_leaves s b h f c leaves keeps is = let e = is.inside in subst (λ (o : Option Actor). IsBodyOf (leave_hart s h f) (record { words = b.words; records = b.records; harts = changed_at b.harts h c; inside = without o (Hart h) })) (sym e) (body_changes s b h f c (without s.inside (Hart h)) leaves keeps is)

-- whoever is inside, the harts stay
pub inside_changes : (s : FlatState) (b : BodyValue) (inside : Option Actor) → IsBodyOf s b → IsBodyOf (with_harts s s.harts inside) (record b { inside = inside })
inside_changes s b inside is = record {
  homes = is.homes;
  stands = harts_differ b.words b.records is.homes s s.harts inside is.stands (λ g k. (λ t. t, λ t. t));
  harts = record { count = is.harts.count; each = λ i hart k e d. kept_still b.words is.homes s s.harts inside hart k (is.harts.each i hart k e d) };
  inside = refl;
}
