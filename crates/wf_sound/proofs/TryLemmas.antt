-- The invariant is kept by each entry of a hart's try.
use Rattle.std.proofs.Common.{◌≡◌, ℕ, List, false, Option, Some, ap, subst, ◌∙◌}
use Rattle.std.specs.Prelude.{slice_get}
use Rattle.wf_outside.specs.Images.{DeltaValue}
use Rattle.rv_inst.specs.declared.want.Want.TheVariants as want
use Rattle.wf_flat.specs.declared.event.Actor.{Actor}
use Rattle.wf_flat.specs.declared.event.Actor.TheVariants.{Hart}
use Rattle.wf_flat.specs.declared.state.Life.TheVariants.{Running}
use Rattle.wf_flat.specs.State.{FlatState, HartState}
use Rattle.wf_flat.specs.Lists.{changed_at}
use Rattle.wf_flat.specs.Accesses.{access_of, holder_is}
use Rattle.wf_flat.specs.Steps.{access_in, is_inside, want_in}
use Rattle.wf_sound.specs.Sound.{HasHolder, IsHolder, IsInHand, IsSoundHart, IsSoundState}
use Rattle.wf_sound.proofs.AllLemmas.{all_both, all_more}
use Rattle.wf_sound.proofs.HandLemmas.{hand_after}
use Rattle.wf_sound.proofs.HartLemmas.{stepped_changed}
use Rattle.wf_sound.proofs.HolderLemmas.{HoldsNot, holder_after, holds_none}
use Rattle.wf_sound.proofs.StateLemmas.{IsPageAfter, Paired, page_same, paired_same, state_after, tried_with}

-- what an entry of a try keeps
pub record Keeps (deltas : List DeltaValue) (s t : FlatState) : Type 0 where
  pub state : IsSoundState deltas t
  pub hand : (o : Option Actor) (call : Option _) → IsInHand deltas s o call → IsInHand deltas t o call

-- what an entry keeps of a hart that may give its call up
pub record KeepsOthers (deltas : List DeltaValue) (s t : FlatState) (h : ℕ) : Type 0 where
  pub state : IsSoundState deltas t
  pub hand : (o : Option Actor) (call : Option _) → is_inside o (Hart h) ≡ false → IsInHand deltas s o call → IsInHand deltas t o call

-- nobody comes to be inside
abbrev pub ComesNone : Option Actor → Option Actor → Type 0
ComesNone before now = (o : ℕ) → is_inside before (Hart o) ≡ false → is_inside now (Hart o) ≡ false

-- a fact about the hart that is there
pub at_hart : (P : HartState → Type 0) (harts : List HartState) (h : ℕ) (hart : HartState) → slice_get harts h ≡ Some hart → P hart → (other : HartState) → slice_get harts h ≡ Some other → P other
at_hart P harts h hart e is other f = let k : hart ≡ other = cc in subst P k is

module _ (deltas : List DeltaValue) (s : FlatState) (h : ℕ) (hart : HartState) (there : slice_get s.harts h ≡ Some hart) (sound : IsSoundState deltas s) (inside : Option Actor) (comes : ComesNone s.inside inside)
    (g : HartState → HartState) where
  hart_same : IsSoundHart s h (g hart) → IsSoundHart (tried_with s s.pages (changed_at s.harts h g) inside) h (g hart)
  hart_same is = record {
    generation = is.generation;
    live = is.live;
    registers = is.registers;
    zero_register = is.zero_register;
    reservation = is.reservation;
    written = is.written;
  }

  own_after : (IsSoundHart s h hart → IsSoundHart s h (g hart)) → (other : HartState) → slice_get s.harts h ≡ Some other → IsSoundHart s h other → IsSoundHart (tried_with s s.pages (changed_at s.harts h g) inside) h (g other)
  own_after own = at_hart (λ x. IsSoundHart s h x → IsSoundHart (tried_with s s.pages (changed_at s.harts h g) inside) h (g x)) s.harts h hart there (λ is. hart_same (own is))

  -- the pages, where the hart keeps its access
  kept_pages : (g hart).life ≡ hart.life → access_in (g hart) ≡ access_in hart → Paired (IsPageAfter s (tried_with s s.pages (changed_at s.harts h g) inside) h) s.pages s.pages
  kept_pages life access = paired_same _ s.pages (all_more (HasHolder s) (λ page. IsPageAfter s (tried_with s s.pages (changed_at s.harts h g) inside) h page page)
      (λ page held. page_same s (tried_with s s.pages (changed_at s.harts h g) inside) h page (holder_after s (tried_with s s.pages (changed_at s.harts h g) inside) h g (stepped_changed s.harts h g) comes page.number page.holder
      (λ other at holds. at_hart (λ x. IsHolder s h page.number x → IsHolder (tried_with s s.pages (changed_at s.harts h g) inside) h page.number (g x)) s.harts h hart there
      (λ is. record { runs = life ∙ is.runs; outside = comes h is.outside; access = rw access (is.access) }) other at)))
      s.pages sound.held)

  -- the pages, where the hart holds none
  free_pages : HoldsNot s h hart → Paired (IsPageAfter s (tried_with s s.pages (changed_at s.harts h g) inside) h) s.pages s.pages
  free_pages none = paired_same _ s.pages (all_both (HasHolder s) (λ page. holder_is page.holder h ≡ false) (λ page. IsPageAfter s (tried_with s s.pages (changed_at s.harts h g) inside) h page page)
      (λ page held not. page_same s (tried_with s s.pages (changed_at s.harts h g) inside) h page (holder_after s (tried_with s s.pages (changed_at s.harts h g) inside) h g (stepped_changed s.harts h g) comes page.number page.holder
      (λ other at holds. absurd cc)))
      s.pages sound.held (holds_none s h hart sound.ordered sound.held there none))

  lives_on : (g hart).life ≡ hart.life → (other : HartState) → slice_get s.harts h ≡ Some other → other.life ≡ Running → (g other).life ≡ Running
  lives_on life = at_hart (λ x. x.life ≡ Running → (g x).life ≡ Running) s.harts h hart there (λ runs. life ∙ runs)

  -- the hart changes and keeps what it wants
  pub keeps_want : (IsSoundHart s h hart → IsSoundHart s h (g hart)) → (g hart).life ≡ hart.life → want_in (g hart) ≡ want_in hart → Keeps deltas s (tried_with s s.pages (changed_at s.harts h g) inside)
  keeps_want own life wants =
      let paired = kept_pages life (ap access_of wants) in
      record {
        state = state_after s s.pages (changed_at s.harts h g) inside h g paired deltas (stepped_changed s.harts h g) (own_after own) sound;
        hand = λ o call in_hand. hand_after s s.pages (changed_at s.harts h g) inside h g paired deltas (stepped_changed s.harts h g) (lives_on life) o call
            (λ e. at_hart (λ x. want_in x ≡ Some want.Call → want_in (g x) ≡ Some want.Call) s.harts h hart there (λ calls. wants ∙ calls)) in_hand;
      }

  -- the hart changes and holds nothing
  pub keeps_free : (IsSoundHart s h hart → IsSoundHart s h (g hart)) → (g hart).life ≡ hart.life → HoldsNot s h hart → KeepsOthers deltas s (tried_with s s.pages (changed_at s.harts h g) inside) h
  keeps_free own life none =
      let paired = free_pages none in
      record {
        state = state_after s s.pages (changed_at s.harts h g) inside h g paired deltas (stepped_changed s.harts h g) (own_after own) sound;
        hand = λ o call outside in_hand. hand_after s s.pages (changed_at s.harts h g) inside h g paired deltas (stepped_changed s.harts h g) (lives_on life) o call (λ e. absurd cc) in_hand;
      }

  -- it may stop then
  pub sound_free : (IsSoundHart s h hart → IsSoundHart s h (g hart)) → HoldsNot s h hart → IsSoundState deltas (tried_with s s.pages (changed_at s.harts h g) inside)
  sound_free own none = state_after s s.pages (changed_at s.harts h g) inside h g (free_pages none) deltas (stepped_changed s.harts h g) (own_after own) sound
