use Rattle.std.proofs.Common.{◌≡◌, ◌∙◌, ◌∷◌, ◌++◌, ℕ, List, Option, Some, sym, ap, length, arith}
use Rattle.std.specs.Prelude.{option_to_list}
use Rattle.std.proofs.lemmas.List.{with_items_is}
use Rattle.wf_frames.specs.declared.state.FrameState.TheVariants.{InUse}
use Rattle.wf_frames.specs.Frames.{free_ones, free_numbers, places_from}
use Rattle.wf_frames.proofs.FindingLemmas.{popped, popped_lt}
use Rattle.wf_frames.proofs.FrameLemmas.{AreFrames-set, length_ones, ones_set}
use Rattle.wf_frames.proofs.frames.Frames.take_lowest.Goals as goal

taken_front : (xs ns : List ℕ) (o : Option ℕ) (n : ℕ) (ys : List ℕ) → xs ≡ option_to_list o ++ ns → o ≡ Some n → xs ≡ ys → n ∷ ns ≡ ys
taken_front xs ns o n ys e s f = ap (λ r. option_to_list r ++ ns) (sym s) ∙ sym e ∙ f

pub set_state-requires : goal.set_state-requires
set_state-requires c =
    let fs = c.self.inside.frames.items in
    let front = taken_front _ c.pop_front.new.self.items _ c.unwrap-frame.result _ c.pop_front.ensures.items c.unwrap-frame.ensures c.self.invariant.free_are in
    let lt = popped_lt (free_ones fs) _ _ front in
    omega (arith, length_ones fs, c.deref_mut.ensures.len)

pub invariant_of-self : goal.invariant_of-self
invariant_of-self c =
    let fs = c.self.inside.frames.items in
    let front = taken_front _ c.pop_front.new.self.items _ c.unwrap-frame.result _ c.pop_front.ensures.items c.unwrap-frame.ensures c.self.invariant.free_are in
    let len : length c.set_state.new.frames ≡ c.self.inside.frames.len = omega arith in
    let e = with_items_is c.self.inside.frames c.set_state.new.frames len ∙ (rw c.deref_mut.ensures.value at c.set_state.ensures) in
    AreFrames-set fs _ _ _ _ _ _ c.unwrap-frame.result InUse c.self.invariant e (popped (free_ones fs) _ _ front) (omega (arith, c.pop_front.ensures.capacity))

pub returns-clause-lowest : goal.returns-clause-lowest
returns-clause-lowest c =
    let fs = c.self.inside.frames.items in
    let front = taken_front _ c.pop_front.new.self.items _ c.unwrap-frame.result _ c.pop_front.ensures.items c.unwrap-frame.ensures c.self.invariant.free_are in
    let len : length c.set_state.new.frames ≡ c.self.inside.frames.len = omega arith in
    let e = with_items_is c.self.inside.frames c.set_state.new.frames len ∙ (rw c.deref_mut.ensures.value at c.set_state.ensures) in
    let rest = popped (free_ones fs) _ _ front ∙ ap (places_from 0) (sym (ones_set fs c.unwrap-frame.result InUse)) ∙ ap free_numbers (sym e) in
    rw (← c.self.view_is) (sym front ∙ ap (λ ns. c.unwrap-frame.result ∷ ns) rest)
