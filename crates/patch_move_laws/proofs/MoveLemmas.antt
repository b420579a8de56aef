-- No move to one's own generation is refused for being inside a jump.
use Rattle.std.proofs.Common.{◌≡◌, inl, inr, ℕ, List, [], ◌∷◌, Option, Some, None, Bool, true, false, if◌then◌else◌, refl, sym, subst, ap}
use Rattle.std.specs.Prelude.{IfSome, slice_get}
use Rattle.std.specs.Option.{option_map}
use Rattle.rv_inst.specs.Meanings.{next_pc}
use Rattle.wf_outside.specs.declared.refusal.Refusal.{Refusal}
use Rattle.wf_outside.specs.declared.refusal.Refusal.TheVariants.{Inside, NoView}
use Rattle.wf_outside.specs.Lists.{first_of}
use Rattle.wf_flat.specs.declared.event.Actor.TheVariants.{Hart}
use Rattle.wf_flat.specs.declared.event.Event.TheVariants.{Refused}
use Rattle.wf_flat.specs.State.{FlatState, HartState}
use Rattle.wf_flat.specs.Memory.{word_at}
use Rattle.wf_flat.specs.Accesses.{generation_text}
use Rattle.wf_flat.proofs.ListLemmas.{and_some, some_and}
use Rattle.wf_effects.specs.Generations.{is_live, newest}
use Rattle.wf_verdict.specs.declared.requests.Request.{Request}
use Rattle.wf_verdict.specs.Requests.{requested_by}
use Rattle.wf_verdict.specs.Verdict.{inside_jump, refusal_of}
use Rattle.wf_legal.specs.Legal.{Moment, at_rest, end_of}
use Rattle.wf_laws.proofs.BareLemmas.{bare}
use Rattle.wf_laws.proofs.CallLemmas.{first_begins}
use Rattle.wf_laws.proofs.CarryLemmas.{at, carried}
use Rattle.wf_laws.proofs.RefusalLemmas.{of_table}
use Rattle.wf_laws.proofs.RequestLemmas.{requested}
use Rattle.wf_sound.proofs.BeginLemmas.{asks_calls}
use Rattle.patch_move_laws.specs.Moves.{AreOnText, OwnMovesAreNotInside, RequestsOwn}
use Rattle.patch_move_laws.proofs.OutsideLemmas.{go_on_outside}
use Rattle.patch_move_laws.proofs.PlaceLemmas.{has_called}
use Rattle.patch_move_laws.proofs.TextLemmas.{Holds, IsOn, keeps, works_left}

start_on : (deltas : List _) (s : FlatState) (h : ℕ) (o : Option HartState) → slice_get s.harts h ≡ o → AreOnText s → IfSome (option_map bare o) (IsOn (at_rest deltas s) h)
start_on deltas s h None is on = tt
start_on deltas s h (Some hart) is on = let it = on h hart is in record { placed = (it.even, it.low); text = inr it.fetched }

-- the table gives no Inside where the place is outside
two_not : (live : Bool) (o : Option Refusal) (generation place : ℕ) → o ≡ None → first_of ((if live then None else Some (NoView generation)) ∷ o ∷ []) ≡ Some (Inside place) → ⊥
two_not true None generation place none e = cc
two_not false None generation place none e = cc
two_not live (Some reason) generation place none e = cc

one_not : (o : Option Refusal) (place : ℕ) → o ≡ None → first_of (o ∷ []) ≡ Some (Inside place) → ⊥
one_not None place none e = cc
one_not (Some reason) place none e = cc

own_not : (deltas : List _) (s : FlatState) (hart : HartState) (place : ℕ) → inside_jump s hart.generation (next_pc hart.arch.pc) ≡ None → refusal_of deltas s (next_pc hart.arch.pc) (requested_by hart) ≡ Some (Inside place) → RequestsOwn s hart → ⊥
own_not deltas s hart place outside table (inl migrates) =
    let next : ℕ = next_pc hart.arch.pc in
    two_not (is_live s hart.generation) (inside_jump s hart.generation next) hart.generation place outside
    (subst (λ (request : Request). refusal_of deltas s next request ≡ Some (Inside place)) migrates table)
own_not deltas s hart place outside table (inr quiesces) =
    let next : ℕ = next_pc hart.arch.pc in
    one_not (inside_jump s (newest s) next) place (subst (λ (g : ℕ). inside_jump s g next ≡ None) (sym quiesces.1) outside)
    (subst (λ (request : Request). refusal_of deltas s next request ≡ Some (Inside place)) quiesces.0 table)

some_word : (o : Option ℕ) (P : ℕ → Type 0) (word : ℕ) → o ≡ Some word → IfSome o P → P word
some_word None P word e p = absurd (cc)
some_word (Some other) P word e p = let same : other ≡ word = cc in subst P same p

pub own_moves : OwnMovesAreNotInside
own_moves deltas s front back h place sound on l =
    let start : Moment = at_rest deltas s in
    let before : Moment = end_of start front in
    let w = at start front (record { actor = Hart h; event = Refused (Inside place) }) back l in
    let holds : Holds before h = carried (λ (m : Moment). Holds m h) (keeps h) start front (record { sound = sound; late = tt; on = start_on deltas s h (slice_get s.harts h) refl on }) w.legal in
    let r = requested before.deltas before.flat (Hart h) (Refused (Inside place)) refl (first_begins before (Hart h) (Refused (Inside place)) refl refl (λ leave. leave) holds.late w.allowed) in
    let k = some_and (slice_get before.flat.harts h) _ r.asked in
    let hart : HartState = k.0 in
    let t = some_and (slice_get before.flat.harts h) _ (of_table deltas s front back h (Inside place) l) in
    let same : t.0 ≡ hart = let one = t.1 in let other = k.1 in cc in
    let table : refusal_of deltas before.flat (next_pc hart.arch.pc) (requested_by hart) ≡ Some (Inside place) = subst (λ (x : HartState). refusal_of deltas before.flat (next_pc x.arch.pc) (requested_by x) ≡ Some (Inside place)) same t.2 in
    let call = has_called hart (asks_calls before.flat h hart k.2.0) in
    let here : IsOn before h (bare hart) = subst (λ (o : Option HartState). IfSome o (IsOn before h)) (ap (option_map bare) k.1) holds.on in
    and_some (slice_get before.flat.harts h) _ hart k.1 (λ has own. elim here.text [
      | inl work ↦ (let left = works_left before h (Refused (Inside place)) holds.sound work w.allowed in cc)
      | inr is ↦ own_not deltas before.flat hart place
          (go_on_outside before.flat hart has (record {
            even = here.placed.0;
            low = here.placed.1;
            word = call.word;
            is_text = some_word hart.fetched (λ word. word_at (generation_text before.flat hart.generation) hart.arch.pc ≡ Some word) call.word call.is is;
            is_call = call.call;
          })) table own
    ])
