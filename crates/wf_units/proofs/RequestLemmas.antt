-- Each request of a hart: its events and its end.
use Rattle.std.proofs.Common.{◌≡◌, ◌++◌, ◌==◌, ℕ, List, [], ◌∷◌, Option, Some, None, Bool, length, map, refl, sym, subst, ap, ◌∙◌}
use Rattle.std.specs.Prelude.{slice_get}
use Rattle.std.specs.List.{range_with_len}
use Rattle.rv_inst.specs.Meanings.{next_pc}
use Rattle.wf_outside.specs.declared.refusal.Refusal.{Refusal}
use Rattle.wf_outside.specs.Images.{DeltaValue}
use Rattle.wf_outside.specs.Pages.{page_of}
use Rattle.wf_flat.specs.declared.event.Actor.TheVariants.{Hart}
use Rattle.wf_flat.specs.declared.event.Event.{Event}
use Rattle.wf_flat.specs.declared.event.Event.TheVariants.{Born, Dead, End, Exit, Going, Gone, Map, Move, Out, Refused}
use Rattle.wf_flat.specs.State.{FlatState, HartState}
use Rattle.wf_flat.specs.Changes.{answered, change_hart, ended, exited_with, fetched_with, try_ended}
use Rattle.wf_flat.specs.Serving.{AllBut}
use Rattle.wf_flat.specs.Refusals.{refused_answer}
use Rattle.wf_effects.specs.Effects.{generation_born, generation_dead, mapped, moved_to, pages_going, pages_noted}
use Rattle.wf_effects.specs.Generations.{newest}
use Rattle.wf_verdict.specs.declared.requests.Request.{Request}
use Rattle.wf_verdict.specs.declared.requests.Request.TheVariants.{Exits, PutsByte, Maps, Unmaps, TellsGeneration, Migrates, Quiesces, Deletes, Clones, Patches, NoCall}
use Rattle.wf_verdict.specs.declared.work.Todo.{Todo}
use Rattle.wf_verdict.specs.declared.work.Todo.TheVariants.{Exactly}
use Rattle.wf_verdict.specs.Requests.{requested_by}
use Rattle.wf_verdict.specs.Verdict.{pages_from, refusal_of}
use Rattle.wf_verdict.specs.Work.{refused_or, work_of}
use Rattle.wf_legal.specs.Calls.{ending_of, todo_of_call}
use Rattle.wf_legal.specs.Events.{flat_after}
use Rattle.wf_sound.specs.Laws.{EntriesKeepSound, JournalsKeepSound}
use Rattle.wf_service.specs.Calling.{HasToDo, IsInCall}
use Rattle.wf_service.proofs.BeginLemmas.{inside_with}
use Rattle.wf_service.proofs.FirstLemmas.{IsKind}
use Rattle.wf_service.proofs.QuietLemmas.{noted_alone}
use Rattle.wf_units.specs.Calls.{IsCalling, IsDenied, IsGranted, MayAllGo, call_of, call_with_end}
use Rattle.wf_units.specs.Ends.{each_gone, hart_answered, hart_exited, hart_sent, hart_told}
use Rattle.wf_units.specs.Units.{IsLegalUnit}
use Rattle.wf_units.proofs.CallLemmas.{Tail, has_come, in_call, inside_changed, leaves_tail, left_to_do, more_behind, tail_end, tail_none, unit_of}
use Rattle.wf_units.proofs.EndLemmas.{IsNoTelling, answered_end, ended_first, ended_next, gone_harts, gone_inside, is_four, leave_first, no_four, of_program, sent_end, told_end}
use Rattle.wf_units.proofs.RefusalLemmas.{IsOfProgram, refusals_same}

abbrev the_end : ℕ → List Todo
the_end next = Exactly (End next) ∷ []

-- what is to do about a request that is granted, or denied
granted_todo : (deltas : List DeltaValue) (s : FlatState) (h word next : ℕ) (request : Request) → IsOfProgram request → refusal_of deltas s next request ≡ None
    → todo_of_call deltas (inside_with s h word) next request ≡ work_of deltas (inside_with s h word) request ++ ending_of next request
granted_todo deltas s h word next request of none =
    ap (λ (o : Option Refusal). refused_or o (work_of deltas (inside_with s h word) request) ++ ending_of next request) (refusals_same deltas s h word next request of ∙ none)

ends_so : (deltas : List DeltaValue) (s : FlatState) (next : ℕ) (request : Request) (reason : Refusal) → refusal_of deltas s next request ≡ Some reason → ending_of next request ≡ the_end next
ends_so deltas s next (Exits code) reason e = absurd (cc)
ends_so deltas s next (PutsByte byte) reason e = refl
ends_so deltas s next (Maps va pages right) reason e = refl
ends_so deltas s next (Unmaps va pages) reason e = refl
ends_so deltas s next TellsGeneration reason e = refl
ends_so deltas s next (Migrates generation) reason e = refl
ends_so deltas s next Quiesces reason e = refl
ends_so deltas s next (Deletes generation) reason e = refl
ends_so deltas s next (Clones generation) reason e = refl
ends_so deltas s next (Patches patch) reason e = refl
ends_so deltas s next (NoCall number) reason e = refl

no_telling : (deltas : List DeltaValue) (s : FlatState) (next : ℕ) (request : Request) (reason : Refusal) → refusal_of deltas s next request ≡ Some reason → IsNoTelling request
no_telling deltas s next TellsGeneration reason e = let k : None ≡ Some reason = e in absurd (cc)
no_telling deltas s next request reason e = tt

denied_todo : (deltas : List DeltaValue) (s : FlatState) (h word next : ℕ) (request : Request) (reason : Refusal) → IsOfProgram request → refusal_of deltas s next request ≡ Some reason
    → todo_of_call deltas (inside_with s h word) next request ≡ Exactly (Refused reason) ∷ Exactly (End next) ∷ []
denied_todo deltas s h word next request reason of e =
    ap (λ (o : Option Refusal). refused_or o (work_of deltas (inside_with s h word) request) ++ ending_of next request) (refusals_same deltas s h word next request of ∙ e)
    ∙ ap (λ (l : List Todo). Exactly (Refused reason) ∷ l) (ends_so deltas s next request reason e)

module _ (keeps : EntriesKeepSound) (journals : JournalsKeepSound) (deltas : List DeltaValue) (s : FlatState) (h word : ℕ) (hart : HartState) where
  -- a call of one event and its End
  pub answered_unit : (c : IsCalling deltas s h word hart) (e : Event) (w : FlatState) (f g : HartState → HartState) → IsKind e (the_end (next_pc hart.arch.pc))
      → todo_of_call deltas (inside_with s h word) (next_pc hart.arch.pc) (requested_by hart) ≡ Exactly e ∷ the_end (next_pc hart.arch.pc)
      → flat_after deltas (inside_with s h word) (Hart h) e ≡ inside_changed w h word f → w.inside ≡ None → slice_get w.harts h ≡ Some hart → IsInCall word (f (fetched_with word hart)) → ended (f (fetched_with word hart)) ≡ g hart
      → IsLegalUnit deltas s h (call_with_end hart word (e ∷ [])) (change_hart w h g)
  answered_unit c e w f g kind whole changed inside there calls is =
      let next : ℕ = next_pc hart.arch.pc in
      let new : FlatState = change_hart w h g in
      let ends : Tail deltas (inside_changed w h word f) h (the_end next) (End next ∷ []) new → Tail deltas (flat_after deltas (inside_with s h word) (Hart h) e) h (the_end next) (End next ∷ []) new = λ tail. subst (λ (t : FlatState). Tail deltas t h (the_end next) (End next ∷ []) new) (sym changed) tail in
      unit_of keeps journals deltas s h word hart c e (the_end next) (End next ∷ []) new kind whole
      (λ has. ends (subst (Tail deltas (inside_changed w h word f) h (the_end next) (End next ∷ [])) (ended_next w h word hart f g inside there calls is)
      (tail_end keeps deltas (inside_changed w h word f) h next (subst (λ (t : FlatState). HasToDo t h (the_end next)) changed has))))

  -- one that only answers
  simply_in : (c : IsCalling deltas s h word hart) (answer : ℕ) → IsInCall word (answered answer (fetched_with word hart))
  simply_in c answer = let i = in_call keeps journals deltas s h word hart c in record { runs = i.runs; fetched = i.fetched; ecall = i.ecall }

  simply : (c : IsCalling deltas s h word hart) (e : Event) (answer : ℕ) (w : FlatState) → IsKind e (the_end (next_pc hart.arch.pc))
      → todo_of_call deltas (inside_with s h word) (next_pc hart.arch.pc) (requested_by hart) ≡ Exactly e ∷ the_end (next_pc hart.arch.pc)
      → flat_after deltas (inside_with s h word) (Hart h) e ≡ inside_changed w h word (answered answer) → w.inside ≡ None → slice_get w.harts h ≡ Some hart → IsNoTelling (requested_by hart) → IsLegalUnit deltas s h (call_with_end hart word (e ∷ [])) (change_hart w h (hart_answered answer))
  simply c e answer w kind whole changed inside there other =
      answered_unit c e w (answered answer) (hart_answered answer) kind whole changed inside there (simply_in c answer) (answered_end word answer hart (simply_in c answer) (no_four hart (requested_by hart) refl other))

  pub refused_unit : (reason : Refusal) → IsDenied deltas s h word hart reason → IsLegalUnit deltas s h (call_with_end hart word (Refused reason ∷ [])) (change_hart s h (hart_answered (refused_answer reason)))
  refused_unit reason d =
      let next : ℕ = next_pc hart.arch.pc in
      simply d.calling (Refused reason) (refused_answer reason) s tt (denied_todo deltas s h word next (requested_by hart) reason (of_program hart) d.denied) refl d.calling.rests.rests.no_one d.calling.rests.there (no_telling deltas s next (requested_by hart) reason d.denied)

  -- what is to do where it is granted
  todo_granted : (request : Request) → IsGranted deltas s h word hart request → todo_of_call deltas (inside_with s h word) (next_pc hart.arch.pc) (requested_by hart) ≡ work_of deltas (inside_with s h word) request ++ ending_of (next_pc hart.arch.pc) request
  todo_granted request g =
      let next : ℕ = next_pc hart.arch.pc in
      ap (todo_of_call deltas (inside_with s h word) next) g.requested ∙ granted_todo deltas s h word next request (subst IsOfProgram g.requested (of_program hart)) g.granted

  telling_not : (request : Request) → IsGranted deltas s h word hart request → IsNoTelling request → IsNoTelling (requested_by hart)
  telling_not request g is = subst IsNoTelling (sym g.requested) is

  pub byte_unit : (byte : ℕ) → IsGranted deltas s h word hart (PutsByte byte) → IsLegalUnit deltas s h (call_with_end hart word (Out byte ∷ [])) (change_hart s h (hart_answered 0))
  byte_unit byte g = simply g.calling (Out byte) 0 s tt (todo_granted (PutsByte byte) g) refl g.calling.rests.rests.no_one g.calling.rests.there (telling_not (PutsByte byte) g tt)

  pub deletion_unit : (generation : ℕ) → IsGranted deltas s h word hart (Deletes generation) → IsLegalUnit deltas s h (call_with_end hart word (Dead generation ∷ [])) (change_hart (generation_dead s generation) h (hart_answered 0))
  deletion_unit generation g = simply g.calling (Dead generation) 0 (generation_dead s generation) tt (todo_granted (Deletes generation) g) refl g.calling.rests.rests.no_one g.calling.rests.there (telling_not (Deletes generation) g tt)

  pub clone_unit : (parent : ℕ) → IsGranted deltas s h word hart (Clones parent) → IsLegalUnit deltas s h (call_with_end hart word (Born (length s.gens) parent None ∷ [])) (change_hart (generation_born deltas s parent None) h (hart_answered (length s.gens)))
  clone_unit parent g =
      simply g.calling (Born (length s.gens) parent None) (length s.gens) (generation_born deltas s parent None) tt (todo_granted (Clones parent) g) refl g.calling.rests.rests.no_one g.calling.rests.there (telling_not (Clones parent) g tt)

  noted_in_call : (c : IsCalling deltas s h word hart) (t : FlatState) (pages : List ℕ) (f : HartState → HartState) → t.harts ≡ (inside_with s h word).harts → change_hart (pages_noted t (Hart h) pages) h f ≡ change_hart t h f
  noted_in_call c t pages f same =
      let alone = (has_come keeps journals deltas s h word hart c).quiet.alone in
      ap (λ (u : FlatState). change_hart u h f) (noted_alone t h pages (subst (λ (harts : List HartState). AllBut (λ hart. hart.fetched ≡ None) h harts) (sym same) alone))

  pub map_unit : (va pages right : ℕ) → IsGranted deltas s h word hart (Maps va pages right) → IsLegalUnit deltas s h (call_with_end hart word (Map (page_of va) pages (right == 3) None ∷ [])) (change_hart (mapped s (page_of va) pages (right == 3) None) h (hart_answered 0))
  map_unit va pages right g =
      let w : FlatState = mapped s (page_of va) pages (right == 3) None in
      simply g.calling (Map (page_of va) pages (right == 3) None) 0 w tt (todo_granted (Maps va pages right) g)
      (noted_in_call g.calling (inside_with w h word) (range_with_len (page_of va) pages) (answered 0) refl)
      g.calling.rests.rests.no_one g.calling.rests.there (telling_not (Maps va pages right) g tt)

  -- one that moves the hart
  sent_unit : (c : IsCalling deltas s h word hart) (generation : ℕ) → todo_of_call deltas (inside_with s h word) (next_pc hart.arch.pc) (requested_by hart) ≡ Exactly (Move generation) ∷ the_end (next_pc hart.arch.pc) → IsNoTelling (requested_by hart)
      → IsLegalUnit deltas s h (call_with_end hart word (Move generation ∷ [])) (change_hart s h (hart_sent generation))
  sent_unit c generation whole other =
      let i = in_call keeps journals deltas s h word hart c in
      let calls : IsInCall word (moved_to generation (fetched_with word hart)) = record { runs = i.runs; fetched = i.fetched; ecall = i.ecall } in
      answered_unit c (Move generation) s (moved_to generation) (hart_sent generation) tt whole refl c.rests.rests.no_one c.rests.there calls (sent_end word generation hart calls (no_four hart (requested_by hart) refl other))

  pub migration_unit : (generation : ℕ) → IsGranted deltas s h word hart (Migrates generation) → IsLegalUnit deltas s h (call_with_end hart word (Move generation ∷ [])) (change_hart s h (hart_sent generation))
  migration_unit generation g = sent_unit g.calling generation (todo_granted (Migrates generation) g) (telling_not (Migrates generation) g tt)

  pub quiesce_unit : IsGranted deltas s h word hart Quiesces → IsLegalUnit deltas s h (call_with_end hart word (Move (newest s) ∷ [])) (change_hart s h (hart_sent (newest s)))
  quiesce_unit g = sent_unit g.calling (newest s) (todo_granted Quiesces g) (telling_not Quiesces g tt)

  -- those of one event
  pub exit_unit : (code : ℕ) → IsGranted deltas s h word hart (Exits code) → IsLegalUnit deltas s h (call_of hart word (Exit code ∷ [])) (change_hart s h (hart_exited code))
  exit_unit code g =
      let t : FlatState = flat_after deltas (inside_with s h word) (Hart h) (Exit code) in
      unit_of keeps journals deltas s h word hart g.calling (Exit code) [] [] (change_hart s h (hart_exited code)) refl (todo_granted (Exits code) g)
      (λ has. subst (Tail deltas t h [] []) (leave_first s h word (exited_with code) g.calling.rests.rests.no_one) (tail_none deltas t h has))

  pub told_unit : IsGranted deltas s h word hart TellsGeneration → IsLegalUnit deltas s h (call_with_end hart word []) (change_hart s h hart_told)
  told_unit g =
      let next : ℕ = next_pc hart.arch.pc in
      let t : FlatState = try_ended (inside_with s h word) h in
      let i = in_call keeps journals deltas s h word hart g.calling in
      unit_of keeps journals deltas s h word hart g.calling (End next) [] [] (change_hart s h hart_told) refl (todo_granted TellsGeneration g)
      (λ has. subst (Tail deltas t h [] []) (ended_first s h word hart hart_told g.calling.rests.rests.no_one g.calling.rests.there i (told_end word hart i (is_four hart g.requested))) (tail_none deltas t h has))

  -- an unmap
  pub unmap_unit : (va pages : ℕ) (gone : List (ℕ × Bool)) → IsGranted deltas s h word hart (Unmaps va pages) → MayAllGo s gone (pages_from va pages)
      → IsLegalUnit deltas s h (call_with_end hart word (Going (page_of va) pages ∷ map (λ page. Gone page.0 page.1) gone)) (change_hart (each_gone (pages_going s (page_of va) pages) gone) h (hart_answered 0))
  unmap_unit va pages gone g may =
      let next : ℕ = next_pc hart.arch.pc in
      let w : FlatState = pages_going s (page_of va) pages in
      let ps : List ℕ = map (λ (page : ℕ × Bool). page.0) gone in
      let then : FlatState = each_gone w gone in
      let new : FlatState = change_hart then h (hart_answered 0) in
      let e : Event = Going (page_of va) pages in
      let events : List Event = map (λ page. Gone page.0 page.1) gone ++ End next ∷ [] in
      let todo : List Todo = left_to_do ps next in
      let mid : FlatState = inside_changed w h word (answered 0) in
      let changed : flat_after deltas (inside_with s h word) (Hart h) e ≡ mid = noted_in_call g.calling (inside_with w h word) (range_with_len (page_of va) pages) (answered 0) refl in
      let calls = simply_in g.calling 0 in
      let ended_so : ended (answered 0 (fetched_with word hart)) ≡ hart_answered 0 hart = answered_end word 0 hart calls (no_four hart (requested_by hart) refl (telling_not (Unmaps va pages) g tt)) in
      let there : slice_get then.harts h ≡ Some hart = ap (λ (harts : List HartState). slice_get harts h) (gone_harts gone w) ∙ g.calling.rests.there in
      let inside : then.inside ≡ None = gone_inside gone w ∙ g.calling.rests.rests.no_one in
      let last : try_ended (inside_changed then h word (answered 0)) h ≡ new = ended_next then h word hart (answered 0) (hart_answered 0) inside there calls ended_so in
      let whole : todo_of_call deltas (inside_with s h word) next (requested_by hart) ≡ Exactly e ∷ todo = todo_granted (Unmaps va pages) g ∙ ap (λ (l : List ℕ). Exactly e ∷ left_to_do l next) (sym may.are) in
      unit_of keeps journals deltas s h word hart g.calling e todo events new (more_behind ps next) whole
      (λ has. subst (λ (t : FlatState). Tail deltas t h todo events new) (sym changed)
      (subst (Tail deltas mid h todo events) last (leaves_tail keeps deltas h word next (answered 0) gone w may.worn (subst (λ (t : FlatState). HasToDo t h todo) changed has))))
