-- An entry that is read is what is written of it.
use Rattle.std.proofs.Common.{◌≡◌, ◌<◌, ◌-◌, ◌^◌, ◌++◌, ◌∷◌, [], ℕ, List, Bool, true, false, cond, Option, Some, None, refl, sym, ap, ◌∙◌, arith, append-nil}
use Rattle.std.specs.Prelude.{option_map, option_and_then, codes, nat_lt}
use Rattle.std.specs.Fmt.{decimal}
use Rattle.std.proofs.lemmas.Bool.Decides.{nat_tests}
use Rattle.wf_text.specs.Lines.{before, from}
use Rattle.wf_text.specs.Numbers.{hex, last_hex}
use Rattle.wf_flat.specs.declared.event.Actor.{Actor}
use Rattle.wf_flat.specs.declared.event.Actor.TheVariants as actor
use Rattle.wf_flat.specs.declared.event.Entry.{Entry}
use Rattle.wf_flat.specs.declared.event.Event.{Event}
use Rattle.wf_flat.specs.declared.event.Event.TheVariants.{Fetch, Look, Take, Put, Swap, Miss, End, Again, Wait, Enter, Sync, Trap, Exit, Out, Idle, Map, Going, Ending, Gone, Born, Move, Dead, Refused}
use Rattle.wf_flat.specs.declared.event.WaitFor.TheVariants as wait
use Rattle.wf_outside.specs.declared.refusal.Refusal.{Refusal}
use Rattle.wf_outside.specs.declared.refusal.Refusal.TheVariants.{Argument, Overlap, Absent, Leaving, NoFrames, NoView, NotEmpty, Inside, Views, Number, Lacks}
use Rattle.wf_journal.specs.Entries.{spaced, actor_text, right_text, patch_text, wait_text, refusal_text, event_text, entry_bytes}
use Rattle.wf_journal.specs.Fields.{word_at, field, one, two, three, four, hex64, hex32, decimal64, decimal32, decimal8, wide_hex, right_of, patch_of, actor_of}
use Rattle.wf_journal.specs.Events.{try_of, wait_of, step_of, gone_with, gone_of, change_of, views_of, reason_of, event_of, or_else, there, entry_of}
use Rattle.wf_journal.specs.Laws.{IsActor, IsThere, IsReason, IsEvent, IsEntry}
use Rattle.std.specs.Str.{bytes_eq}
use Rattle.std.proofs.Common.{inl, inr, subst}
use Rattle.std.proofs.lemmas.Option.{none-some}
use Rattle.wf_text.proofs.NumberLemmas.{chosen}
use Rattle.wf_journal.specs.Events.{worn_of, refused_of}
use Rattle.wf_journal.proofs.EventLemmas.{entry_with}
use Rattle.wf_journal.specs.Fields.{ended}
use Rattle.wf_journal.specs.Laws.{IsPatch}
use Rattle.wf_journal.proofs.SoundLemmas.{IsField, split_back, bind_some, map_some, is_key, word_sound, field_sound, ended_sound, one_sound, two_sound, three_sound, four_sound, hex64_field, hex32_field, decimal64_field, decimal32_field, decimal8_field, wide_field, right_field, patch_field, actor_field, actor_sound}

-- the name and what stands behind it are the text of the event, whose fields have their sizes
record IsText (name rest : List ℕ) (event : Event) : Type 0 where
  spelled : name ++ rest ≡ event_text event
  sized : IsEvent event

record IsCause (name rest : List ℕ) (reason : Refusal) : Type 0 where
  spelled : codes "refused " ++ (name ++ rest) ≡ refusal_text reason
  sized : IsReason reason

-- either a test chose the first, or the rest
either : {A : Type 0} (b : Bool) (x y z : A) (P : Type 0) → cond b x y ≡ z → (b ≡ true → x ≡ z → P) → (y ≡ z → P) → P
either true x y z P e f g = f refl e
either false x y z P e f g = g e

fetch_is : (name rest : List ℕ) (e : Event) → bytes_eq name (codes "fetch") ≡ true → option_map (λ (x : ℕ × ℕ). Fetch x.0 x.1) (two hex64 (wide_hex 8 (2 ^ 32 - 1)) rest) ≡ Some e → IsText name rest e
unfolding event_text
fetch_is name rest e b g =
    let m = map_some (λ (x : ℕ × ℕ). Fetch x.0 x.1) (two hex64 (wide_hex 8 (2 ^ 32 - 1)) rest) e g in
    let s = two_sound hex64 hex (λ (n : ℕ). n < 2 ^ 64) hex64_field (wide_hex 8 (2 ^ 32 - 1)) (last_hex 8) (λ (n : ℕ). n < 2 ^ 32) (wide_field 8 (2 ^ 32 - 1) (2 ^ 32) (omega arith)) rest m.0 m.1 in
    subst (λ (y : Event). IsText name rest y) m.2 (record { spelled = ap (λ (xs : List ℕ). (xs ++ rest)) (is_key name (codes "fetch") b) ∙ ap (λ (xs : List ℕ). (codes "fetch" ++ xs)) s.0; sized = (s.1, s.2) })

end_is : (name rest : List ℕ) (e : Event) → bytes_eq name (codes "end") ≡ true → option_map End (one hex64 rest) ≡ Some e → IsText name rest e
unfolding event_text
end_is name rest e b g =
    let m = map_some End (one hex64 rest) e g in
    let s = one_sound hex64 hex (λ (n : ℕ). n < 2 ^ 64) hex64_field rest m.0 m.1 in
    subst (λ (y : Event). IsText name rest y) m.2 (record { spelled = ap (λ (xs : List ℕ). (xs ++ rest)) (is_key name (codes "end") b) ∙ ap (λ (xs : List ℕ). (codes "end" ++ xs)) s.0; sized = s.1 })

look_is : (name rest : List ℕ) (e : Event) → bytes_eq name (codes "look") ≡ true → option_map (λ (x : ℕ × ℕ × ℕ). Look x.0 x.1 x.2) (three hex64 decimal8 hex64 rest) ≡ Some e → IsText name rest e
unfolding event_text
look_is name rest e b g =
    let m = map_some (λ (x : ℕ × ℕ × ℕ). Look x.0 x.1 x.2) (three hex64 decimal8 hex64 rest) e g in
    let s = three_sound hex64 hex (λ (n : ℕ). n < 2 ^ 64) hex64_field decimal8 decimal (λ (n : ℕ). n < 2 ^ 8) decimal8_field hex64 hex (λ (n : ℕ). n < 2 ^ 64) hex64_field rest m.0 m.1 in
    subst (λ (y : Event). IsText name rest y) m.2 (record { spelled = ap (λ (xs : List ℕ). (xs ++ rest)) (is_key name (codes "look") b) ∙ ap (λ (xs : List ℕ). (codes "look" ++ xs)) s.0; sized = (s.1, s.2, s.3) })

put_is : (name rest : List ℕ) (e : Event) → bytes_eq name (codes "put") ≡ true → option_map (λ (x : ℕ × ℕ × ℕ). Put x.0 x.1 x.2) (three hex64 decimal8 hex64 rest) ≡ Some e → IsText name rest e
unfolding event_text
put_is name rest e b g =
    let m = map_some (λ (x : ℕ × ℕ × ℕ). Put x.0 x.1 x.2) (three hex64 decimal8 hex64 rest) e g in
    let s = three_sound hex64 hex (λ (n : ℕ). n < 2 ^ 64) hex64_field decimal8 decimal (λ (n : ℕ). n < 2 ^ 8) decimal8_field hex64 hex (λ (n : ℕ). n < 2 ^ 64) hex64_field rest m.0 m.1 in
    subst (λ (y : Event). IsText name rest y) m.2 (record { spelled = ap (λ (xs : List ℕ). (xs ++ rest)) (is_key name (codes "put") b) ∙ ap (λ (xs : List ℕ). (codes "put" ++ xs)) s.0; sized = (s.1, s.2, s.3) })

take_is : (name rest : List ℕ) (e : Event) → bytes_eq name (codes "take") ≡ true → option_map Take (one hex32 rest) ≡ Some e → IsText name rest e
unfolding event_text
take_is name rest e b g =
    let m = map_some Take (one hex32 rest) e g in
    let s = one_sound hex32 hex (λ (n : ℕ). n < 2 ^ 32) hex32_field rest m.0 m.1 in
    subst (λ (y : Event). IsText name rest y) m.2 (record { spelled = ap (λ (xs : List ℕ). (xs ++ rest)) (is_key name (codes "take") b) ∙ ap (λ (xs : List ℕ). (codes "take" ++ xs)) s.0; sized = s.1 })

swap_is : (name rest : List ℕ) (e : Event) → bytes_eq name (codes "swap") ≡ true → option_map (λ (x : ℕ × ℕ × ℕ × ℕ). Swap x.0 x.1 x.2 x.3) (four hex64 decimal8 hex64 hex64 rest) ≡ Some e → IsText name rest e
unfolding event_text
swap_is name rest e b g =
    let m = map_some (λ (x : ℕ × ℕ × ℕ × ℕ). Swap x.0 x.1 x.2 x.3) (four hex64 decimal8 hex64 hex64 rest) e g in
    let s = four_sound hex64 hex (λ (n : ℕ). n < 2 ^ 64) hex64_field decimal8 decimal (λ (n : ℕ). n < 2 ^ 8) decimal8_field hex64 hex (λ (n : ℕ). n < 2 ^ 64) hex64_field hex64 hex (λ (n : ℕ). n < 2 ^ 64) hex64_field rest m.0 m.1 in
    subst (λ (y : Event). IsText name rest y) m.2 (record { spelled = ap (λ (xs : List ℕ). (xs ++ rest)) (is_key name (codes "swap") b) ∙ ap (λ (xs : List ℕ). (codes "swap" ++ xs)) s.0; sized = (s.1, s.2, s.3, s.4) })

miss_is : (name rest : List ℕ) (e : Event) → bytes_eq name (codes "miss") ≡ true → option_map Miss (one hex64 rest) ≡ Some e → IsText name rest e
unfolding event_text
miss_is name rest e b g =
    let m = map_some Miss (one hex64 rest) e g in
    let s = one_sound hex64 hex (λ (n : ℕ). n < 2 ^ 64) hex64_field rest m.0 m.1 in
    subst (λ (y : Event). IsText name rest y) m.2 (record { spelled = ap (λ (xs : List ℕ). (xs ++ rest)) (is_key name (codes "miss") b) ∙ ap (λ (xs : List ℕ). (codes "miss" ++ xs)) s.0; sized = s.1 })

sync_is : (name rest : List ℕ) (e : Event) → bytes_eq name (codes "sync") ≡ true → option_map (λ (x : ℕ × ℕ). Sync x.0 x.1) (two decimal32 hex32 rest) ≡ Some e → IsText name rest e
unfolding event_text
sync_is name rest e b g =
    let m = map_some (λ (x : ℕ × ℕ). Sync x.0 x.1) (two decimal32 hex32 rest) e g in
    let s = two_sound decimal32 decimal (λ (n : ℕ). n < 2 ^ 32) decimal32_field hex32 hex (λ (n : ℕ). n < 2 ^ 32) hex32_field rest m.0 m.1 in
    subst (λ (y : Event). IsText name rest y) m.2 (record { spelled = ap (λ (xs : List ℕ). (xs ++ rest)) (is_key name (codes "sync") b) ∙ ap (λ (xs : List ℕ). (codes "sync" ++ xs)) s.0; sized = (s.1, s.2) })

again_is : (name rest : List ℕ) (e : Event) → bytes_eq name (codes "again") ≡ true → option_map Again (one hex32 rest) ≡ Some e → IsText name rest e
unfolding event_text
again_is name rest e b g =
    let m = map_some Again (one hex32 rest) e g in
    let s = one_sound hex32 hex (λ (n : ℕ). n < 2 ^ 32) hex32_field rest m.0 m.1 in
    subst (λ (y : Event). IsText name rest y) m.2 (record { spelled = ap (λ (xs : List ℕ). (xs ++ rest)) (is_key name (codes "again") b) ∙ ap (λ (xs : List ℕ). (codes "again" ++ xs)) s.0; sized = s.1 })

trap_is : (name rest : List ℕ) (e : Event) → bytes_eq name (codes "trap") ≡ true → option_map (λ (x : ℕ × ℕ). Trap x.0 x.1) (two decimal8 hex64 rest) ≡ Some e → IsText name rest e
unfolding event_text
trap_is name rest e b g =
    let m = map_some (λ (x : ℕ × ℕ). Trap x.0 x.1) (two decimal8 hex64 rest) e g in
    let s = two_sound decimal8 decimal (λ (n : ℕ). n < 2 ^ 8) decimal8_field hex64 hex (λ (n : ℕ). n < 2 ^ 64) hex64_field rest m.0 m.1 in
    subst (λ (y : Event). IsText name rest y) m.2 (record { spelled = ap (λ (xs : List ℕ). (xs ++ rest)) (is_key name (codes "trap") b) ∙ ap (λ (xs : List ℕ). (codes "trap" ++ xs)) s.0; sized = (s.1, s.2) })

exit_is : (name rest : List ℕ) (e : Event) → bytes_eq name (codes "exit") ≡ true → option_map Exit (one decimal64 rest) ≡ Some e → IsText name rest e
unfolding event_text
exit_is name rest e b g =
    let m = map_some Exit (one decimal64 rest) e g in
    let s = one_sound decimal64 decimal (λ (n : ℕ). n < 2 ^ 64) decimal64_field rest m.0 m.1 in
    subst (λ (y : Event). IsText name rest y) m.2 (record { spelled = ap (λ (xs : List ℕ). (xs ++ rest)) (is_key name (codes "exit") b) ∙ ap (λ (xs : List ℕ). (codes "exit" ++ xs)) s.0; sized = s.1 })

out_is : (name rest : List ℕ) (e : Event) → bytes_eq name (codes "out") ≡ true → option_map Out (one (wide_hex 2 255) rest) ≡ Some e → IsText name rest e
unfolding event_text
out_is name rest e b g =
    let m = map_some Out (one (wide_hex 2 255) rest) e g in
    let s = one_sound (wide_hex 2 255) (last_hex 2) (λ (n : ℕ). n < 2 ^ 8) (wide_field 2 255 (2 ^ 8) (omega arith)) rest m.0 m.1 in
    subst (λ (y : Event). IsText name rest y) m.2 (record { spelled = ap (λ (xs : List ℕ). (xs ++ rest)) (is_key name (codes "out") b) ∙ ap (λ (xs : List ℕ). (codes "out" ++ xs)) s.0; sized = s.1 })

enter_is : (name rest : List ℕ) (e : Event) → bytes_eq name (codes "enter") ≡ true → ended rest Enter ≡ Some e → IsText name rest e
unfolding event_text
enter_is name rest e b g =
    let n = ended_sound rest Enter e g in
    subst (λ (y : Event). IsText name rest y) n.1 (record { spelled = ap (λ (xs : List ℕ). (xs ++ rest)) (is_key name (codes "enter") b) ∙ ap (λ (xs : List ℕ). (codes "enter" ++ xs)) n.0; sized = tt })

idle_is : (name rest : List ℕ) (e : Event) → bytes_eq name (codes "idle") ≡ true → ended rest Idle ≡ Some e → IsText name rest e
unfolding event_text
idle_is name rest e b g =
    let n = ended_sound rest Idle e g in
    subst (λ (y : Event). IsText name rest y) n.1 (record { spelled = ap (λ (xs : List ℕ). (xs ++ rest)) (is_key name (codes "idle") b) ∙ ap (λ (xs : List ℕ). (codes "idle" ++ xs)) n.0; sized = tt })

map_is : (name rest : List ℕ) (e : Event) → bytes_eq name (codes "map") ≡ true → option_map (λ (x : ℕ × ℕ × Bool × Option ℕ). Map x.0 x.1 x.2 x.3) (four hex32 decimal64 right_of (patch_of (codes "z")) rest) ≡ Some e → IsText name rest e
unfolding event_text
map_is name rest e b g =
    let m = map_some (λ (x : ℕ × ℕ × Bool × Option ℕ). Map x.0 x.1 x.2 x.3) (four hex32 decimal64 right_of (patch_of (codes "z")) rest) e g in
    let s = four_sound hex32 hex (λ (n : ℕ). n < 2 ^ 32) hex32_field decimal64 decimal (λ (n : ℕ). n < 2 ^ 64) decimal64_field right_of right_text (λ (_ : Bool). Unit {0}) right_field (patch_of (codes "z")) (patch_text (codes "z")) IsPatch (patch_field (codes "z")) rest m.0 m.1 in
    subst (λ (y : Event). IsText name rest y) m.2 (record { spelled = ap (λ (xs : List ℕ). (xs ++ rest)) (is_key name (codes "map") b) ∙ ap (λ (xs : List ℕ). (codes "map" ++ xs)) s.0; sized = (s.1, s.2, s.4) })

going_is : (name rest : List ℕ) (e : Event) → bytes_eq name (codes "going") ≡ true → option_map (λ (x : ℕ × ℕ). Going x.0 x.1) (two hex32 decimal64 rest) ≡ Some e → IsText name rest e
unfolding event_text
going_is name rest e b g =
    let m = map_some (λ (x : ℕ × ℕ). Going x.0 x.1) (two hex32 decimal64 rest) e g in
    let s = two_sound hex32 hex (λ (n : ℕ). n < 2 ^ 32) hex32_field decimal64 decimal (λ (n : ℕ). n < 2 ^ 64) decimal64_field rest m.0 m.1 in
    subst (λ (y : Event). IsText name rest y) m.2 (record { spelled = ap (λ (xs : List ℕ). (xs ++ rest)) (is_key name (codes "going") b) ∙ ap (λ (xs : List ℕ). (codes "going" ++ xs)) s.0; sized = (s.1, s.2) })

ending_is : (name rest : List ℕ) (e : Event) → bytes_eq name (codes "ending") ≡ true → option_map Ending (one hex32 rest) ≡ Some e → IsText name rest e
unfolding event_text
ending_is name rest e b g =
    let m = map_some Ending (one hex32 rest) e g in
    let s = one_sound hex32 hex (λ (n : ℕ). n < 2 ^ 32) hex32_field rest m.0 m.1 in
    subst (λ (y : Event). IsText name rest y) m.2 (record { spelled = ap (λ (xs : List ℕ). (xs ++ rest)) (is_key name (codes "ending") b) ∙ ap (λ (xs : List ℕ). (codes "ending" ++ xs)) s.0; sized = s.1 })

born_is : (name rest : List ℕ) (e : Event) → bytes_eq name (codes "born") ≡ true → option_map (λ (x : ℕ × ℕ × Option ℕ). Born x.0 x.1 x.2) (three decimal32 decimal32 (patch_of (codes "-")) rest) ≡ Some e → IsText name rest e
unfolding event_text
born_is name rest e b g =
    let m = map_some (λ (x : ℕ × ℕ × Option ℕ). Born x.0 x.1 x.2) (three decimal32 decimal32 (patch_of (codes "-")) rest) e g in
    let s = three_sound decimal32 decimal (λ (n : ℕ). n < 2 ^ 32) decimal32_field decimal32 decimal (λ (n : ℕ). n < 2 ^ 32) decimal32_field (patch_of (codes "-")) (patch_text (codes "-")) IsPatch (patch_field (codes "-")) rest m.0 m.1 in
    subst (λ (y : Event). IsText name rest y) m.2 (record { spelled = ap (λ (xs : List ℕ). (xs ++ rest)) (is_key name (codes "born") b) ∙ ap (λ (xs : List ℕ). (codes "born" ++ xs)) s.0; sized = (s.1, s.2, s.3) })

move_is : (name rest : List ℕ) (e : Event) → bytes_eq name (codes "move") ≡ true → option_map Move (one decimal32 rest) ≡ Some e → IsText name rest e
unfolding event_text
move_is name rest e b g =
    let m = map_some Move (one decimal32 rest) e g in
    let s = one_sound decimal32 decimal (λ (n : ℕ). n < 2 ^ 32) decimal32_field rest m.0 m.1 in
    subst (λ (y : Event). IsText name rest y) m.2 (record { spelled = ap (λ (xs : List ℕ). (xs ++ rest)) (is_key name (codes "move") b) ∙ ap (λ (xs : List ℕ). (codes "move" ++ xs)) s.0; sized = s.1 })

dead_is : (name rest : List ℕ) (e : Event) → bytes_eq name (codes "dead") ≡ true → option_map Dead (one decimal32 rest) ≡ Some e → IsText name rest e
unfolding event_text
dead_is name rest e b g =
    let m = map_some Dead (one decimal32 rest) e g in
    let s = one_sound decimal32 decimal (λ (n : ℕ). n < 2 ^ 32) decimal32_field rest m.0 m.1 in
    subst (λ (y : Event). IsText name rest y) m.2 (record { spelled = ap (λ (xs : List ℕ). (xs ++ rest)) (is_key name (codes "dead") b) ∙ ap (λ (xs : List ℕ). (codes "dead" ++ xs)) s.0; sized = s.1 })

overlap_is : (name rest : List ℕ) (e : Refusal) → bytes_eq name (codes "overlap") ≡ true → option_map Overlap (one hex32 rest) ≡ Some e → IsCause name rest e
unfolding refusal_text
overlap_is name rest e b g =
    let m = map_some Overlap (one hex32 rest) e g in
    let s = one_sound hex32 hex (λ (n : ℕ). n < 2 ^ 32) hex32_field rest m.0 m.1 in
    subst (λ (y : Refusal). IsCause name rest y) m.2 (record { spelled = ap (λ (xs : List ℕ). codes "refused " ++ (xs ++ rest)) (is_key name (codes "overlap") b) ∙ ap (λ (xs : List ℕ). codes "refused " ++ (codes "overlap" ++ xs)) s.0; sized = s.1 })

absent_is : (name rest : List ℕ) (e : Refusal) → bytes_eq name (codes "absent") ≡ true → option_map Absent (one hex32 rest) ≡ Some e → IsCause name rest e
unfolding refusal_text
absent_is name rest e b g =
    let m = map_some Absent (one hex32 rest) e g in
    let s = one_sound hex32 hex (λ (n : ℕ). n < 2 ^ 32) hex32_field rest m.0 m.1 in
    subst (λ (y : Refusal). IsCause name rest y) m.2 (record { spelled = ap (λ (xs : List ℕ). codes "refused " ++ (xs ++ rest)) (is_key name (codes "absent") b) ∙ ap (λ (xs : List ℕ). codes "refused " ++ (codes "absent" ++ xs)) s.0; sized = s.1 })

leaving_is : (name rest : List ℕ) (e : Refusal) → bytes_eq name (codes "leaving") ≡ true → option_map Leaving (one hex32 rest) ≡ Some e → IsCause name rest e
unfolding refusal_text
leaving_is name rest e b g =
    let m = map_some Leaving (one hex32 rest) e g in
    let s = one_sound hex32 hex (λ (n : ℕ). n < 2 ^ 32) hex32_field rest m.0 m.1 in
    subst (λ (y : Refusal). IsCause name rest y) m.2 (record { spelled = ap (λ (xs : List ℕ). codes "refused " ++ (xs ++ rest)) (is_key name (codes "leaving") b) ∙ ap (λ (xs : List ℕ). codes "refused " ++ (codes "leaving" ++ xs)) s.0; sized = s.1 })

noframes_is : (name rest : List ℕ) (e : Refusal) → bytes_eq name (codes "noframes") ≡ true → option_map (λ (x : ℕ × ℕ). NoFrames x.0 x.1) (two decimal64 decimal64 rest) ≡ Some e → IsCause name rest e
unfolding refusal_text
noframes_is name rest e b g =
    let m = map_some (λ (x : ℕ × ℕ). NoFrames x.0 x.1) (two decimal64 decimal64 rest) e g in
    let s = two_sound decimal64 decimal (λ (n : ℕ). n < 2 ^ 64) decimal64_field decimal64 decimal (λ (n : ℕ). n < 2 ^ 64) decimal64_field rest m.0 m.1 in
    subst (λ (y : Refusal). IsCause name rest y) m.2 (record { spelled = ap (λ (xs : List ℕ). codes "refused " ++ (xs ++ rest)) (is_key name (codes "noframes") b) ∙ ap (λ (xs : List ℕ). codes "refused " ++ (codes "noframes" ++ xs)) s.0; sized = (s.1, s.2) })

noview_is : (name rest : List ℕ) (e : Refusal) → bytes_eq name (codes "noview") ≡ true → option_map NoView (one decimal64 rest) ≡ Some e → IsCause name rest e
unfolding refusal_text
noview_is name rest e b g =
    let m = map_some NoView (one decimal64 rest) e g in
    let s = one_sound decimal64 decimal (λ (n : ℕ). n < 2 ^ 64) decimal64_field rest m.0 m.1 in
    subst (λ (y : Refusal). IsCause name rest y) m.2 (record { spelled = ap (λ (xs : List ℕ). codes "refused " ++ (xs ++ rest)) (is_key name (codes "noview") b) ∙ ap (λ (xs : List ℕ). codes "refused " ++ (codes "noview" ++ xs)) s.0; sized = s.1 })

notempty_is : (name rest : List ℕ) (e : Refusal) → bytes_eq name (codes "notempty") ≡ true → option_map NotEmpty (one decimal8 rest) ≡ Some e → IsCause name rest e
unfolding refusal_text
notempty_is name rest e b g =
    let m = map_some NotEmpty (one decimal8 rest) e g in
    let s = one_sound decimal8 decimal (λ (n : ℕ). n < 2 ^ 8) decimal8_field rest m.0 m.1 in
    subst (λ (y : Refusal). IsCause name rest y) m.2 (record { spelled = ap (λ (xs : List ℕ). codes "refused " ++ (xs ++ rest)) (is_key name (codes "notempty") b) ∙ ap (λ (xs : List ℕ). codes "refused " ++ (codes "notempty" ++ xs)) s.0; sized = s.1 })

inside_is : (name rest : List ℕ) (e : Refusal) → bytes_eq name (codes "inside") ≡ true → option_map Inside (one hex64 rest) ≡ Some e → IsCause name rest e
unfolding refusal_text
inside_is name rest e b g =
    let m = map_some Inside (one hex64 rest) e g in
    let s = one_sound hex64 hex (λ (n : ℕ). n < 2 ^ 64) hex64_field rest m.0 m.1 in
    subst (λ (y : Refusal). IsCause name rest y) m.2 (record { spelled = ap (λ (xs : List ℕ). codes "refused " ++ (xs ++ rest)) (is_key name (codes "inside") b) ∙ ap (λ (xs : List ℕ). codes "refused " ++ (codes "inside" ++ xs)) s.0; sized = s.1 })

number_is : (name rest : List ℕ) (e : Refusal) → bytes_eq name (codes "number") ≡ true → option_map Number (one decimal64 rest) ≡ Some e → IsCause name rest e
unfolding refusal_text
number_is name rest e b g =
    let m = map_some Number (one decimal64 rest) e g in
    let s = one_sound decimal64 decimal (λ (n : ℕ). n < 2 ^ 64) decimal64_field rest m.0 m.1 in
    subst (λ (y : Refusal). IsCause name rest y) m.2 (record { spelled = ap (λ (xs : List ℕ). codes "refused " ++ (xs ++ rest)) (is_key name (codes "number") b) ∙ ap (λ (xs : List ℕ). codes "refused " ++ (codes "number" ++ xs)) s.0; sized = s.1 })

lacks_is : (name rest : List ℕ) (e : Refusal) → bytes_eq name (codes "lacks") ≡ true → option_map Lacks (one decimal64 rest) ≡ Some e → IsCause name rest e
unfolding refusal_text
lacks_is name rest e b g =
    let m = map_some Lacks (one decimal64 rest) e g in
    let s = one_sound decimal64 decimal (λ (n : ℕ). n < 2 ^ 64) decimal64_field rest m.0 m.1 in
    subst (λ (y : Refusal). IsCause name rest y) m.2 (record { spelled = ap (λ (xs : List ℕ). codes "refused " ++ (xs ++ rest)) (is_key name (codes "lacks") b) ∙ ap (λ (xs : List ℕ). codes "refused " ++ (codes "lacks" ++ xs)) s.0; sized = s.1 })

argument_is : (name rest : List ℕ) (e : Refusal) → bytes_eq name (codes "argument") ≡ true → ended rest Argument ≡ Some e → IsCause name rest e
unfolding refusal_text
argument_is name rest e b g =
    let n = ended_sound rest Argument e g in
    subst (λ (y : Refusal). IsCause name rest y) n.1 (record { spelled = ap (λ (xs : List ℕ). codes "refused " ++ (xs ++ rest)) (is_key name (codes "argument") b) ∙ ap (λ (xs : List ℕ). codes "refused " ++ (codes "argument" ++ xs)) n.0; sized = tt })

try_is : (name rest : List ℕ) (e : Event) → try_of name rest ≡ Some e → IsText name rest e
unfolding try_of
try_is name rest e f =
    either (bytes_eq name (codes "fetch")) _ _ _ _ f (fetch_is name rest e) (λ f.
    either (bytes_eq name (codes "end")) _ _ _ _ f (end_is name rest e) (λ f.
    either (bytes_eq name (codes "look")) _ _ _ _ f (look_is name rest e) (λ f.
    either (bytes_eq name (codes "put")) _ _ _ _ f (put_is name rest e) (λ f.
    either (bytes_eq name (codes "take")) _ _ _ _ f (take_is name rest e) (λ f.
    either (bytes_eq name (codes "swap")) _ _ _ _ f (swap_is name rest e) (λ f.
    either (bytes_eq name (codes "miss")) _ _ _ _ f (miss_is name rest e) (λ f.
    absurd (none-some e f))))))))

-- what is waited for, behind the name
record IsWaitText (what rest : List ℕ) (event : Event) : Type 0 where
  spelled : codes "wait " ++ (what ++ rest) ≡ event_text event
  sized : IsEvent event

wait_page_is : (name rest : List ℕ) (e : Event) → bytes_eq name (codes "page") ≡ true → option_map (λ page. Wait (wait.Page page)) (one hex32 rest) ≡ Some e → IsWaitText name rest e
unfolding event_text wait_text
wait_page_is name rest e b g =
    let m = map_some (λ (page : ℕ). Wait (wait.Page page)) (one hex32 rest) e g in
    let s = one_sound hex32 hex (λ (n : ℕ). n < 2 ^ 32) hex32_field rest m.0 m.1 in
    subst (λ (y : Event). IsWaitText name rest y) m.2 (record { spelled = ap (λ (xs : List ℕ). codes "wait " ++ (xs ++ rest)) (is_key name (codes "page") b) ∙ ap (λ (xs : List ℕ). codes "wait page" ++ xs) s.0; sized = s.1 })

wait_kernel_is : (name rest : List ℕ) (e : Event) → bytes_eq name (codes "kernel") ≡ true → option_map (λ a. Wait (wait.Kernel a)) (one actor_of rest) ≡ Some e → IsWaitText name rest e
unfolding event_text wait_text
wait_kernel_is name rest e b g =
    let m = map_some (λ (a : Actor). Wait (wait.Kernel a)) (one actor_of rest) e g in
    let s = one_sound actor_of actor_text IsActor actor_field rest m.0 m.1 in
    subst (λ (y : Event). IsWaitText name rest y) m.2 (record { spelled = ap (λ (xs : List ℕ). codes "wait " ++ (xs ++ rest)) (is_key name (codes "kernel") b) ∙ ap (λ (xs : List ℕ). codes "wait kernel" ++ xs) s.0; sized = s.1 })

wait_of_is : (name rest : List ℕ) (e : Event) → wait_of name rest ≡ Some e → IsWaitText name rest e
unfolding wait_of
wait_of_is name rest e f =
    either (bytes_eq name (codes "page")) _ _ _ _ f (wait_page_is name rest e) (λ f.
    either (bytes_eq name (codes "kernel")) _ _ _ _ f (wait_kernel_is name rest e) (λ f.
    absurd (none-some e f)))

wait_is : (name rest : List ℕ) (e : Event) → bytes_eq name (codes "wait") ≡ true → option_and_then (λ what. wait_of what.0 what.1) (word_at rest) ≡ Some e → IsText name rest e
wait_is name rest e b g =
    let w = bind_some (word_at rest) (λ (what : List ℕ × List ℕ). wait_of what.0 what.1) e g in
    let t = wait_of_is w.0.0 w.0.1 e w.2 in
    record { spelled = ap (λ (xs : List ℕ). xs ++ rest) (is_key name (codes "wait") b) ∙ ap (λ (xs : List ℕ). codes "wait" ++ xs) (word_sound rest w.0 w.1) ∙ t.spelled; sized = t.sized }

step_is : (name rest : List ℕ) (e : Event) → step_of name rest ≡ Some e → IsText name rest e
unfolding step_of
step_is name rest e f =
    either (bytes_eq name (codes "enter")) _ _ _ _ f (enter_is name rest e) (λ f.
    either (bytes_eq name (codes "sync")) _ _ _ _ f (sync_is name rest e) (λ f.
    either (bytes_eq name (codes "again")) _ _ _ _ f (again_is name rest e) (λ f.
    either (bytes_eq name (codes "wait")) _ _ _ _ f (wait_is name rest e) (λ f.
    either (bytes_eq name (codes "trap")) _ _ _ _ f (trap_is name rest e) (λ f.
    either (bytes_eq name (codes "exit")) _ _ _ _ f (exit_is name rest e) (λ f.
    either (bytes_eq name (codes "out")) _ _ _ _ f (out_is name rest e) (λ f.
    either (bytes_eq name (codes "idle")) _ _ _ _ f (idle_is name rest e) (λ f.
    absurd (none-some e f)))))))))

-- what stands behind the page of a page that has left
record IsWorn (page : ℕ) (tail : List ℕ) (event : Event) : Type 0 where
  worn : Bool
  tail_is : tail ≡ cond worn (spaced (codes "worn")) []
  event_is : Gone page worn ≡ event

some_event : (d e : Event) → Some d ≡ Some e → d ≡ e
some_event d e f = cc

worn_word : (page : ℕ) (o : Option (List ℕ × List ℕ)) (tail : List ℕ) (e : Event) → ((w : List ℕ × List ℕ) → o ≡ Some w → tail ≡ 32 ∷ (w.0 ++ w.1)) → worn_of page o ≡ Some e → IsWorn page tail e
worn_word page None tail e is f = absurd (none-some e f)
worn_word page (Some w) tail e is f =
    elim (chosen (bytes_eq w.0 (codes "worn")) (ended w.1 (Gone page true)) None (Some e) f) [
      | inl p ↦
          let n = ended_sound w.1 (Gone page true) e p.1 in
          record { worn = true; tail_is = is w refl ∙ ap (λ (xs : List ℕ). 32 ∷ (xs ++ w.1)) (is_key w.0 (codes "worn") p.0) ∙ ap (λ (xs : List ℕ). 32 ∷ (codes "worn" ++ xs)) n.0; event_is = n.1 }
      | inr p ↦ absurd (none-some e p.1)
    ]

gone_tail : (page : ℕ) (tail : List ℕ) (e : Event) → gone_with page tail ≡ Some e → IsWorn page tail e
gone_tail page [] e f = record { worn = false; tail_is = refl; event_is = some_event (Gone page false) e f }
gone_tail page (c ∷ cs) e f = worn_word page (word_at (c ∷ cs)) (c ∷ cs) e (word_sound (c ∷ cs)) f

gone_text : (page : ℕ) (worn : Bool) → codes "gone" ++ (32 ∷ (hex page ++ cond worn (spaced (codes "worn")) [])) ≡ event_text (Gone page worn)
unfolding event_text
gone_text page true = refl
gone_text page false = ap (λ (xs : List ℕ). codes "gone" ++ (32 ∷ xs)) (append-nil (hex page))

gone_is : (name rest : List ℕ) (e : Event) → bytes_eq name (codes "gone") ≡ true → gone_of rest ≡ Some e → IsText name rest e
unfolding gone_of
gone_is name rest e b g =
    let a = bind_some (field hex32 rest) (λ (page : ℕ × List ℕ). gone_with page.0 page.1) e g in
    let p = field_sound hex32 hex (λ (n : ℕ). n < 2 ^ 32) hex32_field rest a.0 a.1 in
    let t = gone_tail a.0.0 a.0.1 e a.2 in
    subst (λ (y : Event). IsText name rest y) t.event_is (record {
      spelled = ap (λ (xs : List ℕ). xs ++ rest) (is_key name (codes "gone") b) ∙ ap (λ (xs : List ℕ). codes "gone" ++ xs) (p.0 ∙ ap (λ (xs : List ℕ). 32 ∷ (hex a.0.0 ++ xs)) t.tail_is) ∙ gone_text a.0.0 t.worn;
      sized = p.1;
    })

change_is : (name rest : List ℕ) (e : Event) → change_of name rest ≡ Some e → IsText name rest e
unfolding change_of
change_is name rest e f =
    either (bytes_eq name (codes "map")) _ _ _ _ f (map_is name rest e) (λ f.
    either (bytes_eq name (codes "going")) _ _ _ _ f (going_is name rest e) (λ f.
    either (bytes_eq name (codes "ending")) _ _ _ _ f (ending_is name rest e) (λ f.
    either (bytes_eq name (codes "gone")) _ _ _ _ f (gone_is name rest e) (λ f.
    either (bytes_eq name (codes "born")) _ _ _ _ f (born_is name rest e) (λ f.
    either (bytes_eq name (codes "move")) _ _ _ _ f (move_is name rest e) (λ f.
    either (bytes_eq name (codes "dead")) _ _ _ _ f (dead_is name rest e) (λ f.
    absurd (none-some e f))))))))

views_spelled : (w : List ℕ) (x : Refusal) → views_of w ≡ Some x → (w ≡ codes "1024") × (x ≡ Views)
views_spelled w x e =
    elim (chosen (bytes_eq w (codes "1024")) (Some Views) None (Some x) e) [
      | inl p ↦ let same : Some Views ≡ Some x = p.1 in (is_key w (codes "1024") p.0, cc)
      | inr p ↦ absurd (none-some x p.1)
    ]

views_field : IsField views_of (λ _. codes "1024") (λ x. x ≡ Views)
views_field = record { spelled = λ w x e. (views_spelled w x e).0; sized = λ w x e. (views_spelled w x e).1 }

views_is : (name rest : List ℕ) (e : Refusal) → bytes_eq name (codes "views") ≡ true → one views_of rest ≡ Some e → IsCause name rest e
unfolding refusal_text
views_is name rest e b g =
    let s = one_sound views_of (λ (_ : Refusal). codes "1024") (λ (x : Refusal). x ≡ Views) views_field rest e g in
    subst (λ (y : Refusal). IsCause name rest y) (sym s.1) (record { spelled = ap (λ (xs : List ℕ). codes "refused " ++ (xs ++ rest)) (is_key name (codes "views") b) ∙ ap (λ (xs : List ℕ). codes "refused " ++ (codes "views" ++ xs)) s.0; sized = tt })

reason_is : (name rest : List ℕ) (e : Refusal) → reason_of name rest ≡ Some e → IsCause name rest e
unfolding reason_of
reason_is name rest e f =
    either (bytes_eq name (codes "argument")) _ _ _ _ f (argument_is name rest e) (λ f.
    either (bytes_eq name (codes "overlap")) _ _ _ _ f (overlap_is name rest e) (λ f.
    either (bytes_eq name (codes "absent")) _ _ _ _ f (absent_is name rest e) (λ f.
    either (bytes_eq name (codes "leaving")) _ _ _ _ f (leaving_is name rest e) (λ f.
    either (bytes_eq name (codes "noframes")) _ _ _ _ f (noframes_is name rest e) (λ f.
    either (bytes_eq name (codes "noview")) _ _ _ _ f (noview_is name rest e) (λ f.
    either (bytes_eq name (codes "notempty")) _ _ _ _ f (notempty_is name rest e) (λ f.
    either (bytes_eq name (codes "inside")) _ _ _ _ f (inside_is name rest e) (λ f.
    either (bytes_eq name (codes "views")) _ _ _ _ f (views_is name rest e) (λ f.
    either (bytes_eq name (codes "number")) _ _ _ _ f (number_is name rest e) (λ f.
    either (bytes_eq name (codes "lacks")) _ _ _ _ f (lacks_is name rest e) (λ f.
    absurd (none-some e f))))))))))))

refusal_is : (name rest : List ℕ) (e : Event) → bytes_eq name (codes "refused") ≡ true → option_and_then (λ why. option_map Refused (reason_of why.0 why.1)) (word_at rest) ≡ Some e → IsText name rest e
unfolding event_text
refusal_is name rest e b g =
    let w = bind_some (word_at rest) (λ (why : List ℕ × List ℕ). option_map Refused (reason_of why.0 why.1)) e g in
    let m = map_some Refused (reason_of w.0.0 w.0.1) e w.2 in
    let t = reason_is w.0.0 w.0.1 m.0 m.1 in
    subst (λ (y : Event). IsText name rest y) m.2 (record { spelled = ap (λ (xs : List ℕ). xs ++ rest) (is_key name (codes "refused") b) ∙ ap (λ (xs : List ℕ). codes "refused" ++ xs) (word_sound rest w.0 w.1) ∙ t.spelled; sized = t.sized })

refused_is : (name rest : List ℕ) (e : Event) → refused_of name rest ≡ Some e → IsText name rest e
refused_is name rest e f =
    either (bytes_eq name (codes "refused")) _ _ _ _ f (refusal_is name rest e) (λ f.
    absurd (none-some e f))

or_else_some : (o p : Option Event) (e : Event) (P : Type 0) → or_else o p ≡ Some e → (o ≡ Some e → P) → (p ≡ Some e → P) → P
or_else_some None p e P f g h = h f
or_else_some (Some d) p e P f g h = g f

event_is : (name rest : List ℕ) (e : Event) → event_of name rest ≡ Some e → IsText name rest e
unfolding event_of
event_is name rest e f =
    or_else_some (try_of name rest) _ e _ f (try_is name rest e) (λ f.
    or_else_some (step_of name rest) _ e _ f (step_is name rest e) (λ f.
    or_else_some (change_of name rest) _ e _ f (change_is name rest e) (refused_is name rest e)))

there_sound : (harts : ℕ) (a b : Actor) → there harts a ≡ Some b → (a ≡ b) × IsThere harts a
there_sound harts (actor.Hart h) b e =
    elim (chosen (nat_lt h harts) (Some (actor.Hart h)) None (Some b) e) [
      | inl p ↦ let same : Some (actor.Hart h) ≡ Some b = p.1 in let t : nat_lt h harts ≡ true = p.0 in (cc, grind (arith, nat_tests))
      | inr p ↦ absurd (none-some b p.1)
    ]
there_sound harts actor.Kernel b e = (cc, tt)

-- an entry that is read is what is written of it
pub record IsWritten (harts : ℕ) (line : List ℕ) (entry : Entry) : Type 0 where
  pub spelled : line ≡ entry_bytes entry
  pub sized : IsEntry harts entry

some_entry : (d e : Entry) → Some d ≡ Some e → d ≡ e
some_entry d e f = cc

pub entry_is : (harts : ℕ) (line : List ℕ) (entry : Entry) → entry_of harts line ≡ Some entry → IsWritten harts line entry
unfolding entry_of
entry_is harts line entry e =
    let a = bind_some (actor_of (before 32 line)) (λ (named : Actor). option_and_then (λ acts. option_and_then (λ name. option_and_then (entry_with acts) (event_of name.0 name.1)) (word_at (from 32 line))) (there harts named)) entry e in
    let b = bind_some (there harts a.0) (λ (acts : Actor). option_and_then (λ name. option_and_then (entry_with acts) (event_of name.0 name.1)) (word_at (from 32 line))) entry a.2 in
    let c = bind_some (word_at (from 32 line)) (λ (name : List ℕ × List ℕ). option_and_then (entry_with b.0) (event_of name.0 name.1)) entry b.2 in
    let d = bind_some (event_of c.0.0 c.0.1) (entry_with b.0) entry c.2 in
    let same = some_entry (record { actor = b.0; event = d.0 }) entry d.2 in
    let named = actor_sound (before 32 line) a.0 a.1 in
    let here = there_sound harts a.0 b.0 b.1 in
    let text = event_is c.0.0 c.0.1 d.0 d.1 in
    let made : IsWritten harts line (record { actor = a.0; event = d.0 }) = record {
      spelled = sym (split_back line) ∙ ap (λ (xs : List ℕ). xs ++ from 32 line) named.0 ∙ ap (λ (xs : List ℕ). actor_text a.0 ++ xs) (word_sound (from 32 line) c.0 c.1 ∙ ap (λ (xs : List ℕ). 32 ∷ xs) text.spelled);
      sized = record { named = named.1; there = here.1; event = text.sized };
    } in
    subst (λ (x : Entry). IsWritten harts line x) (ap (λ (x : Actor). record { actor = x; event = d.0 }) here.0 ∙ same) made
