-- The entry that is written is read back.
use Rattle.std.proofs.Common.{◌≡◌, ◌<◌, ◌-◌, ◌^◌, ◌++◌, ◌∷◌, ℕ, List, Bool, true, false, cond, Option, Some, None, refl, sym, ap, ◌∙◌, arith}
use Rattle.std.specs.Prelude.{option_map, option_and_then, codes, nat_lt}
use Rattle.std.specs.Fmt.{decimal}
use Rattle.std.proofs.lemmas.Bool.Decides.{nat_tests}
use Rattle.wf_text.specs.Lines.{before, from}
use Rattle.wf_text.specs.Numbers.{hex, last_hex}
use Rattle.wf_flat.specs.declared.event.Actor.{Actor}
use Rattle.wf_flat.specs.declared.event.Actor.TheVariants as actor
use Rattle.wf_flat.specs.declared.event.Entry.{Entry}
use Rattle.wf_flat.specs.declared.event.Event.{Event}
use Rattle.wf_flat.specs.declared.event.Event.TheVariants.{Fetch, Look, Take, Put, Swap, Miss, End, Again, Wait, Enter, Sync, Trap, Exit, Out, Idle, Map, Going, Ending, Gone, Born, Move, Dead, Refused}
use Rattle.wf_flat.specs.declared.event.WaitFor.{WaitFor}
use Rattle.wf_flat.specs.declared.event.WaitFor.TheVariants as wait
use Rattle.wf_outside.specs.declared.refusal.Refusal.{Refusal}
use Rattle.wf_outside.specs.declared.refusal.Refusal.TheVariants.{Argument, Overlap, Absent, Leaving, NoFrames, NoView, NotEmpty, Inside, Views, Number, Lacks}
use Rattle.wf_journal.specs.Entries.{spaced, actor_text, right_text, patch_text, wait_text, refusal_text, event_text, entry_bytes}
use Rattle.wf_journal.specs.Fields.{word_at, field, one, two, three, four, hex64, hex32, decimal64, decimal32, decimal8, wide_hex, right_of, patch_of, actor_of}
use Rattle.wf_journal.specs.Events.{try_of, wait_of, step_of, gone_with, gone_of, change_of, views_of, reason_of, event_of, or_else, there, entry_of}
use Rattle.wf_journal.specs.Laws.{IsThere, IsWaited, IsReason, IsEvent, IsEntry}
use Rattle.wf_journal.proofs.FieldLemmas.{before_end, field_again, field_last, one_again, two_again, three_again, four_again, hex64_read, hex32_read, decimal64_read, decimal32_read, decimal8_read, wide_read, right_read, zero_patch_read, no_patch_read, actor_read}

-- what an event's name and the rest are read as
abbrev read_event : List ℕ → Option Event
read_event text = option_and_then (λ name. event_of name.0 name.1) (word_at (spaced text))

made : {A : Type 0} (make : A → Event) (r : Option A) (x : A) → r ≡ Some x → or_else (option_map make r) None ≡ Some (make x)
made {A} make r x e = ap (λ (o : Option A). or_else (option_map make o) None) e

waited : {A : Type 0} (make : A → WaitFor) (r : Option A) (x : A) → r ≡ Some x → or_else (option_map (λ a. Wait (make a)) r) None ≡ Some (Wait (make x))
waited {A} make r x e = ap (λ (o : Option A). or_else (option_map (λ a. Wait (make a)) o) None) e

refused : {A : Type 0} (make : A → Refusal) (r : Option A) (x : A) → r ≡ Some x → option_map Refused (option_map make r) ≡ Some (Refused (make x))
refused {A} make r x e = ap (λ (o : Option A). option_map Refused (option_map make o)) e

wait_again : (on : WaitFor) → IsWaited on → read_event (wait_text on) ≡ Some (Wait on)
unfolding wait_text event_of try_of step_of change_of wait_of word_at before from
wait_again (wait.Page page) h = waited wait.Page (one hex32 (32 ∷ hex page)) page (one_again hex32 (hex page) page (hex32_read page h))
wait_again (wait.Kernel a) h = waited wait.Kernel (one actor_of (32 ∷ actor_text a)) a (one_again actor_of (actor_text a) a (actor_read a h))

views_again : one views_of (spaced (codes "1024")) ≡ Some Views
unfolding one field word_at before from
views_again = refl

reason_again : (reason : Refusal) → IsReason reason → read_event (refusal_text reason) ≡ Some (Refused reason)
unfolding refusal_text event_of try_of step_of change_of reason_of word_at before from
reason_again Argument h = refl
reason_again (Overlap page) h = refused Overlap (one hex32 (32 ∷ hex page)) page (one_again hex32 (hex page) page (hex32_read page h))
reason_again (Absent page) h = refused Absent (one hex32 (32 ∷ hex page)) page (one_again hex32 (hex page) page (hex32_read page h))
reason_again (Leaving page) h = refused Leaving (one hex32 (32 ∷ hex page)) page (one_again hex32 (hex page) page (hex32_read page h))
reason_again (NoFrames need free) h = refused (λ (x : ℕ × ℕ). NoFrames x.0 x.1) (two decimal64 decimal64 (32 ∷ (decimal need ++ 32 ∷ decimal free))) (need, free) (two_again decimal64 decimal64 (decimal need) (decimal free) need free (decimal64_read need h.0) (decimal64_read free h.1))
reason_again (NoView g) h = refused NoView (one decimal64 (32 ∷ decimal g)) g (one_again decimal64 (decimal g) g (decimal64_read g h))
reason_again (NotEmpty hart) h = refused NotEmpty (one decimal8 (32 ∷ decimal hart)) hart (one_again decimal8 (decimal hart) hart (decimal8_read hart h))
reason_again (Inside at) h = refused Inside (one hex64 (32 ∷ hex at)) at (one_again hex64 (hex at) at (hex64_read at h))
reason_again Views h = ap (λ (o : Option Refusal). option_map Refused o) views_again
reason_again (Number n) h = refused Number (one decimal64 (32 ∷ decimal n)) n (one_again decimal64 (decimal n) n (decimal64_read n h))
reason_again (Lacks n) h = refused Lacks (one decimal64 (32 ∷ decimal n)) n (one_again decimal64 (decimal n) n (decimal64_read n h))

gone_again : (page : ℕ) (worn : Bool) → page < 2 ^ 32 → read_event (event_text (Gone page worn)) ≡ Some (Gone page worn)
unfolding event_text event_of try_of step_of change_of gone_of word_at before from
gone_again page false h = ap (λ (o : Option (ℕ × List ℕ)). or_else (option_and_then (λ page. gone_with page.0 page.1) o) None) (field_last hex32 (hex page) page (hex32_read page h))
gone_again page true h = ap (λ (o : Option (ℕ × List ℕ)). or_else (option_and_then (λ page. gone_with page.0 page.1) o) None) (field_again hex32 (hex page) (spaced (codes "worn")) page (hex32_read page h) refl)

event_again : (event : Event) → IsEvent event → read_event (event_text event) ≡ Some event
unfolding event_text event_of try_of step_of change_of word_at before from
event_again (Fetch pc word) h = made (λ (x : ℕ × ℕ). Fetch x.0 x.1) (two hex64 (wide_hex 8 (2 ^ 32 - 1)) (32 ∷ (hex pc ++ 32 ∷ last_hex 8 word))) (pc, word) (two_again hex64 (wide_hex 8 (2 ^ 32 - 1)) (hex pc) (last_hex 8 word) pc word (hex64_read pc h.0) (wide_read 8 (2 ^ 32 - 1) word (omega (arith, h.1)) (omega (arith, h.1))))
event_again (Look va width value) h = made (λ (x : ℕ × ℕ × ℕ). Look x.0 x.1 x.2) (three hex64 decimal8 hex64 (32 ∷ ((hex va ++ 32 ∷ decimal width) ++ 32 ∷ hex value))) (va, width, value) (three_again hex64 decimal8 hex64 (hex va) (decimal width) (hex value) va width value (hex64_read va h.0) (decimal8_read width h.1) (hex64_read value h.2))
event_again (Put va width value) h = made (λ (x : ℕ × ℕ × ℕ). Put x.0 x.1 x.2) (three hex64 decimal8 hex64 (32 ∷ ((hex va ++ 32 ∷ decimal width) ++ 32 ∷ hex value))) (va, width, value) (three_again hex64 decimal8 hex64 (hex va) (decimal width) (hex value) va width value (hex64_read va h.0) (decimal8_read width h.1) (hex64_read value h.2))
event_again (Take page) h = made Take (one hex32 (32 ∷ hex page)) page (one_again hex32 (hex page) page (hex32_read page h))
event_again (Swap va width old new) h = made (λ (x : ℕ × ℕ × ℕ × ℕ). Swap x.0 x.1 x.2 x.3) (four hex64 decimal8 hex64 hex64 (32 ∷ (((hex va ++ 32 ∷ decimal width) ++ 32 ∷ hex old) ++ 32 ∷ hex new))) (va, width, old, new) (four_again hex64 decimal8 hex64 hex64 (hex va) (decimal width) (hex old) (hex new) va width old new (hex64_read va h.0) (decimal8_read width h.1) (hex64_read old h.2) (hex64_read new h.3))
event_again (Miss va) h = made Miss (one hex64 (32 ∷ hex va)) va (one_again hex64 (hex va) va (hex64_read va h))
event_again (End pc) h = made End (one hex64 (32 ∷ hex pc)) pc (one_again hex64 (hex pc) pc (hex64_read pc h))
event_again (Again page) h = made Again (one hex32 (32 ∷ hex page)) page (one_again hex32 (hex page) page (hex32_read page h))
event_again (Wait on) h = wait_again on h
event_again Enter h = refl
event_again (Sync g page) h = made (λ (x : ℕ × ℕ). Sync x.0 x.1) (two decimal32 hex32 (32 ∷ (decimal g ++ 32 ∷ hex page))) (g, page) (two_again decimal32 hex32 (decimal g) (hex page) g page (decimal32_read g h.0) (hex32_read page h.1))
event_again (Trap cause value) h = made (λ (x : ℕ × ℕ). Trap x.0 x.1) (two decimal8 hex64 (32 ∷ (decimal cause ++ 32 ∷ hex value))) (cause, value) (two_again decimal8 hex64 (decimal cause) (hex value) cause value (decimal8_read cause h.0) (hex64_read value h.1))
event_again (Exit code) h = made Exit (one decimal64 (32 ∷ decimal code)) code (one_again decimal64 (decimal code) code (decimal64_read code h))
event_again (Out byte) h = made Out (one (wide_hex 2 255) (32 ∷ last_hex 2 byte)) byte (one_again (wide_hex 2 255) (last_hex 2 byte) byte (wide_read 2 255 byte (omega arith) (omega arith)))
event_again Idle h = refl
event_again (Map page n write patch) h = made (λ (x : ℕ × ℕ × Bool × Option ℕ). Map x.0 x.1 x.2 x.3) (four hex32 decimal64 right_of (patch_of (codes "z")) (32 ∷ (((hex page ++ 32 ∷ decimal n) ++ 32 ∷ right_text write) ++ 32 ∷ patch_text (codes "z") patch))) (page, n, write, patch) (four_again hex32 decimal64 right_of (patch_of (codes "z")) (hex page) (decimal n) (right_text write) (patch_text (codes "z") patch) page n write patch (hex32_read page h.0) (decimal64_read n h.1) (right_read write) (zero_patch_read patch h.2))
event_again (Going page n) h = made (λ (x : ℕ × ℕ). Going x.0 x.1) (two hex32 decimal64 (32 ∷ (hex page ++ 32 ∷ decimal n))) (page, n) (two_again hex32 decimal64 (hex page) (decimal n) page n (hex32_read page h.0) (decimal64_read n h.1))
event_again (Ending page) h = made Ending (one hex32 (32 ∷ hex page)) page (one_again hex32 (hex page) page (hex32_read page h))
event_again (Gone page worn) h = gone_again page worn h
event_again (Born g parent patch) h = made (λ (x : ℕ × ℕ × Option ℕ). Born x.0 x.1 x.2) (three decimal32 decimal32 (patch_of (codes "-")) (32 ∷ ((decimal g ++ 32 ∷ decimal parent) ++ 32 ∷ patch_text (codes "-") patch))) (g, parent, patch) (three_again decimal32 decimal32 (patch_of (codes "-")) (decimal g) (decimal parent) (patch_text (codes "-") patch) g parent patch (decimal32_read g h.0) (decimal32_read parent h.1) (no_patch_read patch h.2))
event_again (Move g) h = made Move (one decimal32 (32 ∷ decimal g)) g (one_again decimal32 (decimal g) g (decimal32_read g h))
event_again (Dead g) h = made Dead (one decimal32 (32 ∷ decimal g)) g (one_again decimal32 (decimal g) g (decimal32_read g h))
event_again (Refused reason) h = reason_again reason h

there_again : (harts : ℕ) (a : Actor) → IsThere harts a → there harts a ≡ Some a
there_again harts (actor.Hart h) e = let t : nat_lt h harts ≡ true = grind (arith, nat_tests) in ap (λ (b : Bool). cond b (Some (actor.Hart h)) None) t
there_again harts actor.Kernel e = refl

abbrev pub entry_with : Actor → Event → Option Entry
entry_with a event = Some (record { actor = a; event = event })

-- what stands behind an actor, read as an entry of it
abbrev event_with : Actor → Option (List ℕ × List ℕ) → Option Entry
event_with a named = option_and_then (λ name. option_and_then (entry_with a) (event_of name.0 name.1)) named

read_again : (named : Option (List ℕ × List ℕ)) (event : Event) (a : Actor) → option_and_then (λ name. event_of name.0 name.1) named ≡ Some event → event_with a named ≡ entry_with a event
read_again None event a e = absurd cc
read_again (Some name) event a e = ap (λ (o : Option Event). option_and_then (entry_with a) o) e

-- what is written of an entry is read as it
pub entry_again : (harts : ℕ) (entry : Entry) → IsEntry harts entry → entry_of harts (entry_bytes entry) ≡ Some entry
unfolding entry_of
entry_again harts entry h =
    let named = actor_read entry.actor h.named in
    let parts = before_end (actor_text entry.actor) (spaced (event_text entry.event)) named.word refl in
    ap (λ (xs : List ℕ). option_and_then (λ (m : Actor). option_and_then (λ (a : Actor). event_with a (word_at (from 32 (entry_bytes entry)))) (there harts m)) (actor_of xs)) parts.0
    ∙ ap (λ (o : Option Actor). option_and_then (λ (m : Actor). option_and_then (λ (a : Actor). event_with a (word_at (from 32 (entry_bytes entry)))) (there harts m)) o) named.value
    ∙ ap (λ (o : Option Actor). option_and_then (λ (a : Actor). event_with a (word_at (from 32 (entry_bytes entry)))) o) (there_again harts entry.actor h.there)
    ∙ ap (λ (xs : List ℕ). event_with entry.actor (word_at xs)) parts.1 ∙ read_again (word_at (spaced (event_text entry.event))) entry.event entry.actor (event_again entry.event h.event)

some_same : (d e : Entry) → Some d ≡ Some e → d ≡ e
some_same d e f = cc

-- two entries have two texts
pub entries_apart : (harts : ℕ) (d e : Entry) → IsEntry harts d → IsEntry harts e → entry_bytes d ≡ entry_bytes e → d ≡ e
entries_apart harts d e h k same = some_same d e (sym (entry_again harts d h) ∙ ap (entry_of harts) same ∙ entry_again harts e k)
