-- What a command answers, seen by its words.
use Rattle.std.proofs.Common.{◌≡◌, ◌⊎◌, ℕ, List, Option, None, Some, inl, inr}
use Rattle.std.specs.Prelude.{IfSome}
use Rattle.wf_outside.specs.Files.{File}
use Rattle.wf_status.specs.declared.status.Status.{Status}
use Rattle.wf_status.specs.declared.status.Status.TheVariants.{Done, Shelf, Sink, Memory}
use Rattle.wf_flat.proofs.ListLemmas.{if_some_more}
use Rattle.wf_usage.specs.declared.command.Command.{Command}
use Rattle.wf_usage.specs.Words.{asked_by}
use Rattle.wf_patches.specs.Needed.{held_in}
use Rattle.wf_top.specs.Commands.{CallsFor, OfNeeded, files_for}
use Rattle.wf_top.specs.Answers.{IfAsked, IsFault, PutsOutput}
use Rattle.wf_top.specs.Laws.{AnswersAreOne, OutputsAreCalledFor}

-- the words ask for this
pub by_words : (words : List (List ℕ)) (holds : Option (List File)) (P : Command → (List ℕ → Option (List ℕ)) → Type 0) (command : Command) → Some command ≡ asked_by words
    → IfSome (files_for command holds) (λ files. P command (held_in files)) → IfAsked words holds P
by_words words holds P command e h = rw (← e) h

-- the same of what is said without the files
pub by_words_alone : (words : List (List ℕ)) (P : Command → Type 0) (command : Command) → Some command ≡ asked_by words → P command → IfSome (asked_by words) P
by_words_alone words P command e h = rw (← e) h

-- what holds of one thing holds of the other
pub if_more : (holds : Option (List File)) (P Q : (List ℕ → Option (List ℕ)) → Type 0) → ((held : List ℕ → Option (List ℕ)) → P held → Q held)
    → IfSome holds (λ files. P (held_in files)) → IfSome holds (λ files. Q (held_in files))
if_more holds P Q more h = if_some_more holds (λ (files : List File). P (held_in files)) (λ (files : List File). Q (held_in files)) (λ files d. more (held_in files) d) h

-- an output that was put is called for
pub put_is_called_for : OutputsAreCalledFor → (command : Command) (holds : Option (List File)) (before now : Option (List ℕ)) → IfSome holds (λ files. PutsOutput command (held_in files) before now)
    → IfSome holds (λ files. IsFault Done ⊎ CallsFor command (held_in files) Done)
put_is_called_for law command holds before now h =
    if_more holds (λ held. PutsOutput command held before now) (λ held. IsFault Done ⊎ CallsFor command held Done) (λ held d. inr (law command held d.text d.is)) h

answered : AnswersAreOne → (command : Command) (held : List ℕ → Option (List ℕ)) (result status : Status) → IsFault result ⊎ CallsFor command held result → CallsFor command held status → (result ≡ status) ⊎ IsFault result
answered law command held result status d called = elim d [ inl fault ↦ inr fault | inr cause ↦ inl (law command held result status cause called) ]

-- what the files call for is answered, but for a fault
pub answer_by : AnswersAreOne → (words : List (List ℕ)) (holds : Option (List File)) (command : Command) (result : Status) → Some command ≡ asked_by words
    → IfSome (files_for command holds) (λ files. IsFault result ⊎ CallsFor command (held_in files) result)
    → IfAsked words holds (λ command held. (status : Status) → CallsFor command held status → (result ≡ status) ⊎ IsFault result)
answer_by law words holds command result e h =
    by_words words holds (λ command held. (status : Status) → CallsFor command held status → (result ≡ status) ⊎ IsFault result) command e
    (if_more (files_for command holds) (λ held. IsFault result ⊎ CallsFor command held result) (λ held. (status : Status) → CallsFor command held status → (result ≡ status) ⊎ IsFault result)
    (λ held d status called. answered law command held result status d called) h)

-- what is called for, and no fault
without_fault : AnswersAreOne → (command : Command) (held : List ℕ → Option (List ℕ)) (result : Status) (A C : Type 0) → IsFault result ⊎ CallsFor command held result → (result ≡ Shelf → A) → (result ≡ Sink → C)
    → CallsFor command held Done → ¬ A → ¬ C → (result ≡ Done) ⊎ (result ≡ Memory)
without_fault law command held result A C d shelf sink called no_a no_c = elim d [
  | inl fault ↦ (elim fault [
    | inl e ↦ absurd (no_a (shelf e))
    | inr other ↦ (elim other [ inl e ↦ absurd (no_c (sink e)) | inr e ↦ inr e ])
  ])
  | inr cause ↦ inl (law command held result Done cause called)
]

complete_of : AnswersAreOne → (holds : Option (List File)) (command : Command) (result : Status) (Risen : List ℕ → Type 0) (C : Type 0)
    → IfSome holds (λ files. IsFault result ⊎ CallsFor command (held_in files) result) → (result ≡ Shelf → IfSome holds (λ files. OfNeeded command (held_in files) Risen)) → (result ≡ Sink → C)
    → IfSome holds (λ files. CallsFor command (held_in files) Done → ¬ OfNeeded command (held_in files) Risen → ¬ C → (result ≡ Done) ⊎ (result ≡ Memory))
complete_of law None command result Risen C h needed sink = tt
complete_of law (Some files) command result Risen C h needed sink = λ called no_a no_c.
    without_fault law command (held_in files) result (OfNeeded command (held_in files) Risen) C h needed sink called no_a no_c

-- where the files call for an output and nothing failed, the answer is Done or Memory
pub complete_by : AnswersAreOne → (words : List (List ℕ)) (holds : Option (List File)) (command : Command) (result : Status) (Risen : List ℕ → Type 0) (C : Type 0) → Some command ≡ asked_by words
    → IfSome (files_for command holds) (λ files. IsFault result ⊎ CallsFor command (held_in files) result) → (result ≡ Shelf → IfSome (files_for command holds) (λ files. OfNeeded command (held_in files) Risen)) → (result ≡ Sink → C)
    → IfAsked words holds (λ command held. CallsFor command held Done → ¬ OfNeeded command held Risen → ¬ C → (result ≡ Done) ⊎ (result ≡ Memory))
complete_by law words holds command result Risen C e h needed sink =
    by_words words holds (λ command held. CallsFor command held Done → ¬ OfNeeded command held Risen → ¬ C → (result ≡ Done) ⊎ (result ≡ Memory)) command e
    (complete_of law (files_for command holds) command result Risen C h needed sink)
