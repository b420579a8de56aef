-- The entry that a line is the text of.
use Rattle.std.specs.Prelude.{ℕ, List, [], ◌∷◌, ◌-◌, ◌^◌, Option, Some, None, option_map, codes, true, false, nat_lt, if◌then◌else◌}
use Rattle.std.specs.Str.{bytes_eq}
use Rattle.wf_text.specs.Lines.{before, from}
use Rattle.wf_flat.specs.declared.event.Actor.{Actor}
use Rattle.wf_flat.specs.declared.event.Actor.TheVariants as actor
use Rattle.wf_flat.specs.declared.event.Entry.{Entry}
use Rattle.wf_flat.specs.declared.event.Event.{Event}
use Rattle.wf_flat.specs.declared.event.Event.TheVariants.{Fetch, Look, Take, Put, Swap, Miss, End, Again, Wait, Enter, Sync, Trap, Exit, Out, Idle, Map, Going, Ending, Gone, Born, Move, Dead, Refused}
use Rattle.wf_flat.specs.declared.event.WaitFor.TheVariants as wait
use Rattle.wf_outside.specs.declared.refusal.Refusal.{Refusal}
use Rattle.wf_outside.specs.declared.refusal.Refusal.TheVariants.{Argument, Overlap, Absent, Leaving, NoFrames, NoView, NotEmpty, Inside, Views, Number, Lacks}
use Rattle.wf_journal.specs.Fields.{◌>>=◌, word_at, field, ended, one, two, three, four, hex64, hex32, decimal64, decimal32, decimal8, wide_hex, right_of, patch_of, actor_of}

-- a hart's event in a try: its name, and what stands behind the name
unfoldable pub try_of : List ℕ → List ℕ → Option Event
try_of name rest =
    if bytes_eq name (codes "fetch")
    then option_map (λ x. Fetch x.0 x.1) (two hex64 (wide_hex 8 (2 ^ 32 - 1)) rest)
    else (if bytes_eq name (codes "end") then option_map End (one hex64 rest)
    else (if bytes_eq name (codes "look")
    then option_map (λ x. Look x.0 x.1 x.2) (three hex64 decimal8 hex64 rest)
    else (if bytes_eq name (codes "put")
    then option_map (λ x. Put x.0 x.1 x.2) (three hex64 decimal8 hex64 rest)
    else (if bytes_eq name (codes "take") then option_map Take (one hex32 rest)
    else (if bytes_eq name (codes "swap")
    then option_map (λ x. Swap x.0 x.1 x.2 x.3) (four hex64 decimal8 hex64 hex64 rest)
    else (if bytes_eq name (codes "miss") then option_map Miss (one hex64 rest)
    else None))))))

-- what a try waits for
unfoldable pub wait_of : List ℕ → List ℕ → Option Event
wait_of what rest =
    if bytes_eq what (codes "page") then option_map (λ page. Wait (wait.Page page)) (one hex32 rest)
    else (if bytes_eq what (codes "kernel")
    then option_map (λ a. Wait (wait.Kernel a)) (one actor_of rest)
    else None)

-- how a try ends, or a call: its name, and what stands behind the name
unfoldable pub step_of : List ℕ → List ℕ → Option Event
step_of name rest =
    if bytes_eq name (codes "enter") then ended rest Enter
    else (if bytes_eq name (codes "sync")
    then option_map (λ x. Sync x.0 x.1) (two decimal32 hex32 rest)
    else (if bytes_eq name (codes "again") then option_map Again (one hex32 rest)
    else (if bytes_eq name (codes "wait") then (word_at rest >>= λ what. wait_of what.0 what.1)
    else (if bytes_eq name (codes "trap")
    then option_map (λ x. Trap x.0 x.1) (two decimal8 hex64 rest)
    else (if bytes_eq name (codes "exit") then option_map Exit (one decimal64 rest)
    else (if bytes_eq name (codes "out") then option_map Out (one (wide_hex 2 255) rest)
    else (if bytes_eq name (codes "idle") then ended rest Idle
    else None)))))))

-- `worn`, where it stands behind the page
abbrev pub worn_of : ℕ → Option (List ℕ × List ℕ) → Option Event
worn_of page None = None
worn_of page (Some word) =
    if bytes_eq word.0 (codes "worn") then ended word.1 (Gone page true) else None

-- a page that has left
abbrev pub gone_with : ℕ → List ℕ → Option Event
gone_with page [] = Some (Gone page false)
gone_with page (c ∷ cs) = worn_of page (word_at (c ∷ cs))

-- a Gone: the number of its page, and `worn` or nothing
unfoldable pub gone_of : List ℕ → Option Event
gone_of rest = field hex32 rest >>= λ page. gone_with page.0 page.1

-- a change of pages or of generations: its name, and what stands behind the name
unfoldable pub change_of : List ℕ → List ℕ → Option Event
change_of name rest =
    if bytes_eq name (codes "map")
    then option_map (λ x. Map x.0 x.1 x.2 x.3)
    (four hex32 decimal64 right_of (patch_of (codes "z")) rest)
    else (if bytes_eq name (codes "going")
    then option_map (λ x. Going x.0 x.1) (two hex32 decimal64 rest)
    else (if bytes_eq name (codes "ending") then option_map Ending (one hex32 rest)
    else (if bytes_eq name (codes "gone") then gone_of rest
    else (if bytes_eq name (codes "born")
    then option_map (λ x. Born x.0 x.1 x.2)
    (three decimal32 decimal32 (patch_of (codes "-")) rest)
    else (if bytes_eq name (codes "move") then option_map Move (one decimal32 rest)
    else (if bytes_eq name (codes "dead") then option_map Dead (one decimal32 rest)
    else None))))))

-- the only number of births that `views` tells
abbrev pub views_of : List ℕ → Option Refusal
views_of word = if bytes_eq word (codes "1024") then Some Views else None

-- why a call was refused: the name of the reason, and what stands behind it
unfoldable pub reason_of : List ℕ → List ℕ → Option Refusal
reason_of name rest =
    if bytes_eq name (codes "argument") then ended rest Argument
    else (if bytes_eq name (codes "overlap") then option_map Overlap (one hex32 rest)
    else (if bytes_eq name (codes "absent") then option_map Absent (one hex32 rest)
    else (if bytes_eq name (codes "leaving") then option_map Leaving (one hex32 rest)
    else (if bytes_eq name (codes "noframes")
    then option_map (λ x. NoFrames x.0 x.1) (two decimal64 decimal64 rest)
    else (if bytes_eq name (codes "noview") then option_map NoView (one decimal64 rest)
    else (if bytes_eq name (codes "notempty") then option_map NotEmpty (one decimal8 rest)
    else (if bytes_eq name (codes "inside") then option_map Inside (one hex64 rest)
    else (if bytes_eq name (codes "views") then one views_of rest
    else (if bytes_eq name (codes "number") then option_map Number (one decimal64 rest)
    else (if bytes_eq name (codes "lacks") then option_map Lacks (one decimal64 rest)
    else None))))))))))

-- a refusal: behind its name the reason
abbrev pub refused_of : List ℕ → List ℕ → Option Event
refused_of name rest =
    if bytes_eq name (codes "refused")
    then (word_at rest >>= λ why. option_map Refused (reason_of why.0 why.1))
    else None

-- the first event where there is one, else the other
abbrev pub or_else : Option Event → Option Event → Option Event
or_else (Some e) other = Some e
or_else None other = other

-- an event by its name and what stands behind the name
unfoldable pub event_of : List ℕ → List ℕ → Option Event
event_of name rest =
    or_else (try_of name rest)
    (or_else (step_of name rest) (or_else (change_of name rest) (refused_of name rest)))

-- an actor of a run with so many harts
abbrev pub there : ℕ → Actor → Option Actor
there harts (actor.Hart h) = if nat_lt h harts then Some (actor.Hart h) else None
there harts actor.Kernel = Some actor.Kernel

-- the entry of a line, in a run with so many harts
unfoldable pub entry_of : ℕ → List ℕ → Option Entry
entry_of harts line = do
  named ← actor_of (before 32 line)
  acts ← there harts named
  name ← word_at (from 32 line)
  event ← event_of name.0 name.1
  Some (record { actor = acts; event = event })
