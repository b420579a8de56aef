-- The text of an entry: its actor, a space, and its event. Addresses, page numbers, words and
-- values are lower-case hexadecimal without leading zeros, but for the word of a fetch, which has
-- eight digits, and the byte of an out, which has two; all other numbers are decimal.
use Rattle.std.specs.Prelude.{ℕ, List, ◌∷◌, ◌++◌, Bool, true, false, codes, Option, Some, None}
use Rattle.std.specs.Fmt.{decimal}
use Rattle.wf_text.specs.Numbers.{hex, last_hex}
use Rattle.wf_flat.specs.declared.event.Actor.{Actor}
use Rattle.wf_flat.specs.declared.event.Actor.TheVariants.{Hart, Kernel}
use Rattle.wf_flat.specs.declared.event.Event.{Event}
use Rattle.wf_flat.specs.declared.event.Event.TheVariants.{Fetch, Look, Take, Put, Swap, Miss, End, Again, Wait, Enter, Sync, Trap, Exit, Out, Idle, Map, Going, Ending, Gone, Born, Move, Dead, Refused}
use Rattle.wf_flat.specs.declared.event.WaitFor.{WaitFor}
use Rattle.wf_flat.specs.declared.event.WaitFor.TheVariants as wait
use Rattle.wf_outside.specs.declared.refusal.Refusal.{Refusal}
use Rattle.wf_outside.specs.declared.refusal.Refusal.TheVariants.{Argument, Overlap, Absent, Leaving, NoFrames, NoView, NotEmpty, Inside, Views, Number, Lacks}
use Rattle.wf_flat.specs.declared.event.Entry.{Entry}

-- behind a space
abbrev pub spaced : List ℕ → List ℕ
spaced text = 32 ∷ text

-- a hart with its number, or the kernel's own actor
unfoldable pub actor_text : Actor → List ℕ
actor_text (Hart h) = codes "h" ++ decimal h
actor_text Kernel = codes "k"

-- read and write, or read alone
abbrev pub right_text : Bool → List ℕ
right_text true = codes "rw"
right_text false = codes "r"

-- a patch, or what stands for none
abbrev pub patch_text : List ℕ → Option ℕ → List ℕ
patch_text none None = none
patch_text none (Some k) = codes "p" ++ decimal k

-- a name, and an access: its address, its width and its value
abbrev pub access_text : List ℕ → ℕ → ℕ → ℕ → List ℕ
access_text name va width value =
    name ++ spaced (hex va) ++ spaced (decimal width) ++ spaced (hex value)

-- a name, and pages: their first and their count
abbrev pub range_text : List ℕ → ℕ → ℕ → List ℕ
range_text name page n = name ++ spaced (hex page) ++ spaced (decimal n)

-- a name, a number in decimal and one in hexadecimal
abbrev pub numbers_text : List ℕ → ℕ → ℕ → List ℕ
numbers_text name m n = name ++ spaced (decimal m) ++ spaced (hex n)

-- a fetch: the pc and the word
abbrev pub fetch_text : ℕ → ℕ → List ℕ
fetch_text pc word = codes "fetch" ++ spaced (hex pc) ++ spaced (last_hex 8 word)

-- an exchange: its address and width, and both values
abbrev pub swap_text : ℕ → ℕ → ℕ → ℕ → List ℕ
swap_text va width old new = access_text (codes "swap") va width old ++ spaced (hex new)

-- pages that were mapped, with their right and the patch that they are of
abbrev pub map_text : ℕ → ℕ → Bool → Option ℕ → List ℕ
map_text page n write patch =
    range_text (codes "map") page n ++ spaced (right_text write)
    ++ spaced (patch_text (codes "z") patch)

-- a generation that was made, of its parent and a patch
abbrev pub born_text : ℕ → ℕ → Option ℕ → List ℕ
born_text generation parent patch =
    codes "born" ++ spaced (decimal generation) ++ spaced (decimal parent)
    ++ spaced (patch_text (codes "-") patch)

-- too few frames: how many are needed, and how many are free
abbrev pub frames_refusal : ℕ → ℕ → List ℕ
frames_refusal need free =
    codes "refused noframes" ++ spaced (decimal need) ++ spaced (decimal free)

-- what a try waits for
unfoldable pub wait_text : WaitFor → List ℕ
wait_text (wait.Page page) = codes "wait page" ++ spaced (hex page)
wait_text (wait.Kernel actor) = codes "wait kernel" ++ spaced (actor_text actor)

-- why a call was refused
unfoldable pub refusal_text : Refusal → List ℕ
refusal_text Argument = codes "refused argument"
refusal_text (Overlap page) = codes "refused overlap" ++ spaced (hex page)
refusal_text (Absent page) = codes "refused absent" ++ spaced (hex page)
refusal_text (Leaving page) = codes "refused leaving" ++ spaced (hex page)
refusal_text (NoFrames need free) = frames_refusal need free
refusal_text (NoView generation) = codes "refused noview" ++ spaced (decimal generation)
refusal_text (NotEmpty hart) = codes "refused notempty" ++ spaced (decimal hart)
refusal_text (Inside at) = codes "refused inside" ++ spaced (hex at)
refusal_text Views = codes "refused views 1024"
refusal_text (Number n) = codes "refused number" ++ spaced (decimal n)
refusal_text (Lacks n) = codes "refused lacks" ++ spaced (decimal n)

-- what happened, with its values
unfoldable pub event_text : Event → List ℕ
event_text (Fetch pc word) = fetch_text pc word
event_text (Look va width value) = access_text (codes "look") va width value
event_text (Take page) = codes "take" ++ spaced (hex page)
event_text (Put va width value) = access_text (codes "put") va width value
event_text (Swap va width old new) = swap_text va width old new
event_text (Miss va) = codes "miss" ++ spaced (hex va)
event_text (End pc) = codes "end" ++ spaced (hex pc)
event_text (Again page) = codes "again" ++ spaced (hex page)
event_text (Wait on) = wait_text on
event_text Enter = codes "enter"
event_text (Sync generation page) = numbers_text (codes "sync") generation page
event_text (Trap cause value) = numbers_text (codes "trap") cause value
event_text (Exit code) = codes "exit" ++ spaced (decimal code)
event_text (Out byte) = codes "out" ++ spaced (last_hex 2 byte)
event_text Idle = codes "idle"
event_text (Map page n write patch) = map_text page n write patch
event_text (Going page n) = range_text (codes "going") page n
event_text (Ending page) = codes "ending" ++ spaced (hex page)
event_text (Gone page false) = codes "gone" ++ spaced (hex page)
event_text (Gone page true) = codes "gone" ++ spaced (hex page) ++ spaced (codes "worn")
event_text (Born generation parent patch) = born_text generation parent patch
event_text (Move generation) = codes "move" ++ spaced (decimal generation)
event_text (Dead generation) = codes "dead" ++ spaced (decimal generation)
event_text (Refused reason) = refusal_text reason

-- the line of an entry, without its newline
abbrev pub entry_bytes : Entry → List ℕ
entry_bytes entry = actor_text entry.actor ++ spaced (event_text entry.event)
