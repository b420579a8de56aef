-- What a word of a script's line may be.
use Rattle.std.specs.Prelude.{ℕ, zero, suc, List, ◌-◌, ◌%◌, ◌^◌, ◌==◌, ◌&&◌, nat_lt, Option, Some, None, codes, drop, slice_index, if◌then◌else◌}
use Rattle.std.specs.Str.{bytes_eq}
use Rattle.wf_text.specs.Numbers.{number_of, any_hex}
use Rattle.wf_flat.specs.declared.event.Actor.{Actor}
use Rattle.wf_flat.specs.declared.event.Actor.TheVariants as actor
use Rattle.wf_script.specs.declared.words.Verb.{Verb}
use Rattle.wf_script.specs.declared.words.Verb.TheVariants.{Step, Tick, Run, Patch, Begin, Create, Delete, Tables, Regs, Mem}

-- the first word of a command
unfoldable pub verb_of : List ℕ → Option Verb
verb_of word =
    if bytes_eq word (codes "step") then Some Step
    else (if bytes_eq word (codes "tick") then Some Tick
    else (if bytes_eq word (codes "run") then Some Run
    else (if bytes_eq word (codes "patch") then Some Patch
    else (if bytes_eq word (codes "begin") then Some Begin
    else (if bytes_eq word (codes "create") then Some Create
    else (if bytes_eq word (codes "delete") then Some Delete
    else (if bytes_eq word (codes "tables") then Some Tables
    else (if bytes_eq word (codes "regs") then Some Regs
    else (if bytes_eq word (codes "mem") then Some Mem
    else None)))))))))

-- what stands behind `begin`
abbrev pub begun_of : List ℕ → Option Verb
begun_of word = if bytes_eq word (codes "patch") then Some Patch else None

-- a number, where it is below the limit
abbrev pub below : ℕ → Option ℕ → Option ℕ
below limit None = None
below limit (Some n) = if nat_lt n limit then Some n else None

-- a hart of the run: `h` and its number
unfoldable pub hart_of : ℕ → List ℕ → Option ℕ
hart_of harts word =
    if slice_index word 0 == 104 then below harts (number_of 10 255 (drop 1 word)) else None

-- the hart of this number as an actor, where there is a number
abbrev pub hart_actor : Option ℕ → Option Actor
hart_actor None = None
hart_actor (Some h) = Some (actor.Hart h)

-- an actor: a hart of the run, or `k`
unfoldable pub actor_of : ℕ → List ℕ → Option Actor
actor_of harts word =
    if bytes_eq word (codes "k") then Some actor.Kernel else hart_actor (hart_of harts word)

-- a number, where it is not 0
abbrev pub positive : Option ℕ → Option ℕ
positive None = None
positive (Some zero) = None
positive (Some (suc n)) = Some (suc n)

-- a number from 1 to the most
unfoldable pub count_of : ℕ → List ℕ → Option ℕ
count_of most word = positive (number_of 10 most word)

-- the number of a generation
abbrev pub generation_of : List ℕ → Option ℕ
generation_of word = number_of 10 1023 word

-- an address, where it is a multiple of 8
abbrev pub aligned : Option ℕ → Option ℕ
aligned None = None
aligned (Some va) = if va % 8 == 0 then Some va else None

-- an address of a doubleword below 2 ^ 38: `0x` and hexadecimal digits
unfoldable pub address_of : List ℕ → Option ℕ
address_of word =
    if slice_index word 0 == 48 && slice_index word 1 == 120
    then aligned (any_hex (2 ^ 38 - 1) (drop 2 word)) else None
