-- The exit status of a status, and its line.
use Rattle.std.specs.Prelude.{◌++◌, ℕ, List, [], false, codes}
use Rattle.std.specs.Fmt.{decimal, digits}
use Rattle.patch_rules.specs.RuleText.{line_rule_text, link_rule_text, section_rule_text}
use Rattle.wf_status.specs.declared.status.Status.{Status}
use Rattle.wf_status.specs.declared.status.Status.TheVariants.{Done, Words, Image, Patch, Script, Source, Journal, Shelf, Sink, Memory, Limit, Illegal, Unbuilt}
use Rattle.wf_status.specs.declared.status.LimitKind.{LimitKind}
use Rattle.wf_status.specs.declared.status.LimitKind.TheVariants.{File, Units, Patches, Frames}
use Rattle.wf_status.specs.declared.status.Unbuilt.{Unbuilt as UnbuiltPart}
use Rattle.wf_status.specs.declared.status.Unbuilt.TheVariants as unbuilt
use Rattle.wf_status.specs.declared.entries.EntryRule.{EntryRule}
use Rattle.wf_status.specs.declared.entries.EntryRule.TheVariants as entry
use Rattle.wf_status.specs.declared.patches.PatchWhy.{PatchWhy}
use Rattle.wf_status.specs.declared.patches.PatchWhy.TheVariants as patch
use Rattle.wf_status.specs.declared.rules.ImageRule.{ImageRule}
use Rattle.wf_status.specs.declared.sources.SourceRule.{SourceRule}
use Rattle.wf_status.specs.declared.sources.SourceRule.TheVariants as source
use Rattle.wf_status.specs.declared.rules.ImageRule.TheVariants.{Short, Magic, Class, Order, Kind, Machine, Flags, Table, Range, Strings, TlsSegment, Interp, Dynamic, WriteAndRun, HighAddress, TooLarge, SharedPage, NoEntry}
use Rattle.wf_status.specs.Rules.{of_file}

-- the exit status of each end of a command
abbrev pub code_of : Status → ℕ
code_of Done = 0
code_of Words = 1
code_of (Image rule at) = 2
code_of (Patch number fault) = 3
code_of (Script line column) = 4
code_of (Source rule line) = 4
code_of (Journal line) = 4
code_of Shelf = 5
code_of Sink = 6
code_of Memory = 7
code_of (Limit what number most) = 8
code_of (Illegal index rule) = 9
code_of (Unbuilt what) = 10

-- the word for what has a limit
abbrev pub limit_text : LimitKind → List ℕ
limit_text File = codes "file"
limit_text Units = codes "units"
limit_text Patches = codes "patches"
limit_text Frames = codes "frames"

-- the words for what is not built: addresses are hexadecimal, lines decimal
abbrev pub unbuilt_text : UnbuiltPart → List ℕ
unbuilt_text (unbuilt.Script line) = codes "script line " ++ decimal line
unbuilt_text (unbuilt.Step pc) = codes "step " ++ digits 16 false pc

-- the word for a rule of images
abbrev pub rule_text : ImageRule → List ℕ
rule_text Short = codes "short"
rule_text Magic = codes "magic"
rule_text Class = codes "class"
rule_text Order = codes "order"
rule_text Kind = codes "kind"
rule_text Machine = codes "machine"
rule_text Flags = codes "flags"
rule_text Table = codes "table"
rule_text Range = codes "range"
rule_text Strings = codes "strings"
rule_text TlsSegment = codes "tlssegment"
rule_text Interp = codes "interp"
rule_text Dynamic = codes "dynamic"
rule_text WriteAndRun = codes "writeandrun"
rule_text HighAddress = codes "highaddress"
rule_text TooLarge = codes "toolarge"
rule_text SharedPage = codes "sharedpage"
rule_text NoEntry = codes "noentry"

-- the words for why a patch is none
abbrev pub patch_text : PatchWhy → List ℕ
patch_text (patch.Text line) = codes "line " ++ decimal line
patch_text (patch.Elf rule at) =
    codes "object " ++ rule_text (of_file rule) ++ codes " at " ++ decimal at
patch_text (patch.Section index rule) =
    codes "section " ++ decimal index ++ codes " " ++ section_rule_text rule
patch_text (patch.Common symbol) = codes "common " ++ decimal symbol
patch_text (patch.Area pages) = codes "area " ++ decimal pages
patch_text (patch.Line line rule) =
    codes "line " ++ decimal line ++ codes " " ++ line_rule_text rule
patch_text (patch.Link group index rule) =
    codes "relocation "
    ++ decimal group
    ++ codes " "
    ++ decimal index
    ++ codes " "
    ++ link_rule_text rule

-- the word for a rule of sources
abbrev pub source_text : SourceRule → List ℕ
source_text source.Syntax = codes "syntax"
source_text source.Twice = codes "twice"
source_text source.Unknown = codes "unknown"
source_text source.Range = codes "range"

-- the word for what a journal breaks: that of its entry, or `final`
abbrev pub entry_rule_text : EntryRule → List ℕ
entry_rule_text entry.Fetch = codes "fetch"
entry_rule_text entry.Look = codes "look"
entry_rule_text entry.Take = codes "take"
entry_rule_text entry.Put = codes "put"
entry_rule_text entry.Swap = codes "swap"
entry_rule_text entry.Miss = codes "miss"
entry_rule_text entry.End = codes "end"
entry_rule_text entry.Again = codes "again"
entry_rule_text entry.Wait = codes "wait"
entry_rule_text entry.Enter = codes "enter"
entry_rule_text entry.Sync = codes "sync"
entry_rule_text entry.Trap = codes "trap"
entry_rule_text entry.Exit = codes "exit"
entry_rule_text entry.Out = codes "out"
entry_rule_text entry.Idle = codes "idle"
entry_rule_text entry.Map = codes "map"
entry_rule_text entry.Going = codes "going"
entry_rule_text entry.Ending = codes "ending"
entry_rule_text entry.Gone = codes "gone"
entry_rule_text entry.Born = codes "born"
entry_rule_text entry.Move = codes "move"
entry_rule_text entry.Dead = codes "dead"
entry_rule_text entry.Refused = codes "refused"
entry_rule_text entry.Final = codes "final"

-- the line, without its newline; none for a run that was done
abbrev pub line_of : Status → List ℕ
line_of Done = []
line_of Words = codes "wfpatch: words"
line_of (Image rule at) = codes "wfpatch: image " ++ rule_text rule ++ codes " at " ++ decimal at
line_of (Patch number fault) =
    codes "wfpatch: patch " ++ decimal number ++ codes " " ++ patch_text fault
line_of (Script line column) =
    codes "wfpatch: script line " ++ decimal line ++ codes " column " ++ decimal column
line_of (Source rule line) =
    codes "wfpatch: source line " ++ decimal line ++ codes " " ++ source_text rule
line_of (Journal line) = codes "wfpatch: journal line " ++ decimal line
line_of Shelf = codes "wfpatch: shelf"
line_of Sink = codes "wfpatch: sink"
line_of Memory = codes "wfpatch: memory"
line_of (Limit what number most) =
    codes "wfpatch: limit "
    ++ limit_text what
    ++ codes " "
    ++ decimal number
    ++ codes " of "
    ++ decimal most
line_of (Illegal index rule) =
    codes "wfpatch: illegal entry " ++ decimal index ++ codes " " ++ entry_rule_text rule
line_of (Unbuilt what) = codes "wfpatch: unbuilt " ++ unbuilt_text what
