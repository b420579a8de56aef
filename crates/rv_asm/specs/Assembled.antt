-- What a source means.
use Rattle.std.specs.Prelude.{◌≡◌, ◌≤◌, ℕ, ◌^◌, List, ◌++◌, codes, length, map, nat_lt, Option, Some, None, Result, Ok, Err, if◌then◌else◌}
use Rattle.std.specs.Option.{option_map_or}
use Rattle.elf_write.specs.declared.module.Form.{Form}
use Rattle.elf_write.specs.declared.module.Form.TheVariants.{Exec, Object}
use Rattle.elf_write.specs.declared.module.ModSymbol.{ModSymbol}
use Rattle.elf_write.specs.Layout.{file_length}
use Rattle.elf_write.specs.Modules.{ModuleValue}
use Rattle.elf_write.specs.Parts.{globals, locals}
use Rattle.wf_text.specs.Lines.{lines_of}
use Rattle.rv_asm.specs.declared.fault.AsmFault.{AsmFault}
use Rattle.rv_asm.specs.declared.fault.AsmFault.TheVariants as fault
use Rattle.rv_asm.specs.declared.fault.AsmRule.TheVariants as rule
use Rattle.rv_asm.specs.Answers.{◌>>=◌}
use Rattle.rv_asm.specs.FirstPass.{start, surveyed}
use Rattle.rv_asm.specs.Drafts.{symbol_names}
use Rattle.rv_asm.specs.Labels.{symbol_named}
use Rattle.rv_asm.specs.Links.{by_section, link_names, links_of, outside_names, outside_symbol, rela_of}
use Rattle.rv_asm.specs.Names.{pcrel_names}
use Rattle.rv_asm.specs.SecondPass.{DraftValue, blank, drafted}

-- where execution begins: at _start where it is defined, and else at 0x10000; an object tells none
abbrev pub entry_point : Form → List ModSymbol → ℕ
entry_point Exec symbols =
    option_map_or (λ s. s.value) (symbol_named (codes "_start") symbols) 0x10000
entry_point Object symbols = 0

-- the symbols of a module: the local ones, the global ones, and those that other files define
abbrev pub all_symbols : List ModSymbol → List (List ℕ) → List ModSymbol
all_symbols symbols outside = locals symbols ++ globals symbols ++ map outside_symbol outside

-- the module of a draft, with what it leaves to a linker
unfoldable pub module_of : DraftValue → ModuleValue
module_of d =
    let links = links_of d.labels d.uses in
    let symbols = all_symbols d.symbols (outside_names d.labels (link_names links)) in
    record {
      form = d.form;
      entry = entry_point d.form d.symbols;
      text = d.text;
      rodata = d.rodata;
      rwdata = d.rwdata;
      bss = d.bss;
      symbols = symbols;
      relas = by_section (map (rela_of (symbol_names symbols)) links);
    }

-- the module of a draft, unless it has 2 ^ 32 symbols or more
abbrev pub IsModuleOf : DraftValue → Option ModuleValue → Type 0
IsModuleOf d None = 2 ^ 32 ≤ length (module_of d).symbols
IsModuleOf d (Some m) = m ≡ module_of d

-- a module whose file has fewer than 2 ^ 32 bytes; else the last line is Range
unfoldable pub fitting : ℕ → ModuleValue → Result ModuleValue AsmFault
fitting last m = if nat_lt (file_length m) (2 ^ 32) then Ok m else Err (fault.At last rule.Range)

-- The module that a source means; or the first line that is Syntax or Twice, or else the first that
-- is Unknown or Range.
unfoldable pub assembled : Form → List ℕ → Result ModuleValue AsmFault
assembled form source =
    let lines = lines_of source in (do
      survey ← surveyed form (pcrel_names form lines) 1 lines start
      draft ← drafted 1 lines (blank form survey)
      fitting (length lines) (module_of draft))
