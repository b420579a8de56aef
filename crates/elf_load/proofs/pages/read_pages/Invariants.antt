use Rattle.std.proofs.Common.{◌≡◌, take, map, not}
use Rattle.std.specs.List.{filter}
use Rattle.elf_load.specs.Segments.{is_text}
use Rattle.elf_load.specs.Loaded.{loaded_text, loaded_data}
use Rattle.elf_load.proofs.pages.read_pages.Given as goal

-- the pages of the numbers so far
abbrev pub invariant-loop-number : goal.invariant-loop-number
invariant-loop-number l = record {
  text : l.contents.text.items ≡ map (loaded_text l.elf.bytes l.loads) (filter (is_text l.loads) (take l.number-index l.numbers));
  pages : l.contents.pages.items ≡ map (loaded_data l.elf.bytes l.loads) (filter (λ n. not (is_text l.loads n)) (take l.number-index l.numbers));
}
