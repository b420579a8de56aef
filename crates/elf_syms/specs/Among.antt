-- Which names of a list count.
use Rattle.std.specs.Prelude.{List, Bool, true, not}
use Rattle.std.specs.List.{filter}
use Rattle.wf_outside.specs.declared.image.Name.{Name}
use Rattle.elf_syms.specs.declared.among.Among.{Among}
use Rattle.elf_syms.specs.declared.among.Among.TheVariants.{All, Globals, Locals}

-- the name counts
abbrev pub is_among : Among → Name → Bool
is_among All entry = true
is_among Globals entry = entry.global
is_among Locals entry = not entry.global

-- the names that count, in their order
abbrev pub among : Among → List Name → List Name
among which names = filter (is_among which) names
