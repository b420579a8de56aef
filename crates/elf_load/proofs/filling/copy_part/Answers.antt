use Rattle.std.proofs.Common.{rules, arith, ◌*◌, length}
use Rattle.std.proofs.lemmas.Grind.{common_steps}
use Rattle.elf_load.proofs.FillingLemmas.{part_copied, lies_in_file}
use Rattle.elf_load.proofs.filling.copy_part.Goals as goal

pub returns-then-from-to : goal.returns-then-from-to
returns-then-from-to c = λ k h.
    part_copied c.args.elf.now.bytes c.args.page.now c.copy_from_slice.new.self c.args.segment.now (4096 * c.args.number) c.max-from.result c.min-to.result k
    c.requires.whole (lies_in_file (length c.args.elf.now.bytes) c.args.segment.now c.requires.placeable) (search rules) (search rules) c.if-from-to.true (search rules) (grind (arith, common_steps)) h
