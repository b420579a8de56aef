use Rattle.std.proofs.Common.{rules, ◌*◌, ◌+◌, length, take_all, ◌∙◌, ap}
use Rattle.elf_load.specs.Loaded.{byte_at}
use Rattle.elf_load.proofs.PlacingLemmas.{no_segment}
use Rattle.elf_load.proofs.FillingLemmas.{byte_step, bytes_told}
use Rattle.elf_load.proofs.filling.fill.Goals as goal

pub loop-load-preserved : goal.loop-load-preserved
loop-load-preserved c = λ k h.
    byte_step c.args.elf.now.bytes (length c.args.elf.now.bytes) c.args.loads.now c.loop-load.load-index no_segment (4096 * c.args.number + k) _ _
    c.requires.rising c.requires.each c.loop-load-test.true (c.copy_part.ensures k h) (c.loop-load.invariant k h)

pub returns : goal.returns
returns c = bytes_told c.args.elf.now.bytes c.args.loads.now (4096 * c.args.number) 4096 c.loop-load.page (search rules)
    (λ k h. c.loop-load.invariant k h ∙ ap (λ ss. byte_at c.args.elf.now.bytes ss (4096 * c.args.number + k)) (take_all c.loop-load.load-index c.args.loads.now c.loop-load-test.false))
