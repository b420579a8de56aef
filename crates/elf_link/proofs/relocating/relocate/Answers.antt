use Rattle.std.proofs.Common.{◌≡◌, rules, Some}
use Rattle.elf_link.specs.Links.{place_of}
use Rattle.elf_link.proofs.relocating.relocate.Goals as goal

pub invariant_of-linking : goal.invariant_of-linking
invariant_of-linking c =
    let placed : place_of c.args.places.now c.args.section ≡ Some c.unwrap.result = search rules in
    record { placed = placed; paired = c.in_ok-pairs.ensures.pairs; named = c.in_ok-pairs.ensures.named }
