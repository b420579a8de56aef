use Rattle.std.proofs.Common.{Ok, Err, arith}
use Rattle.std.proofs.lemmas.List.Sorted.{searched}
use Rattle.wf_outside.proofs.RisingLemmas.{rising_le}
use Rattle.elf_read.proofs.NameLemmas.{first_found}
use Rattle.elf_read.proofs.names.first_from.Goals as goal

pub returns-in-Ok : goal.returns-in-Ok
returns-in-Ok c =
    let found = searched c.args.places.now c.args.at (Ok c.in-Ok.i) c.in-Ok.ensures.position (rising_le c.args.places.now c.requires) in
    first_found c.args.places.now c.args.at c.in-Ok.i c.requires found.0 found.1

pub returns-in-Err : goal.returns-in-Err
returns-in-Err c =
    let found = searched c.args.places.now c.args.at (Err c.in-Err.i) c.in-Err.ensures.position (rising_le c.args.places.now c.requires) in
    record { bound = found.0; before = found.1; behind = λ k l h. omega (arith, found.2 k l h) }
