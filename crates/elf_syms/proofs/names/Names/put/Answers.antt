use Rattle.std.proofs.Common.{ap, sym, ◌∙◌, Result, Ok, Err}
use Rattle.std.specs.Result.{OnErr}
use Rattle.elf_syms.specs.Among.{among}
use Rattle.elf_syms.specs.Names.{found_for}
use Rattle.elf_syms.specs.Telling.{or_else, told_of}
use Rattle.elf_syms.proofs.MapLemmas.{found_for-names_in}
use Rattle.elf_syms.proofs.names.Names.put.Goals as goal

-- what holds anyway holds of an error
always : {T E : Type 0} (r : Result T E) (P : Type 0) → P → OnErr r P
always (Ok x) P p = tt
always (Err e) P p = p

pub returns-in_err-reserve_all-clause-memory : goal.returns-in_err-reserve_all-clause-memory
returns-in_err-reserve_all-clause-memory c =
    always c.from_residual-in_err-reserve_all.result _ (λ name.
    found_for-names_in c.reserve_all.new.entries name
    ∙ c.in_err-reserve_all.ensures.same name
    ∙ sym (found_for-names_in c.self.inside.entries name)
    ∙ ap (λ v. found_for v name) c.self.view_is)

pub returns-clause-ok : goal.returns-clause-ok
returns-clause-ok c = λ name.
    let all = among c.args.which c.args.names.now in
    found_for-names_in c.write_all.new.entries name
    ∙ c.write_all.ensures name
    ∙ ap (or_else (told_of all name))
    (c.in_ok-reserve_all.ensures.same name ∙ sym (found_for-names_in c.self.inside.entries name) ∙ ap (λ v. found_for v name) c.self.view_is)
