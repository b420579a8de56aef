use Rattle.std.proofs.Common.{◌≡◌, ap, refl, subst, ◌∙◌, ◌++◌, ℕ, List, [], ◌∷◌, Err, Ok}
use Rattle.std.specs.Prelude.{Vec, codes}
use Rattle.std.specs.declared.alloc.Global.{Global}
use Rattle.std.proofs.lemmas.Result.{err_from_is_err_and}
use Rattle.elf_write.specs.declared.module.Form.TheVariants.{Exec}
use Rattle.rv_asm.specs.Answers.{IsFaultOf}
use Rattle.wf_gen.specs.Sources.{program_source, script_text}
use Rattle.wf_gen.specs.Files.{file_of}
use Rattle.wf_gen.proofs.SourceLemmas.{made_fault, made_ok, program_fault, two_more}
use Rattle.wf_gen.proofs.files.make_files.Goals as goal

pub returns-in_err-program : goal.returns-in_err-program
returns-in_err-program c =
    let p = err_from_is_err_and c.from_residual-in_err-program.result c.from_residual-in_err-program.ensures.1 in
    rw (p.1 ∙ ap Err p.2)
    (program_fault c.args.n c.in_err-program.field-0.0
    (subst (λ (source : List ℕ). IsFaultOf c.in_err-program.field-0.0 (file_of Exec source)) (c.deref.ensures.value ∙ c.in_ok-program_source.ensures) c.in_err-program.ensures))

pub returns-in_err-push_patches : goal.returns-in_err-push_patches
returns-in_err-push_patches c =
    let p = err_from_is_err_and c.from_residual-in_err-push_patches.result c.from_residual-in_err-push_patches.ensures.1 in
    let source : c.deref.result.now ≡ program_source c.args.n = c.deref.ensures.value ∙ c.in_ok-program_source.ensures in
    let one : c.push.new.self.items ≡ [] ++ (c.in_ok-of.field-0, c.in_ok-program.program) ∷ [] =
    c.in_ok-push.ensures.items ∙ ap (λ (xs : List (List ℕ × Vec ℕ Global)). xs ++ (c.in_ok-of.field-0, c.in_ok-program.program) ∷ []) c.new-files.ensures.items in
    rw (p.1 ∙ ap Err p.2)
    (made_fault c.args.n c.in_ok-program.program.items _ c.patch_count.result c.in_err-push_patches.field-0.0
    (subst (λ (s : List ℕ). file_of Exec s ≡ Ok c.in_ok-program.program.items) source c.in_ok-program.ensures)
    (two_more [] _ _ _ _ c.in_ok-program.program c.in_ok-script_text.field-0 (codes "prog.elf") (codes "steps.txt") c.in_ok-program.program.items (script_text c.args.n) one c.in_ok-push-2.ensures.items
    c.in_ok-of.ensures refl c.in_ok-of-2.ensures c.in_ok-script_text.ensures)
    c.patch_count.ensures.value c.in_err-push_patches.ensures)

pub returns : goal.returns
returns c =
    let source : c.deref.result.now ≡ program_source c.args.n = c.deref.ensures.value ∙ c.in_ok-program_source.ensures in
    let one : c.push.new.self.items ≡ [] ++ (c.in_ok-of.field-0, c.in_ok-program.program) ∷ [] =
    c.in_ok-push.ensures.items ∙ ap (λ (xs : List (List ℕ × Vec ℕ Global)). xs ++ (c.in_ok-of.field-0, c.in_ok-program.program) ∷ []) c.new-files.ensures.items in
    made_ok c.args.n c.in_ok-program.program.items _ _ c.patch_count.result
    (subst (λ (s : List ℕ). file_of Exec s ≡ Ok c.in_ok-program.program.items) source c.in_ok-program.ensures)
    (two_more [] _ _ _ _ c.in_ok-program.program c.in_ok-script_text.field-0 (codes "prog.elf") (codes "steps.txt") c.in_ok-program.program.items (script_text c.args.n) one c.in_ok-push-2.ensures.items
    c.in_ok-of.ensures refl c.in_ok-of-2.ensures c.in_ok-script_text.ensures)
    c.patch_count.ensures.value c.in_ok-push_patches.ensures
