use Rattle.std.proofs.Common.{◌≡◌, ap, refl, subst, ◌∙◌, ℕ, List, Err, Ok}
use Rattle.std.proofs.lemmas.Result.{err_from_is_err_and}
use Rattle.elf_write.specs.declared.module.Form.TheVariants.{Object}
use Rattle.rv_asm.specs.Answers.{IsFaultOf}
use Rattle.wf_outside.specs.MemFiles.{files_of}
use Rattle.wf_gen.specs.Sources.{object_name, object_source, patch_name, patch_text}
use Rattle.wf_gen.specs.Files.{file_of}
use Rattle.wf_gen.proofs.SourceLemmas.{patch_fault, patch_ok, two_more}
use Rattle.wf_gen.proofs.files.push_patch.Goals as goal

pub returns-in_err-object : goal.returns-in_err-object
returns-in_err-object c =
    let p = err_from_is_err_and c.from_residual-in_err-object.result c.from_residual-in_err-object.ensures.1 in
    rw (p.1 ∙ ap Err p.2)
    (patch_fault c.args.j (files_of c.args.files.now.items) c.in_err-object.field-0.0
    (subst (λ (source : List ℕ). IsFaultOf c.in_err-object.field-0.0 (file_of Object source)) (c.deref.ensures.value ∙ c.in_ok-object_source.ensures) c.in_err-object.ensures))

pub returns : goal.returns
returns c =
    let source : c.deref.result.now ≡ object_source c.args.j = c.deref.ensures.value ∙ c.in_ok-object_source.ensures in
    patch_ok c.args.j (files_of c.args.files.now.items) _ c.in_ok-object.object.items
    (subst (λ (s : List ℕ). file_of Object s ≡ Ok c.in_ok-object.object.items) source c.in_ok-object.ensures)
    (two_more c.args.files.now.items _ _ _ _ c.in_ok-text.text c.in_ok-object.object (patch_name c.args.j) (object_name c.args.j) (patch_text c.args.j) c.in_ok-object.object.items c.in_ok-push.ensures.items
    c.in_ok-push-2.ensures.items (c.from.ensures ∙ c.in_ok-patch_name.ensures) c.in_ok-text.ensures (c.from-2.ensures ∙ c.in_ok-object_name.ensures) refl)
