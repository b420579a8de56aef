use Rattle.std.proofs.Common.{◌≡◌, ◌⊎◌, ◌∙◌, ℕ, List, Option, Err, Ok, subst, ap, rules}
use Rattle.std.specs.Prelude.{IfSome}
use Rattle.std.proofs.lemmas.Result.{err_from_is_err_and}
use Rattle.wf_outside.specs.Files.{File, first_bytes}
use Rattle.wf_fetch.specs.Stages.{IsReadFault}
use Rattle.wf_patches.specs.Needed as patches
use Rattle.wf_patches.specs.Needed.{held_in}
use Rattle.wf_patches.specs.Stages.{patches_stage}
use Rattle.wf_script.specs.Commands.{ScriptValue}
use Rattle.wf_run.specs.Stages.{RunFilesValue, held_stage, script_stage}
use Rattle.wf_run.proofs.FileLemmas.{files_held, patches_told, script_told}
use Rattle.wf_patches.proofs.NeedLemmas.{Rises, counts_more, err_holds, err_shelf, rises_more, some_more}
use Rattle.wf_run.proofs.NeedLemmas.{needed_patches, needed_script}
use Rattle.wf_run.proofs.files.fetch_files.Goals as goal

pub returns-in_err-script-clause-cause : goal.returns-in_err-script-clause-cause
returns-in_err-script-clause-cause g c =
    let holds = g.S.Shelf.holds c.args.shelf.now in
    let back = err_from_is_err_and c.from_residual-in_err-script.result c.from_residual-in_err-script.ensures.1 in
    let cause = subst (λ (held : Option (List File)). IfSome held (λ files. IsReadFault c.in_err-script.field-0.0 ⊎ (script_stage c.args.sizes.harts (first_bytes c.args.script_name.now files) ≡ Err c.in_err-script.field-0.0)))
    c.fetch_image.ensures.holds c.in_err-script.ensures.cause in
    err_holds c.from_residual-in_err-script.result c.in_err-script.field-0.0
    (λ status. IfSome holds (λ files. IsReadFault status ⊎ (held_stage c.args.sizes (held_in files) c.args.image_name.now c.args.script_name.now ≡ Err status)))
    (back.1 ∙ ap Err back.2)
    (script_told holds c.args.sizes c.args.image_name.now c.args.script_name.now c.in_ok-image.image c.in_err-script.field-0.0 c.in_ok-image.ensures.found cause)

pub returns-in_err-script-clause-needed : goal.returns-in_err-script-clause-needed
returns-in_err-script-clause-needed g c = λ e.
    let back = err_from_is_err_and c.from_residual-in_err-script.result c.from_residual-in_err-script.ensures.1 in
    let status = err_shelf c.from_residual-in_err-script.result c.in_err-script.field-0.0 (back.1 ∙ ap Err back.2) e in
    let old = g.S.Shelf.faults c.args.shelf.now in
    let mid = g.S.Shelf.faults c.fetch_image.new.shelf in
    let now = g.S.Shelf.faults c.fetch_script.new.shelf in
    needed_script (g.S.Shelf.holds c.args.shelf.now) c.args.sizes c.args.image_name.now c.args.script_name.now c.in_ok-image.image (Rises old now) c.in_ok-image.ensures.found
    (rises_more old mid now c.fetch_image.ensures.counts c.args.script_name.now (c.in_err-script.ensures.shelf (ap Err status)))

pub returns-in_err-deltas-clause-cause : goal.returns-in_err-deltas-clause-cause
returns-in_err-deltas-clause-cause g c =
    let holds = g.S.Shelf.holds c.args.shelf.now in
    let kept : g.S.Shelf.holds c.fetch_script.new.shelf ≡ holds = c.fetch_script.ensures.holds ∙ c.fetch_image.ensures.holds in
    let same : c.deref.result.now ≡ c.in_ok-script.script.patches = c.deref.ensures.value ∙ ap (λ (s : ScriptValue). s.patches) c.script.view_is in
    let script = subst (λ (held : Option (List File)). IfSome held (λ files. script_stage c.args.sizes.harts (first_bytes c.args.script_name.now files) ≡ Ok c.in_ok-script.script)) c.fetch_image.ensures.holds c.in_ok-script.ensures.found in
    let back = err_from_is_err_and c.from_residual-in_err-deltas.result c.from_residual-in_err-deltas.ensures.1 in
    let told = subst (λ (held : Option (List File)). IfSome held (λ files. IsReadFault c.in_err-deltas.field-0.0 ⊎ (patches_stage (held_in files) c.in_ok-image.image c.deref.result.now ≡ Err c.in_err-deltas.field-0.0)))
    kept c.in_err-deltas.ensures.cause in
    let cause = subst (λ (names : List (List ℕ)). IfSome holds (λ files. IsReadFault c.in_err-deltas.field-0.0 ⊎ (patches_stage (held_in files) c.in_ok-image.image names ≡ Err c.in_err-deltas.field-0.0))) same told in
    err_holds c.from_residual-in_err-deltas.result c.in_err-deltas.field-0.0
    (λ status. IfSome holds (λ files. IsReadFault status ⊎ (held_stage c.args.sizes (held_in files) c.args.image_name.now c.args.script_name.now ≡ Err status)))
    (back.1 ∙ ap Err back.2)
    (patches_told holds c.args.sizes c.args.image_name.now c.args.script_name.now c.in_ok-image.image c.in_ok-script.script c.in_err-deltas.field-0.0 c.in_ok-image.ensures.found script cause)

pub returns-in_err-deltas-clause-shelf : goal.returns-in_err-deltas-clause-shelf
returns-in_err-deltas-clause-shelf g c = λ e.
    let back = err_from_is_err_and c.from_residual-in_err-deltas.result c.from_residual-in_err-deltas.ensures.1 in
    let status = err_shelf c.from_residual-in_err-deltas.result c.in_err-deltas.field-0.0 (back.1 ∙ ap Err back.2) e in
    let old = g.S.Shelf.faults c.args.shelf.now in
    let mid = g.S.Shelf.faults c.fetch_script.new.shelf in
    let now = g.S.Shelf.faults c.fetch_patches.new.shelf in
    let le = counts_more old (g.S.Shelf.faults c.fetch_image.new.shelf) mid c.fetch_image.ensures.counts c.fetch_script.ensures.counts in
    some_more old mid now le (c.in_err-deltas.ensures.shelf (ap Err status))

pub returns-in_err-deltas-clause-needed : goal.returns-in_err-deltas-clause-needed
returns-in_err-deltas-clause-needed g c = λ e.
    let holds = g.S.Shelf.holds c.args.shelf.now in
    let kept : g.S.Shelf.holds c.fetch_script.new.shelf ≡ holds = c.fetch_script.ensures.holds ∙ c.fetch_image.ensures.holds in
    let same : c.deref.result.now ≡ c.in_ok-script.script.patches = c.deref.ensures.value ∙ ap (λ (s : ScriptValue). s.patches) c.script.view_is in
    let script = subst (λ (held : Option (List File)). IfSome held (λ files. script_stage c.args.sizes.harts (first_bytes c.args.script_name.now files) ≡ Ok c.in_ok-script.script)) c.fetch_image.ensures.holds c.in_ok-script.ensures.found in
    let back = err_from_is_err_and c.from_residual-in_err-deltas.result c.from_residual-in_err-deltas.ensures.1 in
    let status = err_shelf c.from_residual-in_err-deltas.result c.in_err-deltas.field-0.0 (back.1 ∙ ap Err back.2) e in
    let old = g.S.Shelf.faults c.args.shelf.now in
    let mid = g.S.Shelf.faults c.fetch_script.new.shelf in
    let now = g.S.Shelf.faults c.fetch_patches.new.shelf in
    let le = counts_more old (g.S.Shelf.faults c.fetch_image.new.shelf) mid c.fetch_image.ensures.counts c.fetch_script.ensures.counts in
    let told = subst (λ (held : Option (List File)). IfSome held (λ files. patches.OfNeeded (held_in files) c.in_ok-image.image c.deref.result.now (Rises mid now))) kept (c.in_err-deltas.ensures.needed (ap Err status)) in
    let needed = subst (λ (names : List (List ℕ)). IfSome holds (λ files. patches.OfNeeded (held_in files) c.in_ok-image.image names (Rises mid now))) same told in
    needed_patches holds c.args.sizes c.args.image_name.now c.args.script_name.now c.in_ok-image.image c.in_ok-script.script (Rises old now) (Rises mid now) c.in_ok-image.ensures.found script (rises_more old mid now le) needed

pub returns-clause-found : goal.returns-clause-found
returns-clause-found g c =
    let holds = g.S.Shelf.holds c.args.shelf.now in
    let kept : g.S.Shelf.holds c.fetch_script.new.shelf ≡ holds = c.fetch_script.ensures.holds ∙ c.fetch_image.ensures.holds in
    let same : c.deref.result.now ≡ c.in_ok-script.script.patches = c.deref.ensures.value ∙ ap (λ (s : ScriptValue). s.patches) c.script.view_is in
    let script = subst (λ (held : Option (List File)). IfSome held (λ files. script_stage c.args.sizes.harts (first_bytes c.args.script_name.now files) ≡ Ok c.in_ok-script.script)) c.fetch_image.ensures.holds c.in_ok-script.ensures.found in
    let told = subst (λ (held : Option (List File)). IfSome held (λ files. patches_stage (held_in files) c.in_ok-image.image c.deref.result.now ≡ Ok c.in_ok-deltas.deltas.items)) kept c.in_ok-deltas.ensures.found in
    let found = subst (λ (names : List (List ℕ)). IfSome holds (λ files. patches_stage (held_in files) c.in_ok-image.image names ≡ Ok c.in_ok-deltas.deltas.items)) same told in
    subst (λ (made : RunFilesValue). IfSome holds (λ files. held_stage c.args.sizes (held_in files) c.args.image_name.now c.args.script_name.now ≡ Ok made)) (search rules)
    (files_held holds c.args.sizes c.args.image_name.now c.args.script_name.now c.in_ok-image.image c.in_ok-script.script c.in_ok-deltas.deltas.items c.in_ok-image.ensures.found script found)
