use Rattle.std.proofs.Common.{◌≡◌, ◌∙◌, Err, Ok, ap, rules}
use Rattle.std.proofs.lemmas.Result.{err_from_is_err_and}
use Rattle.patch_build.specs.Builds.{IsFault, built_of}
use Rattle.wf_patches.proofs.FetchLemmas.{cause_fault, cause_file, cause_object, found_built}
use Rattle.wf_patches.proofs.fetching.fetch_patch.Goals as goal

pub returns-in_err-file-clause-cause : goal.returns-in_err-file-clause-cause
returns-in_err-file-clause-cause g c =
    let p = err_from_is_err_and c.from_residual.result c.from_residual.ensures.1 in
    rw (p.1 ∙ ap Err p.2) (cause_file _ c.args.patch c.args.base.now c.args.name.now _ c.in_err-file.ensures.cause)

pub returns-in_err-object-clause-cause : goal.returns-in_err-object-clause-cause
returns-in_err-object-clause-cause g c =
    let named : c.bytes.result.now ≡ c.in_ok-file.file.object = search rules in
    let p = err_from_is_err_and c.from_residual-in_err-object.result c.from_residual-in_err-object.ensures.1 in
    rw (p.1 ∙ ap Err p.2)
    (cause_object _ _ c.in_ok-file.ensures.holds c.args.patch c.args.base.now c.args.name.now c.in_ok-file.file c.bytes.result.now named _ c.in_ok-file.ensures.found c.in_err-object.ensures.cause)

pub returns-in-Ok-clause-found : goal.returns-in-Ok-clause-found
returns-in-Ok-clause-found g c =
    let named : c.bytes.result.now ≡ c.in_ok-file.file.object = search rules in
    let built : built_of c.in_ok-file.file c.in_ok-object.object c.args.base.now.names c.args.base.now.area ≡ Ok c.in-Ok.built = search rules in
    found_built _ _ c.in_ok-file.ensures.holds c.args.patch c.args.base.now c.args.name.now c.in_ok-file.file c.bytes.result.now named c.in_ok-object.object c.in-Ok.built
    c.in_ok-file.ensures.found c.in_ok-object.ensures.found built

pub returns-clause-cause : goal.returns-clause-cause
returns-clause-cause g c =
    let named : c.bytes.result.now ≡ c.in_ok-file.file.object = search rules in
    let fault : IsFault (built_of c.in_ok-file.file c.in_ok-object.object c.args.base.now.names c.args.base.now.area) c.in-Err.fault = search rules in
    cause_fault _ _ c.in_ok-file.ensures.holds c.args.patch c.args.base.now c.args.name.now c.in_ok-file.file c.bytes.result.now named c.in_ok-object.object c.in-Err.fault _
    c.in_ok-file.ensures.found c.in_ok-object.ensures.found fault c.fault_status.ensures.value
