use Rattle.std.proofs.Common.{◌≡◌, None, Some, Err, ap, ◌∙◌, rules}
use Rattle.std.proofs.lemmas.Result.{err_from_is_err_and}
use Rattle.patch_build.specs.Layout.{area_fault, places_of, starts_of}
use Rattle.patch_build.proofs.BuildLemmas.{IsReady, built_from, err_is, failed_from, in_area, in_lines, in_sections, in_symbols}
use Rattle.patch_build.specs.Areas.{IsArea}
use Rattle.patch_build.proofs.FitLemmas.{result_fits}
use Rattle.patch_build.proofs.building.build.Goals as goal

pub returns-in_err-check_sections-clause-fault : goal.returns-in_err-check_sections-clause-fault
returns-in_err-check_sections-clause-fault c =
    let p = err_from_is_err_and c.from_residual.result c.from_residual.ensures.1 in
    err_is _ _ _ (p.1 ∙ ap Err p.2)
    (in_sections c.args.patch.now c.args.object.now c.args.names.now c.args.area.now _ c.in_err-check_sections.ensures.fault)

pub returns-in_err-check_symbols-clause-fault : goal.returns-in_err-check_symbols-clause-fault
returns-in_err-check_symbols-clause-fault c =
    let p = err_from_is_err_and c.from_residual-in_err-check_symbols.result c.from_residual-in_err-check_symbols.ensures.1 in
    err_is _ _ _ (p.1 ∙ ap Err p.2)
    (in_symbols c.args.patch.now c.args.object.now c.args.names.now c.args.area.now _ c.in_ok-check_sections.ensures.ok c.in_err-check_symbols.ensures.fault)

pub returns-in_err-starts-clause-fault : goal.returns-in_err-starts-clause-fault
returns-in_err-starts-clause-fault c =
    let pages : area_fault c.args.area.now.next c.args.object.now.sections ≡ Some c.in_err-starts.field-0.0 = search rules in
    let p = err_from_is_err_and c.from_residual-in_err-starts.result c.from_residual-in_err-starts.ensures.1 in
    err_is _ _ _ (p.1 ∙ ap Err p.2)
    (in_area c.args.patch.now c.args.object.now c.args.names.now c.args.area.now _ c.in_ok-check_sections.ensures.ok c.in_ok-check_symbols.ensures.ok pages)

pub returns-in_err-jumps-clause-fault : goal.returns-in_err-jumps-clause-fault
returns-in_err-jumps-clause-fault c =
    let pages : area_fault c.args.area.now.next c.args.object.now.sections ≡ None = search rules in
    let begun : c.in_ok-starts.starts ≡ starts_of c.args.area.now.next c.args.object.now.sections = search rules in
    let placed : c.as_slice-places.result.now ≡ places_of c.in_ok-starts.starts c.args.object.now.sections = search rules in
    let ready : IsReady c.args.patch.now c.args.object.now c.args.names.now c.args.area.now c.in_ok-starts.starts c.as_slice-places.result.now = record {
      order = record { sections = c.in_ok-check_sections.ensures.ok; symbols = c.in_ok-check_symbols.ensures.ok; pages = pages };
      begun = begun;
      placed = placed;
    } in
    let p = err_from_is_err_and c.from_residual-in_err-jumps.result c.from_residual-in_err-jumps.ensures.1 in
    err_is _ _ _ (p.1 ∙ ap Err p.2)
    (in_lines c.args.patch.now c.args.object.now c.args.names.now c.args.area.now _ _ _ ready c.in_err-jumps.ensures.fault)

pub returns-clause-built : goal.returns-clause-built
returns-clause-built c =
    let pages : area_fault c.args.area.now.next c.args.object.now.sections ≡ None = search rules in
    let begun : c.in_ok-starts.starts ≡ starts_of c.args.area.now.next c.args.object.now.sections = search rules in
    let placed : c.as_slice-places.result.now ≡ places_of c.in_ok-starts.starts c.args.object.now.sections = search rules in
    let ready : IsReady c.args.patch.now c.args.object.now c.args.names.now c.args.area.now c.in_ok-starts.starts c.as_slice-places.result.now = record {
      order = record { sections = c.in_ok-check_sections.ensures.ok; symbols = c.in_ok-check_symbols.ensures.ok; pages = pages };
      begun = begun;
      placed = placed;
    } in
    built_from c.args.patch.now c.args.object.now c.args.names.now c.args.area.now _ _ c.in_ok-jumps.jumps.items c.built_with.result ready c.in_ok-jumps.ensures.jumps c.built_with.ensures.links c.built_with.ensures.built

pub returns-clause-fits : goal.returns-clause-fits
returns-clause-fits c =
    let pages : area_fault c.args.area.now.next c.args.object.now.sections ≡ None = search rules in
    let begun : c.in_ok-starts.starts ≡ starts_of c.args.area.now.next c.args.object.now.sections = search rules in
    let placed : c.as_slice-places.result.now ≡ places_of c.in_ok-starts.starts c.args.object.now.sections = search rules in
    let ready : IsReady c.args.patch.now c.args.object.now c.args.names.now c.args.area.now c.in_ok-starts.starts c.as_slice-places.result.now = record {
      order = record { sections = c.in_ok-check_sections.ensures.ok; symbols = c.in_ok-check_symbols.ensures.ok; pages = pages };
      begun = begun;
      placed = placed;
    } in
    let kept : IsArea c.args.area.now.next c.args.area.now.text = search rules in
    (result_fits c.args.patch.now c.args.object.now c.args.names.now c.args.area.now kept c.built_with.result
    (built_from c.args.patch.now c.args.object.now c.args.names.now c.args.area.now _ _ c.in_ok-jumps.jumps.items c.built_with.result ready c.in_ok-jumps.ensures.jumps c.built_with.ensures.links c.built_with.ensures.built)).0

pub returns-clause-next : goal.returns-clause-next
returns-clause-next c =
    let pages : area_fault c.args.area.now.next c.args.object.now.sections ≡ None = search rules in
    let begun : c.in_ok-starts.starts ≡ starts_of c.args.area.now.next c.args.object.now.sections = search rules in
    let placed : c.as_slice-places.result.now ≡ places_of c.in_ok-starts.starts c.args.object.now.sections = search rules in
    let ready : IsReady c.args.patch.now c.args.object.now c.args.names.now c.args.area.now c.in_ok-starts.starts c.as_slice-places.result.now = record {
      order = record { sections = c.in_ok-check_sections.ensures.ok; symbols = c.in_ok-check_symbols.ensures.ok; pages = pages };
      begun = begun;
      placed = placed;
    } in
    let kept : IsArea c.args.area.now.next c.args.area.now.text = search rules in
    (result_fits c.args.patch.now c.args.object.now c.args.names.now c.args.area.now kept c.built_with.result
    (built_from c.args.patch.now c.args.object.now c.args.names.now c.args.area.now _ _ c.in_ok-jumps.jumps.items c.built_with.result ready c.in_ok-jumps.ensures.jumps c.built_with.ensures.links c.built_with.ensures.built)).1

pub returns-clause-fault : goal.returns-clause-fault
returns-clause-fault c =
    let pages : area_fault c.args.area.now.next c.args.object.now.sections ≡ None = search rules in
    let begun : c.in_ok-starts.starts ≡ starts_of c.args.area.now.next c.args.object.now.sections = search rules in
    let placed : c.as_slice-places.result.now ≡ places_of c.in_ok-starts.starts c.args.object.now.sections = search rules in
    let ready : IsReady c.args.patch.now c.args.object.now c.args.names.now c.args.area.now c.in_ok-starts.starts c.as_slice-places.result.now = record {
      order = record { sections = c.in_ok-check_sections.ensures.ok; symbols = c.in_ok-check_symbols.ensures.ok; pages = pages };
      begun = begun;
      placed = placed;
    } in
    failed_from c.args.patch.now c.args.object.now c.args.names.now c.args.area.now _ _ c.in_ok-jumps.jumps.items c.built_with.result ready c.in_ok-jumps.ensures.jumps c.built_with.ensures.fault
