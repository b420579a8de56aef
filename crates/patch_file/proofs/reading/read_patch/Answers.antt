use Rattle.wf_text.specs.Lines.{lines_of}
use Rattle.patch_file.proofs.KeptLemmas.{unpassed_rise, parts_kept}
use Rattle.patch_file.proofs.reading.read_patch.Goals as goal

pub returns-clause-kept : goal.returns-clause-kept
returns-clause-kept c =
    parts_kept _ _ _ _ _ _ _ _ (unpassed_rise 1 (lines_of c.args.bytes.now)) c.in_ok-number.ensures.read c.in_ok-name.ensures.read c.in_ok-object.ensures c.in_ok-replaces.ensures
