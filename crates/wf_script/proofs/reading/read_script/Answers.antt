use Rattle.std.proofs.Common.{arith}
use Rattle.wf_script.proofs.LineLemmas.{whole_units, whole_patches, whole_read, whole_kept}
use Rattle.wf_script.proofs.reading.read_script.Goals as goal

pub returns-then-units-gt-MAX_UNITS-clause-read : goal.returns-then-units-gt-MAX_UNITS-clause-read
returns-then-units-gt-MAX_UNITS-clause-read c =
    whole_units c.args.harts c.args.bytes.now c.in_ok-script.script c.script_units-units.result c.in_ok-script.ensures c.script_units-units.ensures c.if-units-gt-MAX_UNITS.true

pub returns-then-patches-gt-MAX_PATCHES-clause-read : goal.returns-then-patches-gt-MAX_PATCHES-clause-read
returns-then-patches-gt-MAX_PATCHES-clause-read c =
    whole_patches c.args.harts c.args.bytes.now c.in_ok-script.script c.script_units-units.result c.in_ok-script.ensures c.script_units-units.ensures (omega arith)
    c.patch_count-patches.result c.patch_count-patches.ensures c.if-patches-gt-MAX_PATCHES.true

pub returns-clause-read : goal.returns-clause-read
returns-clause-read c =
    whole_read c.args.harts c.args.bytes.now c.in_ok-script.script c.script_units-units.result c.in_ok-script.ensures c.script_units-units.ensures (omega arith)
    (omega (arith, c.patch_count-patches.ensures))

pub returns-clause-kept : goal.returns-clause-kept
returns-clause-kept c =
    whole_kept c.args.harts c.args.bytes.now c.in_ok-script.script c.script_units-units.result c.in_ok-script.ensures c.script_units-units.ensures (omega arith)
    (omega (arith, c.patch_count-patches.ensures))
