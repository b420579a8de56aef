use Rattle.std.proofs.Common.{◌≡◌, ◌≤◌}
use Rattle.std.specs.Prelude.{IfSome}
use Rattle.wf_patches.specs.Needed.{held_in}
use Rattle.wf_run.specs.Stages.{frames_used}
use Rattle.wf_run.specs.Answers.{HasRun, HoldsRun}
use Rattle.wf_run.proofs.FileLemmas.{ok_more, run_held}
use Rattle.wf_run.proofs.running.fetch_run.Goals as goal

pub returns-clause-ok : goal.returns-clause-ok
returns-clause-ok g c =
    ok_more c.run.result (frames_used c.args.sizes c.in_ok-files.files.image ≤ c.args.sizes.frames)
    (λ ran. ran.script ≡ c.in_ok-files.files.script)
    (λ ran. HasRun c.args.sizes c.in_ok-files.files ran.machine)
    (λ ran. IfSome (g.S.Shelf.holds c.args.shelf.now) (λ files. HoldsRun c.args.sizes (held_in files) c.args.image_name.now c.args.script_name.now ran.script ran.machine))
    (λ fits ran is made.
    run_held (g.S.Shelf.holds c.args.shelf.now) c.args.sizes c.args.image_name.now c.args.script_name.now c.in_ok-files.files ran.script ran.machine c.in_ok-files.ensures.found fits is made)
    c.run.ensures.fits c.run.ensures.script c.run.ensures.ok
