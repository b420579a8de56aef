-- Files of a run call for at most one answer, and have at most one report.
use Rattle.std.proofs.Common.{◌≡◌, Result, Ok, sym, ap, subst, ◌∙◌}
use Rattle.wf_status.specs.declared.status.Status.{Status}
use Rattle.wf_follow.specs.Runs.{IsRun}
use Rattle.wf_follow.specs.Laws as runs
use Rattle.wf_run.specs.Stages.{RunFilesValue, files_stage, limits_of}
use Rattle.wf_run.specs.Answers.{stages_answer, start_for}
use Rattle.wf_run.specs.Laws.{AnswersAreOne, ReportsAreCalledFor, ReportsAreOne}
use Rattle.wf_run.proofs.FileLemmas.{files_built}

pub answers_are_one : AnswersAreOne
answers_are_one sizes held image script one other p q = p ∙ sym q

pub reports_are_one : runs.ReportsAreOne → ReportsAreOne
reports_are_one law sizes held image script one other p none q =
    let found : Result RunFilesValue Status = files_stage sizes held image script in
    let first : found ≡ Ok p.files = p.is in
    let second : found ≡ Ok q.files = q.is in
    let same : q.files ≡ p.files = cc in
    let run : IsRun (start_for sizes p.files.deltas p.files.image) p.files.script other = subst (λ (f : RunFilesValue). IsRun (start_for sizes f.deltas f.image) f.script other) same q.run in
    law p.files.deltas p.files.image sizes.harts (limits_of sizes) p.files.script one other (files_built sizes held image script p.files p.is) p.run none run

pub reports_are_called_for : ReportsAreCalledFor
reports_are_called_for sizes held image script text r = sym (ap stages_answer r.is)
