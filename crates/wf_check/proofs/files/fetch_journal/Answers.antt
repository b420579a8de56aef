use Rattle.std.proofs.Common.{◌≡◌, Ok, rules}
use Rattle.wf_journal.specs.Journals.{journal_of}
use Rattle.wf_check.proofs.FewLemmas.{few_patches}
use Rattle.wf_check.proofs.files.fetch_journal.Goals as goal

pub returns-in-Ok-clause-few : goal.returns-in-Ok-clause-few
returns-in-Ok-clause-few g c =
    let read : journal_of c.deref.result.now ≡ Ok c.in-Ok.journal = search rules in
    few_patches c.deref.result.now c.in-Ok.journal read
