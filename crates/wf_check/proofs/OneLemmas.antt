-- Files call for at most one answer to a check.
use Rattle.std.proofs.Common.{◌≡◌, ◌⊎◌, ℕ, Result, Ok, Err, length, refl, sym, ap, ◌∙◌, subst, inl, inr}
use Rattle.wf_status.specs.declared.entries.EntryRule.{EntryRule}
use Rattle.wf_status.specs.declared.status.Status.{Status}
use Rattle.wf_status.specs.declared.status.Status.TheVariants.{Done, Illegal}
use Rattle.wf_check.specs.Rules.{rule_of}
use Rattle.wf_check.specs.Stages.{CheckedFilesValue, files_stage}
use Rattle.wf_check.specs.Checking.{FilesCallFor, HasIllegal, HasOtherEnd, IsRight, StagesCallFor, start_for}
use Rattle.wf_check.specs.Laws.{AcceptedAreCalledFor, ChecksAreOne, CountsAreOne}
use Rattle.wf_check.proofs.FirstLemmas.{first_is_one, legal_has_none}

-- an entry or the end is wrong
abbrev IsWrong : CheckedFilesValue → ℕ → EntryRule → Type 0
IsWrong files index rule = HasIllegal files index rule ⊎ HasOtherEnd files index rule

-- and all is right
wrong_and_right : (files : CheckedFilesValue) (index : ℕ) (rule : EntryRule) → IsWrong files index rule → IsRight files → ⊥
wrong_and_right files index rule wrong right = elim wrong [
  | inl bad ↦ legal_has_none (start_for files) files.journal.entries index bad.event right.legal bad.first
  | inr end ↦ end.other right.final
]

wrong_is_one : (files : CheckedFilesValue) (index place : ℕ) (rule other : EntryRule) → IsWrong files index rule → IsWrong files place other → Illegal index rule ≡ Illegal place other
wrong_is_one files index place rule other one two = elim one [
  | inl bad ↦ (elim two [
    | inl worse ↦ (
        let same = first_is_one (start_for files) files.journal.entries index place bad.event worse.event bad.first worse.first in
        let i : index ≡ place = same.0 in
        let r : rule ≡ other = bad.named ∙ ap rule_of same.1 ∙ sym worse.named in
        cc)
    | inr end ↦ absurd (legal_has_none (start_for files) files.journal.entries index bad.event end.legal bad.first)
  ])
  | inr end ↦ (elim two [
    | inl bad ↦ absurd (legal_has_none (start_for files) files.journal.entries place bad.event end.legal bad.first)
    | inr more ↦ (
        let i : index ≡ place = end.behind ∙ sym more.behind in
        let r : rule ≡ other = end.named ∙ sym more.named in
        cc)
  ])
]

-- how files answer that have frames enough
pub record IsIllegalAnswer (files : CheckedFilesValue) (answer : Status) : Type 0 where
  pub index : ℕ
  pub rule : EntryRule
  pub is : answer ≡ Illegal index rule
  pub wrong : IsWrong files index rule

abbrev FileCases : CheckedFilesValue → Status → Type 0
FileCases files answer = IsIllegalAnswer files answer ⊎ ((answer ≡ Done) × IsRight files)

file_cases : (files : CheckedFilesValue) (answer : Status) → FilesCallFor files answer → FileCases files answer
file_cases files Done p = inr (refl, p)
file_cases files (Illegal index rule) p = inl (record { index = index; rule = rule; is = refl; wrong = p })
file_cases files other p = absurd p

files_are_one : (files : CheckedFilesValue) (one other : Status) → FileCases files one → FileCases files other → one ≡ other
files_are_one files one other p q = elim p [
  | inl bad ↦ (elim q [
    | inl worse ↦ bad.is ∙ wrong_is_one files bad.index worse.index bad.rule worse.rule bad.wrong worse.wrong ∙ sym worse.is
    | inr right ↦ absurd (wrong_and_right files bad.index bad.rule bad.wrong right.1)
  ])
  | inr right ↦ (elim q [
    | inl bad ↦ absurd (wrong_and_right files bad.index bad.rule bad.wrong right.1)
    | inr same ↦ right.0 ∙ sym same.0
  ])
]

stages_are_one : (found : Result CheckedFilesValue Status) (one other : Status) → StagesCallFor found one → StagesCallFor found other → one ≡ other
stages_are_one (Err failed) one other p q = p ∙ sym q
stages_are_one (Ok files) one other p q = files_are_one files one other (file_cases files one p) (file_cases files other q)

pub checks_are_one : ChecksAreOne
checks_are_one held image journal one other p q = stages_are_one (files_stage held image journal) one other p q

pub counts_are_one : CountsAreOne
counts_are_one held image journal one other p q =
    let found : Result CheckedFilesValue Status = files_stage held image journal in
    let first : found ≡ Ok p.files = p.is in
    let second : found ≡ Ok q.files = q.is in
    let same : p.files ≡ q.files = cc in
    p.counted ∙ ap (λ (f : CheckedFilesValue). length f.journal.entries) same ∙ sym q.counted

pub accepted_are_called_for : AcceptedAreCalledFor
accepted_are_called_for held image journal count p = subst (λ (r : Result CheckedFilesValue Status). StagesCallFor r Done) (sym p.is) p.right
