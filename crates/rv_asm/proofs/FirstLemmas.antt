-- How lines are read in the first pass.
use Rattle.std.proofs.Common.{◌≡◌, ◌<◌, ◌≤◌, ◌+◌, [], ◌∷◌, ℕ, suc, List, length, Some, Result, Ok, refl, sym, ap, subst, ◌∙◌, arith, add-one}
use Rattle.std.proofs.lemmas.List.{nil_from_length}
use Rattle.asm_bytes.specs.Sizes.{size_of}
use Rattle.asm_lines.specs.Lines.{LineValue, line_of}
use Rattle.elf_write.specs.declared.module.Form.{Form}
use Rattle.wf_text.specs.Lines.{lines_of}
use Rattle.rv_asm.specs.declared.fault.AsmFault.{AsmFault}
use Rattle.rv_asm.specs.declared.fault.AsmFault.TheVariants as fault
use Rattle.asm_lines.specs.declared.statement.SectionId.{SectionId}
use Rattle.rv_asm.specs.declared.first_pass.Survey.{Survey}
use Rattle.rv_asm.specs.declared.sizes.SectionSizes.{SectionSizes}
use Rattle.rv_asm.specs.Answers.{◌>>=◌, IsFaultOf}
use Rattle.rv_asm.specs.FirstPass.{grown, section_after, size_in, start, surveyed, surveyed_line, labels_with, used}
use Rattle.rv_asm.specs.Labels.{LabelValue}
use Rattle.rv_asm.specs.Uses.{UseValue}
use Rattle.rv_asm.proofs.AgreeLemmas.{used_ok}

pub surveyed_line_ok : (form : Form) (names : List (List ℕ)) (number : ℕ) (text : List ℕ) (s more : Survey) (line : LineValue) (size : ℕ) (labels : List LabelValue)
    → line_of text ≡ Some line → size_of s.section (size_in s.sizes s.section) line.asked ≡ Some size → labels_with number line.label s ≡ Ok labels
    → used form names number line.asked (record s { labels = labels }) ≡ Ok more
    → surveyed_line form names number text s ≡ Ok (record more { section = section_after s.section line.asked; sizes = grown s.section size s.sizes })
unfolding surveyed_line
surveyed_line_ok form names number text s more line size labels e f g h = rw (e, f, g, h) refl

-- a survey by its fields
abbrev survey_by : SectionId → SectionSizes → List LabelValue → ℕ → List UseValue → Survey
survey_by section sizes labels taken uses = record { section = section; sizes = sizes; labels = labels; taken = taken; uses = uses }

-- a line by its steps
pub read_ok : (form : Form) (names : List (List ℕ)) (number : ℕ) (text : List ℕ) (s u more : Survey) (line : LineValue) (size : ℕ) (section : SectionId) (sizes : SectionSizes)
    → line_of text ≡ Some line → size_of s.section (size_in s.sizes s.section) line.asked ≡ Some size → labels_with number line.label s ≡ Ok u.labels
    → u.section ≡ s.section → u.sizes ≡ s.sizes → u.taken ≡ s.taken → u.uses ≡ s.uses
    → used form names number line.asked u ≡ Ok more → section ≡ section_after more.section line.asked → sizes ≡ grown more.section size more.sizes
    → surveyed_line form names number text s ≡ Ok (survey_by section sizes more.labels more.taken more.uses)
read_ok form names number text s u more line size section sizes e f g same_section same_sizes same_taken same_uses h at long =
    let labelled : survey_by u.section u.sizes u.labels u.taken u.uses ≡ record s { labels = u.labels } = rw (same_section, same_sizes, same_taken, same_uses) refl in
    let did = used_ok form names number line.asked u more h in
    let stays : more.section ≡ s.section = sym (ap (λ (x : Survey). x.section) did.2) ∙ same_section in
    let keeps : more.sizes ≡ s.sizes = sym (ap (λ (x : Survey). x.sizes) did.2) ∙ same_sizes in
    surveyed_line_ok form names number text s more line size u.labels e f g (ap (used form names number line.asked) (sym labelled) ∙ h)
    ∙ ap (λ (id : SectionId). Ok (survey_by id (grown s.section size s.sizes) more.labels more.taken more.uses)) (ap (λ (id : SectionId). section_after id line.asked) (sym stays) ∙ sym at)
    ∙ ap (λ (z : SectionSizes). Ok (survey_by section z more.labels more.taken more.uses)) (ap (λ (id : SectionId). grown id size s.sizes) (sym stays) ∙ ap (grown more.section size) (sym keeps) ∙ sym long)

-- the lines so far, and the rest
pub record IsSurveyedSoFar (form : Form) (names : List (List ℕ)) (source : List ℕ) (s : Survey) (number : ℕ) (rest : List ℕ) : Type 0 where
  pub read : surveyed form names number (lines_of rest) s ≡ surveyed form names 1 (lines_of source) start
  pub place : number + length rest ≤ length source + 1

pub surveyed_none : (form : Form) (names : List (List ℕ)) (source : List ℕ) → IsSurveyedSoFar form names source start 1 source
surveyed_none form names source = record { read = refl; place = omega arith }

lines_cell : (form : Form) (names : List (List ℕ)) (s : Survey) (number : ℕ) (line : List ℕ) (lines : List (List ℕ))
    → surveyed form names number (line ∷ lines) s ≡ (surveyed_line form names number line s >>= λ more. surveyed form names (suc number) lines more)
unfolding surveyed
lines_cell form names s number line lines = refl

lines_none : (form : Form) (names : List (List ℕ)) (s : Survey) (number : ℕ) → surveyed form names number [] s ≡ Ok s
unfolding surveyed
lines_none form names s number = refl

pub no_lines : lines_of [] ≡ []
unfolding lines_of
no_lines = refl

pub none_left : (rest : List ℕ) → length rest ≡ 0 → length (lines_of rest) ≡ 0
none_left rest e = ap (λ (bytes : List ℕ). length (lines_of bytes)) (nil_from_length rest e) ∙ ap length no_lines

pub surveyed_more : (form : Form) (names : List (List ℕ)) (source : List ℕ) (s more : Survey) (number : ℕ) (rest line behind : List ℕ) → IsSurveyedSoFar form names source s number rest
    → lines_of rest ≡ line ∷ lines_of behind → length behind < length rest → surveyed_line form names number line s ≡ Ok more → IsSurveyedSoFar form names source more (number + 1) behind
surveyed_more form names source s more number rest line behind so_far split shorter read = record {
  read =
      ap (λ (k : ℕ). surveyed form names k (lines_of behind) more) (add-one number)
      ∙ sym (ap (λ (ls : List (List ℕ)). surveyed form names number ls s) split ∙ lines_cell form names s number line (lines_of behind) ∙ ap (λ (r : Result Survey AsmFault). r >>= λ more. surveyed form names (suc number) (lines_of behind) more) read)
      ∙ so_far.read;
  place = let place = so_far.place in omega arith;
}

pub bind_fault : {A B : Type 0} (e : AsmFault) (r : Result A AsmFault) (f : A → Result B AsmFault) → IsFaultOf e r → IsFaultOf e (r >>= f)
bind_fault fault.Memory r f h = tt
bind_fault (fault.At number rule) r f h = ap (λ q. q >>= f) h

pub surveyed_fault : (form : Form) (names : List (List ℕ)) (source : List ℕ) (s : Survey) (number : ℕ) (rest line behind : List ℕ) (e : AsmFault) → IsSurveyedSoFar form names source s number rest
    → lines_of rest ≡ line ∷ lines_of behind → IsFaultOf e (surveyed_line form names number line s) → IsFaultOf e (surveyed form names 1 (lines_of source) start)
surveyed_fault form names source s number rest line behind e so_far split h =
    let whole : (surveyed_line form names number line s >>= λ more. surveyed form names (suc number) (lines_of behind) more) ≡ surveyed form names 1 (lines_of source) start =
    sym (ap (λ (ls : List (List ℕ)). surveyed form names number ls s) split ∙ lines_cell form names s number line (lines_of behind)) ∙ so_far.read in
    subst (IsFaultOf e) whole (bind_fault e (surveyed_line form names number line s) (λ more. surveyed form names (suc number) (lines_of behind) more) h)

pub surveyed_all : (form : Form) (names : List (List ℕ)) (source : List ℕ) (s : Survey) (number : ℕ) (rest : List ℕ) → IsSurveyedSoFar form names source s number rest → length rest ≡ 0 → surveyed form names 1 (lines_of source) start ≡ Ok s
surveyed_all form names source s number rest so_far e =
    sym so_far.read ∙ ap (λ (xs : List ℕ). surveyed form names number (lines_of xs) s) (nil_from_length rest e) ∙ ap (λ (ls : List (List ℕ)). surveyed form names number ls s) no_lines ∙ lines_none form names s number

pub ruleset surveyed_steps = (surveyed_none, surveyed_more, surveyed_fault, surveyed_all)
