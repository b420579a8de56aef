use Rattle.std.proofs.Common.{◌∙◌, sym, subst, rules, ℕ, List, ◌<◌, ◌≤◌, ◌+◌, length}
use Rattle.elf_read.specs.declared.records.Section.{Section}
use Rattle.elf_link.specs.Links.{AreLow}
use Rattle.elf_link.proofs.PlaceLemmas.{IsLow, low-more, low-all, low-one}
use Rattle.elf_link.proofs.places.are_low.Goals as goal

pub returns-then-not-ends_low : goal.returns-then-not-ends_low
returns-then-not-ends_low c = (
  search rules,
  λ low. c.if-not-ends_low.ensures.1
      (λ at e. low-one c.args.places.now c.sections-section-items.result.now c.loop-number.number _ c.loop-number-test.true
      (subst (AreLow c.args.places.now) (sym c.sections-section-items.ensures.value) low) at (sym c.place_of.ensures ∙ e)),
)

pub loop-number-preserved : goal.loop-number-preserved
loop-number-preserved c =
    let now = c.sections-section-items.ensures.value in
    subst (λ (l : List Section). (n : ℕ) → n < c.loop-number.number + 1 → IsLow c.args.places.now l n) now
    (low-more c.args.places.now c.sections-section-items.result.now c.loop-number.number _
    (subst (λ (l : List Section). (n : ℕ) → n < c.loop-number.number → IsLow c.args.places.now l n) (sym now) c.loop-number.invariant)
    (λ at e. c.if-not-ends_low.ensures.0 (search rules) at (c.place_of.ensures ∙ e)))

pub returns : goal.returns
returns c = (
  (λ yes. low-all c.args.places.now c.args.object.now.sections c.loop-number.number
      (subst (λ (l : List Section). length l ≤ c.loop-number.number) c.sections-section-items.ensures.value c.loop-number-test.false) c.loop-number.invariant),
  λ low. search rules,
)
