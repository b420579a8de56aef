-- What is added to a journal.
use Rattle.std.specs.Prelude.{◌≡◌, ◌++◌, ℕ, List, false}
use Rattle.std.specs.List.{AllByRecursion}
use Rattle.wf_flat.specs.declared.event.Actor.TheVariants.{Hart}
use Rattle.wf_flat.specs.declared.event.Entry.{Entry}
use Rattle.wf_flat.specs.Follows.{ends_unit}
use Rattle.wf_legal.specs.Legal.{IsLegal, Moment, end_of}

-- entries of one hart, none of which ends a unit
abbrev pub IsOpen : ℕ → List Entry → Type 0
IsOpen h entries =
    AllByRecursion (λ entry. (entry.actor ≡ Hart h) × (ends_unit entry.event ≡ false)) entries

-- legal entries with P came behind those so far, and the moment went along
pub record Adds (old : Moment) (before : List Entry) (new : Moment) (now : List Entry)
    (P : List Entry → Type 0) : Type 0 where
  pub made : List Entry
  pub appended : now ≡ before ++ made
  pub legal : IsLegal old made
  pub reached : new ≡ end_of old made
  pub fits : P made
