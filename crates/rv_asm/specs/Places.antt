-- How labels are found by their names.
use denote.Ref.{Bor}
use Rattle.std.specs.Prelude.{◌≡◌, ℕ, List, map}
use Rattle.std.specs.BTreeMap.{BTreeMap, get_by}
use Rattle.std.specs.Cmp.Lexicographic.{slice_cmp}
use Rattle.std.specs.Ordering.{nat_cmp}
use Rattle.rv_asm.specs.declared.named.Label.{Label}
use Rattle.rv_asm.specs.Labels.{LabelValue, place_named}

-- a label, without where its name lies in memory
abbrev pub label_value : Label → LabelValue
label_value l = record { name = l.name.now; section = l.section; offset = l.offset }

-- labels of the code, without where they lie in memory
abbrev pub label_values : List Label → List LabelValue
label_values labels = map label_value labels

-- the map has the place of each label
pub record IsIndex (places : BTreeMap (Bor (List ℕ)) ℕ) (labels : List LabelValue) : Type 0 where
  pub find : (name : List ℕ) → get_by (λ k. slice_cmp nat_cmp name k.now) places
      ≡ place_named name labels
