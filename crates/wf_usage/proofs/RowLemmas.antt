-- The arguments of the commands as `clap` builds them, their uses, and the rows that these make.
use Rattle.std.proofs.Common.{◌≡◌, ◌∙◌, refl, sym, ap, Bool, true, false, cond, List, [], ◌∷◌, ◌++◌, map, codes, Some, None, Option, ℕ, append-nil, find, true≢false, option_map}
use Rattle.std.specs.Prelude.{◌&&◌, ◌||◌, slice_get, option_and_then}
use Rattle.std.specs.List.{list_any}
use Rattle.std.specs.Option.{option_map_or}
use Rattle.std.specs.Str.{bytes_eq}
use Rattle.clap.specs.Walk.{Row, Rule, Text, at_row, first_of, has_row, more_values, one_of, row_text, used, with_default, with_values, without}
use Rattle.clap.specs.Simple.{new_rule}
use Rattle.clap.specs.Facts.{explicit_source}
use Rattle.clap.specs.Takes.{is_given}
use Rattle.clap.specs.Kinds.{Kinds, or_else}
use Rattle.clap.specs.Faults.{default_fault, use_fault}
use Rattle.clap.specs.declared.builder.action.ArgAction.TheVariants.{Set, SetTrue}
use Rattle.clap.specs.declared.builder.value_parser.ValueParser.TheVariants as vp
use Rattle.clap.specs.declared.builder.value_parser.Reading.TheVariants.{AsWritten}
use Rattle.clap.specs.declared.error.kind.ErrorKind.TheVariants as kind
use Rattle.clap.specs.declared.parser.matches.ValueSource.TheVariants.{CommandLine, DefaultValue}
use Rattle.clap.proofs.WalkLemmas.{list_any-map}
use Rattle.std.proofs.lemmas.Slice.Eq.{bytes_eq-Decides}
use Rattle.wf_usage.specs.Usages.{Word, Usage, Told, is_among, is_told, told_of}

-- a name, at its place, or an option with a value
abbrev pub one : Word → Option Word → Option ℕ → Bool → Rule
one id long index required = record (new_rule id) {
  long = long;
  index = index;
  action = Some Set;
  range = Some (record { start_inclusive = 1; end_inclusive = 1 });
  parser = Some vp.String;
  required = required;
}

-- an option without a value
abbrev pub switch : Word → Rule
switch id = record (new_rule id) {
  long = Some id;
  action = Some SetTrue;
  range = Some (record { start_inclusive = 0; end_inclusive = 0 });
  defaults = codes "false" ∷ [];
  missing = codes "true" ∷ [];
  parser = Some vp.Bool;
}

-- the row of an id with one value of the command line
abbrev pub value_row : Word → Word → Row
value_row id v = record {
  id = id;
  values = v ∷ [];
  count = None;
  source = Some CommandLine;
  reading = AsWritten;
}

-- the row of what was told of a name or an option
abbrev pub row : Usage → Word × Word → Row
row u t = value_row t.0 (cond (is_among t.0 u.flags) (codes "true") t.1)

abbrev pub rows_told : Usage → Told → List Row
rows_told u told = map (row u) told

-- the fault of a second use
abbrev pub clash : Bool → Kinds
clash again = cond again (kind.ArgumentConflict ∷ []) []

or_false : (a b : Bool) → (a || b) ≡ false → (a ≡ false) × (b ≡ false)
or_false false b e = (refl, e)
or_false true b e = absurd (true≢false e)

-- a row joins at the end where its id has none
at_absent : (id : Text) (change : Row → List Row) (missing rows : List Row) → has_row id rows ≡ false → at_row id change missing rows ≡ rows ++ missing
at_absent id change missing [] none = refl
at_absent id change missing (r ∷ rs) none =
    let parts = or_false (bytes_eq r.id id) (has_row id rs) none in
    rw parts.0 (ap (λ xs. r ∷ xs) (at_absent id change missing rs parts.1))

added : (id v : Word) (rows : List Row) → has_row id rows ≡ false → with_values id AsWritten CommandLine (v ∷ []) (without id rows) ≡ rows ++ value_row id v ∷ []
added id v rows none =
    let same : without id rows ≡ rows = at_absent id (λ _. []) [] rows none ∙ append-nil rows in
    ap (with_values id AsWritten CommandLine (v ∷ [])) same ∙ at_absent id (more_values CommandLine (v ∷ [])) (value_row id v ∷ []) rows none

clash_is : (b : Bool) → or_else (cond (b && true) (kind.ArgumentConflict ∷ []) []) [] ≡ clash b
clash_is true = refl
clash_is false = refl

-- ---- one use

pub use_one : (id : Word) (long : Option Word) (index : Option ℕ) (required : Bool) (v : Word) (rows : List Row) → use_fault false (one id long index required) (v ∷ []) rows ≡ clash (has_row id rows)
use_one id long index required v rows = clash_is (has_row id rows)

pub use_none : (id : Word) (long : Option Word) (index : Option ℕ) (required : Bool) (rows : List Row) → use_fault false (one id long index required) [] rows ≡ kind.InvalidValue ∷ []
use_none id long index required rows = refl

pub use_switch : (id : Word) (rows : List Row) → use_fault false (switch id) [] rows ≡ clash (has_row id rows)
use_switch id rows = clash_is (has_row id rows)

pub used_one : (u : Usage) (id : Word) (long : Option Word) (index : Option ℕ) (required : Bool) (v : Word) (rows : List Row) → is_among id u.flags ≡ false → has_row id rows ≡ false → used (one id long index required) (v ∷ []) rows ≡ rows ++ row u (id, v) ∷ []
used_one u id long index required v rows plain_id none = added id v rows none ∙ sym (ap (λ (b : Bool). rows ++ value_row id (cond b (codes "true") v) ∷ []) plain_id)

pub used_switch : (u : Usage) (id : Word) (rows : List Row) → is_among id u.flags ≡ true → has_row id rows ≡ false → used (switch id) [] rows ≡ rows ++ row u (id, []) ∷ []
used_switch u id rows yes_flag none = added id (codes "true") rows none ∙ sym (ap (λ (b : Bool). rows ++ value_row id (cond b (codes "true") []) ∷ []) yes_flag)

-- ---- the rows of what was told

pub has_row_told : (u : Usage) (id : Word) (t : Told) → has_row id (rows_told u t) ≡ is_told id t
has_row_told u id t = sym (list_any-map (λ (r : Row). bytes_eq r.id id) (row u) t)

pub given_told : (u : Usage) (id : Word) (t : Told) → is_given id (rows_told u t) ≡ is_told id t
given_told u id [] = refl
given_told u id (x ∷ t) = go (bytes_eq x.0 id) (given_told u id t)
  where
    go : (b : Bool) → is_given id (rows_told u t) ≡ is_told id t
        → option_map_or (λ (r : Row). explicit_source r.source) (cond b (Some (row u x)) (find (λ (r : Row). bytes_eq r.id id) (rows_told u t))) false ≡ (b || is_told id t)
    go true e = refl
    go false e = e

-- equal by the test is equal
pub same_word : (a b : Word) → bytes_eq a b ≡ true → a ≡ b
same_word a b e = (bytes_eq-Decides a b).0 e

-- what the first row of a name or an option with a value has
pub first_told : (u : Usage) (id : Word) (t : Told) → is_among id u.flags ≡ false → first_of id (rows_told u t) ≡ told_of id t
first_told u id [] plain_id = refl
first_told u id (x ∷ t) plain_id = go (bytes_eq x.0 id) refl (first_told u id t plain_id)
  where
    go : (b : Bool) → bytes_eq x.0 id ≡ b → first_of id (rows_told u t) ≡ told_of id t
        → option_and_then (λ (r : Row). slice_get r.values 0) (cond b (Some (row u x)) (find (λ (r : Row). bytes_eq r.id id) (rows_told u t)))
        ≡ option_map (λ (y : Word × Word). y.1) (cond b (Some x) (find (λ (y : Word × Word). bytes_eq y.0 id) t))
    go true is e = ap (λ (b : Bool). Some (cond b (codes "true") x.1)) (ap (λ (n : Word). is_among n u.flags) (same_word x.0 id is) ∙ plain_id)
    go false is e = e

-- the row of an option without a value reads `true`
pub flag_told : (u : Usage) (id : Word) (t : Told) → is_among id u.flags ≡ true → is_told id t ≡ true → one_of id (rows_told u t) ≡ Some (codes "true")
flag_told u id [] flag told = absurd (true≢false (sym told))
flag_told u id (x ∷ t) flag told = go (bytes_eq x.0 id) refl (λ e. flag_told u id t flag e) told
  where
    go : (b : Bool) → bytes_eq x.0 id ≡ b → (is_told id t ≡ true → one_of id (rows_told u t) ≡ Some (codes "true")) → (b || is_told id t) ≡ true
        → option_and_then row_text (cond b (Some (row u x)) (find (λ (r : Row). bytes_eq r.id id) (rows_told u t))) ≡ Some (codes "true")
    go true is ih e = ap (λ (b : Bool). Some (cond b (codes "true") x.1)) (ap (λ (n : Word). is_among n u.flags) (same_word x.0 id is) ∙ flag)
    go false is ih e = ih e

-- ---- defaults

either_way : {X : Type 0} (b : Bool) (x : X) → cond b x x ≡ x
either_way true x = refl
either_way false x = refl

abbrev no_kinds : Kinds
no_kinds = []

pub default_one : (id : Word) (long : Option Word) (index : Option ℕ) (required : Bool) (rows : List Row) → (default_fault rows (one id long index required) ≡ []) × (with_default rows (one id long index required) ≡ rows)
default_one id long index required rows = (either_way (has_row id rows || true) no_kinds, either_way (has_row id rows) rows)

pub default_switch : (id : Word) (rows : List Row) → default_fault rows (switch id) ≡ []
default_switch id rows = either_way (has_row id rows || false) no_kinds

abbrev pub default_row : Word → Row
default_row id = record (value_row id (codes "false")) { source = Some DefaultValue }

pub with_switch : (id : Word) (rows : List Row) (b : Bool) → has_row id rows ≡ b → with_default rows (switch id) ≡ cond b rows (rows ++ default_row id ∷ [])
with_switch id rows true e = ap (λ (b : Bool). cond b rows (with_values id AsWritten DefaultValue (codes "false" ∷ []) rows)) e
with_switch id rows false e =
    ap (λ (b : Bool). cond b rows (with_values id AsWritten DefaultValue (codes "false" ∷ []) rows)) e
    ∙ at_absent id (more_values DefaultValue (codes "false" ∷ [])) (default_row id ∷ []) rows e

-- the row at the end changes nothing for another id, and is the first of its own where there is none
pub find_other : (p : Row → Bool) (rows : List Row) (r : Row) → p r ≡ false → find p (rows ++ r ∷ []) ≡ find p rows
find_other p [] r plain_id = ap (λ (b : Bool). cond b (Some r) None) plain_id
find_other p (x ∷ rows) r plain_id = ap (λ o. cond (p x) (Some x) o) (find_other p rows r plain_id)

pub find_last : (p : Row → Bool) (rows : List Row) (r : Row) → list_any p rows ≡ false → p r ≡ true → find p (rows ++ r ∷ []) ≡ Some r
find_last p [] r none is = ap (λ (b : Bool). cond b (Some r) None) is
find_last p (x ∷ rows) r none is =
    let parts = or_false (p x) (list_any p rows) none in
    ap (λ (b : Bool). cond b (Some x) (find p (rows ++ r ∷ []))) parts.0 ∙ find_last p rows r parts.1 is
