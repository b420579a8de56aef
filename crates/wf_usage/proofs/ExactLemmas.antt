-- The faults and the matches of a command, by what the grammar says of the words.
use Rattle.std.proofs.Common.{◌≡◌, ◌≢◌, ◌∙◌, refl, sym, ap, subst, Bool, true, false, true≢false, cond, List, [], ◌∷◌, Some, None, Option, ℕ, fold, option_and_then, option_map, unwrap_or, MatchOption, length, arith}
use Rattle.std.proofs.lemmas.Bool.{ne_eqb}
use Rattle.std.specs.Prelude.{is_some}
use Rattle.std.specs.List.{list_all}
use Rattle.clap.specs.Walk.{Held, Row, Rule, Walk, arg_by_short, idle, is_empty, nothing_held, rows_after, settled, with_default}
use Rattle.clap.specs.Matches.{found_of}
use Rattle.clap.specs.Walk.{rows_of}
use Rattle.clap.specs.Kinds.{Kinds, or_else}
use Rattle.clap.specs.Faults.{check_fault, defaults_fault, level_fault, settle_fault, walk_fault}
use Rattle.clap.specs.declared.parser.matches.ArgMatches.{ArgMatches}
use Rattle.clap.specs.declared.error.kind.ErrorKind.{ErrorKind}
use Rattle.clap.specs.declared.error.kind.ErrorKind.TheVariants as kind
use Rattle.wf_usage.specs.Usages.{Word, Usage, Told, ended, is_told, told_by, unheard, with_all, words_heard}
use Rattle.wf_usage.proofs.RowLemmas.{rows_told}
use Rattle.wf_usage.proofs.LookLemmas.{AreUtf8}
use Rattle.wf_usage.proofs.WalkLemmas.{Long, Stands, faults, from_start, held, rest, shape, walk_at}

assoc : (F T X : Kinds) → or_else F (or_else T X) ≡ or_else (or_else F T) X
assoc [] T X = refl
assoc (k ∷ ks) T X = refl

-- what the last checks of a command say of the rows of the words, and the rows with its defaults
abbrev pub checks : Word → List Rule → List Row → Kinds
checks name R rows = or_else (defaults_fault rows R) (check_fault (shape name R) (fold with_default rows R) false)

abbrev pub full : List Rule → List Row → List Row
full R rows = fold with_default rows R

-- the faults and the matches are those of what was told, and there is a fault where nothing is right
abbrev pub Exact : Usage → List Rule → Option Told → Kinds → List Row → Type 0
Exact u R None faults matches = faults ≢ []
Exact u R (Some told) faults matches = (faults ≡ []) × (matches ≡ full R (rows_told u told))

-- the last checks find just that a name is missing
abbrev pub ChecksNames : Word → List Rule → Usage → Type 0
ChecksNames name R u = (t : Told) → checks name R (rows_told u t) ≡ cond (list_all (λ n. is_told n t) u.names) [] (kind.MissingRequiredArgument ∷ [])

some_rows : (rows : List Row) (r : List Row) → Some rows ≡ Some r → rows ≡ r
some_rows rows r e = ap (λ (o : Option (List Row)). unwrap_or o rows) e

no_rows : (rows : List Row) → Some rows ≡ None → ⊥
no_rows rows e = true≢false (ap (λ (o : Option (List Row)). is_some o) e)

is_nil : Kinds → Bool
is_nil [] = true
is_nil (k ∷ ks) = false

full_list : (k : ErrorKind) (ks : Kinds) → k ∷ ks ≡ [] → ⊥
unfolding is_nil
full_list k ks e = true≢false (sym (ap is_nil e))

is_full : (k : ErrorKind) (ks : Kinds) → is_empty (k ∷ ks) ≡ false
is_full k ks = ne_eqb (length (k ∷ ks)) 0 (λ e. omega (arith, e))

judged : (name : Word) (R : List Rule) (u : Usage) → ChecksNames name R u → (F : Kinds) (rows : List Row) (o : Option Told) → cond (is_empty F) (Some rows) None ≡ option_map (rows_told u) o
    → Exact u R (option_and_then (with_all u.names) o) (or_else F (checks name R rows)) (full R rows)
judged name R u named [] rows None e = absurd (no_rows rows e)
judged name R u named [] rows (Some t) e = go (list_all (λ n. is_told n t) u.names) refl
  where
    same : rows ≡ rows_told u t
    same = some_rows rows (rows_told u t) e

    go : (b : Bool) → list_all (λ n. is_told n t) u.names ≡ b → Exact u R (cond b (Some t) None) (checks name R rows) (full R rows)
    go true all = (ap (checks name R) same ∙ (named t ∙ ap (λ (b : Bool). cond b [] (kind.MissingRequiredArgument ∷ [])) all), ap (full R) same)
    go false all = λ none. full_list kind.MissingRequiredArgument [] (sym (ap (checks name R) same ∙ (named t ∙ ap (λ (b : Bool). cond b [] (kind.MissingRequiredArgument ∷ [])) all)) ∙ none)
judged name R u named (k ∷ ks) rows None e = λ none. full_list k ks none
judged name R u named (k ∷ ks) rows (Some t) e = absurd (no_rows (rows_told u t) (sym e ∙ ap (λ (b : Bool). cond b (Some rows) None) (is_full k ks)))

-- a command on words, by what they tell
pub exact : (name : Word) (R : List Rule) (u : Usage) → ((c : ℕ) → arg_by_short R c ≡ None) → ((n : Word) → Long R u n) → Stands R u 1 u.names → ChecksNames name R u → (ws : List Word) → AreUtf8 ws
    → Exact u R (told_by u ws) (level_fault (shape name R) [] nothing_held ws false []) (rows_after R [] ws)
unfolding told_by
exact name R u shorts longs stands named ws texts =
    let start : Walk = walk_at (held [] None) idle 1 false in
    let end : Held = rest name R u shorts longs start ws in
    let found = judged name R u named (faults name R u shorts longs start ws) (settled R end).rows (option_and_then ended (words_heard u ws (unheard u))) (from_start name R u shorts longs ws texts stands) in
    subst (λ (L : Kinds). Exact u R (told_by u ws) L (rows_after R [] ws)) (sym (assoc (walk_fault (shape name R) [] start ws) (settle_fault R false end) (checks name R (settled R end).rows))) found

-- the matches hold what was told, where they are those of the faults and rows
pub read_by : (Holds : ArgMatches → Told → Type 0) (u : Usage) (R : List Rule) (ws : List Word) (faults : Kinds) (rows : List Row) (m : Option ArgMatches) (o : Option Told) → Exact u R o faults rows
    → MatchOption m (faults ≢ []) (λ a. (faults ≡ []) × (rows_of (found_of a) ≡ rows))
    → ((a : ArgMatches) (t : Told) → rows_of (found_of a) ≡ full R (rows_told u t) → Holds a t)
    → MatchOption m (o ≡ None) (λ a. (t : Told) × (o ≡ Some t) × Holds a t)
read_by Holds u R ws faults rows None None x p holds = refl
read_by Holds u R ws faults rows None (Some t) x p holds = absurd (p x.0)
read_by Holds u R ws faults rows (Some a) None x p holds = absurd (x p.0)
read_by Holds u R ws faults rows (Some a) (Some t) x p holds = (t, refl, holds a t (p.1 ∙ x.1))
