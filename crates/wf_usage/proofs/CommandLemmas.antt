-- What `clap` makes of the words of each command is what their usages say.
use Rattle.std.proofs.Common.{◌≡◌, ◌∙◌, refl, sym, ap, ap₂, subst, Bool, true, false, cond, List, [], ◌∷◌, ◌++◌, codes, Some, None, Option, fold, option_and_then}
use Rattle.std.specs.Prelude.{not, ◌&&◌, ◌||◌, slice_get}
use Rattle.std.specs.Option.{option_map_or}
use Rattle.std.specs.Str.{bytes_eq}
use Rattle.clap.specs.Facts.{explicit_source}
use Rattle.clap.specs.Walk.{Row, Rule, first_of, has_row, nothing_held, one_of, row_text, rows_of, with_default}
use Rattle.clap.specs.Words.{fault_of, found_of, matches_of}
use Rattle.clap.specs.Simple.{built, is_simple}
use Rattle.clap.specs.Kinds.{Kinds, or_else}
use Rattle.clap.specs.Faults.{check_fault, default_fault, defaults_fault, is_simple_and_free, level_fault}
use Rattle.clap.specs.Takes.{is_given}
use Rattle.clap.specs.declared.parser.matches.ArgMatches.{ArgMatches}
use Rattle.clap.specs.declared.error.kind.ErrorKind.TheVariants as kind
use Rattle.clap.proofs.OnLiterals.{clap_on_literals}
use Rattle.clap.proofs.FaultLemmas.{leaf_fault}
use Rattle.clap.proofs.WalkLemmas.{first_value-rows, one_text-rows}
use Rattle.wf_usage.specs.Usages.{Word, Told, is_told, told_by}
use Rattle.wf_usage.specs.Words.{assembly_usage, check_usage, make_usage, run_usage}
use Rattle.wf_usage.specs.Parsed.{HoldsFlagged, HoldsTold, IsParse, IsReadBy, assembly_app, check_app, make_app, run_app}
use Rattle.wf_usage.proofs.RowLemmas.{default_one, default_row, default_switch, find_last, find_other, first_told, flag_told, given_told, has_row_told, one, rows_told, same_word, switch, with_switch}
use Rattle.wf_usage.proofs.LookLemmas.{AreUtf8}
use Rattle.wf_usage.proofs.WalkLemmas.{Long, Stands, of_flag, of_none, of_value, shape}
use Rattle.wf_usage.proofs.ExactLemmas.{ChecksNames, Exact, exact, full, read_by}

-- ---- defaults

-- no argument has a default that is refused
abbrev NoFaults : List Rule → Type 0
NoFaults [] = Unit {0}
NoFaults (a ∷ more) = ((rows : List Row) → default_fault rows a ≡ []) × NoFaults more

-- no argument has a default
abbrev NoDefaults : List Rule → Type 0
NoDefaults [] = Unit {0}
NoDefaults (a ∷ more) = ((rows : List Row) → with_default rows a ≡ rows) × NoDefaults more

no_faults : (R : List Rule) (rows : List Row) → NoFaults R → defaults_fault rows R ≡ []
unfolding defaults_fault
no_faults [] rows n = refl
no_faults (a ∷ more) rows n = ap (λ (x : Kinds). or_else x (defaults_fault (with_default rows a) more)) (n.0 rows) ∙ no_faults more (with_default rows a) n.1

no_defaults : (R : List Rule) (rows : List Row) → NoDefaults R → full R rows ≡ rows
no_defaults [] rows n = refl
no_defaults (a ∷ more) rows n = ap (λ (r : List Row). fold with_default r more) (n.0 rows) ∙ no_defaults more rows n.1

-- ---- run

abbrev pub run_rules : List Rule
run_rules = one (codes "image") None (Some 1) true ∷ one (codes "script") None (Some 2) true
    ∷ one (codes "harts") (Some (codes "harts")) None false ∷ one (codes "frames") (Some (codes "frames")) None false ∷ []

pub run_free : is_simple_and_free run_app ≡ true
unfolding clap_on_literals
run_free = refl

pub run_simple : is_simple run_app ≡ true
unfolding clap_on_literals
run_simple = refl

run_built : (built run_app).top ≡ shape (codes "run") run_rules
run_built = refl

run_stands : Stands run_rules run_usage 1 (codes "image" ∷ codes "script" ∷ [])
run_stands = (refl, refl, refl, (refl, refl, refl, refl))

run_longs : (n : Word) → Long run_rules run_usage n
run_longs n = go (bytes_eq (codes "harts") n) (bytes_eq (codes "frames") n) refl refl
  where
    go : (a b : Bool) → bytes_eq (codes "harts") n ≡ a → bytes_eq (codes "frames") n ≡ b → Long run_rules run_usage n
    go true b e f = subst (Long run_rules run_usage) (same_word (codes "harts") n e) (of_value refl refl refl refl)
    go false true e f = subst (Long run_rules run_usage) (same_word (codes "frames") n f) (of_value refl refl refl refl)
    go false false e f = of_none
        (ap₂ (λ (x y : Bool). cond (x || false) (Some (one (codes "harts") (Some (codes "harts")) None false)) (cond (y || false) (Some (one (codes "frames") (Some (codes "frames")) None false)) None)) e f)
        (ap₂ (λ (x y : Bool). x || (y || false)) e f) refl

run_faultless : NoFaults run_rules
run_faultless = (λ rows. (default_one (codes "image") None (Some 1) true rows).0, (λ rows. (default_one (codes "script") None (Some 2) true rows).0, (λ rows. (default_one (codes "harts") (Some (codes "harts")) None false rows).0, (λ rows. (default_one (codes "frames") (Some (codes "frames")) None false rows).0, tt))))

run_bare : NoDefaults run_rules
run_bare = (λ rows. (default_one (codes "image") None (Some 1) true rows).1, (λ rows. (default_one (codes "script") None (Some 2) true rows).1, (λ rows. (default_one (codes "harts") (Some (codes "harts")) None false rows).1, (λ rows. (default_one (codes "frames") (Some (codes "frames")) None false rows).1, tt))))

-- a name is missing just where not both are told
two_names : (a b : Bool) → cond (not a || (not b || false)) (kind.MissingRequiredArgument ∷ []) [] ≡ cond (a && (b && true)) [] (kind.MissingRequiredArgument ∷ [])
two_names true true = refl
two_names true false = refl
two_names false b = refl

one_name : (a : Bool) → cond (not a || false) (kind.MissingRequiredArgument ∷ []) [] ≡ cond (a && true) [] (kind.MissingRequiredArgument ∷ [])
one_name true = refl
one_name false = refl

run_names : ChecksNames (codes "run") run_rules run_usage
run_names t =
    ap (λ (x : Kinds). or_else x (check_fault (shape (codes "run") run_rules) (full run_rules (rows_told run_usage t)) false)) (no_faults run_rules (rows_told run_usage t) run_faultless)
    ∙ (ap (λ (r : List Row). check_fault (shape (codes "run") run_rules) r false) (no_defaults run_rules (rows_told run_usage t) run_bare)
    ∙ (ap₂ (λ (a b : Bool). cond (not a || (not b || false)) (kind.MissingRequiredArgument ∷ []) []) (given_told run_usage (codes "image") t) (given_told run_usage (codes "script") t)
    ∙ two_names (is_told (codes "image") t) (is_told (codes "script") t)))

-- the matches of `run` hold what was told
run_holds : (m : ArgMatches) (t : Told) → rows_of (found_of m) ≡ full run_rules (rows_told run_usage t) → HoldsTold m t
run_holds m t e = λ name. first_value-rows (found_of m) name ∙ (ap (first_of name) (e ∙ no_defaults run_rules (rows_told run_usage t) run_bare) ∙ first_told run_usage name t refl)

pub run_read : (ws : List Word) → AreUtf8 ws → (m : Option ArgMatches) → IsParse run_app ws m → IsReadBy HoldsTold run_usage ws m
run_read ws texts m p =
    let found = exact (codes "run") run_rules run_usage (λ c. refl) run_longs run_stands run_names ws texts in
    let same : fault_of run_app ws ≡ level_fault (shape (codes "run") run_rules) [] nothing_held ws false [] = leaf_fault (built run_app) nothing_held ws refl in
    read_by HoldsTold run_usage run_rules ws (fault_of run_app ws) (matches_of run_app ws) m (told_by run_usage ws)
    (subst (λ (L : Kinds). Exact run_usage run_rules (told_by run_usage ws) L (matches_of run_app ws)) (sym same) found) p run_holds

-- ---- check

abbrev pub check_rules : List Rule
check_rules = one (codes "image") None (Some 1) true ∷ one (codes "journal") None (Some 2) true ∷ []

pub check_free : is_simple_and_free check_app ≡ true
unfolding clap_on_literals
check_free = refl

pub check_simple : is_simple check_app ≡ true
unfolding clap_on_literals
check_simple = refl

check_stands : Stands check_rules check_usage 1 (codes "image" ∷ codes "journal" ∷ [])
check_stands = (refl, refl, refl, (refl, refl, refl, refl))

check_longs : (n : Word) → Long check_rules check_usage n
check_longs n = of_none refl refl refl

check_faultless : NoFaults check_rules
check_faultless = (λ rows. (default_one (codes "image") None (Some 1) true rows).0, (λ rows. (default_one (codes "journal") None (Some 2) true rows).0, tt))

check_bare : NoDefaults check_rules
check_bare = (λ rows. (default_one (codes "image") None (Some 1) true rows).1, (λ rows. (default_one (codes "journal") None (Some 2) true rows).1, tt))

check_names : ChecksNames (codes "check") check_rules check_usage
check_names t =
    ap (λ (x : Kinds). or_else x (check_fault (shape (codes "check") check_rules) (full check_rules (rows_told check_usage t)) false)) (no_faults check_rules (rows_told check_usage t) check_faultless)
    ∙ (ap (λ (r : List Row). check_fault (shape (codes "check") check_rules) r false) (no_defaults check_rules (rows_told check_usage t) check_bare)
    ∙ (ap₂ (λ (a b : Bool). cond (not a || (not b || false)) (kind.MissingRequiredArgument ∷ []) []) (given_told check_usage (codes "image") t) (given_told check_usage (codes "journal") t)
    ∙ two_names (is_told (codes "image") t) (is_told (codes "journal") t)))

check_holds : (m : ArgMatches) (t : Told) → rows_of (found_of m) ≡ full check_rules (rows_told check_usage t) → HoldsTold m t
check_holds m t e = λ name. first_value-rows (found_of m) name ∙ (ap (first_of name) (e ∙ no_defaults check_rules (rows_told check_usage t) check_bare) ∙ first_told check_usage name t refl)

pub check_read : (ws : List Word) → AreUtf8 ws → (m : Option ArgMatches) → IsParse check_app ws m → IsReadBy HoldsTold check_usage ws m
check_read ws texts m p =
    let found = exact (codes "check") check_rules check_usage (λ c. refl) check_longs check_stands check_names ws texts in
    let same : fault_of check_app ws ≡ level_fault (shape (codes "check") check_rules) [] nothing_held ws false [] = leaf_fault (built check_app) nothing_held ws refl in
    read_by HoldsTold check_usage check_rules ws (fault_of check_app ws) (matches_of check_app ws) m (told_by check_usage ws)
    (subst (λ (L : Kinds). Exact check_usage check_rules (told_by check_usage ws) L (matches_of check_app ws)) (sym same) found) p check_holds

-- ---- asm

abbrev pub assembly_rules : List Rule
assembly_rules = one (codes "source") None (Some 1) true ∷ switch (codes "object") ∷ []

pub assembly_free : is_simple_and_free assembly_app ≡ true
unfolding clap_on_literals
assembly_free = refl

pub assembly_simple : is_simple assembly_app ≡ true
unfolding clap_on_literals
assembly_simple = refl

assembly_stands : Stands assembly_rules assembly_usage 1 (codes "source" ∷ [])
assembly_stands = (refl, refl, refl, refl)

assembly_longs : (n : Word) → Long assembly_rules assembly_usage n
assembly_longs n = go (bytes_eq (codes "object") n) refl
  where
    go : (a : Bool) → bytes_eq (codes "object") n ≡ a → Long assembly_rules assembly_usage n
    go true e = subst (Long assembly_rules assembly_usage) (same_word (codes "object") n e) (of_flag refl refl refl)
    go false e = of_none (ap (λ (x : Bool). cond (x || false) (Some (switch (codes "object"))) None) e) refl (ap (λ (x : Bool). x || false) e)

assembly_faultless : NoFaults assembly_rules
assembly_faultless = (λ rows. (default_one (codes "source") None (Some 1) true rows).0, (λ rows. default_switch (codes "object") rows, tt))

-- with the default of `object` where it was not told
assembly_full : (rows : List Row) (b : Bool) → has_row (codes "object") rows ≡ b → full assembly_rules rows ≡ cond b rows (rows ++ default_row (codes "object") ∷ [])
assembly_full rows b e =
    ap (λ (r : List Row). with_default r (switch (codes "object"))) (default_one (codes "source") None (Some 1) true rows).1
    ∙ with_switch (codes "object") rows b e

source_given : (rows : List Row) (b : Bool) → has_row (codes "object") rows ≡ b → is_given (codes "source") (full assembly_rules rows) ≡ is_given (codes "source") rows
source_given rows true e = ap (is_given (codes "source")) (assembly_full rows true e)
source_given rows false e =
    ap (is_given (codes "source")) (assembly_full rows false e)
    ∙ ap (λ (o : Option Row). option_map_or (λ (r : Row). explicit_source r.source) o false)
    (find_other (λ (r : Row). bytes_eq r.id (codes "source")) rows (default_row (codes "object")) refl)

assembly_names : ChecksNames (codes "asm") assembly_rules assembly_usage
assembly_names t =
    let rows : List Row = rows_told assembly_usage t in
    ap (λ (x : Kinds). or_else x (check_fault (shape (codes "asm") assembly_rules) (full assembly_rules rows) false)) (no_faults assembly_rules rows assembly_faultless)
    ∙ (ap (λ (a : Bool). cond (not a || false) (kind.MissingRequiredArgument ∷ []) []) (source_given rows (has_row (codes "object") rows) refl ∙ given_told assembly_usage (codes "source") t)
    ∙ one_name (is_told (codes "source") t))

source_first : (rows : List Row) (b : Bool) → has_row (codes "object") rows ≡ b → first_of (codes "source") (full assembly_rules rows) ≡ first_of (codes "source") rows
source_first rows true e = ap (first_of (codes "source")) (assembly_full rows true e)
source_first rows false e =
    ap (first_of (codes "source")) (assembly_full rows false e)
    ∙ ap (option_and_then (λ (r : Row). slice_get r.values 0)) (find_other (λ (r : Row). bytes_eq r.id (codes "source")) rows (default_row (codes "object")) refl)

object_one : (t : Told) (b : Bool) → is_told (codes "object") t ≡ b → one_of (codes "object") (full assembly_rules (rows_told assembly_usage t)) ≡ Some (cond b (codes "true") (codes "false"))
object_one t true e =
    ap (one_of (codes "object")) (assembly_full (rows_told assembly_usage t) true (has_row_told assembly_usage (codes "object") t ∙ e))
    ∙ flag_told assembly_usage (codes "object") t refl e
object_one t false e =
    let none : has_row (codes "object") (rows_told assembly_usage t) ≡ false = has_row_told assembly_usage (codes "object") t ∙ e in
    ap (one_of (codes "object")) (assembly_full (rows_told assembly_usage t) false none)
    ∙ ap (option_and_then row_text) (find_last (λ (r : Row). bytes_eq r.id (codes "object")) (rows_told assembly_usage t) (default_row (codes "object")) none refl)

assembly_holds : (m : ArgMatches) (t : Told) → rows_of (found_of m) ≡ full assembly_rules (rows_told assembly_usage t) → HoldsFlagged (codes "source") (codes "object") m t
assembly_holds m t e =
    let rows : List Row = rows_told assembly_usage t in (
      first_value-rows (found_of m) (codes "source") ∙ (ap (first_of (codes "source")) e ∙ (source_first rows (has_row (codes "object") rows) refl ∙ first_told assembly_usage (codes "source") t refl)),
      one_text-rows (found_of m) (codes "object") ∙ (ap (one_of (codes "object")) e ∙ object_one t (is_told (codes "object") t) refl),
    )

pub assembly_read : (ws : List Word) → AreUtf8 ws → (m : Option ArgMatches) → IsParse assembly_app ws m → IsReadBy (HoldsFlagged (codes "source") (codes "object")) assembly_usage ws m
assembly_read ws texts m p =
    let found = exact (codes "asm") assembly_rules assembly_usage (λ c. refl) assembly_longs assembly_stands assembly_names ws texts in
    let same : fault_of assembly_app ws ≡ level_fault (shape (codes "asm") assembly_rules) [] nothing_held ws false [] = leaf_fault (built assembly_app) nothing_held ws refl in
    read_by (HoldsFlagged (codes "source") (codes "object")) assembly_usage assembly_rules ws (fault_of assembly_app ws) (matches_of assembly_app ws) m (told_by assembly_usage ws)
    (subst (λ (L : Kinds). Exact assembly_usage assembly_rules (told_by assembly_usage ws) L (matches_of assembly_app ws)) (sym same) found) p assembly_holds

-- ---- make

abbrev pub make_rules : List Rule
make_rules = one (codes "functions") None (Some 1) true ∷ []

make_stands : Stands make_rules make_usage 1 (codes "functions" ∷ [])
make_stands = (refl, refl, refl, refl)

make_longs : (n : Word) → Long make_rules make_usage n
make_longs n = of_none refl refl refl

make_faultless : NoFaults make_rules
make_faultless = (λ rows. (default_one (codes "functions") None (Some 1) true rows).0, tt)

make_bare : NoDefaults make_rules
make_bare = (λ rows. (default_one (codes "functions") None (Some 1) true rows).1, tt)

make_names : ChecksNames (codes "make") make_rules make_usage
make_names t =
    ap (λ (x : Kinds). or_else x (check_fault (shape (codes "make") make_rules) (full make_rules (rows_told make_usage t)) false)) (no_faults make_rules (rows_told make_usage t) make_faultless)
    ∙ (ap (λ (r : List Row). check_fault (shape (codes "make") make_rules) r false) (no_defaults make_rules (rows_told make_usage t) make_bare)
    ∙ (ap (λ (a : Bool). cond (not a || false) (kind.MissingRequiredArgument ∷ []) []) (given_told make_usage (codes "functions") t)
    ∙ one_name (is_told (codes "functions") t)))

make_holds : (m : ArgMatches) (t : Told) → rows_of (found_of m) ≡ full make_rules (rows_told make_usage t) → HoldsTold m t
make_holds m t e = λ name. first_value-rows (found_of m) name ∙ (ap (first_of name) (e ∙ no_defaults make_rules (rows_told make_usage t) make_bare) ∙ first_told make_usage name t refl)

pub make_read : (ws : List Word) → AreUtf8 ws → (m : Option ArgMatches) → IsParse make_app ws m → IsReadBy HoldsTold make_usage ws m
make_read ws texts m p =
    let found = exact (codes "make") make_rules make_usage (λ c. refl) make_longs make_stands make_names ws texts in
    let same : fault_of make_app ws ≡ level_fault (shape (codes "make") make_rules) [] nothing_held ws false [] = leaf_fault (built make_app) nothing_held ws refl in
    read_by HoldsTold make_usage make_rules ws (fault_of make_app ws) (matches_of make_app ws) m (told_by make_usage ws)
    (subst (λ (L : Kinds). Exact make_usage make_rules (told_by make_usage ws) L (matches_of make_app ws)) (sym same) found) p make_holds
