-- The first R_RISCV_PCREL_HI20 at a place.
use Rattle.std.proofs.Common.{◌≡◌, ◌<◌, ◌≤◌, ◌+◌, ◌-◌, ℕ, List, [], ◌∷◌, ◌++◌, Bool, true, false, cond, ◌&&◌, ◌==◌, Option, None, Some, refl, sym, ap, subst, ◌∙◌, length, take, get_or, arith, All, IfSome, find, unwrap_or}
use Rattle.std.specs.List.{AllByRecursion, filter, flat_map}
use Rattle.std.specs.Option.{option_or}
use Rattle.std.proofs.lemmas.Bool.Decides.{nat_tests}
use Rattle.std.proofs.lemmas.List.{take_more}
use Rattle.std.proofs.lemmas.List.Folds.{find-append}
use Rattle.std.proofs.lemmas.List.Elements.{filter_more, All-append, All-nil, All-head, All-tail, recursion_from_All}
use Rattle.std.proofs.lemmas.Grind.{flat_map-append}
use Rattle.elf_read.specs.declared.records.Rela.{Rela}
use Rattle.elf_read.specs.Relas.{RelaGroupValue, IsRooted, symbol_number, relocation_type}
use Rattle.elf_fields.specs.declared.constants.TheConstants.{R_RISCV_PCREL_HI20}
use Rattle.elf_link.specs.Links.{LinkValue, place_of, relas_in}
use Rattle.elf_link.specs.Values.{is_high_at, high_at}
use Rattle.elf_link.specs.Kept.{high_from}

or_assoc : {X : Type 0} (a b c : Option X) → option_or (option_or a b) c ≡ option_or a (option_or b c)
or_assoc None b c = refl
or_assoc (Some a) b c = refl

-- one more entry
pub high-more : (relas : List Rela) (i : ℕ) (d : Rela) (offset : ℕ) (old : Option Rela) → i < length relas
    → option_or (option_or old (high_from (take i relas) offset)) (high_from (get_or relas i d ∷ []) offset) ≡ option_or old (high_from (take (i + 1) relas) offset)
high-more relas i d offset old lt =
    or_assoc old _ _
    ∙ ap (option_or old) (sym (find-append _ (take i relas) (get_or relas i d ∷ [])) ∙ ap (λ l. high_from l offset) (sym (take_more relas i d lt)))

append_nil : {X : Type 0} (xs : List X) → xs ++ [] ≡ xs
append_nil [] = refl
append_nil (x ∷ xs) = ap (λ l. x ∷ l) (append_nil xs)

-- the entries of groups with this target
abbrev pub relas_among : ℕ → List RelaGroupValue → List Rela
relas_among section groups = flat_map (λ g. g.relas) (filter (λ g. g.target == section) groups)

pub among-more : (section : ℕ) (groups : List RelaGroupValue) (i : ℕ) (g : RelaGroupValue) → i < length groups → g ≡ get_or groups i g
    → relas_among section (take (i + 1) groups) ≡ relas_among section (take i groups) ++ cond (g.target == section) g.relas []
among-more section groups i g lt is =
    ap (flat_map (λ h. h.relas)) (filter_more (λ h. h.target == section) groups i g lt ∙ ap (λ x. filter (λ h. h.target == section) (take i groups) ++ cond (x.target == section) (x ∷ []) []) (sym is))
    ∙ flat_map-append (λ h. h.relas) (filter (λ h. h.target == section) (take i groups)) _
    ∙ ap (λ l. relas_among section (take i groups) ++ l) (one (g.target == section))
  where
    one : (b : Bool) → flat_map (λ h. h.relas) (cond b (g ∷ []) []) ≡ cond b g.relas []
    one true = append_nil g.relas
    one false = refl

none_at : (place offset label : ℕ) (high : Bool) → label < place → (high && (place + offset == label)) ≡ false
none_at place offset label true lt = grind (arith, nat_tests)
none_at place offset label false lt = refl

-- an address below the section has none
pub high_none : (place label : ℕ) (relas : List Rela) → label < place → find (is_high_at place label) relas ≡ None
high_none place label [] lt = refl
high_none place label (r ∷ relas) lt =
    ap (λ b. cond b (Some r) (find (is_high_at place label) relas)) (none_at place r.r_offset label _ lt) ∙ high_none place label relas lt

same_at : (place offset label : ℕ) → place ≤ label → (place + offset == label) ≡ (offset == label - place)
same_at place offset label le = grind (arith, nat_tests)

-- an address in the section has what stands at its place there
pub high_same : (place label : ℕ) (relas : List Rela) → place ≤ label → find (is_high_at place label) relas ≡ high_from relas (label - place)
high_same place label [] le = refl
high_same place label (r ∷ relas) le =
    ap (λ b. cond ((relocation_type r == R_RISCV_PCREL_HI20) && b) (Some r) (find (is_high_at place label) relas)) (same_at place r.r_offset label le)
    ∙ ap (λ o. cond ((relocation_type r == R_RISCV_PCREL_HI20) && (r.r_offset == label - place)) (Some r) o) (high_same place label relas le)

-- what is found is one of the list
pub named_found : (n : ℕ) (test : Rela → Bool) (relas : List Rela) → AllByRecursion (λ x. symbol_number x < n) relas → IfSome (find test relas) (λ r. symbol_number r < n)
named_found n test [] each = tt
named_found n test (r ∷ relas) each = at (test r) (named_found n test relas each.1) where
  at : (b : Bool) → IfSome (find test relas) (λ x. symbol_number x < n) → IfSome (cond b (Some r) (find test relas)) (λ x. symbol_number x < n)
  at true rest = each.0
  at false rest = rest

-- the same, of the entries for a section that is linked
pub high_at-below : (link : LinkValue) (place label : ℕ) → place_of link.places link.section ≡ Some place → label < place → None ≡ high_at link label
high_at-below link place label placed lt =
    sym (ap (λ o. find (is_high_at (unwrap_or o 0) label) (relas_in link)) placed ∙ high_none place label (relas_in link) lt)

pub high_at-from : (link : LinkValue) (place label : ℕ) (found : Option Rela) → place_of link.places link.section ≡ Some place → place ≤ label
    → found ≡ high_from (relas_in link) (label - place) → found ≡ high_at link label
high_at-from link place label found placed le is =
    is ∙ sym (ap (λ o. find (is_high_at (unwrap_or o 0) label) (relas_in link)) placed ∙ high_same place label (relas_in link) le)

pub high_at-named : (link : LinkValue) (label : ℕ) (found : Option Rela) → AllByRecursion (λ r. symbol_number r < length link.object.symbols) (relas_in link)
    → found ≡ high_at link label → IfSome found (λ r. symbol_number r < length link.object.symbols)
high_at-named link label found each is =
    subst (λ o. IfSome o (λ r. symbol_number r < length link.object.symbols)) (sym is) (named_found (length link.object.symbols) _ (relas_in link) each)

-- one more group
pub high-group : (section : ℕ) (groups : List RelaGroupValue) (i : ℕ) (g : RelaGroupValue) (offset : ℕ) (mid : Option Rela)
    → i < length groups → g ≡ get_or groups i g → g.target ≡ section → mid ≡ high_from (relas_among section (take i groups)) offset
    → option_or mid (high_from g.relas offset) ≡ high_from (relas_among section (take (i + 1) groups)) offset
high-group section groups i g offset mid lt is here noted =
    ap (λ o. option_or o (high_from g.relas offset)) noted
    ∙ sym (find-append _ (relas_among section (take i groups)) g.relas)
    ∙ ap (λ l. high_from l offset) (ap (λ b. relas_among section (take i groups) ++ cond b g.relas []) (sym yes) ∙ sym (among-more section groups i g lt is))
  where
    yes : (g.target == section) ≡ true
    yes = grind (arith, nat_tests)

pub no-group : (section : ℕ) (groups : List RelaGroupValue) (i : ℕ) (g : RelaGroupValue)
    → i < length groups → g ≡ get_or groups i g → (g.target ≡ section → ⊥)
    → relas_among section (take i groups) ≡ relas_among section (take (i + 1) groups)
no-group section groups i g lt is apart =
    sym (append_nil _) ∙ ap (λ b. relas_among section (take i groups) ++ cond b g.relas []) (sym no_) ∙ sym (among-more section groups i g lt is)
  where
    no_ : (g.target == section) ≡ false
    no_ = grind (arith, nat_tests)

named_group : (n section : ℕ) (b : Bool) (g : RelaGroupValue) (rest : List RelaGroupValue) → All (λ r. symbol_number r < n) g.relas
    → All (λ r. symbol_number r < n) (flat_map (λ h. h.relas) rest) → All (λ r. symbol_number r < n) (flat_map (λ h. h.relas) (cond b (g ∷ rest) rest))
named_group n section true g rest here there = All-append (λ x. symbol_number x < n) g.relas (flat_map (λ h. h.relas) rest) here there
named_group n section false g rest here there = there

named_among : (sections n section : ℕ) (groups : List RelaGroupValue) → All (IsRooted sections n) groups → All (λ r. symbol_number r < n) (relas_among section groups)
named_among sections n section [] rooted = All-nil (λ x. symbol_number x < n)
named_among sections n section (g ∷ groups) rooted =
    named_group n section (g.target == section) g (filter (λ h. h.target == section) groups) (All-head (IsRooted sections n) g groups rooted).named
    (named_among sections n section groups (All-tail (IsRooted sections n) g groups rooted))

-- the entries for a section name symbols that are there
pub named_all : (sections n section : ℕ) (groups : List RelaGroupValue) → All (IsRooted sections n) groups
    → AllByRecursion (λ r. symbol_number r < n) (relas_among section groups)
named_all sections n section groups rooted = recursion_from_All (λ x. symbol_number x < n) (relas_among section groups) (named_among sections n section groups rooted)
