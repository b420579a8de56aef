-- How far patches are fetched.
use Rattle.std.proofs.Common.{◌≡◌, ◌<◌, ◌≤◌, ◌⊎◌, ◌+◌, ℕ, List, [], ◌∷◌, ◌++◌, Option, None, Some, Result, Ok, Err, IfSome, refl, ap, sym, subst, ◌∙◌, suc, zero, inl, inr, add-one, length, drop, drop-cons, get_or, append_assoc, append-nil, arith}
use Rattle.wf_outside.specs.Files.{File, HasRisen}
use Rattle.wf_outside.specs.Images.{DeltaValue, ImageValue}
use Rattle.patch_build.specs.Areas.{BuiltValue}
use Rattle.patch_build.specs.Fits.{FitBehind, FitsArea, area_over, area_with}
use Rattle.wf_status.specs.declared.status.Status.{Status}
use Rattle.wf_fetch.specs.Stages.{◌>>=◌}
use Rattle.wf_patches.specs.Bases.{BaseValue, IsSameBase, base_over, base_with}
use Rattle.wf_patches.specs.Needed.{OfNeeded, OfRead, OfReads}
use Rattle.wf_patches.specs.Stages.{patch_stage, patches_from, patches_stage}
use Rattle.wf_patches.proofs.BaseLemmas.{behind_same}
use Rattle.wf_patches.proofs.StageLemmas.{from_same, reads_same}

-- what is behind what was brought so far
pub behind : List DeltaValue → Result (List DeltaValue) Status → Result (List DeltaValue) Status
behind done (Ok rest) = Ok (done ++ rest)
behind done (Err status) = Err status

-- a count of a name has risen from one time to another
abbrev pub Rises : (List ℕ → ℕ) → (List ℕ → ℕ) → List ℕ → Type 0
Rises before now name = HasRisen (before name) (now name)

-- the patches before this number were fetched, and brought this
pub record Reached (held : List ℕ → Option (List ℕ)) (image : ImageValue) (names : List (List ℕ)) (number : ℕ) (base : BaseValue) (done : List DeltaValue) : Type 0 where
  pub stage : patches_stage held image names ≡ behind done (patches_from held number base (drop number names))
  pub needed : (before now : List ℕ → ℕ) → OfReads held number base (drop number names) (Rises before now) → OfNeeded held image names (Rises before now)

behind_none : (r : Result (List DeltaValue) Status) → r ≡ behind [] r
unfolding behind
behind_none (Ok rest) = refl
behind_none (Err status) = refl

pub begins : (held : List ℕ → Option (List ℕ)) (image : ImageValue) (names : List (List ℕ)) (base : BaseValue) → IsSameBase base (base_over image)
    → Reached held image names 0 base []
unfolding patches_stage OfNeeded
begins held image names base same = record {
  stage = behind_none (patches_from held 0 (base_over image) names)
      ∙ ap (λ (r : Result (List DeltaValue) Status). behind [] r) (sym (from_same held 0 base (base_over image) names same));
  needed = λ before now reads. reads_same held 0 base (base_over image) names (Rises before now) same reads;
}

behind_more : (done : List DeltaValue) (delta : DeltaValue) (r : Result (List DeltaValue) Status) → behind done (r >>= (λ deltas. Ok (delta ∷ deltas))) ≡ behind (done ++ delta ∷ []) r
unfolding behind
behind_more done delta (Ok rest) = ap Ok (sym (append_assoc done (delta ∷ []) rest))
behind_more done delta (Err status) = refl

pub goes : (held : List ℕ → Option (List ℕ)) (image : ImageValue) (names rest : List (List ℕ)) (number : ℕ) (base next : BaseValue) (done : List DeltaValue) (name : List ℕ) (built : BuiltValue)
    → Reached held image names number base done → drop number names ≡ name ∷ rest → rest ≡ drop (number + 1) names
    → patch_stage held number base name ≡ Ok built → IsSameBase next (base_with base built)
    → Reached held image names (number + 1) next (done ++ built.delta ∷ [])
goes held image names rest number base next done name built reached left more is same = record {
  stage =
      reached.stage
      ∙ ap (λ (ns : List (List ℕ)). behind done (patches_from held number base ns)) left
      ∙ ap (λ (o : Result BuiltValue Status). behind done (o >>= (λ b. patches_from held (number + 1) (base_with base b) rest >>= (λ deltas. Ok (b.delta ∷ deltas))))) is
      ∙ behind_more done built.delta (patches_from held (number + 1) (base_with base built) rest)
      ∙ ap (λ (r : Result (List DeltaValue) Status). behind (done ++ built.delta ∷ []) r) (sym (from_same held (number + 1) next (base_with base built) rest same))
      ∙ ap (λ (ns : List (List ℕ)). behind (done ++ built.delta ∷ []) (patches_from held (number + 1) next ns)) more;
  needed = λ before now reads.
      let here : OfReads held (number + 1) next rest (Rises before now) =
      subst (λ (ns : List (List ℕ)). OfReads held (number + 1) next ns (Rises before now)) (sym more) reads in
      let all : OfReads held number base (name ∷ rest) (Rises before now) = inr (record {
        built = built;
        is = is;
        fits = reads_same held (number + 1) next (base_with base built) rest (Rises before now) same here;
      }) in
      reached.needed before now (subst (λ (ns : List (List ℕ)). OfReads held number base ns (Rises before now)) (sym left) all);
}

pub fails : (held : List ℕ → Option (List ℕ)) (image : ImageValue) (names rest : List (List ℕ)) (number : ℕ) (base : BaseValue) (done : List DeltaValue) (name : List ℕ) (status : Status)
    → Reached held image names number base done → drop number names ≡ name ∷ rest → patch_stage held number base name ≡ Err status
    → patches_stage held image names ≡ Err status
unfolding behind
fails held image names rest number base done name status reached left is =
    reached.stage
    ∙ ap (λ (ns : List (List ℕ)). behind done (patches_from held number base ns)) left
    ∙ ap (λ (o : Result BuiltValue Status). behind done (o >>= (λ b. patches_from held (number + 1) (base_with base b) rest >>= (λ deltas. Ok (b.delta ∷ deltas))))) is

pub reads : (held : List ℕ → Option (List ℕ)) (image : ImageValue) (names rest : List (List ℕ)) (number : ℕ) (base : BaseValue) (done : List DeltaValue) (name : List ℕ) (before now : List ℕ → ℕ)
    → Reached held image names number base done → drop number names ≡ name ∷ rest → OfRead held number name (Rises before now)
    → OfNeeded held image names (Rises before now)
reads held image names rest number base done name before now reached left read =
    reached.needed before now (subst (λ (ns : List (List ℕ)). OfReads held number base ns (Rises before now)) (sym left) (inl read))

pub ends : (held : List ℕ → Option (List ℕ)) (image : ImageValue) (names : List (List ℕ)) (number : ℕ) (base : BaseValue) (done : List DeltaValue)
    → Reached held image names number base done → drop number names ≡ [] → patches_stage held image names ≡ Ok done
unfolding behind
ends held image names number base done reached none =
    reached.stage
    ∙ ap (λ (ns : List (List ℕ)). behind done (patches_from held number base ns)) none
    ∙ ap Ok (append-nil done)

-- what was brought so far fits, and so does what fits behind it
pub record Fitted (image : ImageValue) (base : BaseValue) (done : List DeltaValue) : Type 0 where
  pub fit : (rest : List DeltaValue) → FitBehind base.area rest → FitBehind (area_over image) (done ++ rest)

pub fit_begins : (image : ImageValue) (base : BaseValue) → IsSameBase base (base_over image) → Fitted image base []
fit_begins image base same = record { fit = λ rest fit. behind_same base.area (area_over image) rest same.area fit }

pub fit_goes : (image : ImageValue) (base next : BaseValue) (done : List DeltaValue) (built : BuiltValue) → Fitted image base done
    → FitsArea base.area built.delta → IsSameBase next (base_with base built) → Fitted image next (done ++ built.delta ∷ [])
fit_goes image base next done built fitted fits same = record {
  fit = λ rest fit.
      subst (λ (ds : List DeltaValue). FitBehind (area_over image) ds) (sym (append_assoc done (built.delta ∷ []) rest))
      (fitted.fit (built.delta ∷ rest) (fits, behind_same next.area (area_with base.area built.delta) rest same.area fit));
}

pub fit_ends : (image : ImageValue) (base : BaseValue) (done : List DeltaValue) → Fitted image base done → FitBehind (area_over image) done
fit_ends image base done fitted = subst (λ (ds : List DeltaValue). FitBehind (area_over image) ds) (append-nil done) (fitted.fit [] tt)

-- what holds of all files holds of those that are held
pub held_all : (P : List File → Type 0) (o : Option (List File)) → ((files : List File) → P files) → IfSome o P
held_all P None f = tt
held_all P (Some files) f = f files

-- what is told of files that are held, where they stayed
pub held_map : (P Q : List File → Type 0) (o : Option (List File)) → ((files : List File) → P files → Q files) → IfSome o P → IfSome o Q
held_map P Q None f p = tt
held_map P Q (Some files) f p = f files p

pub held_both : (P Q R : List File → Type 0) (o p : Option (List File)) → p ≡ o → ((files : List File) → P files → Q files → R files) → IfSome o P → IfSome p Q → IfSome o R
held_both P Q R None p is f x y = tt
held_both P Q R (Some files) p is f x y = f files x (subst (λ (q : Option (List File)). IfSome q Q) is y)

-- the names that are left, from one on
pub next_name : (names : List (List ℕ)) (i : ℕ) (entry name : List ℕ) → i < length names → entry ≡ get_or names i entry → name ≡ entry
    → drop i names ≡ name ∷ drop (i + 1) names
next_name names i entry name lt e same =
    drop-cons names i entry lt
    ∙ rw (add-one i) (ap (λ (x : List ℕ). x ∷ drop (suc i) names) (sym e ∙ sym same))

pub none_left : (names : List (List ℕ)) (i : ℕ) → length names ≤ i → drop i names ≡ []
none_left [] zero le = refl
none_left [] (suc i) le = refl
none_left (name ∷ names) zero le = absurd (omega arith)
none_left (name ∷ names) (suc i) le = none_left names i (omega arith)

-- the answer for a patch is that of all
pub fails_so : (held : List ℕ → Option (List ℕ)) (image : ImageValue) (names rest : List (List ℕ)) (number : ℕ) (base : BaseValue) (done : List DeltaValue) (name : List ℕ) (status : Status) (R : Type 0)
    → Reached held image names number base done → drop number names ≡ name ∷ rest → (R ⊎ (patch_stage held number base name ≡ Err status))
    → (R ⊎ (patches_stage held image names ≡ Err status))
fails_so held image names rest number base done name status R reached left (inl fault) = inl fault
fails_so held image names rest number base done name status R reached left (inr is) = inr (fails held image names rest number base done name status reached left is)

-- a count that rose later rose from the start
risen : (old mid new : ℕ) → old ≤ mid → HasRisen mid new → HasRisen old new
risen old mid new le (inl lt) = inl (omega (arith, le, lt))
risen old mid new le (inr end) = inr end

read_risen : (held : List ℕ → Option (List ℕ)) (patch : ℕ) (name : List ℕ) (old mid new : List ℕ → ℕ) → ((other : List ℕ) → old other ≤ mid other)
    → OfRead held patch name (Rises mid new) → OfRead held patch name (Rises old new)
read_risen held patch name old mid new le (inl rose) = inl (risen (old name) (mid name) (new name) (le name) rose)
read_risen held patch name old mid new le (inr object) = inr (record {
  file = object.file;
  is = object.is;
  object = risen (old object.file.object) (mid object.file.object) (new object.file.object) (le object.file.object) object.object;
})

-- a needed name was read
pub reads_so : (held : List ℕ → Option (List ℕ)) (image : ImageValue) (names rest : List (List ℕ)) (number : ℕ) (base : BaseValue) (done : List DeltaValue) (name : List ℕ) (old mid new : List ℕ → ℕ)
    → ((other : List ℕ) → old other ≤ mid other) → Reached held image names number base done → drop number names ≡ name ∷ rest → OfRead held number name (Rises mid new)
    → OfNeeded held image names (Rises old new)
reads_so held image names rest number base done name old mid new le reached left read =
    reads held image names rest number base done name old new reached left (read_risen held number name old mid new le read)
