-- What is found by a walk, and by records.
use Rattle.std.proofs.Common.{◌≡◌, ◌==◌, ◌||◌, ◌<◌, ◌≤◌, ◌/◌, ◌%◌, ◌^◌, ℕ, List, [], ◌∷◌, Bool, true, false, not, Option, Some, None, refl, sym, subst, ap, ◌∙◌, inl, inr, arith, is_some}
use Rattle.std.specs.Prelude.{IsSomeAnd, nat_lt}
use Rattle.std.specs.Option.{option_map}
use Rattle.std.specs.List.{flat_map}
use Rattle.std.specs.Set.{is_member}
use Rattle.wf_outside.specs.Pages.{LimitsValue, PageValue, page_of}
use Rattle.wf_frames.specs.Layout.{WordsValue}
use Rattle.wf_views.specs.declared.pages.PageAt.{PageAt}
use Rattle.wf_views.specs.declared.records.Records.{Records}
use Rattle.wf_views.specs.Pages.{page_at}
use Rattle.wf_flat.specs.Accesses.{generation_text}
use Rattle.wf_flat.specs.Memory.{data_in, has_met, number_in, page_in}
use Rattle.wf_flat.specs.State.{FlatState, PageState}
use Rattle.wf_homes.specs.Homes.{DataOf, Homes, has_tenant, home_frame, node_tenants, same_tenant, text_tenants}
use Rattle.wf_homes.specs.Kept.{HasWords, IsKeptPage, LiesIn, record_of}
use Rattle.wf_homes.specs.Stands.{StandsFor}
use Rattle.wf_homes.proofs.FoundLemmas.{found_number, some_at}
use Rattle.wf_homes.proofs.ListLemmas.{true_or_false}
use Rattle.wf_homes.proofs.PlaceLemmas.{home_low}
use Rattle.wf_homes.proofs.RecordedLemmas.{flip_test}
use Rattle.wf_space.proofs.LeftLemmas.{data_tenants, no_data_node, no_data_text, parts}
use Rattle.wf_space.proofs.MeetLemmas.{found_each, some_of}
use Rattle.wf_translation.specs.declared.translation.Translation.TheVariants.{Data, Missing, Text}
use Rattle.wf_translation.specs.Readings.{frame_number}
use Rattle.wf_translation.proofs.ReadLemmas.{number_is}
use Rattle.wf_translation.specs.Translations.{AddressTold, CanTranslate}
use Rattle.wf_process.specs.Finding.{FoundIsRight, IsFoundOf, TextIsRight, found_in, text_bytes}

-- a page of data is a tenant
data_member : (pages : List PageState) (n : ℕ) → is_member same_tenant (data_tenants pages) (DataOf n) ≡ is_some (data_in pages n)
data_member [] n = refl
data_member (p ∷ ps) n = elim (true_or_false (p.number == n)) [
  | inl t ↦ (let u : (n == p.number) ≡ true = flip_test p.number n true t in rw (t, u) refl)
  | inr t ↦ (let u : (n == p.number) ≡ false = flip_test p.number n false t in rw (t, u) (data_member ps n))
]

data_tenant : (s : FlatState) (n : ℕ) → has_tenant s (DataOf n) ≡ is_some (data_in s.pages n)
data_tenant s n =
    let a : is_member same_tenant (flat_map text_tenants s.gens) (DataOf n) ≡ false = no_data_text s.gens n in
    let b : is_member same_tenant (flat_map node_tenants s.gens) (DataOf n) ≡ false = no_data_node s.gens n in
    parts s (DataOf n)
    ∙ ap (λ (x : Bool). (x || is_member same_tenant (data_tenants s.pages) (DataOf n)) || is_member same_tenant (flat_map node_tenants s.gens) (DataOf n)) a
    ∙ ap (λ (x : Bool). is_member same_tenant (data_tenants s.pages) (DataOf n) || x) b
    ∙ or_false (is_member same_tenant (data_tenants s.pages) (DataOf n))
    ∙ data_member s.pages n
  where
    or_false : (x : Bool) → (x || false) ≡ x
    or_false true = refl
    or_false false = refl

module _ (words : WordsValue) (r : Records) (homes : Homes) (s : FlatState) (st : StandsFor words r homes s) where
  -- a page of data lies in its frame, and its record says so
  record Lies (n : ℕ) (page : PageState) : Type 0 where
    pub frame : ℕ
    pub number : page.number ≡ n
    pub recorded : page_at r.pages n ≡ Some (record_of page frame)
    pub lies : LiesIn words r page frame

  lies_there : (n : ℕ) (page : PageState) → data_in s.pages n ≡ Some page → Lies n page
  lies_there n page e =
      let number : page.number ≡ n = found_number (λ (p : PageState). p.number) s.pages n page e in
      let h = some_of (home_frame homes (DataOf page.number)) (LiesIn words r page) (found_each (IsKeptPage words r homes) s.pages n page st.pages e) in
      record { frame = h.0; number = number; recorded = ap (λ (k : ℕ). page_at r.pages k) (sym number) ∙ h.2.recorded; lies = h.2 }

  recorded_there : (n : ℕ) → is_some (page_at r.pages n) ≡ is_some (data_in s.pages n)
  recorded_there n = sym (mapped (page_at r.pages n)) ∙ ap is_some (st.at_home (DataOf n)) ∙ st.housed.each (DataOf n) ∙ data_tenant s n
    where
      mapped : (o : Option PageAt) → is_some (option_map (λ (p : PageAt). p.frame) o) ≡ is_some o
      mapped None = refl
      mapped (Some p) = refl

  -- a page that is recorded lies in one of the frames
  pub recorded_low : (n : ℕ) (p : PageAt) → page_at r.pages n ≡ Some p → p.frame < words.frames
  recorded_low n p e =
      let home : home_frame homes (DataOf n) ≡ Some p.frame = sym (st.at_home (DataOf n)) ∙ ap (option_map (λ (x : PageAt). x.frame)) e in
      rw st.sizes.of_words (home_low homes s (DataOf n) p.frame st.housed.separate home)

  -- what is found of a page that lies in a frame
  found_of : (page : PageState) (n frame : ℕ) (met : Bool) → LiesIn words r page frame → page.number ≡ n → IsFoundOf s (found_in words r.limits.last_writes n frame page.write met) page
  found_of page n frame met lies number =
      let limits : r.limits.last_writes ≡ s.limits.last_writes = ap (λ (l : LimitsValue). l.last_writes) st.sizes.of_records in
      record {
        number = sym number;
        write = refl;
        writes = lies.writes;
        last = ap (λ (w : ℕ). not (nat_lt w r.limits.last_writes)) lies.writes ∙ ap (λ (l : ℕ). not (nat_lt page.writes l)) limits;
      }

  module _ (g n : ℕ) where
    -- a page that the walk found
    pub data_found : (frame : ℕ) (write : Bool) → has_met s.met g n ≡ true → IsSomeAnd (data_in s.pages n) (λ p. (p.write ≡ write) × LiesIn words r p frame)
        → (IsSomeAnd (data_in s.pages n) (IsFoundOf s (found_in words r.limits.last_writes n frame write true)) × (true ≡ has_met s.met g n)) × IsSomeAnd (data_in s.pages n) (λ page. LiesIn words r page frame)
    data_found frame write met there =
        let w = some_of (data_in s.pages n) (λ (p : PageState). (p.write ≡ write) × LiesIn words r p frame) there in
        let found : IsFoundOf s (found_in words r.limits.last_writes n frame write true) w.0 =
        subst (λ (b : Bool). IsFoundOf s (found_in words r.limits.last_writes n frame b true) w.0) w.2.0 (found_of w.0 n frame true w.2.1 (found_number (λ (p : PageState). p.number) s.pages n w.0 w.1)) in (
          (some_at (data_in s.pages n) (IsFoundOf s (found_in words r.limits.last_writes n frame write true)) w.0 w.1 found, sym met),
          some_at (data_in s.pages n) (λ page. LiesIn words r page frame) w.0 w.1 w.2.1,
        )

    -- a page that the records have
    pub unmet_found : (p : PageAt) → page_at r.pages n ≡ Some p → (has_met s.met g n ≡ true → data_in s.pages n ≡ None)
        → (IsSomeAnd (data_in s.pages n) (IsFoundOf s (found_in words r.limits.last_writes n p.frame p.write false)) × (false ≡ has_met s.met g n)) × IsSomeAnd (data_in s.pages n) (λ page. LiesIn words r page p.frame)
    unmet_found p e unmet = by_data (data_in s.pages n) refl
      where
        by_data : (o : Option PageState) → data_in s.pages n ≡ o → (IsSomeAnd (data_in s.pages n) (IsFoundOf s (found_in words r.limits.last_writes n p.frame p.write false)) × (false ≡ has_met s.met g n)) × IsSomeAnd (data_in s.pages n) (λ page. LiesIn words r page p.frame)
        by_data None d = absurd (let k : true ≡ false = sym (ap is_some e) ∙ recorded_there n ∙ ap is_some d in cc)
        by_data (Some page) d =
            let h = lies_there n page d in
            let same : record_of page h.frame ≡ p = (let k : Some (record_of page h.frame) ≡ Some p = sym h.recorded ∙ e in cc) in
            let found : IsFoundOf s (found_in words r.limits.last_writes n p.frame p.write false) page = subst (λ (x : PageAt). IsFoundOf s (found_in words r.limits.last_writes n x.frame x.write false) page) same (found_of page n h.frame false h.lies h.number) in
            let lies : LiesIn words r page p.frame = subst (λ (x : PageAt). LiesIn words r page x.frame) same h.lies in
            let no : false ≡ has_met s.met g n = elim (true_or_false (has_met s.met g n)) [
              | inl t ↦ absurd (let k : Some page ≡ None = sym d ∙ unmet t in cc)
              | inr f ↦ sym f
            ] in
            ((some_at (data_in s.pages n) (IsFoundOf s (found_in words r.limits.last_writes n p.frame p.write false)) page d found, no), some_at (data_in s.pages n) (λ x. LiesIn words r x p.frame) page d lies)

    -- where the records have none, there is none
    pub none_found : page_at r.pages n ≡ None → data_in s.pages n ≡ None
    none_found e = by_data (data_in s.pages n) refl
      where
        by_data : (o : Option PageState) → data_in s.pages n ≡ o → data_in s.pages n ≡ None
        by_data None d = d
        by_data (Some page) d = absurd (let h = lies_there n page d in let k : None ≡ Some (record_of page h.frame) = sym e ∙ h.recorded in cc)

-- no page of data is so high
pub far_found : (words : WordsValue) (r : Records) (g va : ℕ) → 2 ^ 38 ≤ va → FoundIsRight words r g va None
far_found words r g va far homes s st mapped apart = (by_data (data_in s.pages (page_of va)) refl, tt)
  where
    by_data : (o : Option PageState) → data_in s.pages (page_of va) ≡ o → data_in s.pages (page_of va) ≡ None
    by_data None d = d
    by_data (Some page) d = absurd (
        let low : page.number < 0x4000000 = found_each (λ (p : PageState). p.number < 0x4000000) s.pages (page_of va) page mapped.data_low d in
        let number : page.number ≡ va / 4096 = found_number (λ (p : PageState). p.number) s.pages (page_of va) page d in
        omega arith
        )

-- a page of text is no page of data
pub text_found : (words : WordsValue) (r : Records) (g va frame : ℕ) → AddressTold words r g va (Text frame) → FoundIsRight words r g va None
text_found words r g va frame told homes s st mapped apart =
    let w = some_of (page_in (generation_text s g) (page_of va)) (λ (p : PageValue). HasWords words frame p.words) (told homes s st mapped) in
    (apart (ap is_some w.1), tt)

-- this is found, of these parts
abbrev FoundOf : WordsValue → Records → FlatState → ℕ → ℕ → ℕ → ℕ → ℕ → Bool → Bool → Type 0
FoundOf words r s g va last n frame write met =
    (IsSomeAnd (data_in s.pages (page_of va)) (IsFoundOf s (found_in words last n frame write met)) × (met ≡ has_met s.met g (page_of va))) × IsSomeAnd (data_in s.pages (page_of va)) (λ x. LiesIn words r x frame)

-- the page is found by its leaf
pub leaf_found : (words : WordsValue) (r : Records) (g va page last frame : ℕ) (write : Bool) → page ≡ va / 4096 → last ≡ r.limits.last_writes → AddressTold words r g va (Data frame write) → FoundIsRight words r g va (Some (found_in words last page frame write true))
leaf_found words r g va page last frame write is limits told homes s st mapped apart =
    let t = told homes s st mapped in
    subst (λ (l : ℕ). FoundOf words r s g va l page frame write true) (sym limits) (subst (λ (n : ℕ). FoundOf words r s g va r.limits.last_writes n frame write true) (sym is) (data_found words r homes s st g (page_of va) frame write t.met t.there))

-- or by its record
pub record_found : (words : WordsValue) (r : Records) (g va page last : ℕ) (p : PageAt) → page ≡ va / 4096 → last ≡ r.limits.last_writes → page_at r.pages page ≡ Some p → AddressTold words r g va Missing → FoundIsRight words r g va (Some (found_in words last page p.frame p.write false))
record_found words r g va page last p is limits e told homes s st mapped apart =
    let t = told homes s st mapped in
    subst (λ (l : ℕ). FoundOf words r s g va l page p.frame p.write false) (sym limits) (subst (λ (n : ℕ). FoundOf words r s g va r.limits.last_writes n p.frame p.write false) (sym is)
    (unmet_found words r homes s st g (page_of va) p (subst (λ (n : ℕ). page_at r.pages n ≡ Some p) is e) t.no_data))

-- or not at all
pub nothing_found : (words : WordsValue) (r : Records) (g va page : ℕ) → page ≡ va / 4096 → page_at r.pages page ≡ None → FoundIsRight words r g va None
nothing_found words r g va page is e homes s st mapped apart = (none_found words r homes s st g (page_of va) (subst (λ (n : ℕ). page_at r.pages n ≡ None) is e), tt)

-- a page that is recorded lies in one of the frames
pub frame_low : (words : WordsValue) (r : Records) (g n : ℕ) (p : PageAt) → CanTranslate words r g → page_at r.pages n ≡ Some p → p.frame < words.frames
frame_low words r g n p can e = recorded_low words r can.homes can.state can.stands n p e

-- bytes of text are those of the frame that the walk found
pub text_bytes_found : (words : WordsValue) (r : Records) (g va width frame value : ℕ) → AddressTold words r g va (Text frame) → value ≡ frame_number words frame (va % 4096) width → TextIsRight words r g va width (Some value)
text_bytes_found words r g va width frame value told is homes s st mapped =
    let w = some_of (page_in (generation_text s g) (page_of va)) (λ (p : PageValue). HasWords words frame p.words) (told homes s st mapped) in
    let num : value ≡ number_in w.0.words (va % 4096) width = is ∙ number_is words frame w.0.words (va % 4096) width w.2 (omega arith) in
    ap Some num ∙ sym (ap (option_map (λ (p : PageValue). number_in p.words (va % 4096) width)) w.1)

no_text_bytes : (s : FlatState) (g va width : ℕ) → page_in (generation_text s g) (page_of va) ≡ None → None ≡ text_bytes s g va width
no_text_bytes s g va width e = sym (ap (option_map (λ (p : PageValue). number_in p.words (va % 4096) width)) e)

pub no_text_at_data : (words : WordsValue) (r : Records) (g va width frame : ℕ) (write : Bool) → AddressTold words r g va (Data frame write) → TextIsRight words r g va width None
no_text_at_data words r g va width frame write told homes s st mapped = no_text_bytes s g va width (told homes s st mapped).no_text

pub no_text_missing : (words : WordsValue) (r : Records) (g va width : ℕ) → AddressTold words r g va Missing → TextIsRight words r g va width None
no_text_missing words r g va width told homes s st mapped = no_text_bytes s g va width (told homes s st mapped).no_text
