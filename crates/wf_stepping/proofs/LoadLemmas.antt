-- Loads from text come to a process.
use Rattle.std.proofs.Common.{◌≡◌, ◌∙◌, ◌%◌, ℕ, [], ◌∷◌, Option, Some, None, false, refl, sym, ap, subst}
use Rattle.std.specs.Prelude.{IsSomeAnd, slice_get}
use Rattle.std.specs.Option.{option_map}
use Rattle.rv_inst.specs.declared.inst.Inst.{Inst}
use Rattle.rv_inst.specs.declared.want.Want.{Want}
use Rattle.rv_inst.specs.declared.want.Want.TheVariants.{Look}
use Rattle.rv_inst.specs.Arch.{ArchState}
use Rattle.rv_inst.specs.Decoding.{inst_of}
use Rattle.rv_inst.specs.Meanings.{meaning_of, want_of}
use Rattle.wf_outside.specs.declared.sizes.TheConstants.{PAGE_SIZE}
use Rattle.wf_outside.specs.Pages.{PageValue, page_of}
use Rattle.wf_flat.specs.declared.event.Actor.TheVariants.{Hart}
use Rattle.wf_flat.specs.declared.event.Event.TheVariants as event
use Rattle.wf_flat.specs.declared.event.Event.TheVariants.{End, Fetch}
use Rattle.wf_flat.specs.Accesses.{access_of, generation_text}
use Rattle.wf_flat.specs.Changes.{change_hart, fetched_with, looked_with, reserves}
use Rattle.wf_flat.specs.Memory.{data_in, number_in, page_in}
use Rattle.wf_flat.specs.Serving.{held_by}
use Rattle.wf_flat.specs.State.{FlatState, HartState, PageState}
use Rattle.wf_flat.specs.Steps.{OfHart, access_in, arch_after, want_in}
use Rattle.wf_flat.proofs.HartLemmas.{changed_get}
use Rattle.wf_flat.proofs.ListLemmas.{and_some, some_and}
use Rattle.wf_service.proofs.BeginLemmas.{in_try}
use Rattle.wf_sound.specs.Sound.{IsSound}
use Rattle.wf_process.specs.Finding.{text_bytes}
use Rattle.wf_process.specs.Processes.{ProcessValue, with_entry}
use Rattle.wf_units.proofs.AccessLemmas.{read_at, text_apart}
use Rattle.wf_units.proofs.PlainLemmas.{arch_there, in_try_there, want_there}
use Rattle.wf_units.specs.Accessing.{TextLoadsAreUnits}
use Rattle.wf_units.specs.Instructions.{FindsInst}
use Rattle.wf_stepping.specs.declared.loading.Load.{Load}
use Rattle.wf_stepping.specs.Stepping.{FindsAt, HasUnit, IsTextLoad, Rests}
use Rattle.wf_stepping.proofs.UnitLemmas.{Is, both, finds}

-- a load from text, by a hart of a process
pub record TextLoadBy (p : ProcessValue) (h pc word : ℕ) (load : Load) (next : ArchState) : Type 0 where
  pub hart : HartState
  pub there : slice_get p.moment.flat.harts h ≡ Some hart
  pub pc_is : hart.arch.pc ≡ pc
  pub inst : Inst
  pub found : FindsInst p.moment.deltas p.moment.flat h hart word inst (Look load.va load.width)
  pub page : PageValue
  pub text : page_in (generation_text p.moment.flat hart.generation) (page_of load.va) ≡ Some page
  pub value : number_in page.words (load.va % PAGE_SIZE) load.width ≡ load.value
  pub next_is : next ≡ meaning_of inst hart.arch load.value

page_there : (o : Option PageValue) (f : PageValue → ℕ) (value : ℕ) → Some value ≡ option_map f o → IsSomeAnd o (λ page. f page ≡ value)
page_there (Some page) f value e = cc
page_there None f value e = absurd (cc)

pub text_load_by : (p : ProcessValue) (h pc word : ℕ) (rests : Rests p) (sound : IsSound p.moment) (found : FindsAt p h pc (Some word)) (load : Load) (next : ArchState)
    → OfHart p.moment.flat h (λ hart. IsTextLoad p.moment.flat hart.generation hart.arch word load next) → TextLoadBy p h pc word load next
text_load_by p h pc word rests sound found load next told =
    let s : FlatState = p.moment.flat in
    let P : HartState → Type 0 = λ hart. IsTextLoad s hart.generation hart.arch word load next in
    let hart = some_and (slice_get s.harts h) (λ (x : HartState). Is p h pc word rests sound found x × P x) (both p h pc word rests sound found P told) in
    let inst = some_and (inst_of word) (λ (i : Inst). (want_of i hart.0.arch ≡ Look load.va load.width) × (Some load.value ≡ text_bytes s hart.0.generation load.va load.width) × (next ≡ meaning_of i hart.0.arch load.value)) hart.2.1 in
    let number : PageValue → ℕ = λ page. number_in page.words (load.va % PAGE_SIZE) load.width in
    let page = some_and (page_in (generation_text s hart.0.generation) (page_of load.va)) (λ (x : PageValue). number x ≡ load.value) (page_there (page_in (generation_text s hart.0.generation) (page_of load.va)) number load.value inst.2.1) in
    record {
      hart = hart.0;
      there = hart.1;
      pc_is = hart.2.0.1.0;
      inst = inst.0;
      found = record { finds = finds p h pc word rests sound found hart.0 hart.1 hart.2.0; is_inst = inst.1; wants = inst.2.0 };
      page = page.0;
      text = page.1;
      value = page.2;
      next_is = inst.2.2;
    }

module _ (p : ProcessValue) (h pc word : ℕ) (load : Load) (next : ArchState) (by : TextLoadBy p h pc word load next) where
  pub text_load_here : TextLoadsAreUnits → HasUnit p h (Fetch pc word ∷ event.Look load.va load.width load.value ∷ End next.pc ∷ [])
  text_load_here law =
      subst (λ (n : ℕ). HasUnit p h (Fetch n word ∷ event.Look load.va load.width load.value ∷ End next.pc ∷ [])) by.pc_is
      (subst (λ (a : ArchState). HasUnit p h (Fetch by.hart.arch.pc word ∷ event.Look load.va load.width load.value ∷ End a.pc ∷ [])) (sym by.next_is)
      (subst (λ (v : ℕ). HasUnit p h (Fetch by.hart.arch.pc word ∷ event.Look load.va load.width v ∷ End (meaning_of by.inst by.hart.arch v).pc ∷ [])) by.value
      (record { new = _; unit = law p.moment.deltas p.moment.flat h by.hart word by.inst load.va load.width by.page by.found by.text })))

  abbrev fetched : HartState
  fetched = fetched_with word by.hart

  abbrev trying : FlatState
  trying = in_try p.moment.flat h word

  fetched_wants : want_in fetched ≡ Some (Look load.va load.width)
  fetched_wants = want_there fetched word by.inst (Look load.va load.width) refl by.found.is_inst by.found.wants

  module _ (q : ProcessValue) (is : q ≡ with_entry (Hart h) (Fetch pc word) p) where
    pub looks_plainly : OfHart q.moment.flat h (λ hart. reserves (want_in hart) ≡ false)
    unfolding with_entry
    looks_plainly =
        subst (λ (r : ProcessValue). OfHart r.moment.flat h (λ hart. reserves (want_in hart) ≡ false)) (sym is)
        (and_some (slice_get trying.harts h) _ fetched (in_try_there p.moment.flat h word by.hart by.there) (ap reserves fetched_wants))

    module _ (r : ProcessValue) (was : r ≡ with_entry (Hart h) (event.Look load.va load.width load.value) q) where
      abbrev looked : HartState
      looked = looked_with trying load.va load.width load.value fetched

      abbrev looking : FlatState
      looking = change_hart trying h (looked_with trying load.va load.width load.value)

      both_are : r ≡ with_entry (Hart h) (event.Look load.va load.width load.value) (with_entry (Hart h) (Fetch pc word) p)
      both_are = was ∙ ap (λ (x : ProcessValue). with_entry (Hart h) (event.Look load.va load.width load.value) x) is

      at_looking : (P : FlatState → Type 0) → P looking → P r.moment.flat
      unfolding with_entry
      at_looking P so = subst (λ (x : ProcessValue). P x.moment.flat) (sym both_are) so

      looked_there : slice_get looking.harts h ≡ Some looked
      looked_there = changed_get trying.harts h (looked_with trying load.va load.width load.value) fetched (in_try_there p.moment.flat h word by.hart by.there)

      looked_wants : want_in looked ≡ Some (Look load.va load.width)
      looked_wants = want_there looked word by.inst (Look load.va load.width) refl by.found.is_inst by.found.wants

      pub text_load_leaves : OfHart r.moment.flat h (λ hart. next ≡ arch_after hart)
      text_load_leaves =
          at_looking (λ s. OfHart s h (λ hart. next ≡ arch_after hart))
          (and_some (slice_get looking.harts h) _ looked looked_there
          (by.next_is ∙ sym (arch_there looked word by.inst (Look load.va load.width) refl by.found.is_inst by.found.wants (λ e. cc))))

      no_page : (o : Option PageState) → data_in p.moment.flat.pages (page_of load.va) ≡ o → o ≡ None → held_by looking h (Some (read_at load.va load.width)) ≡ None
      no_page o e none = rw (e ∙ none) refl

      pub text_load_holds : OfHart r.moment.flat h (λ hart. held_by r.moment.flat h (access_in hart) ≡ None)
      text_load_holds =
          at_looking (λ s. OfHart s h (λ hart. held_by s h (access_in hart) ≡ None))
          (and_some (slice_get looking.harts h) _ looked looked_there
          (ap (λ (o : Option Want). held_by looking h (access_of o)) looked_wants
          ∙ no_page (data_in p.moment.flat.pages (page_of load.va)) refl (text_apart p.moment.deltas p.moment.flat h by.hart word by.inst (Look load.va load.width) load.va by.page by.found by.text)))
