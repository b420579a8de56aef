-- What is read of a field is what is written of it.
use Rattle.std.proofs.Common.{◌≡◌, ◌<◌, ◌≤◌, ◌-◌, ◌^◌, ◌++◌, ◌∷◌, [], ℕ, List, Bool, true, false, cond, eqb, length, drop, Option, Some, None, refl, sym, ap, subst, ◌∙◌, arith, append_assoc, append-nil, inl, inr}
use Rattle.std.specs.Prelude.{option_and_then, option_map, codes, slice_index}
use Rattle.std.specs.Str.{bytes_eq}
use Rattle.std.specs.Fmt.{digits, decimal}
use Rattle.std.proofs.lemmas.Bool.{cases_eq, eqb-true}
use Rattle.std.proofs.lemmas.Option.{none-some}
use Rattle.std.proofs.lemmas.Slice.Eq.{bytes_eq-Decides}
use Rattle.wf_text.specs.Lines.{before, from}
use Rattle.wf_text.specs.Numbers.{hex, last_hex, number_of, number_from, glyph_value}
use Rattle.wf_text.proofs.LineLemmas.{before_mark, before_more, from_mark, from_more}
use Rattle.wf_text.proofs.NumberLemmas.{chosen, IsBase, ten, sixteen, number_sound, last_sound}
use Rattle.wf_flat.specs.declared.event.Actor.{Actor}
use Rattle.wf_flat.specs.declared.event.Actor.TheVariants.{Hart, Kernel}
use Rattle.wf_journal.specs.Entries.{actor_text, right_text, patch_text}
use Rattle.wf_journal.specs.Fields.{word_at, field, ended, one, two, three, four, hex64, hex32, decimal64, decimal32, decimal8, wide_hex, right_of, patch_of, actor_of, as_hart, as_patch}
use Rattle.wf_journal.specs.Laws.{IsActor, IsPatch}

pub split_back : (cs : List ℕ) → before 32 cs ++ from 32 cs ≡ cs
unfolding before from
split_back [] = refl
split_back (c ∷ cs) =
    elim (cases_eq c 32) [
      | inl e ↦ ap (λ (xs : List ℕ). xs ++ from 32 (c ∷ cs)) (before_mark 32 c cs e) ∙ from_mark 32 c cs e
      | inr e ↦ ap (λ (xs : List ℕ). xs ++ from 32 (c ∷ cs)) (before_more 32 c cs e) ∙ ap (λ (xs : List ℕ). c ∷ (before 32 cs ++ xs)) (from_more 32 c cs e) ∙ ap (λ (xs : List ℕ). c ∷ xs) (split_back cs)
    ]

some_same : {A : Type 0} (x y : A) → Some x ≡ Some y → x ≡ y
some_same x y e = cc

pub bind_some : {A B : Type 0} (o : Option A) (f : A → Option B) (y : B) → option_and_then f o ≡ Some y → (x : A) × (o ≡ Some x) × (f x ≡ Some y)
bind_some None f y e = absurd (none-some y e)
bind_some (Some x) f y e = (x, refl, e)

pub map_some : {A B : Type 0} (make : A → B) (o : Option A) (y : B) → option_map make o ≡ Some y → (x : A) × (o ≡ Some x) × (make x ≡ y)
map_some make None y e = absurd (none-some y e)
map_some make (Some x) y e = (x, refl, some_same (make x) y e)

pub is_key : (name key : List ℕ) → bytes_eq name key ≡ true → name ≡ key
is_key name key e = (bytes_eq-Decides name key).0 e

pub word_sound : (rest : List ℕ) (w : List ℕ × List ℕ) → word_at rest ≡ Some w → rest ≡ 32 ∷ (w.0 ++ w.1)
unfolding word_at
word_sound [] w e = absurd (none-some w e)
word_sound (c ∷ cs) w e =
    elim (chosen (eqb c 32) (Some (before 32 cs, from 32 cs)) None (Some w) e) [
      | inl p ↦
          let same : (before 32 cs, from 32 cs) ≡ w = some_same (before 32 cs, from 32 cs) w p.1 in
          ap (λ (k : ℕ). k ∷ cs) (eqb-true c 32 p.0) ∙ ap (λ (xs : List ℕ). 32 ∷ xs) (sym (split_back cs)) ∙ ap (λ (q : List ℕ × List ℕ). 32 ∷ (q.0 ++ q.1)) same
      | inr p ↦ absurd (none-some w p.1)
    ]

-- a field whose values have one text each
pub record IsField {A : Type 0} (f : List ℕ → Option A) (text : A → List ℕ) (fits : A → Type 0) : Type 0 where
  pub spelled : (w : List ℕ) (x : A) → f w ≡ Some x → w ≡ text x
  pub sized : (w : List ℕ) (x : A) → f w ≡ Some x → fits x

pub field_sound : {A : Type 0} (f : List ℕ → Option A) (text : A → List ℕ) (fits : A → Type 0) → IsField f text fits → (rest : List ℕ) (p : A × List ℕ) → field f rest ≡ Some p
    → (rest ≡ 32 ∷ (text p.0 ++ p.1)) × fits p.0
unfolding field
field_sound {A} f text fits is rest p e =
    let a = bind_some (word_at rest) (λ (word : List ℕ × List ℕ). option_and_then (λ value. Some (value, word.1)) (f word.0)) p e in
    let b = bind_some (f a.0.0) (λ (value : A). Some (value, a.0.1)) p a.2 in
    let same : (b.0, a.0.1) ≡ p = some_same (b.0, a.0.1) p b.2 in
    subst (λ (q : A × List ℕ). (rest ≡ 32 ∷ (text q.0 ++ q.1)) × fits q.0) same
    (word_sound rest a.0 a.1 ∙ ap (λ (xs : List ℕ). 32 ∷ (xs ++ a.0.1)) (is.spelled a.0.0 b.0 b.1), is.sized a.0.0 b.0 b.1)

pub ended_sound : {A : Type 0} (rest : List ℕ) (x y : A) → ended rest x ≡ Some y → (rest ≡ []) × (x ≡ y)
ended_sound {A} [] x y e = (refl, some_same x y e)
ended_sound {A} (c ∷ cs) x y e = absurd (none-some y e)

-- a last field
last_sound_field : {A : Type 0} (text : A → List ℕ) (rest tail : List ℕ) (x : A) → rest ≡ 32 ∷ (text x ++ tail) → tail ≡ [] → rest ≡ 32 ∷ text x
last_sound_field text rest tail x e none = e ∙ ap (λ (xs : List ℕ). 32 ∷ (text x ++ xs)) none ∙ ap (λ (xs : List ℕ). 32 ∷ xs) (append-nil (text x))

pub one_sound : {A : Type 0} (f : List ℕ → Option A) (text : A → List ℕ) (fits : A → Type 0) → IsField f text fits → (rest : List ℕ) (x : A) → one f rest ≡ Some x → (rest ≡ 32 ∷ text x) × fits x
unfolding one
one_sound {A} f text fits is rest x e =
    let a = bind_some (field f rest) (λ (a : A × List ℕ). ended a.1 a.0) x e in
    let p = field_sound f text fits is rest a.0 a.1 in
    let n = ended_sound a.0.1 a.0.0 x a.2 in
    subst (λ (y : A). (rest ≡ 32 ∷ text y) × fits y) n.1 (last_sound_field text rest a.0.1 a.0.0 p.0 n.0, p.1)

pub two_sound : {A B : Type 0} (f : List ℕ → Option A) (t : A → List ℕ) (F : A → Type 0) → IsField f t F → (g : List ℕ → Option B) (u : B → List ℕ) (G : B → Type 0) → IsField g u G
    → (rest : List ℕ) (x : A × B) → two f g rest ≡ Some x → (rest ≡ 32 ∷ (t x.0 ++ 32 ∷ u x.1)) × F x.0 × G x.1
unfolding two
two_sound {A} {B} f t F is g u G js rest x e =
    let a = bind_some (field f rest) (λ (a : A × List ℕ). option_and_then (λ b. ended b.1 (a.0, b.0)) (field g a.1)) x e in
    let b = bind_some (field g a.0.1) (λ (b : B × List ℕ). ended b.1 (a.0.0, b.0)) x a.2 in
    let p = field_sound f t F is rest a.0 a.1 in
    let q = field_sound g u G js a.0.1 b.0 b.1 in
    let n = ended_sound b.0.1 (a.0.0, b.0.0) x b.2 in
    let last = last_sound_field u a.0.1 b.0.1 b.0.0 q.0 n.0 in
    subst (λ (y : A × B). (rest ≡ 32 ∷ (t y.0 ++ 32 ∷ u y.1)) × F y.0 × G y.1) n.1 (p.0 ∙ ap (λ (xs : List ℕ). 32 ∷ (t a.0.0 ++ xs)) last, p.1, q.1)

-- ---- numbers

number_field : (base : ℕ) → IsBase base → (most limit : ℕ) → most < 2 ^ 64 → most < limit → IsField (number_of base most) (digits base false) (λ n. n < limit)
number_field base is most limit fits low = record {
  spelled = λ w x e. (number_sound base is most w x fits e).spelled;
  sized = λ w x e. (let few = (number_sound base is most w x fits e).few in omega arith);
}

pub hex64_field : IsField hex64 hex (λ n. n < 2 ^ 64)
hex64_field = number_field 16 sixteen (2 ^ 64 - 1) (2 ^ 64) (omega arith) (omega arith)

pub hex32_field : IsField hex32 hex (λ n. n < 2 ^ 32)
hex32_field = number_field 16 sixteen (2 ^ 32 - 1) (2 ^ 32) (omega arith) (omega arith)

pub decimal64_field : IsField decimal64 decimal (λ n. n < 2 ^ 64)
decimal64_field = number_field 10 ten (2 ^ 64 - 1) (2 ^ 64) (omega arith) (omega arith)

pub decimal32_field : IsField decimal32 decimal (λ n. n < 2 ^ 32)
decimal32_field = number_field 10 ten (2 ^ 32 - 1) (2 ^ 32) (omega arith) (omega arith)

pub decimal8_field : IsField decimal8 decimal (λ n. n < 2 ^ 8)
decimal8_field = number_field 10 ten 255 (2 ^ 8) (omega arith) (omega arith)

pub three_sound : {A B C : Type 0} (f : List ℕ → Option A) (t : A → List ℕ) (F : A → Type 0) → IsField f t F → (g : List ℕ → Option B) (u : B → List ℕ) (G : B → Type 0) → IsField g u G
    → (h : List ℕ → Option C) (v : C → List ℕ) (H : C → Type 0) → IsField h v H
    → (rest : List ℕ) (x : A × B × C) → three f g h rest ≡ Some x → (rest ≡ 32 ∷ ((t x.0 ++ 32 ∷ u x.1) ++ 32 ∷ v x.2)) × F x.0 × G x.1 × H x.2
unfolding three
three_sound {A} {B} {C} f t F is g u G js h v H ks rest x e =
    let a = bind_some (field f rest) (λ (a : A × List ℕ). option_and_then (λ b. option_and_then (λ c. ended c.1 (a.0, b.0, c.0)) (field h b.1)) (field g a.1)) x e in
    let b = bind_some (field g a.0.1) (λ (b : B × List ℕ). option_and_then (λ c. ended c.1 (a.0.0, b.0, c.0)) (field h b.1)) x a.2 in
    let c = bind_some (field h b.0.1) (λ (c : C × List ℕ). ended c.1 (a.0.0, b.0.0, c.0)) x b.2 in
    let p = field_sound f t F is rest a.0 a.1 in
    let q = field_sound g u G js a.0.1 b.0 b.1 in
    let r = field_sound h v H ks b.0.1 c.0 c.1 in
    let n = ended_sound c.0.1 (a.0.0, b.0.0, c.0.0) x c.2 in
    let last = last_sound_field v b.0.1 c.0.1 c.0.0 r.0 n.0 in
    subst (λ (y : A × B × C). (rest ≡ 32 ∷ ((t y.0 ++ 32 ∷ u y.1) ++ 32 ∷ v y.2)) × F y.0 × G y.1 × H y.2) n.1
    (p.0 ∙ ap (λ (xs : List ℕ). 32 ∷ (t a.0.0 ++ xs)) (q.0 ∙ ap (λ (xs : List ℕ). 32 ∷ (u b.0.0 ++ xs)) last) ∙ ap (λ (xs : List ℕ). 32 ∷ xs) (sym (append_assoc (t a.0.0) (32 ∷ u b.0.0) (32 ∷ v c.0.0))), p.1, q.1, r.1)

pub four_sound : {A B C D : Type 0} (f : List ℕ → Option A) (t : A → List ℕ) (F : A → Type 0) → IsField f t F → (g : List ℕ → Option B) (u : B → List ℕ) (G : B → Type 0) → IsField g u G
    → (h : List ℕ → Option C) (v : C → List ℕ) (H : C → Type 0) → IsField h v H → (i : List ℕ → Option D) (w : D → List ℕ) (I : D → Type 0) → IsField i w I
    → (rest : List ℕ) (x : A × B × C × D) → four f g h i rest ≡ Some x → (rest ≡ 32 ∷ (((t x.0 ++ 32 ∷ u x.1) ++ 32 ∷ v x.2) ++ 32 ∷ w x.3)) × F x.0 × G x.1 × H x.2 × I x.3
unfolding four
four_sound {A} {B} {C} {D} f t F is g u G js h v H ks i w I ls rest x e =
    let a = bind_some (field f rest) (λ (a : A × List ℕ). option_and_then (λ b. option_and_then (λ c. option_and_then (λ d. ended d.1 (a.0, b.0, c.0, d.0)) (field i c.1)) (field h b.1)) (field g a.1)) x e in
    let b = bind_some (field g a.0.1) (λ (b : B × List ℕ). option_and_then (λ c. option_and_then (λ d. ended d.1 (a.0.0, b.0, c.0, d.0)) (field i c.1)) (field h b.1)) x a.2 in
    let c = bind_some (field h b.0.1) (λ (c : C × List ℕ). option_and_then (λ d. ended d.1 (a.0.0, b.0.0, c.0, d.0)) (field i c.1)) x b.2 in
    let d = bind_some (field i c.0.1) (λ (d : D × List ℕ). ended d.1 (a.0.0, b.0.0, c.0.0, d.0)) x c.2 in
    let p = field_sound f t F is rest a.0 a.1 in
    let q = field_sound g u G js a.0.1 b.0 b.1 in
    let r = field_sound h v H ks b.0.1 c.0 c.1 in
    let o = field_sound i w I ls c.0.1 d.0 d.1 in
    let n = ended_sound d.0.1 (a.0.0, b.0.0, c.0.0, d.0.0) x d.2 in
    let last = last_sound_field w c.0.1 d.0.1 d.0.0 o.0 n.0 in
    let whole : rest ≡ 32 ∷ (t a.0.0 ++ 32 ∷ (u b.0.0 ++ 32 ∷ (v c.0.0 ++ 32 ∷ w d.0.0))) =
    p.0 ∙ ap (λ (xs : List ℕ). 32 ∷ (t a.0.0 ++ xs)) (q.0 ∙ ap (λ (xs : List ℕ). 32 ∷ (u b.0.0 ++ xs)) (r.0 ∙ ap (λ (xs : List ℕ). 32 ∷ (v c.0.0 ++ xs)) last)) in
    let left : ((t a.0.0 ++ 32 ∷ u b.0.0) ++ 32 ∷ v c.0.0) ++ 32 ∷ w d.0.0 ≡ t a.0.0 ++ 32 ∷ (u b.0.0 ++ 32 ∷ (v c.0.0 ++ 32 ∷ w d.0.0)) =
    append_assoc (t a.0.0 ++ 32 ∷ u b.0.0) (32 ∷ v c.0.0) (32 ∷ w d.0.0) ∙ append_assoc (t a.0.0) (32 ∷ u b.0.0) (32 ∷ (v c.0.0 ++ 32 ∷ w d.0.0)) in
    subst (λ (y : A × B × C × D). (rest ≡ 32 ∷ (((t y.0 ++ 32 ∷ u y.1) ++ 32 ∷ v y.2) ++ 32 ∷ w y.3)) × F y.0 × G y.1 × H y.2 × I y.3) n.1
    (whole ∙ ap (λ (xs : List ℕ). 32 ∷ xs) (sym left), p.1, q.1, r.1, o.1)

wide_sound : (width most limit : ℕ) (w : List ℕ) (x : ℕ) → most < limit → wide_hex width most w ≡ Some x → (w ≡ last_hex width x) × (x < limit)
unfolding wide_hex
wide_sound width most limit w x low e =
    elim (chosen (eqb (length w) width) (number_from glyph_value 16 most 0 w) None (Some x) e) [
      | inl p ↦
          let read = last_sound most w x p.1 in
          let few : x ≤ most = read.1 in
          (read.0 ∙ ap (λ (k : ℕ). last_hex k x) (eqb-true (length w) width p.0), omega arith)
      | inr p ↦ absurd (none-some x p.1)
    ]

pub wide_field : (width most limit : ℕ) → most < limit → IsField (wide_hex width most) (last_hex width) (λ n. n < limit)
wide_field width most limit low = record { spelled = λ w x e. (wide_sound width most limit w x low e).0; sized = λ w x e. (wide_sound width most limit w x low e).1 }

right_spelled : (w : List ℕ) (x : Bool) → right_of w ≡ Some x → w ≡ right_text x
unfolding right_of
right_spelled w x e =
    elim (chosen (bytes_eq w (codes "rw")) (Some true) (cond (bytes_eq w (codes "r")) (Some false) None) (Some x) e) [
      | inl p ↦ is_key w (codes "rw") p.0 ∙ ap right_text (some_same true x p.1)
      | inr p ↦
          elim (chosen (bytes_eq w (codes "r")) (Some false) None (Some x) p.1) [
            | inl q ↦ is_key w (codes "r") q.0 ∙ ap right_text (some_same false x q.1)
            | inr q ↦ absurd (none-some x q.1)
          ]
    ]

pub right_field : IsField right_of right_text (λ _. Unit {0})
right_field = record { spelled = right_spelled; sized = λ w x e. tt }

-- a letter and what stands behind it
lettered : (letter : ℕ) (w : List ℕ) → 0 < letter → eqb (slice_index w 0) letter ≡ true → w ≡ letter ∷ drop 1 w
lettered letter [] some e = let same : 0 ≡ letter = eqb-true 0 letter e in absurd (omega arith)
lettered letter (c ∷ cs) some e = ap (λ (k : ℕ). k ∷ cs) (eqb-true c letter e)

as_patch_some : (o : Option ℕ) (x : Option ℕ) → as_patch o ≡ Some x → (k : ℕ) × (o ≡ Some k) × (Some k ≡ x)
as_patch_some None x e = absurd (none-some x e)
as_patch_some (Some k) x e = (k, refl, some_same (Some k) x e)

patch_sound : (none w : List ℕ) (x : Option ℕ) → patch_of none w ≡ Some x → (w ≡ patch_text none x) × IsPatch x
unfolding patch_of
patch_sound none w x e =
    elim (chosen (bytes_eq w none) (Some None) (cond (eqb (slice_index w 0) 112) (as_patch (decimal32 (drop 1 w))) None) (Some x) e) [
      | inl p ↦ subst (λ (y : Option ℕ). (w ≡ patch_text none y) × IsPatch y) (some_same None x p.1) (is_key w none p.0, tt)
      | inr p ↦
          elim (chosen (eqb (slice_index w 0) 112) (as_patch (decimal32 (drop 1 w))) None (Some x) p.1) [
            | inl q ↦
                let k = as_patch_some (decimal32 (drop 1 w)) x q.1 in
                subst (λ (y : Option ℕ). (w ≡ patch_text none y) × IsPatch y) k.2
                (lettered 112 w (omega arith) q.0 ∙ ap (λ (xs : List ℕ). 112 ∷ xs) (decimal32_field.spelled (drop 1 w) k.0 k.1), decimal32_field.sized (drop 1 w) k.0 k.1)
            | inr q ↦ absurd (none-some x q.1)
          ]
    ]

pub patch_field : (none : List ℕ) → IsField (patch_of none) (patch_text none) IsPatch
patch_field none = record { spelled = λ w x e. (patch_sound none w x e).0; sized = λ w x e. (patch_sound none w x e).1 }

as_hart_some : (o : Option ℕ) (x : Actor) → as_hart o ≡ Some x → (h : ℕ) × (o ≡ Some h) × (Hart h ≡ x)
as_hart_some None x e = absurd (none-some x e)
as_hart_some (Some h) x e = (h, refl, some_same (Hart h) x e)

pub actor_sound : (w : List ℕ) (x : Actor) → actor_of w ≡ Some x → (w ≡ actor_text x) × IsActor x
unfolding actor_of actor_text
actor_sound w x e =
    elim (chosen (bytes_eq w (codes "k")) (Some Kernel) (cond (eqb (slice_index w 0) 104) (as_hart (decimal8 (drop 1 w))) None) (Some x) e) [
      | inl p ↦ subst (λ (y : Actor). (w ≡ actor_text y) × IsActor y) (some_same Kernel x p.1) (is_key w (codes "k") p.0, tt)
      | inr p ↦
          elim (chosen (eqb (slice_index w 0) 104) (as_hart (decimal8 (drop 1 w))) None (Some x) p.1) [
            | inl q ↦
                let h = as_hart_some (decimal8 (drop 1 w)) x q.1 in
                subst (λ (y : Actor). (w ≡ actor_text y) × IsActor y) h.2
                (lettered 104 w (omega arith) q.0 ∙ ap (λ (xs : List ℕ). 104 ∷ xs) (decimal8_field.spelled (drop 1 w) h.0 h.1), decimal8_field.sized (drop 1 w) h.0 h.1)
            | inr q ↦ absurd (none-some x q.1)
          ]
    ]

pub actor_field : IsField actor_of actor_text IsActor
actor_field = record { spelled = λ w x e. (actor_sound w x e).0; sized = λ w x e. (actor_sound w x e).1 }
