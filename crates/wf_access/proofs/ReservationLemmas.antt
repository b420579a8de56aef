-- Reservations as harts keep them, beside those of the state.
use Rattle.std.proofs.Common.{◌≡◌, ◌==◌, ◌&&◌, ℕ, List, [], ◌∷◌, Bool, true, false, Option, Some, None, map, refl, sym, ap, subst, ◌∙◌, inl, inr, arith}
use Rattle.std.specs.Prelude.{◌↔◌, nat_lt}
use Rattle.std.specs.List.{AllByRecursion}
use Rattle.std.proofs.lemmas.Bool.Decides.{nat_tests}
use Rattle.wf_outside.specs.Pages.{page_of}
use Rattle.wf_frames.specs.Layout.{WordsValue}
use Rattle.wf_views.specs.declared.records.Records.{Records}
use Rattle.wf_flat.specs.declared.state.Reservation.{Reservation}
use Rattle.wf_flat.specs.Changes.{reservation_of}
use Rattle.wf_flat.specs.Memory.{data_in}
use Rattle.wf_flat.specs.State.{FlatState, PageState}
use Rattle.wf_homes.specs.declared.reservation.CoreReservation.{CoreReservation}
use Rattle.wf_homes.specs.Homes.{DataOf, Homes, home_frame}
use Rattle.wf_homes.specs.Kept.{IsKeptReservation, IsMapping, KeepsReservation, LiesIn, fields_at}
use Rattle.wf_homes.specs.Stands.{StandsFor}
use Rattle.wf_homes.proofs.ListLemmas.{all_more, true_or_false}
use Rattle.wf_homes.proofs.PlaceLemmas.{home_low, homes_apart}
use Rattle.wf_access.specs.Laws.{IsOneBirth, ReservationsAgree, ReservationsStay, ReservesAreKept, mapping_of}
use Rattle.wf_access.specs.Reserved.{core_reservation_of}
use Rattle.wf_access.proofs.WholeLemmas.{home_of}

-- what holds of all pages holds of the one of a number
found_each : (P : PageState → Type 0) (ps : List PageState) (n : ℕ) (p : PageState) → AllByRecursion P ps → data_in ps n ≡ Some p → P p
found_each P [] n p all e = absurd cc
found_each P (q ∷ qs) n p all e = elim (true_or_false (q.number == n)) [
  | inl t ↦ (let k : Some q ≡ Some p = (rw t at e) in let same : q ≡ p = cc in subst P same all.0)
  | inr t ↦ found_each P qs n p all.1 (rw t at e)
]

four : (a f i w : Bool) → (a && f && i && w) ≡ (a && (f && i) && w)
four false f i w = refl
four true false i w = refl
four true true i w = refl

three : (a f i w b v : Bool) → (f && i) ≡ b → w ≡ v → (a && f && i && w) ≡ (a && b && v)
three a f i w b v e u = four a f i w ∙ ap (λ (x : Bool). a && x && w) e ∙ ap (λ (x : Bool). a && b && x) u

-- frame and incarnation are those of the page exactly where the birth is
module _ (words : WordsValue) (homes : Homes) (page : PageState) (frame birth : ℕ) (kept : CoreReservation) (home : home_frame homes (DataOf page.number) ≡ Some frame) (two : IsMapping words homes page kept.frame kept.inc ↔ (birth ≡ page.birth)) where
  is_birth : (b : Bool) → (birth == page.birth) ≡ b → ((kept.frame == frame) && (kept.inc == (fields_at words frame).inc)) ≡ b
  is_birth true e =
      let same : birth ≡ page.birth = grind (arith, nat_tests) in
      let m : IsMapping words homes page kept.frame kept.inc = two.1 same in
      let a : Some kept.frame ≡ Some frame = sym m.home ∙ home in
      let f : kept.frame ≡ frame = cc in
      let i : kept.inc ≡ (fields_at words frame).inc = sym (subst (λ (k : ℕ). (fields_at words k).inc ≡ kept.inc) f m.incarnation) in
      let x : (kept.frame == frame) ≡ true = grind (arith, nat_tests) in
      let y : (kept.inc == (fields_at words frame).inc) ≡ true = grind (arith, nat_tests) in
      rw (x, y) refl
  is_birth false e = elim (true_or_false (kept.frame == frame)) [
    | inl x ↦ (elim (true_or_false (kept.inc == (fields_at words frame).inc)) [
      | inl y ↦ absurd (
          let f : kept.frame ≡ frame = grind (arith, nat_tests) in
          let i : kept.inc ≡ (fields_at words frame).inc = grind (arith, nat_tests) in
          let same : birth ≡ page.birth = two.0 (record { home = home ∙ ap Some (sym f); incarnation = ap (λ (k : ℕ). (fields_at words k).inc) f ∙ sym i }) in
          let t : (birth == page.birth) ≡ true = grind (arith, nat_tests) in
          let z : true ≡ false = sym t ∙ e in
          cc
          )
      | inr y ↦ (rw (x, y) refl)
    ])
    | inr x ↦ (rw x refl)
  ]

pub reservations_agree_for : ReservationsAgree
reservations_agree_for words r homes s None None access frame page st is = record { reserved = refl; stands = refl }
reservations_agree_for words r homes s None (Some kept) access frame page st is = absurd is.keeps
reservations_agree_for words r homes s (Some reservation) None access frame page st is = absurd is.keeps
reservations_agree_for words r homes s (Some reservation) (Some kept) access frame page st is =
    let k : IsKeptReservation words homes s reservation kept = is.keeps in
    let home : home_frame homes (DataOf page.number) ≡ Some frame = home_of words r homes s page frame st is.lies in
    let two = found_each (λ p. IsMapping words homes p kept.frame kept.inc ↔ (reservation.birth ≡ p.birth)) s.pages (page_of access.va) page k.pages is.there in
    let mapping : ((kept.frame == frame) && (kept.inc == (fields_at words frame).inc)) ≡ (reservation.birth == page.birth) = is_birth words homes page frame reservation.birth kept home two (reservation.birth == page.birth) refl in
    let writes : (kept.writes == (fields_at words frame).writes) ≡ (reservation.writes == page.writes) = ap (λ (n : ℕ). n == (fields_at words frame).writes) k.writes ∙ ap (λ (n : ℕ). reservation.writes == n) is.lies.writes in
    let both : ((kept.va == access.va) && (kept.width == access.width)) ≡ ((reservation.va == access.va) && (reservation.width == access.width)) =
    ap (λ (n : ℕ). (n == access.va) && (kept.width == access.width)) k.va ∙ ap (λ (n : ℕ). (reservation.va == access.va) && (n == access.width)) k.width in
    record {
      reserved = both;
      stands =
          three ((kept.va == access.va) && (kept.width == access.width)) (kept.frame == frame) (kept.inc == (fields_at words frame).inc) (kept.writes == (fields_at words frame).writes) (reservation.birth == page.birth) (reservation.writes == page.writes) mapping writes
          ∙ ap (λ (b : Bool). b && (reservation.birth == page.birth) && (reservation.writes == page.writes)) both;
    }

-- what a load-reserved leaves
module _ (words : WordsValue) (r : Records) (homes : Homes) (s : FlatState) (va width frame : ℕ) (page : PageState) (st : StandsFor words r homes s) (there : data_in s.pages (page_of va) ≡ Some page) (lies : LiesIn words r page frame) (one : IsOneBirth s page) where
  home : home_frame homes (DataOf page.number) ≡ Some frame
  home = home_of words r homes s page frame st lies

  abbrev left : Reservation
  left = record { va = va; width = width; birth = page.birth; writes = page.writes }

  abbrev left_kept : CoreReservation
  left_kept = record { va = va; width = width; frame = frame; inc = (fields_at words frame).inc; writes = (fields_at words frame).writes }

  left_is_kept : IsKeptReservation words homes s left left_kept
  left_is_kept = record {
    va = refl;
    width = refl;
    writes = lies.writes;
    pages = all_more (λ other. (page.birth ≡ other.birth) ↔ (page.number ≡ other.number)) (λ other. IsMapping words homes other frame (fields_at words frame).inc ↔ (page.birth ≡ other.birth)) (λ other two. (
      λ m. (let same : DataOf other.number ≡ DataOf page.number = homes_apart homes s (DataOf other.number) (DataOf page.number) frame st.housed.separate m.home home in two.1 (let k : page.number ≡ other.number = cc in k)),
      λ same. record { home = subst (λ (n : ℕ). home_frame homes (DataOf n) ≡ Some frame) (two.0 same) home; incarnation = refl },
    )) s.pages one;
    frame = home_low homes s (DataOf page.number) frame st.housed.separate home;
    inc = omega arith;
  }

  keeps_left : KeepsReservation words homes s (reservation_of s va width (Some page)) (core_reservation_of (fields_at words frame) frame va width s.limits.last_writes)
  keeps_left = elim (true_or_false (nat_lt page.writes s.limits.last_writes)) [
    | inl t ↦ (let u : nat_lt (fields_at words frame).writes s.limits.last_writes ≡ true = ap (λ (n : ℕ). nat_lt n s.limits.last_writes) lies.writes ∙ t in rw (t, u) left_is_kept)
    | inr t ↦ (let u : nat_lt (fields_at words frame).writes s.limits.last_writes ≡ false = ap (λ (n : ℕ). nat_lt n s.limits.last_writes) lies.writes ∙ t in rw (t, u) tt)
  ]

pub reserves_are_kept_for : ReservesAreKept
reserves_are_kept_for words r homes s va width frame page st there lies one =
    subst (λ (o : Option PageState). KeepsReservation words homes s (reservation_of s va width o) (core_reservation_of (fields_at words frame) frame va width s.limits.last_writes)) (sym there) (keeps_left words r homes s va width frame page st there lies one)

-- a page of the same number and birth is mapped so where the other was
mapping_on : (old new : WordsValue) (homes : Homes) (p q : PageState) (f inc birth : ℕ) → mapping_of q ≡ mapping_of p → (fields_at new f).inc ≡ (fields_at old f).inc → IsMapping old homes p f inc ↔ (birth ≡ p.birth) → IsMapping new homes q f inc ↔ (birth ≡ q.birth)
mapping_on old new homes p q f inc birth same i two =
    let num : q.number ≡ p.number = ap (λ (m : ℕ × ℕ). m.0) same in
    let b : q.birth ≡ p.birth = ap (λ (m : ℕ × ℕ). m.1) same in (
      λ m. two.0 (record { home = subst (λ (k : ℕ). home_frame homes (DataOf k) ≡ Some f) num m.home; incarnation = sym i ∙ m.incarnation }) ∙ sym b,
      λ e. (let m : IsMapping old homes p f inc = two.1 (e ∙ b) in record { home = subst (λ (k : ℕ). home_frame homes (DataOf k) ≡ Some f) (sym num) m.home; incarnation = i ∙ m.incarnation }),
    )

all_mapped : (old new : WordsValue) (homes : Homes) (ps qs : List PageState) (f inc birth : ℕ) → map mapping_of qs ≡ map mapping_of ps → (fields_at new f).inc ≡ (fields_at old f).inc → AllByRecursion (λ p. IsMapping old homes p f inc ↔ (birth ≡ p.birth)) ps
    → AllByRecursion (λ q. IsMapping new homes q f inc ↔ (birth ≡ q.birth)) qs
all_mapped old new homes ps [] f inc birth e i all = tt
all_mapped old new homes [] (q ∷ qs) f inc birth e i all = absurd cc
all_mapped old new homes (p ∷ ps) (q ∷ qs) f inc birth e i all =
    let head : mapping_of q ≡ mapping_of p = cc in
    let rest : map mapping_of qs ≡ map mapping_of ps = cc in
    (mapping_on old new homes p q f inc birth head i all.0, all_mapped old new homes ps qs f inc birth rest i all.1)

pub reservations_stay_for : ReservationsStay
reservations_stay_for old new homes s t None None same k = tt
reservations_stay_for old new homes s t None (Some kept) same k = absurd k
reservations_stay_for old new homes s t (Some reservation) None same k = absurd k
reservations_stay_for old new homes s t (Some reservation) (Some kept) same k =
    let i : (fields_at new kept.frame).inc ≡ (fields_at old kept.frame).inc = same.incarnations kept.frame k.frame in
    let e : t.limits.frames ≡ s.limits.frames = same.frames in
    record {
      va = k.va;
      width = k.width;
      writes = k.writes;
      pages = all_mapped old new homes s.pages t.pages kept.frame kept.inc reservation.birth same.pages i k.pages;
      frame = rw e k.frame;
      inc = rw i k.inc;
    }
