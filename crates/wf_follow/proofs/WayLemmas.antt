-- Ways that lead from a place between two units to one, by entries that are legal.
use Rattle.std.proofs.Common.{◌≡◌, ◌++◌, ℕ, zero, suc, List, Option, Some, None, refl, sym, subst, ap, ◌∙◌}
use Rattle.wf_flat.specs.declared.event.Entry.{Entry}
use Rattle.wf_flat.specs.Follows.{IsUnit}
use Rattle.wf_legal.specs.Legal.{Moment, IsLegal, end_of}
use Rattle.wf_next.specs.Determined.{HartsAreDetermined}
use Rattle.wf_flat.proofs.ListLemmas.{all_append}
use Rattle.wf_legal.proofs.JournalLemmas.{end_of-append, legal_back, legal_front}
use Rattle.wf_follow.specs.Places.{Place, behind, paced}
use Rattle.wf_follow.specs.Units.{IsTurn, IsTurnOf, IsUnitOf, Leads, Stays, Times, hart_in_turn}
use Rattle.wf_follow.proofs.BirthLemmas.{IsFew, few_back, few_front}
use Rattle.wf_follow.proofs.EntryLemmas.{AtRest, IsWhole}
use Rattle.wf_follow.proofs.AlongLemmas.{AreWhole, unit_begins, unit_ends, unit_same, unit_whole}

-- One way: its entries lead to the moment of its end, which is between two units; they give no try up;
-- and at one place two such ways are one, where no frame is worn.
pub record IsWay (One : Place → List Entry → Place → Type 0) : Type 0 where
  pub moments : (p : Place) (es : List Entry) (q : Place) → One p es q → q.moment ≡ end_of p.moment es
  pub rests : (p : Place) (es : List Entry) (q : Place) → One p es q → AtRest p.moment → IsLegal p.moment es → AtRest q.moment
  pub whole : (p : Place) (es : List Entry) (q : Place) → One p es q → AtRest p.moment → IsLegal p.moment es → AreWhole es
  pub same : (p : Place) (es fs : List Entry) (q r : Place) → One p es q → One p fs r → AtRest p.moment → IsLegal p.moment es → IsLegal p.moment fs → IsFew (end_of p.moment es).flat → (es ≡ fs) × (q ≡ r)

-- a way of one unit of a hart that the place names, and whose end the entries name
pub unit_like : HartsAreDetermined → (One : Place → List Entry → Place → Type 0) (h : Place → ℕ) (F : Place → List Entry → Place) → ((p : Place) (es : List Entry) (q : Place) → One p es q → IsUnit (h p) es × (q ≡ F p es))
    → ((p : Place) (es : List Entry) → (F p es).moment ≡ end_of p.moment es) → IsWay One
unit_like law One h F is at = record {
  moments = λ p es q u. ap (λ (x : Place). x.moment) (is p es q u).1 ∙ at p es;
  rests = λ p es q u rest legal. (
      let v = is p es q u in
      let end : AtRest (end_of p.moment es) = unit_ends (h p) p.moment es v.0 (unit_begins (h p) p.moment es v.0 rest legal) legal in
      subst AtRest (sym (ap (λ (x : Place). x.moment) v.1 ∙ at p es)) end);
  whole = λ p es q u rest legal. (
      let v = is p es q u in
      unit_whole (h p) p.moment es v.0 (unit_begins (h p) p.moment es v.0 rest legal) legal);
  same = λ p es fs q r u v rest legal others few. (
      let x = is p es q u in
      let y = is p fs r v in
      let one : es ≡ fs = unit_same law (h p) p.moment es fs x.0 y.0 (unit_begins (h p) p.moment es x.0 rest legal) legal others few in
      (one, x.1 ∙ ap (F p) one ∙ sym y.1));
}

pub unit_way : HartsAreDetermined → (h : ℕ) → IsWay (IsUnitOf h)
unit_way law h = unit_like law (IsUnitOf h) (λ p. h) (λ p es. paced h 0 (behind p es)) (λ p es q u. u) (λ p es. refl)

-- the hart of a turn, and the place behind it
abbrev hart_of : Option ℕ → ℕ
hart_of None = 0
hart_of (Some h) = h

abbrev turned : Option ℕ → Place → List Entry → Place
turned None p es = paced 0 0 (behind p es)
turned (Some h) p es = record (paced h 0 (behind p es)) { last = Some h }

turn_unit : (o : Option ℕ) (p : Place) (es : List Entry) (q : Place) → IsTurnOf o p es q → IsUnit (hart_of o) es × (q ≡ turned o p es)
turn_unit None p es q u = (subst (IsUnit 0) (sym u.0) (refl, refl), u.1)
turn_unit (Some h) p es q u = u

turn_moment : (o : Option ℕ) (p : Place) (es : List Entry) → (turned o p es).moment ≡ end_of p.moment es
turn_moment None p es = refl
turn_moment (Some h) p es = refl

pub turn_way : HartsAreDetermined → IsWay IsTurn
turn_way law = unit_like law IsTurn (λ p. hart_of (hart_in_turn p)) (λ p es. turned (hart_in_turn p) p es) (λ p es q u. turn_unit (hart_in_turn p) p es q u) (λ p es. turn_moment (hart_in_turn p) p es)

-- no entry
pub stays_way : IsWay Stays
stays_way = record {
  moments = λ p es q u. ap (λ (x : Place). x.moment) u.1 ∙ sym (ap (end_of p.moment) u.0);
  rests = λ p es q u rest legal. subst (λ (x : Place). AtRest x.moment) (sym u.1) rest;
  whole = λ p es q u rest legal. subst AreWhole (sym u.0) tt;
  same = λ p es fs q r u v rest legal others few. (u.0 ∙ sym v.0, u.1 ∙ sym v.1);
}

-- two lists in two parts each, of which both are one
pub parts_same : {A : Type 0} (one other a b c d : List A) → one ≡ a ++ b → other ≡ c ++ d → a ≡ c → b ≡ d → one ≡ other
parts_same {A = A} one other a b c d e f g h = e ∙ ap (λ (x : List A). x ++ b) g ∙ ap (λ (x : List A). c ++ x) h ∙ sym f

-- two ways, one after another: what holds of the first, and of what is behind it
pub front_of : (m : Moment) (es front back : List Entry) → es ≡ front ++ back → IsLegal m es → IsLegal m front
front_of m es front back joined legal = legal_front m front back (subst (IsLegal m) joined legal)

pub back_of : (m : Moment) (es front back : List Entry) → es ≡ front ++ back → IsLegal m es → IsLegal (end_of m front) back
back_of m es front back joined legal = legal_back m front back (subst (IsLegal m) joined legal)

pub back_legal : (One : Place → List Entry → Place → Type 0) → IsWay One → (p mid : Place) (es front back : List Entry) → es ≡ front ++ back → One p front mid → IsLegal p.moment es → IsLegal mid.moment back
back_legal One way p mid es front back joined first legal = subst (λ (m : Moment). IsLegal m back) (sym (way.moments p front mid first)) (back_of p.moment es front back joined legal)

pub mid_rests : (One : Place → List Entry → Place → Type 0) → IsWay One → (p mid : Place) (es front back : List Entry) → es ≡ front ++ back → One p front mid → AtRest p.moment → IsLegal p.moment es → AtRest mid.moment
mid_rests One way p mid es front back joined first rest legal = way.rests p front mid first rest (front_of p.moment es front back joined legal)

pub both_moments : (p mid q : Place) (es front back : List Entry) → es ≡ front ++ back → mid.moment ≡ end_of p.moment front → q.moment ≡ end_of mid.moment back → q.moment ≡ end_of p.moment es
both_moments p mid q es front back joined a b = b ∙ ap (λ (m : Moment). end_of m back) a ∙ sym (ap (end_of p.moment) joined ∙ end_of-append p.moment front back)

pub both_whole : (es front back : List Entry) → es ≡ front ++ back → AreWhole front → AreWhole back → AreWhole es
both_whole es front back joined a b = subst AreWhole (sym joined) (all_append (λ (entry : Entry). IsWhole entry.event) front back a b)

pub leads_way : (First Then : Place → List Entry → Place → Type 0) → IsWay First → IsWay Then → IsWay (Leads First Then)
leads_way First Then a b = record {
  moments = λ p es q u. both_moments p u.mid q es u.front u.back u.joined (a.moments p u.front u.mid u.first) (b.moments u.mid u.back q u.next);
  rests = λ p es q u rest legal.
      b.rests u.mid u.back q u.next (mid_rests First a p u.mid es u.front u.back u.joined u.first rest legal) (back_legal First a p u.mid es u.front u.back u.joined u.first legal);
  whole = λ p es q u rest legal.
      both_whole es u.front u.back u.joined (a.whole p u.front u.mid u.first rest (front_of p.moment es u.front u.back u.joined legal))
      (b.whole u.mid u.back q u.next (mid_rests First a p u.mid es u.front u.back u.joined u.first rest legal) (back_legal First a p u.mid es u.front u.back u.joined u.first legal));
  same = λ p es fs q r u v rest legal others few. (
      let fronts = a.same p u.front v.front u.mid v.mid u.first v.first rest (front_of p.moment es u.front u.back u.joined legal) (front_of p.moment fs v.front v.back v.joined others) (few_front p.moment es u.front u.back u.joined few) in
      let go_on : Then u.mid v.back r = subst (λ (m : Place). Then m v.back r) (sym fronts.1) v.next in
      let behind_it : IsLegal u.mid.moment v.back = subst (λ (m : Place). IsLegal m.moment v.back) (sym fronts.1) (back_legal First a p v.mid fs v.front v.back v.joined v.first others) in
      let backs = b.same u.mid u.back v.back q r u.next go_on (mid_rests First a p u.mid es u.front u.back u.joined u.first rest legal) (back_legal First a p u.mid es u.front u.back u.joined u.first legal) behind_it
      (few_back p.moment u.mid.moment es u.front u.back u.joined (a.moments p u.front u.mid u.first) few) in
      (parts_same es fs u.front u.back v.front v.back u.joined v.joined fronts.0 backs.0, backs.1));
}

pub times_way : (One : Place → List Entry → Place → Type 0) → IsWay One → (n : ℕ) → IsWay (Times n One)
times_way One way zero = stays_way
times_way One way (suc n) = leads_way One (Times n One) way (times_way One way n)
