-- The walk of `clap` over words hears what the grammar hears.
use Rattle.std.proofs.Common.{◌≡◌, ◌∙◌, refl, sym, ap, ap₂, Bool, true, false, cond, List, [], ◌∷◌, ◌++◌, codes, Some, None, Option, ℕ, fold, length, min, chars, drop, encode_utf8, option_and_then, option_map, ◌+◌}
use Rattle.std.specs.Prelude.{◌&&◌, ◌||◌, slice_get, nat_lt}
use Rattle.std.specs.Option.{option_map_or}
use Rattle.std.specs.Str.{bytes_eq}
use Rattle.std.proofs.lemmas.List.{map-append}
use Rattle.std.proofs.lemmas.Slice.Eq.{bytes_eq-Decides}
use Rattle.clap.specs.Lexer.{long_of, name_and_value, short_of, usize_max}
use Rattle.clap.specs.Walk.{Held, Row, Rule, Step, Waiting, Walk, after_flag, after_step, arg_by_id, arg_by_index, arg_by_long, arg_by_short, has_row, idle, is_empty, is_pending, long_met, long_or_other, next, option, option_word, plain_word, pushed, settled, settled_rows, short_or_plain, subcommand_met, subcommand_or_other, to_positional, trailing, used, used_by_id, value, walked, long_word}
use Rattle.clap.specs.Simple.{Shape, new_shape}
use Rattle.clap.specs.Kinds.{Kinds, or_else}
use Rattle.clap.specs.Faults.{bundle_fault, bundle_step_fault, flag_word_fault, flags_fault, long_fault, other_fault, positional_fault, settle_fault, short_fault, step_fault, stray_fault, turn_fault, use_fault, walk_fault}
use Rattle.clap.specs.declared.error.kind.ErrorKind.{ErrorKind}
use Rattle.clap.specs.declared.error.kind.ErrorKind.TheVariants as kind
use Rattle.wf_usage.specs.Usages.{Word, Usage, Told, Heard, behind_dashes, early_heard, ended, is_among, is_dashed, is_told, name_heard, named_heard, option_heard, with_told, words_heard}
use Rattle.wf_usage.proofs.RowLemmas.{clash, has_row_told, one, row, rows_told, switch, use_none, use_one, use_switch, used_one, used_switch}
use Rattle.wf_usage.proofs.LookLemmas.{AreUtf8, Look, at_end, at_long, at_name, at_short, look}

-- a built command with these arguments, and plain_id subcommand
abbrev pub shape : Word → List Rule → Shape
shape name rules = record (new_shape name) {
  rules = rules;
  no_binary_name = true;
  disable_help_flag = true;
  disable_help_subcommand = true;
  is_built = true;
}

-- a long name is that of an option with a value, or of one without, or of none
pub data Long (R : List Rule) (u : Usage) (n : Word) : Type 0 where
  of_value : arg_by_long R n ≡ Some (one n (Some n) None false) → arg_by_id R n ≡ Some (one n (Some n) None false) → is_among n u.values ≡ true → is_among n u.flags ≡ false → Long R u n
  of_flag : arg_by_long R n ≡ Some (switch n) → is_among n u.values ≡ false → is_among n u.flags ≡ true → Long R u n
  of_none : arg_by_long R n ≡ None → is_among n u.values ≡ false → is_among n u.flags ≡ false → Long R u n

-- the names that are still to come stand at this place and at those behind it
abbrev pub Stands : List Rule → Usage → ℕ → List Word → Type 0
Stands R u p [] = arg_by_index R p ≡ None
Stands R u p (n ∷ left) = (arg_by_index R p ≡ Some (one n None (Some p) true)) × (arg_by_id R n ≡ Some (one n None (Some p) true)) × (is_among n u.flags ≡ false) × Stands R u (min (p + 1) usize_max) left

abbrev pub held : List Row → Option (Word × List Word) → Held
held rows pending = record { rows = rows; pending = pending; skip = 0 }

abbrev pub walk_at : Held → Waiting → ℕ → Bool → Walk
walk_at h w p past = record { held = h; waiting = w; position = p; is_trailing = past; stopped = None }

abbrev pub hears : Told → List Word → Option Word → Bool → Heard
hears told left waits past = record { told = told; left = left; waits = waits; past = past }

abbrev pub heard_rows : Usage → Option Heard → Option (List Row)
heard_rows u o = option_map (rows_told u) (option_and_then ended o)

passes : (b : Bool) (x : Kinds) → cond (b && false) [] x ≡ x
passes true x = refl
passes false x = refl

same_bytes : (w : Word) → bytes_eq w w ≡ true
same_bytes w = (bytes_eq-Decides w w).1 refl

module _ (name : Word) (R : List Rule) (u : Usage) (shorts : (c : ℕ) → arg_by_short R c ≡ None) (longs : (n : Word) → Long R u n) where
  abbrev pub S : Shape
  S = shape name R

  abbrev pub rest : Walk → List Word → Held
  rest w ws = (fold (walked R []) w ws).held

  -- the faults of the words, and of the last use
  abbrev pub faults : Walk → List Word → Kinds
  faults w ws = or_else (walk_fault S [] w ws) (settle_fault R false (rest w ws))

  -- the rows at the end of the words, where they have plain_id fault
  abbrev pub out : Walk → List Word → Option (List Row)
  out w ws = cond (is_empty (faults w ws)) (Some (settled R (rest w ws)).rows) None

  -- ---- one word

  goes : (w v : Walk) (x : Word) (ws : List Word) → turn_fault S [] w x ≡ [] → walked R [] w x ≡ v → out w (x ∷ ws) ≡ out v ws
  unfolding walk_fault
  goes w v x ws none is =
      ap (λ (T : Kinds). cond (is_empty (or_else (or_else T (walk_fault S [] (walked R [] w x) ws)) (settle_fault R false (rest (walked R [] w x) ws)))) (Some (settled R (rest (walked R [] w x) ws)).rows) None) none
      ∙ ap (λ (z : Walk). out z ws) is

  refused : (w : Walk) (x : Word) (ws : List Word) (k : ErrorKind) → turn_fault S [] w x ≡ k ∷ [] → out w (x ∷ ws) ≡ None
  unfolding walk_fault
  refused w x ws k is =
      ap (λ (T : Kinds). cond (is_empty (or_else (or_else T (walk_fault S [] (walked R [] w x) ws)) (settle_fault R false (rest (walked R [] w x) ws)))) (Some (settled R (rest (walked R [] w x) ws)).rows) None) is

  ends : (w : Walk) (T : Kinds) (r : List Row) → settle_fault R false w.held ≡ T → (settled R w.held).rows ≡ r → out w [] ≡ cond (is_empty T) (Some r) None
  unfolding walk_fault
  ends w T r e f = ap₂ (λ (x : Kinds) (y : List Row). cond (is_empty (or_else [] x)) (Some y) None) e f

  -- ---- a word that stands for a name

  place_fault : (n : Word) (left : List Word) (p : ℕ) (h : Held) → Stands R u p (n ∷ left) → step_fault S p h value ≡ settle_fault R false h
  place_fault n left p h s =
      ap (λ (o : Option Rule). option_map_or (λ a. positional_fault R false a h) o (stray_fault S)) s.0
      ∙ passes (is_pending (one n None (Some p) true) h.pending) (settle_fault R false h)

  stray : (p : ℕ) (h : Held) → Stands R u p [] → step_fault S p h value ≡ kind.UnknownArgument ∷ []
  stray p h s = ap (λ (o : Option Rule). option_map_or (λ a. positional_fault R false a h) o (stray_fault S)) s

  placed : (n x : Word) (left : List Word) (p : ℕ) (rows : List Row) (P : Option (Word × List Word)) (w : Waiting) (past : Bool) → Stands R u p (n ∷ left)
      → to_positional R (arg_by_index R p) x (walk_at (held rows P) w p past) (held rows P) ≡ walk_at (held (settled_rows R P rows) (Some (n, x ∷ []))) idle (min (p + 1) usize_max) past
  placed n x left p rows P w past s =
      ap (λ (o : Option Rule). to_positional R o x (walk_at (held rows P) w p past) (held rows P)) s.0
      ∙ go (is_pending (one n None (Some p) true) P) past
    where
      go : (b t : Bool) → walk_at (pushed n x (cond (b && false) (held rows P) (settled R (held rows P)))) idle (min (p + 1) usize_max) (t || false) ≡ walk_at (held (settled_rows R P rows) (Some (n, x ∷ []))) idle (min (p + 1) usize_max) t
      go true true = refl
      go true false = refl
      go false true = refl
      go false false = refl

  past_walked : (h : Held) (w : Waiting) (p : ℕ) (x : Word) → walked R [] (walk_at h w p true) x ≡ to_positional R (arg_by_index R p) x (walk_at h w p true) h
  unfolding walked
  past_walked h w p x = refl

  past_turn : (h : Held) (w : Waiting) (p : ℕ) (x : Word) → turn_fault S [] (walk_at h w p true) x ≡ step_fault S p h value
  past_turn h w p x = refl

  -- ---- a use that waits to be refused

  doomed_past : (h : Held) (k : ErrorKind) → settle_fault R false h ≡ k ∷ [] → (ws : List Word) (w : Waiting) (p : ℕ) (left : List Word) → Stands R u p left → out (walk_at h w p true) ws ≡ None
  doomed_past h k e [] w p left s = ends (walk_at h w p true) (k ∷ []) (settled R h).rows e refl
  doomed_past h k e (x ∷ ws) w p [] s = refused (walk_at h w p true) x ws kind.UnknownArgument (past_turn h w p x ∙ stray p h s)
  doomed_past h k e (x ∷ ws) w p (n ∷ left) s = refused (walk_at h w p true) x ws k (past_turn h w p x ∙ (place_fault n left p h s ∙ e))

  -- ---- one word before any `--`

  abbrev met : Waiting → ℕ → Word → Held → Held × Step
  met w p x h = subcommand_or_other R None w p x h

  -- nothing waits, or an option does
  abbrev IsReadSo : Waiting → Word → Type 0
  IsReadSo w x = subcommand_met [] w x ≡ None

  early_turn : (h : Held) (w : Waiting) (p : ℕ) (x : Word) (F : Kinds) (q : Held × Step) → IsReadSo w x → other_fault S None x h ≡ F → met w p x h ≡ q → turn_fault S [] (walk_at h w p false) x ≡ or_else F (step_fault S p q.0 q.1)
  early_turn h w p x F q e f m =
      ap (λ (o : Option Word). or_else (other_fault S o x h) (step_fault S p (subcommand_or_other R o w p x h).0 (subcommand_or_other R o w p x h).1)) e
      ∙ ap₂ (λ (G : Kinds) (r : Held × Step). or_else G (step_fault S p r.0 r.1)) f m

  early_walked : (h : Held) (w : Waiting) (p : ℕ) (x : Word) (q : Held × Step) → IsReadSo w x → met w p x h ≡ q → walked R [] (walk_at h w p false) x ≡ after_step R x (walk_at h w p false) q.0 q.1
  unfolding walked
  early_walked h w p x q e m =
      ap (λ (o : Option Word). after_step R x (walk_at h w p false) (subcommand_or_other R o w p x h).0 (subcommand_or_other R o w p x h).1) e
      ∙ ap (λ (r : Held × Step). after_step R x (walk_at h w p false) r.0 r.1) m

  refuse_early : (h : Held) (w : Waiting) (p : ℕ) (x : Word) (ws : List Word) (k : ErrorKind) → IsReadSo w x → other_fault S None x h ≡ k ∷ [] → out (walk_at h w p false) (x ∷ ws) ≡ None
  refuse_early h w p x ws k e f = refused (walk_at h w p false) x ws k (early_turn h w p x (k ∷ []) (met w p x h) e f refl)

  -- `--`
  end_fault : (x : Word) (h : Held) → bytes_eq x (codes "--") ≡ true → other_fault S None x h ≡ []
  end_fault x h e = ap (λ (b : Bool). cond b [] (flag_word_fault R false (long_of x) x h)) e

  end_met : (w : Waiting) (p : ℕ) (x : Word) (h : Held) → bytes_eq x (codes "--") ≡ true → met w p x h ≡ (h, trailing p)
  end_met w p x h e = ap (λ (b : Bool). cond b (h, trailing p) (long_or_other R w x (long_of x) h)) e

  end_goes : (h : Held) (w : Waiting) (p : ℕ) (x : Word) (ws : List Word) → IsReadSo w x → bytes_eq x (codes "--") ≡ true → out (walk_at h w p false) (x ∷ ws) ≡ out (walk_at h w p true) ws
  end_goes h w p x ws r e = goes (walk_at h w p false) (walk_at h w p true) x ws
      (early_turn h w p x [] (h, trailing p) r (end_fault x h e) (end_met w p x h e))
      (early_walked h w p x (h, trailing p) r (end_met w p x h e))

  -- a long option
  long_faults : (x : Word) (h : Held) (q : Word × Option Word) → bytes_eq x (codes "--") ≡ false → long_of x ≡ Some q → other_fault S None x h ≡ long_fault R false (arg_by_long R q.0) q.1 h
  long_faults x h q e l =
      ap (λ (b : Bool). cond b [] (flag_word_fault R false (long_of x) x h)) e
      ∙ ap (λ (o : Option (Word × Option Word)). flag_word_fault R false o x h) l

  long_is_met : (w : Waiting) (p : ℕ) (x : Word) (h : Held) (q : Word × Option Word) → bytes_eq x (codes "--") ≡ false → long_of x ≡ Some q → met w p x h ≡ long_word R w x q.0 q.1 h
  long_is_met w p x h q e l =
      ap (λ (b : Bool). cond b (h, trailing p) (long_or_other R w x (long_of x) h)) e
      ∙ ap (λ (o : Option (Word × Option Word)). long_or_other R w x o h) l

  doomed_long : (h : Held) (k : ErrorKind) → settle_fault R false h ≡ k ∷ [] → (n : Word) (v : Option Word) → Long R u n → (d : ErrorKind) × (long_fault R false (arg_by_long R n) v h ≡ d ∷ [])
  doomed_long h k e n (Some y) (of_value f g a b) = (
    k,
    ap (λ (o : Option Rule). long_fault R false o (Some y) h) f
        ∙ ap (λ (T : Kinds). or_else T (use_fault false (one n (Some n) None false) (y ∷ []) (settled R h).rows)) e,
  )
  doomed_long h k e n None (of_value f g a b) = (k, ap (λ (o : Option Rule). long_fault R false o None h) f ∙ e)
  doomed_long h k e n (Some y) (of_flag f a b) = (kind.TooManyValues, ap (λ (o : Option Rule). long_fault R false o (Some y) h) f)
  doomed_long h k e n None (of_flag f a b) = (
    k,
    ap (λ (o : Option Rule). long_fault R false o None h) f
        ∙ ap (λ (T : Kinds). or_else T (use_fault false (switch n) [] (settled R h).rows)) e,
  )
  doomed_long h k e n v (of_none f a b) = (kind.UnknownArgument, ap (λ (o : Option Rule). long_fault R false o v h) f)

  -- an option with one dash
  short_refused : (rows : List Row) (P : Option (Word × List Word)) (y : ℕ) (ys : Word) (c : ℕ) → slice_get (chars (y ∷ ys)) 0 ≡ Some c → bundle_fault R false (y ∷ ys) (held rows P) ≡ kind.UnknownArgument ∷ []
  unfolding flags_fault
  short_refused rows P y ys c g =
      ap (λ (o : Option ℕ). bundle_step_fault R false o (y ∷ ys) 0 (held rows P) (flags_fault R false (length ys))) g
      ∙ ap (λ (o : Option Rule). short_fault R false o (behind c) (held rows P) (flags_fault R false (length ys) (behind c) 0)) (shorts c)
    where
      behind : ℕ → Word
      behind x = drop (length (encode_utf8 x)) (y ∷ ys)

  short_faults : (x : Word) (rows : List Row) (P : Option (Word × List Word)) (y : ℕ) (ys : Word) (c : ℕ) → bytes_eq x (codes "--") ≡ false → long_of x ≡ None → short_of x ≡ Some (y ∷ ys) → slice_get (chars (y ∷ ys)) 0 ≡ Some c
      → other_fault S None x (held rows P) ≡ kind.UnknownArgument ∷ []
  short_faults x rows P y ys c e l s g =
      let h : Held = held rows P in
      ap (λ (b : Bool). cond b [] (flag_word_fault R false (long_of x) x h)) e
      ∙ (ap (λ (o : Option (Word × Option Word)). flag_word_fault R false o x h) l
      ∙ (ap (λ (o : Option Word). option_map_or (λ flags. bundle_fault R false flags h) o []) s
      ∙ short_refused rows P y ys c g))

  -- a name
  name_fault : (x : Word) (h : Held) → bytes_eq x (codes "--") ≡ false → long_of x ≡ None → short_of x ≡ None → other_fault S None x h ≡ []
  name_fault x h e l s =
      ap (λ (b : Bool). cond b [] (flag_word_fault R false (long_of x) x h)) e
      ∙ (ap (λ (o : Option (Word × Option Word)). flag_word_fault R false o x h) l
      ∙ ap (λ (o : Option Word). option_map_or (λ flags. bundle_fault R false flags h) o []) s)

  name_met : (w : Waiting) (p : ℕ) (x : Word) (h : Held) → bytes_eq x (codes "--") ≡ false → long_of x ≡ None → short_of x ≡ None → met w p x h ≡ plain_word R w x h
  name_met w p x h e l s =
      ap (λ (b : Bool). cond b (h, trailing p) (long_or_other R w x (long_of x) h)) e
      ∙ (ap (λ (o : Option (Word × Option Word)). long_or_other R w x o h) l
      ∙ ap (λ (o : Option Word). short_or_plain R w x o h) s)

  -- ---- one more thing is told

  settle_is : (id : Word) (long : Option Word) (index : Option ℕ) (required : Bool) (x : Word) (rows : List Row) (t : Told) (b : Bool) → arg_by_id R id ≡ Some (one id long index required) → rows ≡ rows_told u t → is_told id t ≡ b
      → settle_fault R false (held rows (Some (id, x ∷ []))) ≡ clash b
  settle_is id long index required x rows t b found same e =
      ap (λ (o : Option Rule). option_map_or (λ a. use_fault false a (x ∷ []) rows) o []) found
      ∙ (use_one id long index required x rows ∙ ap clash (ap (has_row id) same ∙ (has_row_told u id t ∙ e)))

  told_more : (id x : Word) (t : Told) (rows : List Row) → rows ≡ rows_told u t → rows ++ row u (id, x) ∷ [] ≡ rows_told u (t ++ (id, x) ∷ [])
  told_more id x t rows same = ap (λ (r : List Row). r ++ row u (id, x) ∷ []) same ∙ sym (map-append (row u) t ((id, x) ∷ []))

  not_there : (id : Word) (rows : List Row) (t : Told) → rows ≡ rows_told u t → is_told id t ≡ false → has_row id rows ≡ false
  not_there id rows t same e = ap (has_row id) same ∙ (has_row_told u id t ∙ e)

  settled_is : (id : Word) (long : Option Word) (index : Option ℕ) (required : Bool) (x : Word) (rows : List Row) (t : Told) → arg_by_id R id ≡ Some (one id long index required) → is_among id u.flags ≡ false → rows ≡ rows_told u t → is_told id t ≡ false
      → settled_rows R (Some (id, x ∷ [])) rows ≡ rows_told u (t ++ (id, x) ∷ [])
  settled_is id long index required x rows t found plain_id same e =
      ap (λ (o : Option Rule). used_by_id o (x ∷ []) rows) found
      ∙ (used_one u id long index required x rows plain_id (not_there id rows t same e) ∙ told_more id x t rows same)

  -- what is heard when one thing is told, where it was told before or not
  told_heard : (id x : Word) (t : Told) (left : List Word) (waits : Option Word) (past b : Bool) (ws : List Word) → is_told id t ≡ b
      → heard_rows u (option_and_then (words_heard u ws) (with_told id x (hears t left waits past))) ≡ cond b None (heard_rows u (words_heard u ws (hears (t ++ (id, x) ∷ []) left None past)))
  told_heard id x t left waits past true ws e = ap (λ (c : Bool). heard_rows u (option_and_then (words_heard u ws) (cond c None (Some (hears (t ++ (id, x) ∷ []) left None past))))) e
  told_heard id x t left waits past false ws e = ap (λ (c : Bool). heard_rows u (option_and_then (words_heard u ws) (cond c None (Some (hears (t ++ (id, x) ∷ []) left None past))))) e

  -- a walk whose last use is not yet made
  abbrev using_one : Word → Word → List Row → ℕ → Bool → Walk
  using_one id x rows p past = walk_at (held rows (Some (id, x ∷ []))) idle p past

  -- after a use of a name or of an option's value: it is told, or refused as told before
  used_then : (id : Word) (long : Option Word) (index : Option ℕ) (required : Bool) (x : Word) (rows : List Row) (t : Told) (left : List Word) (waits : Option Word) (past : Bool) (p : ℕ) (ws : List Word)
      → arg_by_id R id ≡ Some (one id long index required) → is_among id u.flags ≡ false → rows ≡ rows_told u t
      → (settle_fault R false (held rows (Some (id, x ∷ []))) ≡ kind.ArgumentConflict ∷ [] → out (using_one id x rows p past) ws ≡ None)
      → (settle_fault R false (held rows (Some (id, x ∷ []))) ≡ [] → settled_rows R (Some (id, x ∷ [])) rows ≡ rows_told u (t ++ (id, x) ∷ []) → out (using_one id x rows p past) ws ≡ heard_rows u (words_heard u ws (hears (t ++ (id, x) ∷ []) left None past)))
      → out (using_one id x rows p past) ws ≡ heard_rows u (option_and_then (words_heard u ws) (with_told id x (hears t left waits past)))
  used_then id long index required x rows t left waits past p ws found plain_id same doom on = go (is_told id t) refl
    where
      go : (b : Bool) → is_told id t ≡ b → out (using_one id x rows p past) ws ≡ heard_rows u (option_and_then (words_heard u ws) (with_told id x (hears t left waits past)))
      go true e = doom (settle_is id long index required x rows t true found same e) ∙ sym (told_heard id x t left waits past true ws e)
      go false e = on (settle_is id long index required x rows t false found same e) (settled_is id long index required x rows t found plain_id same e) ∙ sym (told_heard id x t left waits past false ws e)

  -- ---- behind `--`

  past_agrees : (ws : List Word) (t : Told) (left : List Word) (rows : List Row) (P : Option (Word × List Word)) (p : ℕ) (w : Waiting) → Stands R u p left → settle_fault R false (held rows P) ≡ [] → settled_rows R P rows ≡ rows_told u t
      → out (walk_at (held rows P) w p true) ws ≡ heard_rows u (words_heard u ws (hears t left None true))
  past_agrees [] t left rows P p w s e f = ends (walk_at (held rows P) w p true) [] (rows_told u t) e f
  past_agrees (x ∷ ws) t [] rows P p w s e f = refused (walk_at (held rows P) w p true) x ws kind.UnknownArgument (past_turn (held rows P) w p x ∙ stray p (held rows P) s)
  past_agrees (x ∷ ws) t (n ∷ left) rows P p w s e f =
      let made : List Row = settled_rows R P rows in
      let q : ℕ = min (p + 1) usize_max in
      goes (walk_at (held rows P) w p true) (using_one n x made q true) x ws
      (past_turn (held rows P) w p x ∙ (place_fault n left p (held rows P) s ∙ e))
      (past_walked (held rows P) w p x ∙ placed n x left p rows P w true s)
      ∙ used_then n None (Some p) true x made t left None true q ws s.1 s.2 f
      (λ d. doomed_past (held made (Some (n, x ∷ []))) kind.ArgumentConflict d ws idle q left s.3)
      (λ d g. past_agrees ws (t ++ (n, x) ∷ []) left made (Some (n, x ∷ [])) q idle s.3 d g)

  -- ---- before `--`

  doomed_word : (rows : List Row) (P : Option (Word × List Word)) (k : ErrorKind) → settle_fault R false (held rows P) ≡ k ∷ [] → (x : Word) (ws : List Word) (p : ℕ) (left : List Word) → Stands R u p left → Look x → out (walk_at (held rows P) idle p false) (x ∷ ws) ≡ None
  doomed_word rows P k e x ws p left s (at_end a d) = end_goes (held rows P) idle p x ws refl a ∙ doomed_past (held rows P) k e ws idle p left s
  doomed_word rows P k e x ws p left s (at_long text a d b l) =
      let q : Word × Option Word = name_and_value text in
      let doom = doomed_long (held rows P) k e q.0 q.1 (longs q.0) in
      refuse_early (held rows P) idle p x ws doom.0 refl (long_faults x (held rows P) q a l ∙ doom.1)
  doomed_word rows P k e x ws p left s (at_short y ys c a d b l o g) =
      refuse_early (held rows P) idle p x ws kind.UnknownArgument refl (short_faults x rows P y ys c a l o g)
  doomed_word rows P k e x ws p [] s (at_name a d l o) =
      refused (walk_at (held rows P) idle p false) x ws kind.UnknownArgument
      (early_turn (held rows P) idle p x [] (held rows P, value) refl (name_fault x (held rows P) a l o) (name_met idle p x (held rows P) a l o) ∙ stray p (held rows P) s)
  doomed_word rows P k e x ws p (n ∷ left) s (at_name a d l o) =
      refused (walk_at (held rows P) idle p false) x ws k
      (early_turn (held rows P) idle p x [] (held rows P, value) refl (name_fault x (held rows P) a l o) (name_met idle p x (held rows P) a l o) ∙ (place_fault n left p (held rows P) s ∙ e))

  doomed_early : (rows : List Row) (P : Option (Word × List Word)) (k : ErrorKind) → settle_fault R false (held rows P) ≡ k ∷ [] → (ws : List Word) → AreUtf8 ws → (p : ℕ) (left : List Word) → Stands R u p left → out (walk_at (held rows P) idle p false) ws ≡ None
  doomed_early rows P k e [] texts p left s = ends (walk_at (held rows P) idle p false) (k ∷ []) (settled R (held rows P)).rows e refl
  doomed_early rows P k e (x ∷ ws) texts p left s = doomed_word rows P k e x ws p left s (look x texts.0)

  -- what is so of the rest of the words: where nothing waits, and where an option waits for its value
  record Agrees (ws : List Word) : Type 0 where
    idling : (t : Told) (left : List Word) (rows : List Row) (P : Option (Word × List Word)) (p : ℕ) → Stands R u p left → settle_fault R false (held rows P) ≡ [] → settled_rows R P rows ≡ rows_told u t
        → out (walk_at (held rows P) idle p false) ws ≡ heard_rows u (words_heard u ws (hears t left None false))
    waiting : (t : Told) (left : List Word) (rows : List Row) (n : Word) (p : ℕ) → Stands R u p left → arg_by_id R n ≡ Some (one n (Some n) None false) → is_among n u.flags ≡ false → rows ≡ rows_told u t
        → out (walk_at (held rows (Some (n, []))) (option n) p false) ws ≡ heard_rows u (words_heard u ws (hears t left (Some n) false))

  -- what is heard of a word
  on_heard : (ws : List Word) (o q : Option Heard) → o ≡ q → heard_rows u (option_and_then (words_heard u ws) o) ≡ heard_rows u (option_and_then (words_heard u ws) q)
  on_heard ws o q e = ap (λ (z : Option Heard). heard_rows u (option_and_then (words_heard u ws) z)) e

  abbrev early : Told → List Word → Heard
  early t left = hears t left None false

  end_heard : (x : Word) (h : Heard) → bytes_eq x (codes "--") ≡ true → early_heard u None x h ≡ Some (record h { past = true })
  end_heard x h e = ap (λ (b : Bool). cond b (Some (record h { past = true })) (cond (is_dashed x) (option_heard u (behind_dashes x) h) (name_heard x h))) e

  option_is_heard : (x : Word) (h : Heard) (o : Option Word) → bytes_eq x (codes "--") ≡ false → is_dashed x ≡ true → behind_dashes x ≡ o → early_heard u None x h ≡ option_heard u o h
  option_is_heard x h o e d b =
      ap (λ (c : Bool). cond c (Some (record h { past = true })) (cond (is_dashed x) (option_heard u (behind_dashes x) h) (name_heard x h))) e
      ∙ (ap (λ (c : Bool). cond c (option_heard u (behind_dashes x) h) (name_heard x h)) d ∙ ap (λ (z : Option Word). option_heard u z h) b)

  name_is_heard : (x : Word) (h : Heard) → bytes_eq x (codes "--") ≡ false → is_dashed x ≡ false → early_heard u None x h ≡ name_heard x h
  name_is_heard x h e d =
      ap (λ (c : Bool). cond c (Some (record h { past = true })) (cond (is_dashed x) (option_heard u (behind_dashes x) h) (name_heard x h))) e
      ∙ ap (λ (c : Bool). cond c (option_heard u (behind_dashes x) h) (name_heard x h)) d

  value_heard : (x n : Word) (h : Heard) (b : Bool) → is_dashed x ≡ b → early_heard u (Some n) x h ≡ cond b None (with_told n x h)
  value_heard x n h b d = ap (λ (c : Bool). cond c None (with_told n x h)) d

  -- an option that is used at once, in its own word
  now_used : (x : Word) (ws : List Word) (t : Told) (left : List Word) (rows : List Row) (P : Option (Word × List Word)) (p : ℕ) (n y : Word) (made : List Row) → Agrees ws → Stands R u p left
      → other_fault S None x (held rows P) ≡ clash (is_told n t) → met idle p x (held rows P) ≡ (held made None, next idle) → (is_told n t ≡ false → made ≡ rows_told u (t ++ (n, y) ∷ []))
      → out (walk_at (held rows P) idle p false) (x ∷ ws) ≡ heard_rows u (option_and_then (words_heard u ws) (with_told n y (early t left)))
  now_used x ws t left rows P p n y made ih s f m same = go (is_told n t) refl
    where
      go : (b : Bool) → is_told n t ≡ b → out (walk_at (held rows P) idle p false) (x ∷ ws) ≡ heard_rows u (option_and_then (words_heard u ws) (with_told n y (early t left)))
      go true e = refuse_early (held rows P) idle p x ws kind.ArgumentConflict refl (f ∙ ap clash e) ∙ sym (told_heard n y t left None false true ws e)
      go false e =
          goes (walk_at (held rows P) idle p false) (walk_at (held made None) idle p false) x ws
          (early_turn (held rows P) idle p x [] (held made None, next idle) refl (f ∙ ap clash e) m)
          (early_walked (held rows P) idle p x (held made None, next idle) refl m)
          ∙ (ih.idling (t ++ (n, y) ∷ []) left made None p s refl (same e) ∙ sym (told_heard n y t left None false false ws e))

  long_agrees : (x : Word) (ws : List Word) (t : Told) (left : List Word) (rows : List Row) (P : Option (Word × List Word)) (p : ℕ) (n : Word) (v : Option Word) → Agrees ws → Stands R u p left → settle_fault R false (held rows P) ≡ [] → settled_rows R P rows ≡ rows_told u t
      → Long R u n → other_fault S None x (held rows P) ≡ long_fault R false (arg_by_long R n) v (held rows P) → met idle p x (held rows P) ≡ long_word R idle x n v (held rows P)
      → out (walk_at (held rows P) idle p false) (x ∷ ws) ≡ heard_rows u (option_and_then (words_heard u ws) (named_heard u n v (early t left)))
  long_agrees x ws t left rows P p n (Some y) ih s e f (of_value a i b c) lf lm =
      let made : List Row = settled_rows R P rows in
      now_used x ws t left rows P p n y (used (one n (Some n) None false) (y ∷ []) made) ih s
      (lf ∙ (ap (λ (o : Option Rule). long_fault R false o (Some y) (held rows P)) a
      ∙ (ap (λ (T : Kinds). or_else T (use_fault false (one n (Some n) None false) (y ∷ []) made)) e
      ∙ (use_one n (Some n) None false y made ∙ ap clash (ap (has_row n) f ∙ has_row_told u n t)))))
      (lm ∙ ap (λ (o : Option Rule). after_flag R idle x (long_met R o (Some y) (held rows P)).0 (long_met R o (Some y) (held rows P)).1) a)
      (λ plain_id. used_one u n (Some n) None false y made c (not_there n made t f plain_id) ∙ told_more n y t made f)
      ∙ sym (on_heard ws (named_heard u n (Some y) (early t left)) (with_told n y (early t left)) (ap (λ (z : Bool). cond z (with_told n y (early t left)) None) b))
  long_agrees x ws t left rows P p n None ih s e f (of_value a i b c) lf lm =
      let made : List Row = settled_rows R P rows in
      let m : met idle p x (held rows P) ≡ (held made (Some (n, [])), next (option n)) = lm ∙ ap (λ (o : Option Rule). after_flag R idle x (long_met R o None (held rows P)).0 (long_met R o None (held rows P)).1) a in
      goes (walk_at (held rows P) idle p false) (walk_at (held made (Some (n, []))) (option n) p false) x ws
      (early_turn (held rows P) idle p x [] (held made (Some (n, [])), next (option n)) refl (lf ∙ (ap (λ (o : Option Rule). long_fault R false o None (held rows P)) a ∙ e)) m)
      (early_walked (held rows P) idle p x (held made (Some (n, [])), next (option n)) refl m)
      ∙ (ih.waiting t left made n p s i c f
      ∙ sym (on_heard ws (named_heard u n None (early t left)) (Some (hears t left (Some n) false)) (ap (λ (z : Bool). cond z (Some (hears t left (Some n) false)) (cond (is_among n u.flags) (with_told n [] (early t left)) None)) b)))
  long_agrees x ws t left rows P p n (Some y) ih s e f (of_flag a b c) lf lm =
      refuse_early (held rows P) idle p x ws kind.TooManyValues refl (lf ∙ ap (λ (o : Option Rule). long_fault R false o (Some y) (held rows P)) a)
      ∙ sym (on_heard ws (named_heard u n (Some y) (early t left)) None (ap (λ (z : Bool). cond z (with_told n y (early t left)) None) b))
  long_agrees x ws t left rows P p n None ih s e f (of_flag a b c) lf lm =
      let made : List Row = settled_rows R P rows in
      now_used x ws t left rows P p n [] (used (switch n) [] made) ih s
      (lf ∙ (ap (λ (o : Option Rule). long_fault R false o None (held rows P)) a
      ∙ (ap (λ (T : Kinds). or_else T (use_fault false (switch n) [] made)) e
      ∙ (use_switch n made ∙ ap clash (ap (has_row n) f ∙ has_row_told u n t)))))
      (lm ∙ ap (λ (o : Option Rule). after_flag R idle x (long_met R o None (held rows P)).0 (long_met R o None (held rows P)).1) a)
      (λ plain_id. used_switch u n made c (not_there n made t f plain_id) ∙ told_more n [] t made f)
      ∙ sym (on_heard ws (named_heard u n None (early t left)) (with_told n [] (early t left))
      (ap₂ (λ (z y : Bool). cond z (Some (hears t left (Some n) false)) (cond y (with_told n [] (early t left)) None)) b c))
  long_agrees x ws t left rows P p n (Some y) ih s e f (of_none a b c) lf lm =
      refuse_early (held rows P) idle p x ws kind.UnknownArgument refl (lf ∙ ap (λ (o : Option Rule). long_fault R false o (Some y) (held rows P)) a)
      ∙ sym (on_heard ws (named_heard u n (Some y) (early t left)) None (ap (λ (z : Bool). cond z (with_told n y (early t left)) None) b))
  long_agrees x ws t left rows P p n None ih s e f (of_none a b c) lf lm =
      refuse_early (held rows P) idle p x ws kind.UnknownArgument refl (lf ∙ ap (λ (o : Option Rule). long_fault R false o None (held rows P)) a)
      ∙ sym (on_heard ws (named_heard u n None (early t left)) None
      (ap₂ (λ (z y : Bool). cond z (Some (hears t left (Some n) false)) (cond y (with_told n [] (early t left)) None)) b c))

  idle_agrees : (x : Word) (ws : List Word) → AreUtf8 ws → Agrees ws → Look x → (t : Told) (left : List Word) (rows : List Row) (P : Option (Word × List Word)) (p : ℕ) → Stands R u p left → settle_fault R false (held rows P) ≡ [] → settled_rows R P rows ≡ rows_told u t
      → out (walk_at (held rows P) idle p false) (x ∷ ws) ≡ heard_rows u (option_and_then (words_heard u ws) (early_heard u None x (early t left)))
  idle_agrees x ws texts ih (at_end a d) t left rows P p s e f =
      end_goes (held rows P) idle p x ws refl a
      ∙ (past_agrees ws t left rows P p idle s e f
      ∙ sym (on_heard ws (early_heard u None x (early t left)) (Some (hears t left None true)) (end_heard x (early t left) a)))
  idle_agrees x ws texts ih (at_long text a d b l) t left rows P p s e f =
      let q : Word × Option Word = name_and_value text in
      long_agrees x ws t left rows P p q.0 q.1 ih s e f (longs q.0) (long_faults x (held rows P) q a l) (long_is_met idle p x (held rows P) q a l)
      ∙ sym (on_heard ws (early_heard u None x (early t left)) (named_heard u q.0 q.1 (early t left)) (option_is_heard x (early t left) (Some text) a d b))
  idle_agrees x ws texts ih (at_short y ys c a d b l o g) t left rows P p s e f =
      refuse_early (held rows P) idle p x ws kind.UnknownArgument refl (short_faults x rows P y ys c a l o g)
      ∙ sym (on_heard ws (early_heard u None x (early t left)) None (option_is_heard x (early t left) None a d b))
  idle_agrees x ws texts ih (at_name a d l o) t [] rows P p s e f =
      refused (walk_at (held rows P) idle p false) x ws kind.UnknownArgument
      (early_turn (held rows P) idle p x [] (held rows P, value) refl (name_fault x (held rows P) a l o) (name_met idle p x (held rows P) a l o) ∙ stray p (held rows P) s)
      ∙ sym (on_heard ws (early_heard u None x (early t [])) None (name_is_heard x (early t []) a d))
  idle_agrees x ws texts ih (at_name a d l o) t (n ∷ left) rows P p s e f =
      let made : List Row = settled_rows R P rows in
      let q : ℕ = min (p + 1) usize_max in
      goes (walk_at (held rows P) idle p false) (using_one n x made q false) x ws
      (early_turn (held rows P) idle p x [] (held rows P, value) refl (name_fault x (held rows P) a l o) (name_met idle p x (held rows P) a l o) ∙ (place_fault n left p (held rows P) s ∙ e))
      (early_walked (held rows P) idle p x (held rows P, value) refl (name_met idle p x (held rows P) a l o) ∙ placed n x left p rows P idle false s)
      ∙ (used_then n None (Some p) true x made t left None false q ws s.1 s.2 f
      (λ z. doomed_early made (Some (n, x ∷ [])) kind.ArgumentConflict z ws texts q left s.3)
      (λ z g. ih.idling (t ++ (n, x) ∷ []) left made (Some (n, x ∷ [])) q s.3 z g)
      ∙ sym (on_heard ws (early_heard u None x (early t (n ∷ left))) (with_told n x (early t left)) (name_is_heard x (early t (n ∷ left)) a d)))

  -- an option that waits for its value has none
  no_value : (n : Word) (rows : List Row) → arg_by_id R n ≡ Some (one n (Some n) None false) → settle_fault R false (held rows (Some (n, []))) ≡ kind.InvalidValue ∷ []
  no_value n rows found = ap (λ (o : Option Rule). option_map_or (λ a. use_fault false a [] rows) o []) found ∙ use_none n (Some n) None false rows

  -- the word is its value
  value_met : (n x : Word) (rows : List Row) → arg_by_id R n ≡ Some (one n (Some n) None false) → plain_word R (option n) x (held rows (Some (n, []))) ≡ (held rows (Some (n, x ∷ [])), next idle)
  value_met n x rows found =
      ap (λ (o : Option Rule). ((option_word o n x (held rows (Some (n, [])))).0, next (option_word o n x (held rows (Some (n, [])))).1)) found
      ∙ ap (λ (b : Bool). (held rows (Some (n, x ∷ [])), next (cond (nat_lt (cond b 1 0) 1) (option n) idle))) (same_bytes n)

  wait_agrees : (x : Word) (ws : List Word) → AreUtf8 ws → Agrees ws → Look x → (t : Told) (left : List Word) (rows : List Row) (n : Word) (p : ℕ) → Stands R u p left → arg_by_id R n ≡ Some (one n (Some n) None false) → is_among n u.flags ≡ false → rows ≡ rows_told u t
      → out (walk_at (held rows (Some (n, []))) (option n) p false) (x ∷ ws) ≡ heard_rows u (option_and_then (words_heard u ws) (early_heard u (Some n) x (hears t left (Some n) false)))
  wait_agrees x ws texts ih (at_end a d) t left rows n p s found plain_id same =
      end_goes (held rows (Some (n, []))) (option n) p x ws refl a
      ∙ (doomed_past (held rows (Some (n, []))) kind.InvalidValue (no_value n rows found) ws (option n) p left s
      ∙ sym (on_heard ws (early_heard u (Some n) x (hears t left (Some n) false)) None (value_heard x n (hears t left (Some n) false) true d)))
  wait_agrees x ws texts ih (at_long text a d b l) t left rows n p s found plain_id same =
      let q : Word × Option Word = name_and_value text in
      let doom = doomed_long (held rows (Some (n, []))) kind.InvalidValue (no_value n rows found) q.0 q.1 (longs q.0) in
      refuse_early (held rows (Some (n, []))) (option n) p x ws doom.0 refl (long_faults x (held rows (Some (n, []))) q a l ∙ doom.1)
      ∙ sym (on_heard ws (early_heard u (Some n) x (hears t left (Some n) false)) None (value_heard x n (hears t left (Some n) false) true d))
  wait_agrees x ws texts ih (at_short y ys c a d b l o g) t left rows n p s found plain_id same =
      refuse_early (held rows (Some (n, []))) (option n) p x ws kind.UnknownArgument refl (short_faults x rows (Some (n, [])) y ys c a l o g)
      ∙ sym (on_heard ws (early_heard u (Some n) x (hears t left (Some n) false)) None (value_heard x n (hears t left (Some n) false) true d))
  wait_agrees x ws texts ih (at_name a d l o) t left rows n p s found plain_id same =
      let h : Held = held rows (Some (n, [])) in
      let m : met (option n) p x h ≡ (held rows (Some (n, x ∷ [])), next idle) = name_met (option n) p x h a l o ∙ value_met n x rows found in
      goes (walk_at h (option n) p false) (using_one n x rows p false) x ws
      (early_turn h (option n) p x [] (held rows (Some (n, x ∷ [])), next idle) refl (name_fault x h a l o) m)
      (early_walked h (option n) p x (held rows (Some (n, x ∷ [])), next idle) refl m)
      ∙ (used_then n (Some n) None false x rows t left (Some n) false p ws found plain_id same
      (λ z. doomed_early rows (Some (n, x ∷ [])) kind.ArgumentConflict z ws texts p left s)
      (λ z g. ih.idling (t ++ (n, x) ∷ []) left rows (Some (n, x ∷ [])) p s z g)
      ∙ sym (on_heard ws (early_heard u (Some n) x (hears t left (Some n) false)) (with_told n x (hears t left (Some n) false)) (value_heard x n (hears t left (Some n) false) false d)))

  agrees : (ws : List Word) → AreUtf8 ws → Agrees ws
  agrees [] texts = record {
    idling = λ t left rows P p s e f. ends (walk_at (held rows P) idle p false) [] (rows_told u t) e f;
    waiting = λ t left rows n p s found plain_id same. ends (walk_at (held rows (Some (n, []))) (option n) p false) (kind.InvalidValue ∷ []) (settled R (held rows (Some (n, [])))).rows (no_value n rows found) refl;
  }
  agrees (x ∷ ws) texts =
      let ih : Agrees ws = agrees ws texts.1 in
      record {
        idling = λ t left rows P p s e f. idle_agrees x ws texts.1 ih (look x texts.0) t left rows P p s e f;
        waiting = λ t left rows n p s found plain_id same. wait_agrees x ws texts.1 ih (look x texts.0) t left rows n p s found plain_id same;
      }

  -- from the first word on
  pub from_start : (ws : List Word) → AreUtf8 ws → Stands R u 1 u.names → out (walk_at (held [] None) idle 1 false) ws ≡ heard_rows u (words_heard u ws (hears [] u.names None false))
  from_start ws texts s = (agrees ws texts).idling [] u.names [] None 1 s refl refl
