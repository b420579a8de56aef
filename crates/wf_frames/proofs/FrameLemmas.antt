-- One frame changes: what stays, and which are free then.
use Rattle.std.proofs.Common.{◌≡◌, ◌<◌, ◌≤◌, ◌+◌, ℕ, zero, suc, List, [], ◌∷◌, ◌++◌, Bool, true, false, length, get_or, refl, sym, ap, ◌∙◌, arith, subst, add-one, zero-add, replicate, take, append_assoc}
use Rattle.std.proofs.Math.Seq.{take-append_seam}
use Rattle.std.proofs.lemmas.Bool.Decides.{nat_tests}
use Rattle.std.proofs.Math.ListN.{set}
use Rattle.std.specs.List.{AllByRecursion, range_with_len}
use Rattle.wf_frames.specs.declared.state.FrameState.TheVariants.{Free, Worn}
use Rattle.wf_frames.specs.declared.state.Frame.{Frame}
use Rattle.wf_frames.specs.declared.state.FrameState.{FrameState}
use Rattle.wf_frames.specs.Frames.{FramesValue, is_free, free_ones, places_from, changed_at, all_taken, taken, raised, given, HasState}
use Rattle.wf_frames.specs.Free.{AreFrames}

pub changed_set : (fs : List Frame) (i : ℕ) (g : Frame → Frame) (d : Frame) → i < length fs → set fs i (g (get_or fs i d)) ≡ changed_at fs i g
changed_set [] i g d h = absurd (omega arith)
changed_set (f ∷ fs) zero g d h = refl
changed_set (f ∷ fs) (suc i) g d h = ap (λ xs. f ∷ xs) (changed_set fs i g d (omega arith))

pub changed_same : (fs : List Frame) (i : ℕ) (g h : Frame → Frame) (d : Frame) → i < length fs → g (get_or fs i d) ≡ h (get_or fs i d) → changed_at fs i g ≡ changed_at fs i h
changed_same [] i g h d lt e = absurd (omega arith)
changed_same (f ∷ fs) zero g h d lt e = ap (λ x. x ∷ fs) e
changed_same (f ∷ fs) (suc i) g h d lt e = ap (λ xs. f ∷ xs) (changed_same fs i g h d (omega arith) e)

pub length_changed : (fs : List Frame) (i : ℕ) (g : Frame → Frame) → length (changed_at fs i g) ≡ length fs
length_changed [] i g = refl
length_changed (f ∷ fs) zero g = refl
length_changed (f ∷ fs) (suc i) g = ap suc (length_changed fs i g)

pub length_ones : (fs : List Frame) → length (free_ones fs) ≡ length fs
length_ones [] = refl
length_ones (f ∷ fs) = ap suc (length_ones fs)

-- a frame has another state now
pub ones_set : (fs : List Frame) (i : ℕ) (s : FrameState) → free_ones (changed_at fs i (λ f. record f { state = s })) ≡ set (free_ones fs) i (is_free s)
ones_set [] i s = refl
ones_set (f ∷ fs) zero s = refl
ones_set (f ∷ fs) (suc i) s = ap (λ bs. is_free f.state ∷ bs) (ones_set fs i s)

-- no state changes
pub ones_same : (fs : List Frame) (i : ℕ) (g : Frame → Frame) → ((f : Frame) → (g f).state ≡ f.state) → free_ones (changed_at fs i g) ≡ free_ones fs
ones_same [] i g e = refl
ones_same (f ∷ fs) zero g e = ap (λ s. is_free s ∷ free_ones fs) (e f)
ones_same (f ∷ fs) (suc i) g e = ap (λ bs. is_free f.state ∷ bs) (ones_same fs i g e)

pub all_changed : (P : Frame → Type 0) (fs : List Frame) (i : ℕ) (g : Frame → Frame) → ((f : Frame) → P f → P (g f)) → AllByRecursion P fs → AllByRecursion P (changed_at fs i g)
all_changed P [] i g k h = h
all_changed P (f ∷ fs) zero g k h = (k f h.0, h.1)
all_changed P (f ∷ fs) (suc i) g k h = (h.0, all_changed P fs i g k h.1)

pub has_lt : (fs : List Frame) (i : ℕ) (s : FrameState) → HasState fs i s → i < length fs
has_lt [] i s h = absurd h
has_lt (f ∷ fs) zero s h = omega arith
has_lt (f ∷ fs) (suc i) s h = let r = has_lt fs i s h in omega arith

pub has_one : (fs : List Frame) (i : ℕ) (s : FrameState) → HasState fs i s → get_or (free_ones fs) i false ≡ is_free s
has_one [] i s h = absurd h
has_one (f ∷ fs) zero s h = ap is_free h
has_one (f ∷ fs) (suc i) s h = has_one fs i s h

pub set_same : (bs : List Bool) (i : ℕ) → get_or bs i false ≡ false → i < length bs → set bs i false ≡ bs
set_same [] i e h = refl
set_same (b ∷ bs) zero e h = ap (λ x. x ∷ bs) (sym e)
set_same (b ∷ bs) (suc i) e h = ap (λ xs. b ∷ xs) (set_same bs i e (omega arith))

-- one more frame is taken
pub all_taken_push : (ns : List ℕ) (n : ℕ) (fs : List Frame) → all_taken (ns ++ n ∷ []) fs ≡ changed_at (all_taken ns fs) n taken
all_taken_push [] n fs = refl
all_taken_push (m ∷ ns) n fs = all_taken_push ns n (changed_at fs m taken)

raised_le : (last_birth : ℕ) (f : Frame) → f.incarnation ≤ last_birth → (raised last_birth f).incarnation ≤ last_birth
raised_le last_birth f h = grind (arith, nat_tests)

pub raised_more : (last_birth : ℕ) (f : Frame) → f.incarnation < last_birth → record f { incarnation = f.incarnation + 1 } ≡ raised last_birth f
raised_more last_birth f h = grind (arith, nat_tests)

pub raised_last : (last_birth : ℕ) (f : Frame) → last_birth ≤ f.incarnation → f ≡ raised last_birth f
raised_last last_birth f h = grind (arith, nat_tests)

-- a frame has another state, and the free list follows
pub AreFrames-set : (fs xs : List Frame) (free new : List ℕ) (room more last_birth i : ℕ) (s : FrameState) → AreFrames fs free room last_birth → xs ≡ changed_at fs i (λ f. record f { state = s }) → new ≡ places_from 0 (set (free_ones fs) i (is_free s)) → room ≤ more → AreFrames xs new more last_birth
AreFrames-set fs xs free new room more last_birth i s h e n le = subst (λ ys. AreFrames ys new more last_birth) (sym e) (record {
  free_are = n ∙ ap (places_from 0) (sym (ones_set fs i s));
  room_is = omega (arith, length_changed fs i (λ f. record f { state = s }), h.room_is);
  few = omega (arith, length_changed fs i (λ f. record f { state = s }), h.few);
  births = all_changed _ fs i _ (λ f b. b) h.births;
})

-- an incarnation rises, and no state changes
pub AreFrames-raised : (fs xs : List Frame) (free : List ℕ) (room last_birth i : ℕ) → AreFrames fs free room last_birth → xs ≡ changed_at fs i (raised last_birth) → AreFrames xs free room last_birth
AreFrames-raised fs xs free room last_birth i h e = subst (λ ys. AreFrames ys free room last_birth) (sym e) (record {
  free_are = h.free_are ∙ ap (places_from 0) (sym (ones_same fs i (raised last_birth) (λ f. refl)));
  room_is = omega (arith, length_changed fs i (raised last_birth), h.room_is);
  few = omega (arith, length_changed fs i (raised last_birth), h.few);
  births = all_changed _ fs i _ (λ f b. raised_le last_birth f b) h.births;
})

-- one more number of a range
pub range_push : (a n : ℕ) → range_with_len a (n + 1) ≡ range_with_len a n ++ (a + n) ∷ []
range_push a n = ap (range_with_len a) (add-one n) ∙ pushed a n
  where
    pushed : (a n : ℕ) → range_with_len a (suc n) ≡ range_with_len a n ++ (a + n) ∷ []
    pushed a zero = let e : a ≡ a + 0 = omega arith in ap (λ m. m ∷ []) e
    pushed a (suc n) = let e : (a + 1) + n ≡ a + suc n = omega arith in ap (λ ns. a ∷ ns) (pushed (a + 1) n ∙ ap (λ m. range_with_len (a + 1) n ++ m ∷ []) e)

-- a new machine's frames are all free
pub all_free : (f : Frame) (n count : ℕ) → is_free f.state ≡ true → range_with_len n count ≡ places_from n (free_ones (replicate count f))
all_free f n zero e = refl
all_free f n (suc count) e =
    ap (λ ns. n ∷ ns) (ap (λ m. range_with_len m count) (add-one n) ∙ all_free f (suc n) count e) ∙ sym (ap (λ b. places_from n (b ∷ free_ones (replicate count f))) e)

pub all_replicate : (P : Frame → Type 0) (f : Frame) (count : ℕ) → P f → AllByRecursion P (replicate count f)
all_replicate P f zero h = tt
all_replicate P f (suc count) h = (h, all_replicate P f count h)

-- below its last incarnation a frame that is given back is free, else worn
pub given_free : (last_birth : ℕ) (f : Frame) → f.incarnation < last_birth → record f { state = Free } ≡ given last_birth f
given_free last_birth f h = grind (arith, nat_tests)

pub given_worn : (last_birth : ℕ) (f : Frame) → last_birth ≤ f.incarnation → record f { state = Worn } ≡ given last_birth f
given_worn last_birth f h = grind (arith, nat_tests)

-- what is taken so far, with one more
pub taken_more : (v w x : FramesValue) (ns ms : List ℕ) (n : ℕ) → x ≡ record w { frames = changed_at w.frames n taken } → w ≡ record v { frames = all_taken ns v.frames } → ms ≡ ns ++ n ∷ [] → x ≡ record v { frames = all_taken ms v.frames }
taken_more v w x ns ms n e f g =
    e ∙ ap (λ (u : FramesValue). record u { frames = changed_at u.frames n taken }) f
    ∙ ap {B = FramesValue} (λ fs. record v { frames = fs }) (sym (all_taken_push ns n v.frames)) ∙ ap {B = FramesValue} (λ ks. record v { frames = all_taken ks v.frames }) (sym g)

pub free_more : (all ns ms rest : List ℕ) (n : ℕ) (tail : List ℕ) → all ≡ ns ++ rest → rest ≡ n ∷ tail → ms ≡ ns ++ n ∷ [] → all ≡ ms ++ tail
free_more all ns ms rest n tail e f g = e ∙ ap (λ xs. ns ++ xs) f ∙ sym (append_assoc ns (n ∷ []) tail) ∙ ap (λ xs. xs ++ tail) (sym g)

-- what stands in front is the first so many
pub front_is : (all ns rest : List ℕ) (n : ℕ) → all ≡ ns ++ rest → length ns ≡ n → ns ≡ take n all
front_is all ns rest n e l = sym (take-append_seam ns rest) ∙ ap (take (length ns)) (sym e) ∙ ap (λ k. take k all) l

pub range_push_0 : (n : ℕ) → range_with_len 0 (n + 1) ≡ range_with_len 0 n ++ n ∷ []
range_push_0 n = range_push 0 n ∙ ap (λ m. range_with_len 0 n ++ m ∷ []) (zero-add n)
