-- Laws of moved bytes, and what a move leaves of a buffer that is known in parts.
-- Assumes nothing.
use Rattle.std.specs.Prelude.{◌≡◌, refl, set}
use Rattle.std.proofs.Math.Path.{sym, ap}
use Rattle.std.proofs.Common.{◌∙◌, add-zero, add-one, arith, length-append, length-drop, take-append-drop, length-take-le, take_at, drop_at, take-add, drop-drop}
use mathlib.Core.List.{List, [], ◌∷◌, ◌++◌, append_assoc}
use Prim.Native.Nat.{ℕ, ◌+◌, ◌-◌, ◌<◌, ◌≤◌}
use Rattle.std.proofs.Math.ListN.{length, take, drop}
use Rattle.std.specs.List.{copy_within}
use Rattle.text.specs.Put.{put}
use Rattle.book_form.specs.Moves.{raised, lowered}
use Rattle.std.proofs.Math.Seq.{slice, slice_empty, length-slice, drop-append-add, take-append-add}
use Rattle.std.proofs.lemmas.List.{set_split, drop-append-le}

pub slice-take : (f t : ℕ) (l : List ℕ) → f ≤ t → t ≤ length l → slice f t l ≡ take (t - f) (drop f l)
slice-take f t l h k =
    ap (λ (n : ℕ). drop f (take n l)) (let z : t ≡ f + (t - f) = omega arith in z)
    ∙ ap (λ (s : List ℕ). drop f s) (take-add f (t - f) l)
    ∙ drop_at (take f l) (take (t - f) (drop f l)) f (length-take-le f l (omega arith))

-- std's copy within a buffer, up and down
pub raised-within : (f t w : ℕ) (b : List ℕ) → f ≤ t → t + w ≤ length b → copy_within b f t (f + w) ≡ raised f t w b
unfolding raised
raised-within f t w b h k =
    append_assoc (take (f + w) b) (take (t - f) (drop f b)) (drop (f + w + (t - f)) b)
    ∙ ap (λ (l : List ℕ). take (f + w) b ++ (l ++ drop (f + w + (t - f)) b)) (sym (slice-take f t b h (let z : t ≤ length b = omega arith in z)))
    ∙ ap (λ (n : ℕ). take (f + w) b ++ (slice f t b ++ drop n b)) (let z : f + w + (t - f) ≡ t + w = omega arith in z)

pub lowered-within : (f t w : ℕ) (b : List ℕ) → w ≤ f → f ≤ t → t ≤ length b → copy_within b f t (f - w) ≡ lowered f t w b
unfolding lowered
lowered-within f t w b g h k =
    append_assoc (take (f - w) b) (take (t - f) (drop f b)) (drop (f - w + (t - f)) b)
    ∙ ap (λ (l : List ℕ). take (f - w) b ++ (l ++ drop (f - w + (t - f)) b)) (sym (slice-take f t b h k))
    ∙ ap (λ (n : ℕ). take (f - w) b ++ (slice f t b ++ drop n b)) (let z : f - w + (t - f) ≡ t - w = omega arith in z)

-- moved bytes of a buffer that is known in parts
pub raised-parts : (pre mid post : List ℕ) (f t w : ℕ) → length pre ≡ f → f + length mid ≡ t → raised f t w (pre ++ (mid ++ post)) ≡ pre ++ (take w (mid ++ post) ++ (mid ++ drop w post))
unfolding raised
raised-parts pre mid post f t w ef et =
    let b : List ℕ = pre ++ (mid ++ post) in
    let one : take (f + w) b ≡ pre ++ take w (mid ++ post) = rw (← ef) (take-append-add pre (mid ++ post) w) in
    let cut : take t b ≡ pre ++ mid = rw (← et, ← ef) (take-append-add pre (mid ++ post) (length mid) ∙ ap (λ (l : List ℕ). pre ++ l) (take_at mid post (length mid) refl)) in
    let two : slice f t b ≡ mid = ap (λ (l : List ℕ). drop f l) cut ∙ drop_at pre mid f ef in
    let three : drop (t + w) b ≡ drop w post =
    ap (λ (n : ℕ). drop n b) (let q : t + w ≡ length pre + (length mid + w) = omega arith in q)
    ∙ drop-append-add pre (mid ++ post) (length mid + w)
    ∙ drop-append-add mid post w in
    ap (λ (l : List ℕ). l ++ (slice f t b ++ drop (t + w) b)) one
    ∙ ap (λ (l : List ℕ). pre ++ take w (mid ++ post) ++ (l ++ drop (t + w) b)) two
    ∙ ap (λ (l : List ℕ). pre ++ take w (mid ++ post) ++ (mid ++ l)) three
    ∙ append_assoc pre (take w (mid ++ post)) (mid ++ drop w post)

pub over-parts : (pre old post new : List ℕ) (f : ℕ) → length pre ≡ f → length old ≡ length new → put (pre ++ (old ++ post)) f new ≡ pre ++ (new ++ post)
unfolding put
over-parts pre old post new f ef eo =
    let b : List ℕ = pre ++ (old ++ post) in
    let three : drop (f + length new) b ≡ post =
    ap (λ (n : ℕ). drop n b) (let q : f + length new ≡ length pre + length new = omega arith in q)
    ∙ drop-append-add pre (old ++ post) (length new)
    ∙ drop_at old post (length new) eo in
    ap (λ (l : List ℕ). l ++ (new ++ drop (f + length new) b)) (take_at pre (old ++ post) f ef) ∙ ap (λ (l : List ℕ). pre ++ (new ++ l)) three

-- one after the other is both at once
pub over-join : (b : List ℕ) (f : ℕ) (x y : List ℕ) (g : ℕ) → f + length x ≡ g → g ≤ length b → put (put b f x) g y ≡ put b f (x ++ y)
unfolding put
over-join b f x y g eg h =
    let d : List ℕ = drop (f + length x) b in
    let p : List ℕ = take f b ++ x in
    let ep : put b f x ≡ p ++ d = sym (append_assoc (take f b) x d) in
    let lp : length p ≡ g = omega (arith, length-append (take f b) x, length-take-le f b (omega arith)) in
    let rest : drop (g + length y) (p ++ d) ≡ drop (f + length (x ++ y)) b =
    ap (λ (n : ℕ). drop n (p ++ d)) (let q : g + length y ≡ length p + length y = omega arith in q)
    ∙ drop-append-add p d (length y)
    ∙ drop-drop (length y) (f + length x) b
    ∙ ap (λ (n : ℕ). drop n b) (let q : f + length x + length y ≡ f + length (x ++ y) = omega (arith, length-append x y) in q) in
    ap (λ (l : List ℕ). put l g y) ep
    ∙ ap (λ (l : List ℕ). l ++ (y ++ drop (g + length y) (p ++ d))) (take_at p d g lp)
    ∙ ap (λ (l : List ℕ). p ++ (y ++ l)) rest
    ∙ simp append_assoc

-- nothing written
pub over-start : (b : List ℕ) (f : ℕ) → b ≡ put b f []
unfolding put
over-start b f = sym (ap (λ (n : ℕ). take f b ++ drop n b) (add-zero f) ∙ take-append-drop f b)

pub lowered-parts : (pre gap mid post : List ℕ) (f t w : ℕ) → length pre + w ≡ f → length gap ≡ w → f + length mid ≡ t
    → lowered f t w (pre ++ (gap ++ (mid ++ post))) ≡ pre ++ (mid ++ drop (length mid) (gap ++ (mid ++ post)))
unfolding lowered
lowered-parts pre gap mid post f t w ef eg et =
    let b : List ℕ = pre ++ (gap ++ (mid ++ post)) in
    let q : List ℕ = pre ++ gap in
    let eb : b ≡ q ++ (mid ++ post) = sym (append_assoc pre gap (mid ++ post)) in
    let lq : length q ≡ f = omega (arith, length-append pre gap) in
    let one : take (f - w) b ≡ pre = take_at pre (gap ++ (mid ++ post)) (f - w) (omega arith) in
    let cut : take t b ≡ q ++ mid =
    ap (λ (l : List ℕ). take t l) eb
    ∙ ap (λ (n : ℕ). take n (q ++ (mid ++ post))) (let z : t ≡ length q + length mid = omega arith in z)
    ∙ take-append-add q (mid ++ post) (length mid)
    ∙ ap (λ (l : List ℕ). q ++ l) (take_at mid post (length mid) refl) in
    let two : slice f t b ≡ mid = ap (λ (l : List ℕ). drop f l) cut ∙ drop_at q mid f lq in
    let three : drop (t - w) b ≡ drop (length mid) (gap ++ (mid ++ post)) =
    ap (λ (n : ℕ). drop n b) (let z : t - w ≡ length pre + length mid = omega arith in z) ∙ drop-append-add pre (gap ++ (mid ++ post)) (length mid) in
    ap (λ (l : List ℕ). l ++ (slice f t b ++ drop (t - w) b)) one
    ∙ ap (λ (l : List ℕ). pre ++ (l ++ drop (t - w) b)) two
    ∙ ap (λ (l : List ℕ). pre ++ (mid ++ l)) three

pub lowered_none : (f w : ℕ) (b : List ℕ) → w ≤ f → b ≡ lowered f f w b
unfolding lowered
lowered_none f w b h = sym (rw (slice_empty f b) (take-append-drop (f - w) b))

-- ---- parts in the middle
slice-join : (f t u : ℕ) (l : List ℕ) → f ≤ t → t ≤ u → u ≤ length l → slice f t l ++ slice t u l ≡ slice f u l
slice-join f t u l h k m =
    ap (λ (s : List ℕ). slice f t l ++ s) (slice-take t u l k m)
    ∙ sym (drop-append-le f (take t l) (take (u - t) (drop t l)) (omega (arith, length-take-le t l (omega arith))))
    ∙ sym (ap (λ (n : ℕ). drop f (take n l)) (let z : u ≡ t + (u - t) = omega arith in z) ∙ ap (λ (s : List ℕ). drop f s) (take-add t (u - t) l))

-- ---- what a move down leaves
-- the bytes that moved, behind what stands before them
abbrev moved : ℕ → ℕ → ℕ → List ℕ → List ℕ
moved f t w b = take (f - w) b ++ slice f t b

module _ (f t w : ℕ) (b : List ℕ) (g : w ≤ f) (h : f ≤ t) (k : t ≤ length b) where
  length_moved : length (moved f t w b) ≡ t - w
  length_moved = omega (arith, length-append (take (f - w) b) (slice f t b), length-take-le (f - w) b (omega arith), length-slice f t b k)

  lowered-moved : lowered f t w b ≡ moved f t w b ++ drop (t - w) b
  unfolding lowered
  lowered-moved = sym (append_assoc (take (f - w) b) (slice f t b) (drop (t - w) b))

  pub length-lowered : length (lowered f t w b) ≡ length b
  length-lowered = ap length lowered-moved ∙ omega (arith, length-append (moved f t w b) (drop (t - w) b), length_moved, length-drop (t - w) b)

  pub take-lowered : take (t - w) (lowered f t w b) ≡ take (f - w) b ++ slice f t b
  take-lowered = ap (λ (l : List ℕ). take (t - w) l) lowered-moved ∙ take_at (moved f t w b) (drop (t - w) b) (t - w) length_moved

  -- from t - w on nothing changed
  pub drop-lowered : (u : ℕ) → t ≤ u + w → drop u (lowered f t w b) ≡ drop u b
  drop-lowered u l =
      ap (λ (s : List ℕ). drop u s) lowered-moved
      ∙ ap (λ (n : ℕ). drop n (moved f t w b ++ drop (t - w) b)) (let z : u ≡ length (moved f t w b) + (u - (t - w)) = omega (arith, length_moved) in z)
      ∙ drop-append-add (moved f t w b) (drop (t - w) b) (u - (t - w))
      ∙ drop-drop (u - (t - w)) (t - w) b
      ∙ ap (λ (n : ℕ). drop n b) (let z : t - w + (u - (t - w)) ≡ u = omega arith in z)

  -- one move down after the other is one of both
  pub lowered-join : (u : ℕ) → t ≤ u → u ≤ length b → lowered t u w (lowered f t w b) ≡ lowered f u w b
  unfolding lowered
  lowered-join u l m =
      let c : List ℕ = lowered f t w b in
      let lc : length c ≡ length b = length-lowered in
      let mid : slice t u c ≡ slice t u b = slice-take t u c l (omega arith) ∙ ap (λ (s : List ℕ). take (u - t) s) (drop-lowered t (omega arith)) ∙ sym (slice-take t u b l m) in
      ap (λ (s : List ℕ). s ++ (slice t u c ++ drop (u - w) c)) take-lowered
      ∙ ap (λ (s : List ℕ). moved f t w b ++ (s ++ drop (u - w) c)) mid
      ∙ ap (λ (s : List ℕ). moved f t w b ++ (slice t u b ++ s)) (drop-lowered (u - w) (omega arith))
      ∙ append_assoc (take (f - w) b) (slice f t b) (slice t u b ++ drop (u - w) b)
      ∙ ap (λ (s : List ℕ). take (f - w) b ++ s) (sym (append_assoc (slice f t b) (slice t u b) (drop (u - w) b)) ∙ ap (λ (s : List ℕ). s ++ drop (u - w) b) (slice-join f t u b h l m))

-- a move down by nothing
pub lowered_still : (f t : ℕ) (b : List ℕ) → f ≤ t → t ≤ length b → b ≡ lowered f t 0 b
lowered_still f t b h k =
    let c : List ℕ = lowered f t 0 b in
    let front : take t c ≡ take t b =
    ap (λ (n : ℕ). take n c) (let z : t ≡ t - 0 = omega arith in z)
    ∙ take-lowered f t 0 b (omega arith) h k
    ∙ ap (λ (n : ℕ). take n b ++ slice f t b) (let z : f - 0 ≡ f = omega arith in z)
    ∙ ap (λ (l : List ℕ). take f b ++ l) (slice-take f t b h k)
    ∙ sym (ap (λ (n : ℕ). take n b) (let z : t ≡ f + (t - f) = omega arith in z) ∙ take-add f (t - f) b) in
    sym (take-append-drop t b)
    ∙ ap (λ (l : List ℕ). l ++ drop t b) (sym front)
    ∙ ap (λ (l : List ℕ). take t c ++ l) (sym (drop-lowered f t 0 b (omega arith) h k t (omega arith)))
    ∙ take-append-drop t c
