-- A consensus state's record and those below it are neighbours in key order: behind R-h a rendering goes on with `/` or with a digit, which
-- comes after `/`.
-- Assumes nothing.
use Prim.Native.Nat.{Ordering}
use Rattle.std.specs.Prelude.{ℕ, zero, suc, ◌+◌, ◌≤◌, ◌<◌, ◌≡◌, refl, ◌⊎◌, Bool, false, ◌||◌, eqb, length, drop}
use Rattle.std.proofs.Math.Path.{sym, ap}
use Rattle.std.proofs.Common.{subst, ◌∙◌, inl, inr, ⊎_elim, arith, length-append, ne_eqb}
use Rattle.std.proofs.Math.Bool.{true, not}
use mathlib.Core.List.{List, [], ◌∷◌, ◌++◌, append_assoc, append-nil, tail-eq_of_cons-eq}
use Rattle.std.proofs.Math.Option.{some}
use Rattle.std.proofs.Math.Decide.{dec_lt}
use Rattle.std.proofs.Math.ListN.{get_or, get_elem?}
use Rattle.std.proofs.lemmas.List.{get_or_at}
use Rattle.std.proofs.lemmas.Bool.{not-true}
use Rattle.text.specs.Bytes.{bytes}
use Rattle.text.specs.Number.{decimal, numeral_of, digits_at, digits_from}
use Rattle.text.specs.NumberLaws.{Digit, decimal-each}
use Rattle.text.specs.Order.{cmp, Before}
use Rattle.text.specs.OrderLaws.{Tri, below, equal, above, tri, cmp_self, cmp-append, cmp-cons-eq, cmp-cons_gt, cmp-nil-cons, before_trans, before-not-same, cmp_flip, flip_gt}
use Rattle.text.specs.Part.{every, same, starts_with}
use Rattle.text.specs.PartLaws.{and_left, and_right, starts-append}
use Rattle.text.specs.PlaceLaws.{at_some, at_lt}
use Rattle.path.specs.Text.{components, cut_at, join_by}
use Rattle.path.specs.TextLaws.{without, cut-join, join-cut, every_append, every-all}
use Rattle.path.specs.Kinds.{Part, word, name, count, pair, Carried, kinds}
use Rattle.path.specs.Parents.{consensus_parent}
use Rattle.path.specs.Read.{show, shown, render, parts_of, texts_of, render_path}
use Rattle.path.specs.View.{kind_of, carried_of}
use Rattle.path.specs.Valid.{Valid}
use Rattle.path.specs.ReadLaws.{up_from}
use Rattle.path.specs.BackLaws.{rendered-cut, key-read, read-valid}
use Rattle.book_records.specs.Act.{Rec}
use Rattle.book_records.specs.Calls.{Exact, Owned}
use Rattle.book_records.specs.SplitLaws.{sorted-at}
use Rattle.book.specs.Book.{Current, Book}
use Rattle.book.specs.CheckLaws.{exact-at}
use Rattle.book_oldest.specs.PrefixLaws.{starts-own, starts-below, starts-between}
use Rattle.iteration.specs.ReadLaws.{starts_is}
use Rattle.demands.specs.Above.{Above, renders, Stands, Neighbours}
use Rattle.demands.proofs.BelowLaws.{cut-after, join-after, over, shown-over, one_of, state-only, five-same}

-- ---- the text of a pair
abbrev revision : Carried (List ℕ) → List ℕ
revision v = decimal v.a ++ (45 ∷ decimal v.b)

decimal-without : (x n : ℕ) → (Digit x → ⊥) → without x (decimal n) ≡ true
decimal-without x n h = every-all (λ b. not (eqb b x)) (decimal n) (λ i l. rw (ne_eqb (get_or (decimal n) i 0) x (λ e. h (rw e at (decimal-each n i l)))))

pair-cut : (m n : ℕ) → cut_at 45 (decimal m ++ (45 ∷ decimal n)) ≡ decimal m ∷ decimal n ∷ []
unfolding join_by
pair-cut m n = cut-join 45 (decimal m) (decimal n ∷ []) (rw (decimal-without 45 m (λ d. omega arith), decimal-without 45 n (λ d. omega arith)))

number_cut : (n : ℕ) → cut_at 45 (decimal n) ≡ decimal n ∷ []
unfolding join_by
number_cut n = cut-join 45 (decimal n) [] (rw (decimal-without 45 n (λ d. omega arith)))

-- a pair that begins with another pair goes on with a digit
number_on : (b d y : ℕ) (s : List ℕ) → decimal b ++ (y ∷ s) ≡ decimal d → Digit y
number_on b d y s e =
    let at : get_or (decimal d) (length (decimal b)) 0 ≡ y = rw (← e) (get_or_at (decimal b) y s 0 (length (decimal b)) refl) in
    let l : length (decimal b) < length (decimal d) = rw (← e) (simp length-append (omega arith)) in
    rw at at (decimal-each d (length (decimal b)) l)

pair_on : (v w : Carried (List ℕ)) (y : ℕ) (s : List ℕ) → revision v ++ (y ∷ s) ≡ revision w → Digit y
unfolding join_by
pair_on v w y s e =
    let rest = decimal v.b ++ (y ∷ s) in
    let c = cut-after 45 (decimal v.a) rest in
    let f : decimal v.a ++ (45 ∷ rest) ≡ revision w = sym (append_assoc (decimal v.a) (45 ∷ decimal v.b) (y ∷ s)) ∙ e in
    let n : c.1 ≡ [] = let g = number_cut v.a in let h = c.2 in cc in
    let g : c.0 ∷ (c.1 ++ cut_at 45 rest) ≡ decimal w.a ∷ decimal w.b ∷ [] = sym c.3 ∙ ap (cut_at 45) f ∙ pair-cut w.a w.b in
    let i : c.1 ++ cut_at 45 rest ≡ decimal w.b ∷ [] = cc in
    let k : cut_at 45 rest ≡ decimal w.b ∷ [] = ap (λ (l : List (List ℕ)). l ++ cut_at 45 rest) (sym n) ∙ i in
    number_on v.b w.b y s (sym (join-cut 45 rest) ∙ ap (join_by 45) k)

-- ---- what a rendering is that begins with a consensus state's and goes on in the same component
cut-front : (x : ℕ) (p t c : List ℕ) (cs : List (List ℕ)) → without x p ≡ true → cut_at x t ≡ c ∷ cs → cut_at x (p ++ t) ≡ (p ++ c) ∷ cs
unfolding cut_at every
cut-front x [] t c cs h e = e
cut-front x (b ∷ p) t c cs h e = rw (not-true (eqb b x) (and_left _ (without x p) h), cut-front x p t c cs (and_right (not (eqb b x)) (without x p) h) e)

snoc-same : (xs ys : List (List ℕ)) (x y : List ℕ) → xs ++ (x ∷ []) ≡ ys ++ (y ∷ []) → xs ≡ ys
snoc-same [] [] x y e = refl
snoc-same [] (b ∷ []) x y e = let z : ◌≡◌ {A = ℕ} 0 1 = cc in absurd (omega arith)
snoc-same [] (b ∷ (c ∷ ys)) x y e = let z : ◌≡◌ {A = ℕ} 0 1 = cc in absurd (omega arith)
snoc-same (a ∷ []) [] x y e = let z : ◌≡◌ {A = ℕ} 0 1 = cc in absurd (omega arith)
snoc-same (a ∷ (c ∷ xs)) [] x y e = let z : ◌≡◌ {A = ℕ} 0 1 = cc in absurd (omega arith)
snoc-same (a ∷ xs) (b ∷ ys) x y e =
    let f : a ≡ b = cc in
    let g : xs ++ (x ∷ []) ≡ ys ++ (y ∷ []) = cc in
    rw (f, snoc-same xs ys x y g)

revision-plain : (v : Carried (List ℕ)) → without 47 (revision v) ≡ true
unfolding every
revision-plain v = every_append (λ b. not (eqb b 47)) (decimal v.a) (45 ∷ decimal v.b) (decimal-without 47 v.a (λ d. omega arith)) (decimal-without 47 v.b (λ d. omega arith))

abbrev parent : Carried (List ℕ) → List ℕ
parent v = render consensus_parent v

state-text : (v : Carried (List ℕ)) → renders 5 v ≡ parent v ++ (47 ∷ revision v)
unfolding parts_of kinds show render join_by
state-text v = join-after 47 (bytes "clients") (v.first ∷ bytes "consensusStates" ∷ []) (revision v) []

state-shown : (v : Carried (List ℕ)) → shown (parts_of 5) v ≡ shown consensus_parent v ++ (revision v ∷ [])
unfolding parts_of kinds show
state-shown v = refl

-- the components of the parent are what its parts show
parent-cut : (v : Carried (List ℕ)) → Valid 5 v → components (parent v) ≡ shown consensus_parent v
unfolding join_by
parent-cut v ok =
    let c = cut-after 47 (parent v) (revision v) in
    let one : components (revision v) ≡ revision v ∷ [] = cut-join 47 (revision v) [] (rw (revision-plain v)) in
    let e : (c.0 ∷ c.1) ++ components (revision v) ≡ shown consensus_parent v ++ (revision v ∷ []) = sym c.3 ∙ ap components (sym (state-text v)) ∙ rendered-cut 5 v ok ∙ state-shown v in
    c.2 ∙ snoc-same (c.0 ∷ c.1) (shown consensus_parent v) (revision v) (revision v) (ap (λ (l : List (List ℕ)). (c.0 ∷ c.1) ++ l) (sym one) ∙ e)

-- a kind that can stand below the parent has a pair behind it
abbrev is_pair : Part → Bool
is_pair (word x) = false
is_pair (name n) = false
is_pair count = false
is_pair pair = true

is-pair : (p : Part) → is_pair p ≡ true → p ≡ pair
is-pair (word x) h = let z : ◌≡◌ {A = ℕ} 0 1 = cc in absurd (omega arith)
is-pair (name n) h = let z : ◌≡◌ {A = ℕ} 0 1 = cc in absurd (omega arith)
is-pair count h = let z : ◌≡◌ {A = ℕ} 0 1 = cc in absurd (omega arith)
is-pair pair h = refl

all_pairs : every (λ k. not (over consensus_parent (parts_of k)) || is_pair (get_or (parts_of k) 3 (word []))) (up_from 19 1) ≡ true
unfolding every parts_of kinds same numeral_of digits_at digits_from
all_pairs = refl

shown-at : (w : Carried (List ℕ)) (ps : List Part) (i : ℕ) → get_or (shown ps w) i [] ≡ show (get_or ps i (word [])) w
unfolding show
shown-at w [] i = refl
shown-at w (p ∷ ps) zero = refl
shown-at w (p ∷ ps) (suc i) = shown-at w ps i

fourth : (w : Carried (List ℕ)) (p : Part) → p ≡ pair → show p w ≡ revision w
unfolding show
fourth w p e = rw e

module _ (k : ℕ) (v w : Carried (List ℕ)) (ok : Valid 5 v) (q : Valid k w) where
  -- a rendering that begins with that of a consensus state goes on with `/` or with a digit
  goes_on : (y : ℕ) (s : List ℕ) → renders 5 v ++ (y ∷ s) ≡ renders k w → (y ≡ 47 → ⊥) → Digit y
  unfolding cut_at
  goes_on y s e other =
      let t = cut-after 47 s [] in
      let tail : cut_at 47 (y ∷ s) ≡ (y ∷ t.0) ∷ t.1 = rw (ne_eqb y 47 other, t.2) in
      let c = cut-after 47 (parent v) (revision v ++ (y ∷ s)) in
      let f : parent v ++ (47 ∷ (revision v ++ (y ∷ s))) ≡ renders k w = sym (append_assoc (parent v) (47 ∷ revision v) (y ∷ s)) ∙ ap (λ (l : List ℕ). l ++ (y ∷ s)) (sym (state-text v)) ∙ e in
      let g : shown (parts_of k) w ≡ shown consensus_parent v ++ ((revision v ++ (y ∷ t.0)) ∷ t.1) =
      sym (rendered-cut k w q) ∙ ap components (sym f) ∙ c.3
      ∙ ap (λ (l : List (List ℕ)). c.0 ∷ (c.1 ++ l)) (cut-front 47 (revision v) (y ∷ s) (y ∷ t.0) t.1 (revision-plain v) tail)
      ∙ ap (λ (l : List (List ℕ)). l ++ ((revision v ++ (y ∷ t.0)) ∷ t.1)) (sym c.2 ∙ parent-cut v ok) in
      let o : over consensus_parent (parts_of k) ≡ true = shown-over v w ok.a q.a consensus_parent (parts_of k) (revision v ++ (y ∷ t.0)) t.1 g in
      let r : is_pair (get_or (parts_of k) 3 (word [])) ≡ true = rw o at (one_of (λ n. not (over consensus_parent (parts_of n)) || is_pair (get_or (parts_of n) 3 (word []))) k q.least q.most all_pairs) in
      let h : revision v ++ (y ∷ t.0) ≡ revision w = sym (ap (λ (l : List (List ℕ)). get_or l 3 []) g ∙ refl) ∙ shown-at w (parts_of k) 3 ∙ fourth w (get_or (parts_of k) 3 (word [])) (is-pair _ r) in
      pair_on v w y t.0 h

-- ---- in key order
-- what stands above another text begins it
above-begins : (t u : List ℕ) → Above t u → starts_with t u ≡ true
above-begins t u h = and_left (starts_with t u) _ (sym (starts-append t (bytes "/") u) ∙ h)

-- texts that begin with one text compare by what follows it
after_same : (t a b : List ℕ) → cmp (t ++ a) (t ++ b) ≡ cmp a b
after_same t a b = cmp-append t t a b refl ∙ rw (cmp_self t)

-- what comes between two texts that begin with one text begins with it too
pub starts-together : (w a b c : List ℕ) → Before a b → Before b c → starts_with w a ≡ true → starts_with w c ≡ true → starts_with w b ≡ true
starts-together w a b c lo hi h k =
    starts-between w b c
    (λ g. let o : cmp a w ≡ Ordering.lt = before_trans a b w lo (flip_gt w b g) in let f = starts-below w a (cmp_flip a w ∙ rw o) in let z : ◌≡◌ {A = ℕ} 0 1 = cc in omega arith)
    hi k

-- what comes between a text and one below it lies below it too, where it goes on behind that text with `/` or a byte after that
module _ (t z u : List ℕ) (lo : Before t z) (hi : Before z u) (h : Above t u) (on : (y : ℕ) (s : List ℕ) → t ++ (y ∷ s) ≡ z → (y ≡ 47 → ⊥) → 47 < y) where
  begins : starts_with t z ≡ true
  begins = starts-between t z u (λ g. let c : ◌≡◌ {A = ℕ} 0 1 = cc in omega arith) hi (above-begins t u h)

  under : t ++ (47 ∷ drop (length (t ++ bytes "/")) u) ≡ u
  under = sym (append_assoc t (bytes "/") (drop (length (t ++ bytes "/")) u)) ∙ starts_is (t ++ bytes "/") u h

  by_byte : (y : ℕ) (s : List ℕ) → t ++ (y ∷ s) ≡ z → Tri y 47 → Above t z
  by_byte y s e (below l) = absurd (let n : ⊥ = omega (arith, on y s e (λ f. omega arith)) in n)
  by_byte y s e (equal f) = subst (Above t) (append_assoc t (bytes "/") s ∙ ap (λ (b : ℕ). t ++ (b ∷ s)) (sym f) ∙ e) (starts-own (t ++ bytes "/") s)
  by_byte y s e (above l) =
      let rest = drop (length (t ++ bytes "/")) u in
      let g : cmp z u ≡ Ordering.gt = ap (λ (m : List ℕ). cmp m u) (sym e) ∙ ap (cmp (t ++ (y ∷ s))) (sym under) ∙ after_same t (y ∷ s) (47 ∷ rest) ∙ cmp-cons_gt y 47 s rest l in
      let c : ◌≡◌ {A = ℕ} 0 1 = cc in
      absurd (omega arith)

  by-rest : (s : List ℕ) → t ++ s ≡ z → Above t z
  by-rest [] e = absurd (before-not-same t z lo (sym (append-nil t) ∙ e))
  by-rest (y ∷ s) e = by_byte y s e (tri y 47)

  between-texts : Above t z
  between-texts = by-rest (drop (length t) z) (starts_is t z begins)

-- so it is with a consensus state and every rendering
pub between : (k : ℕ) (v w : Carried (List ℕ)) → Valid 5 v → Valid k w → (u : List ℕ) → Before (renders 5 v) (renders k w) → Before (renders k w) u → Above (renders 5 v) u → Above (renders 5 v) (renders k w)
between k v w ok q u lo hi h = between-texts (renders 5 v) (renders k w) u lo hi h (λ y s e other. let d = goes_on k v w ok q y s e other in omega arith)

-- ---- in a book
-- each key is the rendering of a valid path
exact-path : (z : List ℕ) → Exact z → (k : ℕ) × (w : Carried (List ℕ)) × Valid k w × (z ≡ renders k w)
unfolding render_path
exact-path z h = let r = key-read z z h in (kind_of r.0, texts_of z (carried_of r.0), read-valid z r.0 r.1 r.2, r.3)

-- what lies below a consensus state, by its text
time-text : (v : Carried (List ℕ)) → renders 6 v ≡ renders 5 v ++ bytes "/processedTime"
unfolding parts_of kinds show render join_by
time-text v = join-after 47 (bytes "clients") (v.first ∷ bytes "consensusStates" ∷ revision v ∷ []) (bytes "processedTime") []

height-text : (v : Carried (List ℕ)) → renders 7 v ≡ renders 5 v ++ bytes "/processedHeight"
unfolding parts_of kinds show render join_by
height-text v = join-after 47 (bytes "clients") (v.first ∷ bytes "consensusStates" ∷ revision v ∷ []) (bytes "processedHeight") []

same-state : (v w : Carried (List ℕ)) → v.first ≡ w.first → v.a ≡ w.a → v.b ≡ w.b → renders 5 w ≡ renders 5 v
unfolding render
same-state v w e f g = ap (join_by 47) (sym (five-same v w e f g))

below-is : (v : Carried (List ℕ)) → Valid 5 v → (z : List ℕ) → Exact z → Above (renders 5 v) z → (z ≡ renders 6 v) ⊎ (z ≡ renders 7 v)
below-is v ok z h a =
    let p = exact-path z h in
    let s = state-only p.0 v p.1 ok p.2 (subst (Above (renders 5 v)) p.3 a) in
    let e = same-state v p.1 s.client s.number s.height in
    ⊎_elim
    (λ k. inl (p.3 ∙ ap (λ (m : ℕ). renders m p.1) k ∙ time-text p.1 ∙ ap (λ (l : List ℕ). l ++ bytes "/processedTime") e ∙ sym (time-text v)))
    (λ k. inr (p.3 ∙ ap (λ (m : ℕ). renders m p.1) k ∙ height-text p.1 ∙ ap (λ (l : List ℕ). l ++ bytes "/processedHeight") e ∙ sym (height-text v)))
    s.time_or_height

-- their order
before-own : (t : List ℕ) (y : ℕ) (s : List ℕ) → Before t (t ++ (y ∷ s))
before-own t y s = ap (λ (l : List ℕ). cmp l (t ++ (y ∷ s))) (sym (append-nil t)) ∙ after_same t [] (y ∷ s) ∙ cmp-nil-cons y s

height-first : (v : Carried (List ℕ)) → Before (renders 7 v) (renders 6 v)
unfolding cmp
height-first v = rw (time-text v, height-text v) (after_same (renders 5 v) (bytes "/processedHeight") (bytes "/processedTime"))

no_round : (a b : List ℕ) → Before a b → Before b a → ⊥
no_round a b h k = before-not-same a a (before_trans a b a h k) refl

-- ---- the records of one owner
module _ (b : List ℕ) (x : Book Current b) (o : ℕ) where
  abbrev At : ℕ → List ℕ → Type 0
  At j k = Stands x.records o j k

  -- their texts are exact
  text-exact : (j : ℕ) (k : List ℕ) → At j k → Exact k
  text-exact j k st = let h : Owned (o ∷ k) = rw st.2 at (exact-at Current x.records j st.0 x.exact st.1) in h.1

  -- they stand in the order of their texts
  pub in_order : (i j : ℕ) (h k : List ℕ) → At i h → At j k → i < j → Before h k
  in_order i j h k r s l =
      let f : Before (o ∷ h) (o ∷ k) = rw (r.2, s.2) at (sorted-at x.records i j r.0 s.0 x.sorted l r.1 s.1) in
      sym (cmp-cons-eq o o h k refl) ∙ f

  -- and together
  pub own-between : (i m j : ℕ) (h k : List ℕ) (s : Rec) → At i h → At j k → get_elem? x.records m ≡ some s → i < m → m < j → (z : List ℕ) × At m z
  own-between i m j h k s r q e lo hi =
      let f : Before (o ∷ h) s.0 = rw r.2 at (sorted-at x.records i m r.0 s x.sorted lo r.1 e) in
      let g : Before s.0 (o ∷ k) = rw q.2 at (sorted-at x.records m j s q.0 x.sorted hi e q.1) in
      let w = starts-together (o ∷ []) (o ∷ h) s.0 (o ∷ k) f g (starts-own (o ∷ []) h) (starts-own (o ∷ []) k) in
      (drop 1 s.0, (s, e, sym (starts_is (o ∷ []) s.0 w)))

module _ (b : List ℕ) (x : Book Current b) (o : ℕ) (v : Carried (List ℕ)) (ok : Valid 5 v) (i : ℕ) (here : Stands x.records o i (renders 5 v)) where
  abbrev There : ℕ → List ℕ → Type 0
  There j k = Stands x.records o j k

  -- whatever stands between the state and a record of its owner below it is that owner's, and lies below it too
  pub together : (m j : ℕ) (s : Rec) (k : List ℕ) → get_elem? x.records m ≡ some s → There j k → i < m → m < j → Above (renders 5 v) k → (z : List ℕ) × There m z × Above (renders 5 v) z
  together m j s k em st lo hi h =
      let z = own-between b x o i m j (renders 5 v) k s here st em lo hi in
      let p = exact-path z.0 (text-exact b x o m z.0 z.1) in
      let f = subst (Before (renders 5 v)) p.3 (in_order b x o i m (renders 5 v) z.0 here z.1 lo) in
      let g = subst (λ (t : List ℕ). Before t k) p.3 (in_order b x o m j z.0 k z.1 st hi) in
      (z.0, z.1, subst (Above (renders 5 v)) (sym p.3) (between p.0 v p.1 ok p.2 k f g h))

  -- a record of its owner whose text comes after the state's stands after it
  after : (j : ℕ) (k : List ℕ) → There j k → Before (renders 5 v) k → i < j
  after j k st h = go (tri i j)
    where
      go : Tri i j → i < j
      go (below l) = l
      go (equal e) =
          let f : here.0 ≡ st.0 = let g = ap (get_elem? x.records) e in let p = here.1 in let q = st.1 in cc in
          let t : renders 5 v ≡ k = tail-eq_of_cons-eq (sym here.2 ∙ ap (λ (y : Rec). y.0) f ∙ st.2) in
          absurd (before-not-same (renders 5 v) k h t)
      go (above l) = absurd (no_round (renders 5 v) k h (in_order b x o j i k (renders 5 v) st here l))

  above-after : (k : List ℕ) → (k ≡ renders 6 v) ⊎ (k ≡ renders 7 v) → Before (renders 5 v) k × Above (renders 5 v) k
  above-after k c = ⊎_elim (λ e. own (bytes "processedTime") (e ∙ time-text v)) (λ e. own (bytes "processedHeight") (e ∙ height-text v)) c
    where
      own : (y : List ℕ) → k ≡ renders 5 v ++ (47 ∷ y) → Before (renders 5 v) k × Above (renders 5 v) k
      own y e = (
        subst (Before (renders 5 v)) (sym e) (before-own (renders 5 v) 47 y),
        subst (Above (renders 5 v)) (append_assoc (renders 5 v) (bytes "/") y ∙ sym e) (starts-own (renders 5 v ++ bytes "/") y),
      )

  -- the record at a place between the state and one below it: its text, which comes before that one's
  one-between : (m j : ℕ) (k : List ℕ) → There j k → Above (renders 5 v) k → i < m → m < j → (z : List ℕ) × There m z × ((z ≡ renders 6 v) ⊎ (z ≡ renders 7 v)) × Before z k
  one-between m j k st h lo hi =
      let y = at_some x.records m (omega (arith, at_lt x.records j st.0 st.1)) in
      let z = together m j y.0 k y.1 st lo hi h in
      (z.0, z.1, below-is v ok z.0 (text-exact b x o m z.0 z.1) z.2, in_order b x o m j z.0 k z.1 st hi)

  behind : (j : ℕ) (k : List ℕ) → There j k → (k ≡ renders 6 v) ⊎ (k ≡ renders 7 v) → i < j
  behind j k st c = after j k st (above-after k c).0

  -- before the processed height stands none of the two, and before the processed time the processed height at most
  none_first : (z : List ℕ) → (z ≡ renders 6 v) ⊎ (z ≡ renders 7 v) → Before z (renders 7 v) → ⊥
  none_first z c h = ⊎_elim (λ e. no_round (renders 7 v) (renders 6 v) (height-first v) (subst (λ (l : List ℕ). Before l (renders 7 v)) e h)) (λ e. before-not-same z (renders 7 v) h e) c

  height-only : (z : List ℕ) → (z ≡ renders 6 v) ⊎ (z ≡ renders 7 v) → Before z (renders 6 v) → z ≡ renders 7 v
  height-only z c h = ⊎_elim (λ e. absurd (before-not-same z (renders 6 v) h e)) (λ e. e) c

  height-at : (j : ℕ) → There j (renders 7 v) → j ≡ i + 1
  height-at j st = go (dec_lt (i + 1) j)
    where
      go : Dec (i + 1 < j) → j ≡ i + 1
      go (no l) = omega (arith, behind j (renders 7 v) st (inr refl))
      go (yes l) = let t = one-between (i + 1) j (renders 7 v) st (above-after (renders 7 v) (inr refl)).1 (omega arith) l in absurd (none_first t.0 t.2 t.3)

  time-at : (j : ℕ) → There j (renders 6 v) → (j ≡ i + 1) ⊎ ((j ≡ i + 2) × There (i + 1) (renders 7 v))
  time-at j st = go (dec_lt (i + 1) j) (dec_lt (i + 2) j)
    where
      between-at : (m : ℕ) → i < m → m < j → There m (renders 7 v)
      between-at m lo hi = let t = one-between m j (renders 6 v) st (above-after (renders 6 v) (inl refl)).1 lo hi in subst (There m) (height-only t.0 t.2 t.3) t.1

      go : Dec (i + 1 < j) → Dec (i + 2 < j) → (j ≡ i + 1) ⊎ ((j ≡ i + 2) × There (i + 1) (renders 7 v))
      go (no l) m = inl (omega (arith, behind j (renders 6 v) st (inl refl)))
      go (yes l) (no m) = inr (omega arith, between-at (i + 1) (omega arith) l)
      go (yes l) (yes m) = absurd (let n : ⊥ = omega (arith, height-at (i + 2) (between-at (i + 2) (omega arith) m)) in n)

  no_other : (j : ℕ) (k : List ℕ) → There j k → Above (renders 5 v) k → (i < j) × (j ≤ i + 2)
  no_other j k st h = ⊎_elim
      (λ e. ⊎_elim (λ f. (omega arith, omega arith)) (λ f. (omega (arith, f.0), omega (arith, f.0))) (time-at j (subst (There j) e st)))
      (λ e. let f = height-at j (subst (There j) e st) in (omega arith, omega arith))
      (below-is v ok k (text-exact b x o j k st) h)

  pub neighbours : Neighbours x.records o i v
  neighbours = record { height_next = height-at; time_next = time-at; no_other = no_other }
