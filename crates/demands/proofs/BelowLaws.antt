-- What request L12 rests on: a text stands above another exactly where its components begin the other's, and the table of kinds tells which
-- kinds' components can.
-- Assumes nothing.
use Rattle.std.specs.Prelude.{ℕ, zero, suc, ◌+◌, ◌-◌, ◌/◌, ◌≤◌, ◌<◌, ◌^◌, ◌≡◌, ◌⊎◌, ◌↔◌, Bool, cond, not, ◌&&◌, ◌||◌, eqb, leb, length, get_or, drop}
use Rattle.std.proofs.Math.Path.{refl, sym, ap}
use Rattle.std.proofs.Common.{subst, ◌∙◌, inl, inr, arith, length-append, eq-eqb, eqb-true, leb-true}
use Rattle.std.proofs.Math.Logic.{⊎_elim}
use Rattle.std.proofs.Math.Bool.{true, false}
use mathlib.Core.List.{List, [], ◌∷◌, ◌++◌, append_assoc}
use Rattle.std.proofs.Math.Decide.{dec_lt}
use Rattle.text.specs.Bytes.{bytes}
use Rattle.text.specs.Number.{numeral_of, digits_at, digits_from, decimal}
use Rattle.text.specs.NumberLaws.{Digit, width_small, width-more, width_pos, length-decimal, length-decimal-some, length-decimal_u64, decimal-each, read-decimal}
use Rattle.text.specs.Part.{every, same, starts_with}
use Rattle.text.specs.PartLaws.{and_left, and_right, every-at, every_append, same_refl, starts-short}
use Rattle.identifiers.specs.Check.{identifier_byte, check_of, connection, port, channel}
use Rattle.identifiers.specs.CheckLaws.{first-zero, first-none, named_other, accepted-bytes, accepted-length, accepted-form, accepted-by}
use Rattle.identifiers.specs.OwnedLaws.{new-channel-accepted}
use Rattle.path.specs.Text.{components, cut_at, cut_step, join_by}
use Rattle.path.specs.TextLaws.{join-cut}
use Rattle.path.specs.Kinds.{Part, word, name, count, pair, Carried, carried, kinds}
use Rattle.path.specs.declared.name.Name.TheVariants.{Connection, Port}
use Rattle.path.specs.Read.{name_fault, is_number, show, shown, render, parts_of, names_fault}
use Rattle.path.specs.Valid.{Valid, only}
use Rattle.path.specs.ReadLaws.{up_from, up_at}
use Rattle.path.specs.BackLaws.{rendered-cut, render-one}
use Rattle.path.specs.LengthLaws.{longest}
use Rattle.iteration.specs.ReadLaws.{starts_is}
use Rattle.book_oldest.specs.PrefixLaws.{starts-own}
use Rattle.demands.specs.Above.{Above, renders, Upgrade, ItsTimeOrHeight, CounterWord, AboveUpgrade, a_counter, a_port, SomeAbove}

-- ---- the cut of a text
module _ (x : ℕ) where
  -- what stands behind a separator is cut as if it stood alone
  pub cut-after : (a t : List ℕ) → (c : List ℕ) × (cs : List (List ℕ)) × (cut_at x a ≡ c ∷ cs) × (cut_at x (a ++ (x ∷ t)) ≡ c ∷ (cs ++ cut_at x t))
  unfolding cut_at
  cut-after [] t = ([], [], refl, rw (eq-eqb x x refl))
  cut-after (b ∷ a) t = go (cut-after a t) (eqb b x)
    where
      go : (c : List ℕ) × (cs : List (List ℕ)) × (cut_at x a ≡ c ∷ cs) × (cut_at x (a ++ (x ∷ t)) ≡ c ∷ (cs ++ cut_at x t)) → (v : Bool)
          → (c : List ℕ) × (cs : List (List ℕ)) × (cut_step v b (cut_at x a) ≡ c ∷ cs) × (cut_step v b (cut_at x (a ++ (x ∷ t))) ≡ c ∷ (cs ++ cut_at x t))
      go h true = ([], h.0 ∷ h.1, rw h.2, rw h.3)
      go h false = (b ∷ h.0, h.1, rw h.2, rw h.3)

  pub join-after : (c : List ℕ) (cs : List (List ℕ)) (d : List ℕ) (ds : List (List ℕ)) → join_by x (c ∷ (cs ++ (d ∷ ds))) ≡ join_by x (c ∷ cs) ++ (x ∷ join_by x (d ∷ ds))
  unfolding join_by
  join-after c [] d ds = refl
  join-after c (e ∷ cs) d ds = rw (join-after e cs d ds) (sym (append_assoc c (x ∷ join_by x (e ∷ cs)) (x ∷ join_by x (d ∷ ds))))

-- a text stands above another exactly where the other has its components and then one more at least
module _ (t u : List ℕ) where
  above-cut : Above t u → (d : List ℕ) × (ds : List (List ℕ)) × (components u ≡ components t ++ (d ∷ ds))
  above-cut h =
      let r = drop (length (t ++ bytes "/")) u in
      let e : t ++ (47 ∷ r) ≡ u = sym (append_assoc t (bytes "/") r) ∙ starts_is (t ++ bytes "/") u h in
      let c = cut-after 47 t r in
      let s = cut-after 47 r [] in
      (s.0, s.1, ap components (sym e) ∙ c.3 ∙ rw (c.2, s.2))

  cut-above : (d : List ℕ) (ds : List (List ℕ)) → components u ≡ components t ++ (d ∷ ds) → Above t u
  cut-above d ds h =
      let c = cut-after 47 t [] in
      let e : u ≡ t ++ (47 ∷ join_by 47 (d ∷ ds)) =
      sym (join-cut 47 u) ∙ ap (join_by 47) h ∙ ap (λ (l : List (List ℕ)). join_by 47 (l ++ (d ∷ ds))) c.2 ∙ join-after 47 c.0 c.1 d ds
      ∙ ap (λ (l : List (List ℕ)). join_by 47 l ++ (47 ∷ join_by 47 (d ∷ ds))) (sym c.2) ∙ ap (λ (l : List ℕ). l ++ (47 ∷ join_by 47 (d ∷ ds))) (join-cut 47 t) in
      subst (Above t) (append_assoc t (bytes "/") (join_by 47 (d ∷ ds)) ∙ sym e) (starts-own (t ++ bytes "/") (join_by 47 (d ∷ ds)))

-- of two renderings: the parts of the second show what those of the first show, and then one text more at least
module _ (j k : ℕ) (v w : Carried (List ℕ)) (p : Valid j v) (q : Valid k w) where
  above-shown : Above (renders j v) (renders k w) → (d : List ℕ) × (ds : List (List ℕ)) × (shown (parts_of k) w ≡ shown (parts_of j) v ++ (d ∷ ds))
  above-shown h =
      let c = above-cut (renders j v) (renders k w) h in
      (c.0, c.1, sym (rendered-cut k w q) ∙ c.2 ∙ ap (λ (l : List (List ℕ)). l ++ (c.0 ∷ c.1)) (rendered-cut j v p))

  shown-above : (d : List ℕ) (ds : List (List ℕ)) → shown (parts_of k) w ≡ shown (parts_of j) v ++ (d ∷ ds) → Above (renders j v) (renders k w)
  shown-above d ds e = cut-above (renders j v) (renders k w) d ds (rendered-cut k w q ∙ e ∙ ap (λ (l : List (List ℕ)). l ++ (d ∷ ds)) (sym (rendered-cut j v p)))

-- ---- the table of kinds
-- whether one text can be both parts, as far as words tell: two words are one, and a word at a number's place is a number text
abbrev meets_word : List ℕ → Part → Bool
meets_word x (word y) = same x y
meets_word x (name n) = true
meets_word x count = is_number x
meets_word x pair = true

abbrev meets_count : Part → Bool
meets_count (word y) = is_number y
meets_count (name n) = true
meets_count count = true
meets_count pair = true

abbrev meets : Part → Part → Bool
meets (word x) q = meets_word x q
meets (name n) q = true
meets count q = meets_count q
meets pair q = true

-- whether parts can stand above others: they are fewer, and each can meet the other at its place
abbrev pub over : List Part → List Part → Bool
over [] [] = false
over [] (q ∷ qs) = true
over (p ∷ ps) [] = false
over (p ∷ ps) (q ∷ qs) = meets p q && over ps qs

module _ (v w : Carried (List ℕ)) (a : v.a < 2 ^ 64) (b : w.a < 2 ^ 64) where
  shown-meets : (p q : Part) → show q w ≡ show p v → meets p q ≡ true
  unfolding show
  shown-meets (word x) (word y) e = rw e (same_refl x)
  shown-meets (word x) (name n) e = refl
  shown-meets (word x) count e = rw (← e, read-decimal w.a b)
  shown-meets (word x) pair e = refl
  shown-meets (name n) q e = refl
  shown-meets count (word y) e = rw (e, read-decimal v.a a)
  shown-meets count (name n) e = refl
  shown-meets count count e = refl
  shown-meets count pair e = refl
  shown-meets pair q e = refl

  pub shown-over : (ps qs : List Part) (d : List ℕ) (ds : List (List ℕ)) → shown qs w ≡ shown ps v ++ (d ∷ ds) → over ps qs ≡ true
  shown-over [] [] d ds e = let z : ◌≡◌ {A = ℕ} 0 1 = cc in absurd (omega arith)
  shown-over [] (q ∷ qs) d ds e = refl
  shown-over (p ∷ ps) [] d ds e = let z : ◌≡◌ {A = ℕ} 0 1 = cc in absurd (omega arith)
  shown-over (p ∷ ps) (q ∷ qs) d ds e =
      let f : show q w ≡ show p v = cc in
      let g : shown qs w ≡ shown ps v ++ (d ∷ ds) = cc in
      rw (shown-meets p q f) (shown-over ps qs d ds g)

-- the pairs of kinds that are left to look at, of all
abbrev left : ℕ → ℕ → Bool
left j k = (eqb j 5 && (eqb k 6 || eqb k 7)) || (leb 18 k && (leb j 3 || (eqb j 9 || eqb j 10)))

all_left : every (λ k. every (λ j. cond (over (parts_of j) (parts_of k)) (left j k) (not (left j k))) (up_from 19 1)) (up_from 19 1) ≡ true
unfolding every parts_of kinds same numeral_of digits_at digits_from
all_left = refl

or_cases : (a b : Bool) → (a || b) ≡ true → (a ≡ true) ⊎ (b ≡ true)
or_cases true b h = inl refl
or_cases false b h = inr h

-- a test of the nineteen numbers holds of each
pub one_of : (f : ℕ → Bool) (k : ℕ) → 1 ≤ k → k ≤ 19 → every f (up_from 19 1) ≡ true → f k ≡ true
one_of f k l m h =
    let e : get_or (up_from 19 1) (k - 1) 0 ≡ k = omega (arith, up_at 19 1 (k - 1) (omega arith)) in
    rw e at (every-at f (up_from 19 1) (k - 1) h (omega arith))

module _ (j k : ℕ) (v w : Carried (List ℕ)) (p : Valid j v) (q : Valid k w) where
  above-left : Above (renders j v) (renders k w) → left j k ≡ true
  above-left h =
      let s = above-shown j k v w p q h in
      let o : over (parts_of j) (parts_of k) ≡ true = shown-over v w p.a q.a (parts_of j) (parts_of k) s.0 s.1 s.2 in
      let row = one_of (λ n. every (λ m. cond (over (parts_of m) (parts_of n)) (left m n) (not (left m n))) (up_from 19 1)) k q.least q.most all_left in
      rw o at (one_of (λ m. cond (over (parts_of m) (parts_of k)) (left m k) (not (left m k))) j p.least p.most row)

  -- below a path of kind 17 or less: a consensus state, with its processed time or height
  left-state : k ≤ 17 → left j k ≡ true → (j ≡ 5) × ((k ≡ 6) ⊎ (k ≡ 7))
  left-state low h = ⊎_elim
      (λ e. (eqb-true j 5 (and_left (eqb j 5) _ e), ⊎_elim (λ f. inl (eqb-true k 6 f)) (λ f. inr (eqb-true k 7 f)) (or_cases (eqb k 6) (eqb k 7) (and_right (eqb j 5) _ e))))
      (λ e. absurd (let z : ⊥ = omega (arith, leb-true 18 k (and_left (leb 18 k) _ e)) in z))
      (or_cases (eqb j 5 && (eqb k 6 || eqb k 7)) _ h)

  -- below an upgrade path: one of five kinds
  left-upgrade : 18 ≤ k → left j k ≡ true → (j ≤ 3) ⊎ ((j ≡ 9) ⊎ (j ≡ 10))
  left-upgrade high h = ⊎_elim
      (λ e. absurd (⊎_elim
      (λ f. let z : ⊥ = omega (arith, eqb-true k 6 f) in z)
      (λ f. let z : ⊥ = omega (arith, eqb-true k 7 f) in z)
      (or_cases (eqb k 6) (eqb k 7) (and_right (eqb j 5) _ e))))
      (λ e. ⊎_elim (λ f. inl (leb-true j 3 f)) (λ f. inr (⊎_elim (λ g. inl (eqb-true j 9 g)) (λ g. inr (eqb-true j 10 g)) (or_cases (eqb j 9) (eqb j 10) f)))
      (or_cases (leb j 3) (eqb j 9 || eqb j 10) (and_right (leb 18 k) _ e)))
      (or_cases (eqb j 5 && (eqb k 6 || eqb k 7)) _ h)

-- ---- a consensus state
-- its processed time and its processed height show what it shows, and then a word
module _ (k : ℕ) (w : Carried (List ℕ)) (is : (k ≡ 6) ⊎ (k ≡ 7)) where
  state-word : (x : List ℕ) × (shown (parts_of k) w ≡ shown (parts_of 5) w ++ (x ∷ [])) × (names_fault (parts_of k) w ≡ names_fault (parts_of 5) w)
  unfolding parts_of kinds show names_fault
  state-word = ⊎_elim (λ e. (bytes "processedTime", rw e refl, rw e refl)) (λ e. (bytes "processedHeight", rw e refl, rw e refl)) is

  state-valid : Valid k w → Valid 5 w
  state-valid q =
      let n : names_fault (parts_of 5) w ≡ 0 = sym state-word.2 ∙ q.names in
      record {
        least = omega arith;
        most = omega arith;
        names = n;
        a = q.a;
        b = q.b;
        size = omega (arith, longest 5 w (omega arith) (omega arith) q.a q.b n);
      }

-- what a consensus state shows tells its client and its pair
shown-five : (v w : Carried (List ℕ)) (x d : List ℕ) (ds : List (List ℕ)) → shown (parts_of 5) w ++ (x ∷ []) ≡ shown (parts_of 5) v ++ (d ∷ ds) → shown (parts_of 5) v ≡ shown (parts_of 5) w
unfolding parts_of kinds show
shown-five v w x d ds e = cc

same-five : (v w : Carried (List ℕ)) → only (parts_of 5) v ≡ only (parts_of 5) w → (v.first ≡ w.first) × (v.a ≡ w.a) × (v.b ≡ w.b)
unfolding parts_of kinds
same-five v w e = (ap (λ (c : Carried (List ℕ)). c.first) e, ap (λ (c : Carried (List ℕ)). c.a) e, ap (λ (c : Carried (List ℕ)). c.b) e)

pub five-same : (v w : Carried (List ℕ)) → v.first ≡ w.first → v.a ≡ w.a → v.b ≡ w.b → shown (parts_of 5) v ≡ shown (parts_of 5) w
unfolding parts_of kinds show
five-same v w e f g = rw (e, f, g)

an-upgrade : (k : ℕ) → 17 < k → k ≤ 19 → Upgrade k
an-upgrade k l m = go (dec_lt 18 k)
  where
    go : Dec (18 < k) → Upgrade k
    go (no n) = inl (omega arith)
    go (yes n) = inr (omega arith)

module _ (j k : ℕ) (v w : Carried (List ℕ)) (p : Valid j v) (q : Valid k w) where
  state-below : j ≡ 5 → (k ≡ 6) ⊎ (k ≡ 7) → Above (renders j v) (renders k w) → ItsTimeOrHeight j v k w
  unfolding render
  state-below five is h =
      let s = above-shown j k v w p q h in
      let x = state-word k w is in
      let e : shown (parts_of 5) w ++ (x.0 ∷ []) ≡ shown (parts_of 5) v ++ (s.0 ∷ s.1) = sym x.1 ∙ s.2 ∙ ap (λ (m : ℕ). shown (parts_of m) v ++ (s.0 ∷ s.1)) five in
      let r = render-one 5 5 v w (subst (λ (m : ℕ). Valid m v) five p) (state-valid k w is q) (ap (join_by 47) (shown-five v w x.0 s.0 s.1 e)) in
      let c = same-five v w r.1 in
      record { state = five; time_or_height = is; client = c.0; number = c.1; height = c.2 }

  below-state : ItsTimeOrHeight j v k w → Above (renders j v) (renders k w)
  below-state s =
      let x = state-word k w s.time_or_height in
      let e : shown (parts_of 5) w ≡ shown (parts_of j) v = sym (five-same v w s.client s.number s.height) ∙ ap (λ (m : ℕ). shown (parts_of m) v) (sym s.state) in
      shown-above j k v w p q x.0 [] (x.1 ∙ ap (λ (l : List (List ℕ)). l ++ (x.0 ∷ [])) e)

  above-longer : Above (renders j v) (renders k w) → length (renders j v) < length (renders k w)
  above-longer h = go (dec_lt (length (renders k w)) (length (renders j v ++ bytes "/")))
    where
      go : Dec (length (renders k w) < length (renders j v ++ bytes "/")) → length (renders j v) < length (renders k w)
      go (yes l) = let n = starts-short (renders j v ++ bytes "/") (renders k w) l in let z : ◌≡◌ {A = ℕ} 0 1 = cc in absurd (omega arith)
      go (no l) = omega (arith, length-append (renders j v) (bytes "/"))

  no-upgrade : (Upgrade k → ⊥) → k ≤ 17
  no-upgrade n = go (dec_lt 17 k)
    where
      go : Dec (17 < k) → k ≤ 17
      go (no l) = omega arith
      go (yes l) = absurd (n (an-upgrade k l q.most))

  -- the longer is no upgrade path
  pub lies_below : (length (renders j v) < length (renders k w) → Upgrade k → ⊥) → Above (renders j v) (renders k w) ↔ ItsTimeOrHeight j v k w
  lies_below longer = (
    λ h. let t = left-state j k v w p q (no-upgrade (longer (above-longer h))) (above-left j k v w p q h) in state-below t.0 t.1 h,
    below-state,
  )

-- ---- an upgrade path
module _ (k : ℕ) (w : Carried (List ℕ)) (is : Upgrade k) where
  upgrade-shown : (x : List ℕ) × (shown (parts_of k) w ≡ w.first ∷ decimal w.a ∷ x ∷ [])
  unfolding parts_of kinds show
  upgrade-shown = ⊎_elim (λ e. (bytes "upgradedClient", rw e refl)) (λ e. (bytes "upgradedConsState", rw e refl)) is

  upgrade-high : 18 ≤ k
  upgrade-high = ⊎_elim (λ e. omega arith) (λ e. omega arith) is

-- each kind from 1 to 3 is one word
counter-word : (v : Carried (List ℕ)) (U : List ℕ) (us ds : List (List ℕ)) (j : ℕ) → 1 ≤ j → j ≤ 3 → U ∷ us ≡ shown (parts_of j) v ++ ds → CounterWord j U
unfolding parts_of kinds show
counter-word v U us ds zero l m e = absurd (omega arith)
counter-word v U us ds (suc zero) l m e = inl (refl, cc)
counter-word v U us ds (suc (suc zero)) l m e = inr (inl (refl, cc))
counter-word v U us ds (suc (suc (suc zero))) l m e = inr (inr (refl, cc))
counter-word v U us ds (suc (suc (suc (suc j)))) l m e = absurd (omega arith)

word-counter : (v : Carried (List ℕ)) (U : List ℕ) (j : ℕ) → CounterWord j U → shown (parts_of j) v ≡ U ∷ []
unfolding parts_of kinds show
word-counter v U j is = ⊎_elim (λ e. rw (e.0, e.1) refl) (⊎_elim (λ e. rw (e.0, e.1) refl) (λ e. rw (e.0, e.1) refl)) is

counter-valid : (U : List ℕ) (j : ℕ) → CounterWord j U → Valid j (carried [] [] 0 0)
unfolding parts_of kinds names_fault
counter-valid U j is = ⊎_elim (λ e. rw e.0 (of 1 (omega arith) (omega arith) refl)) (⊎_elim (λ e. rw e.0 (of 2 (omega arith) (omega arith) refl)) (λ e. rw e.0 (of 3 (omega arith) (omega arith) refl))) is
  where
    of : (i : ℕ) → 1 ≤ i → i ≤ 3 → names_fault (parts_of i) (carried [] [] 0 0) ≡ 0 → Valid i (carried [] [] 0 0)
    of i l m n = record { least = l; most = omega arith; names = n; a = omega arith; b = omega arith; size = omega (arith, longest i (carried [] [] 0 0) l (omega arith) (omega arith) (omega arith) n) }

two-shown : (v : Carried (List ℕ)) → (shown (parts_of 9) v ≡ bytes "connections" ∷ v.first ∷ []) × (shown (parts_of 10) v ≡ bytes "ports" ∷ v.first ∷ [])
unfolding parts_of kinds show
two-shown v = (refl, refl)

-- what a connection and a port of a path are checked as
checked_as : (c : List ℕ) → (name_fault Connection c ≡ check_of connection c) × (name_fault Port c ≡ check_of port c)
unfolding name_fault
checked_as c = (refl, refl)

connection-checked : (v : Carried (List ℕ)) → Valid 9 v → check_of connection v.first ≡ 0
unfolding parts_of kinds names_fault
connection-checked v p = sym (checked_as v.first).0 ∙ (first-zero (name_fault Connection v.first) 0 p.names).0

port-checked : (v : Carried (List ℕ)) → Valid 10 v → check_of port v.first ≡ 0
unfolding parts_of kinds names_fault
port-checked v p = sym (checked_as v.first).1 ∙ (first-zero (name_fault Port v.first) 0 p.names).0

port-accepted : (c : List ℕ) → check_of port c ≡ 0 → names_fault (parts_of 10) (carried c [] 0 0) ≡ 0
unfolding parts_of kinds names_fault
port-accepted c h = first-none (name_fault Port c) 0 ((checked_as c).1 ∙ h)

-- a connection is no number text: it begins with its name
connection-starts : (c : List ℕ) → check_of connection c ≡ 0 → starts_with (bytes "connection") c ≡ true
connection-starts c h = go (starts_with (bytes "connection") c) refl
  where
    go : (b : Bool) → starts_with (bytes "connection") c ≡ b → b ≡ true
    go true e = refl
    go false e = let f = named_other (bytes "connection") c e in let g = accepted-form connection c h in absurd (omega arith)

connection-no_number : (n : ℕ) → starts_with (bytes "connection") (decimal n) ≡ true → ⊥
unfolding starts_with
connection-no_number n h = go (decimal n) (decimal-each n 0 (length-decimal-some n)) (length-decimal-some n) h
  where
    go : (s : List ℕ) → Digit (get_or s 0 0) → 1 ≤ length s → starts_with (bytes "connection") s ≡ true → ⊥
    go [] d l e = omega arith
    go (x ∷ s) d l e = omega (arith, eqb-true x 99 (and_left (eqb x 99) _ e))

-- a port that is a number text has two digits or more, and every such number is a port
decimal-long : (n : ℕ) → 2 ≤ length (decimal n) → 10 ≤ n
decimal-long n l = go (dec_lt n 10)
  where
    go : Dec (n < 10) → 10 ≤ n
    go (yes m) = absurd (let z : ⊥ = omega (arith, length-decimal n, width_small n m) in z)
    go (no m) = omega arith

long-decimal : (n : ℕ) → 10 ≤ n → 2 ≤ length (decimal n)
long-decimal n l = omega (arith, length-decimal n, width-more n l, width_pos (n / 10))

port-valid : (n : ℕ) → 10 ≤ n → n < 2 ^ 64 → Valid 10 (carried (decimal n) [] 0 0)
port-valid n l m =
    let all = accepted-bytes channel (bytes "channel-" ++ decimal n) (new-channel-accepted n m) in
    let each : every identifier_byte (decimal n) ≡ true = and_right (every identifier_byte (bytes "channel-")) _ (sym (every_append identifier_byte (bytes "channel-") (decimal n)) ∙ all) in
    let ok : check_of port (decimal n) ≡ 0 = accepted-by port (decimal n) each (long-decimal n l) (omega (arith, length-decimal_u64 n m)) refl in
    let names = port-accepted (decimal n) ok in
    record { least = omega arith; most = omega arith; names = names; a = omega arith; b = omega arith; size = omega (arith, longest 10 (carried (decimal n) [] 0 0) (omega arith) (omega arith) (omega arith) (omega arith) names) }

module _ (j k : ℕ) (v w : Carried (List ℕ)) (p : Valid j v) (q : Valid k w) (is : Upgrade k) where
  upgrade-above : Above (renders j v) (renders k w) → AboveUpgrade j v w.first w.a
  upgrade-above h = ⊎_elim counter (⊎_elim no-connection number-port) (left-upgrade j k v w p q (upgrade-high k w is) (above-left j k v w p q h))
    where
      s : (d : List ℕ) × (ds : List (List ℕ)) × (shown (parts_of k) w ≡ shown (parts_of j) v ++ (d ∷ ds))
      s = above-shown j k v w p q h

      x : (x : List ℕ) × (shown (parts_of k) w ≡ w.first ∷ decimal w.a ∷ x ∷ [])
      x = upgrade-shown k w is

      counter : j ≤ 3 → AboveUpgrade j v w.first w.a
      counter m = a_counter (counter-word v w.first (decimal w.a ∷ x.0 ∷ []) (s.0 ∷ s.1) j p.least m (sym x.1 ∙ s.2))

      two : (y : List ℕ) → shown (parts_of j) v ≡ y ∷ v.first ∷ [] → (w.first ≡ y) × (decimal w.a ≡ v.first)
      two y e =
          let f : w.first ∷ decimal w.a ∷ x.0 ∷ [] ≡ y ∷ v.first ∷ s.0 ∷ s.1 = sym x.1 ∙ s.2 ∙ ap (λ (l : List (List ℕ)). l ++ (s.0 ∷ s.1)) e in
          (cc, cc)

      no-connection : j ≡ 9 → AboveUpgrade j v w.first w.a
      no-connection e =
          let t = two (bytes "connections") (ap (λ (m : ℕ). shown (parts_of m) v) e ∙ (two-shown v).0) in
          let c = connection-starts v.first (connection-checked v (subst (λ (m : ℕ). Valid m v) e p)) in
          absurd (connection-no_number w.a (rw t.1 c))

      number-port : j ≡ 10 → AboveUpgrade j v w.first w.a
      number-port e = let t = two (bytes "ports") (ap (λ (m : ℕ). shown (parts_of m) v) e ∙ (two-shown v).1) in a_port e t.0 (sym t.1)

  above_upgrade : AboveUpgrade j v w.first w.a → Above (renders j v) (renders k w)
  above_upgrade (a_counter c) =
      let x = upgrade-shown k w is in
      shown-above j k v w p q (decimal w.a) (x.0 ∷ []) (x.1 ∙ ap (λ (l : List (List ℕ)). l ++ (decimal w.a ∷ x.0 ∷ [])) (sym (word-counter v w.first j c)))
  above_upgrade (a_port e f g) =
      let x = upgrade-shown k w is in
      let t : shown (parts_of j) v ≡ w.first ∷ decimal w.a ∷ [] = ap (λ (m : ℕ). shown (parts_of m) v) e ∙ (two-shown v).1 ∙ rw (f, g) in
      shown-above j k v w p q x.0 [] (x.1 ∙ ap (λ (l : List (List ℕ)). l ++ (x.0 ∷ [])) (sym t))

  pub upgrade-below : Above (renders j v) (renders k w) ↔ AboveUpgrade j v w.first w.a
  upgrade-below = (upgrade-above, above_upgrade)

-- of any two paths
pub above_exactly : (j k : ℕ) (v w : Carried (List ℕ)) → Valid j v → Valid k w → Above (renders j v) (renders k w) ↔ (ItsTimeOrHeight j v k w ⊎ (Upgrade k × AboveUpgrade j v w.first w.a))
above_exactly j k v w p q = (by_kind (dec_lt 17 k), ⊎_elim (below-state j k v w p q) (λ c. above_upgrade j k v w p q c.0 c.1))
  where
    by_kind : Dec (17 < k) → Above (renders j v) (renders k w) → ItsTimeOrHeight j v k w ⊎ (Upgrade k × AboveUpgrade j v w.first w.a)
    by_kind (no l) h = inl ((lies_below j k v w p q (λ o is. ⊎_elim (λ e. omega arith) (λ e. omega arith) is)).0 h)
    by_kind (yes l) h = let is = an-upgrade k l q.most in inr (is, upgrade-above j k v w p q is h)

-- below a consensus state lies nothing else, of whatever kind
pub state-only : (k : ℕ) (v w : Carried (List ℕ)) → Valid 5 v → Valid k w → Above (renders 5 v) (renders k w) → ItsTimeOrHeight 5 v k w
state-only k v w p q h = (lies_below 5 k v w p q (λ l is. no_state (upgrade-above 5 k v w p q is h))).0 h
  where
    no_state : {U : List ℕ} {n : ℕ} → AboveUpgrade 5 v U n → ⊥
    no_state (a_counter c) = ⊎_elim (λ e. let z : ⊥ = omega (arith, e.0) in z) (⊎_elim (λ e. let z : ⊥ = omega (arith, e.0) in z) (λ e. let z : ⊥ = omega (arith, e.0) in z)) c
    no_state (a_port e f g) = omega arith

-- whether anything stands above an upgrade path
module _ (k : ℕ) (w : Carried (List ℕ)) (q : Valid k w) (is : Upgrade k) where
  has_some : (j : ℕ) (v : Carried (List ℕ)) → Valid j v → AboveUpgrade j v w.first w.a → SomeAbove w.first w.a
  has_some j v p (a_counter c) = inl (j, c)
  has_some j v p (a_port e f g) =
      let l = (accepted-length port v.first (port-checked v (subst (λ (m : ℕ). Valid m v) e p))).0 in
      inr (f, decimal-long w.a (rw g at l))

  some-has : SomeAbove w.first w.a → (j : ℕ) × (v : Carried (List ℕ)) × Valid j v × Above (renders j v) (renders k w)
  some-has (inl c) =
      let p = counter-valid w.first c.0 c.1 in
      (c.0, carried [] [] 0 0, p, above_upgrade c.0 k (carried [] [] 0 0) w p q is (a_counter c.1))
  some-has (inr c) =
      let p = port-valid w.a c.1 q.a in
      (10, carried (decimal w.a) [] 0 0, p, above_upgrade 10 k (carried (decimal w.a) [] 0 0) w p q is (a_port refl c.0 refl))

  pub some_above : ((j : ℕ) × (v : Carried (List ℕ)) × Valid j v × Above (renders j v) (renders k w)) ↔ SomeAbove w.first w.a
  some_above = (λ s. has_some s.0 s.1 s.2 (upgrade-above s.0 k s.1 w s.2 q is s.3), some-has)
