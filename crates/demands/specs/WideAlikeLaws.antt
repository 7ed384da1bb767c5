-- A text and its picture are alike to whatever looks for bytes of ASCII that are no marks: words, numbers, slashes, dashes, a name and an index.
-- Assumes nothing.
use Rattle.std.specs.Prelude.{ℕ, zero, suc, ◌+◌, ◌≤◌, ◌<◌, ◌≡◌, Bool, not, ◌&&◌, List, [], ◌∷◌, ◌++◌, map, eqb, ltb, leb, drop, get_or}
use Rattle.std.proofs.Math.Path.{refl, ap}
use Rattle.std.proofs.Common.{sym, subst, ◌∙◌, arith, ltb-true, ne_eqb}
use Rattle.std.proofs.Math.Bool.{true, false, and-false}
use Rattle.std.proofs.Math.ListN.{length}
use Rattle.std.proofs.lemmas.Bool.{lt-leb}
use Rattle.text.specs.Bytes.{bytes}
use Rattle.text.specs.Fault.{numeral_fault, numeral_place, has_place}
use Rattle.text.specs.Number.{Numeral, is_digit, with_digit, digits_from, digits_at, numeral_of}
use Rattle.text.specs.Part.{every, starts_with, same}
use Rattle.text.specs.PartLaws.{and_left, and_right, every_append}
use Rattle.identifiers.specs.FaultLaws.{check-last_of}
use Rattle.identifiers.specs.Check.{first, unless, index_of, named_of, Form, plain, indexed, Rule, form_of, chars_of, check_of}
use Rattle.identifiers.specs.Check as check
use Rattle.path.specs.declared.Refusal.{Refusal}
use Rattle.path.specs.declared.name.Name.{Name}
use Rattle.path.specs.declared.name.Name.TheVariants.{Client as client, Connection as connection, Port as port, Channel as channel, Upgrade as upgrade}
use Rattle.path.specs.Kinds.{Part, word, name, count, pair, Kind, kinds}
use Rattle.path.specs.Text.{components, component, onto, cut_step, cut_at, join_by, places, places_from}
use Rattle.path.specs.TextLaws.{without, all_without, cut-some, join-cut, cut-join}
use Rattle.path.specs.Read.{name_fault, are_pair, fits, all_from, fits_kind}
use Rattle.path.specs.Reads.{Has}
use Rattle.path.specs.Number.{Wrong, BadNumber, whole, before_dash, behind_dash, part_at, NumberWrong}
use Rattle.path.specs.ReadLaws.{has_both}
use Rattle.letters.specs.Character.{utf8}
use Rattle.letters.specs.CharacterLaws.{utf8-none, utf8-at}
use Rattle.letters.specs.Narrow.{narrow}
use Rattle.letters.specs.NarrowLaws.{narrow-none, narrow_at, length-narrow, narrow-ascii, Mark, as_letter, as_blank, as_other, Alike, none, same as alike-byte, other, alike}
use Rattle.wide.specs.Mode.{wide}
use Rattle.wide.specs.Check.{chars_in, check_in, named_index_in}
use Rattle.wide.specs.Render.{name_fault_in}
use Rattle.demands.specs.WideWritten.{fits_wide, fits_kind_wide}

-- ---- a byte of ASCII that is no mark
abbrev pub clear : ℕ → Bool
clear b = ltb b 128 && (not (eqb b 90) && (not (eqb b 32) && not (eqb b 33)))

mark-apart : {m : ℕ} (x : ℕ) → Mark m → clear x ≡ true → m ≡ x → ⊥
mark-apart x as_letter c e = let k : clear 90 ≡ true = subst (λ (n : ℕ). clear n ≡ true) (sym e) c in let z : ◌≡◌ {A = ℕ} 0 1 = cc in omega arith
mark-apart x as_blank c e = let k : clear 32 ≡ true = subst (λ (n : ℕ). clear n ≡ true) (sym e) c in let z : ◌≡◌ {A = ℕ} 0 1 = cc in omega arith
mark-apart x as_other c e = let k : clear 33 ≡ true = subst (λ (n : ℕ). clear n ≡ true) (sym e) c in let z : ◌≡◌ {A = ℕ} 0 1 = cc in omega arith

-- it is neither a byte beyond ASCII nor what stands for it
module _ (b m x : ℕ) (h : 128 ≤ b) (k : Mark m) (c : clear x ≡ true) where
  pub high-apart : eqb b x ≡ false
  high-apart = let l = ltb-true x 128 (and_left (ltb x 128) _ c) in ne_eqb b x (λ e. omega arith)

  pub marks-apart : eqb m x ≡ false
  marks-apart = ne_eqb m x (mark-apart x k c)

-- ---- lengths, slashes and parts
alike-length : {s u : List ℕ} → Alike s u → length u ≡ length s
alike-length none = refl
alike-length (alike-byte h x) = ap suc (alike-length x)
alike-length (other h k x) = ap suc (alike-length x)

drop-alike : {s u : List ℕ} (n : ℕ) → Alike s u → Alike (drop n s) (drop n u)
drop-alike zero x = x
drop-alike (suc n) none = none
drop-alike (suc n) (alike-byte h x) = drop-alike n x
drop-alike (suc n) (other h k x) = drop-alike n x

pub alike-without : (x : ℕ) → clear x ≡ true → {s u : List ℕ} → Alike s u → without x s ≡ without x u
unfolding every
alike-without x c none = refl
alike-without x c (alike-byte {b} h y) = rw (alike-without x c y)
alike-without x c (other {b} {m} h k y) = rw (high-apart b m x h k c, marks-apart b m x h k c) (alike-without x c y)

-- ---- words
starts-alike : (w : List ℕ) → every clear w ≡ true → {s u : List ℕ} → Alike s u → starts_with w u ≡ starts_with w s
unfolding every starts_with
starts-alike [] c x = refl
starts-alike (y ∷ w) c none = refl
starts-alike (y ∷ w) c (alike-byte {b} h x) = rw (starts-alike w (and_right (clear y) _ c) x)
starts-alike (y ∷ w) c (other {b} {m} h k x) = rw (high-apart b m y h k (and_left (clear y) _ c), marks-apart b m y h k (and_left (clear y) _ c))

same_alike : (w : List ℕ) → every clear w ≡ true → {s u : List ℕ} → Alike s u → same u w ≡ same s w
unfolding every same
same_alike [] c none = refl
same_alike [] c (alike-byte h x) = refl
same_alike [] c (other h k x) = refl
same_alike (y ∷ w) c none = refl
same_alike (y ∷ w) c (alike-byte {b} h x) = rw (same_alike w (and_right (clear y) _ c) x)
same_alike (y ∷ w) c (other {b} {m} h k x) = rw (high-apart b m y h k (and_left (clear y) _ c), marks-apart b m y h k (and_left (clear y) _ c))

-- ---- numbers: neither a byte beyond ASCII nor a mark is a digit or `+`
mark_digit : {m : ℕ} → Mark m → is_digit m ≡ false
mark_digit as_letter = refl
mark_digit as_blank = refl
mark_digit as_other = refl

high_digit : (b : ℕ) → 128 ≤ b → is_digit b ≡ false
high_digit b h = rw (lt-leb b 57 (omega arith)) (and-false (leb 48 b))

digits-alike : {s u : List ℕ} → Alike s u → (v i : ℕ) → digits_from v i u ≡ digits_from v i s
unfolding digits_from
digits-alike none v i = refl
digits-alike (alike-byte {b} h x) v i = rw (digits-alike x (with_digit v b) (i + 1))
digits-alike (other {b} {m} h k x) v i = rw (high_digit b h, mark_digit k)

at-alike : {s u : List ℕ} → Alike s u → (i : ℕ) → digits_at i u ≡ digits_at i s
unfolding digits_at
at-alike none i = refl
at-alike (alike-byte h x) i = digits-alike (alike-byte h x) 0 i
at-alike (other h k x) i = digits-alike (other h k x) 0 i

pub numeral-alike : {s u : List ℕ} → Alike s u → numeral_of u ≡ numeral_of s
unfolding numeral_of
numeral-alike none = refl
numeral-alike (alike-byte {b} h x) = rw (at-alike x 1, at-alike (alike-byte h x) 0)
numeral-alike (other {b} {m} h k x) = rw (high-apart b m 43 h k refl, marks-apart b m 43 h k refl) (at-alike (other h k x) 0)

-- ---- a name and an index
index-alike : {s u : List ℕ} → Alike s u → index_of u ≡ index_of s
unfolding index_of every
index-alike x = rw (starts-alike (bytes "0") refl x, alike-length x, numeral-alike x)

named-alike : (w : List ℕ) → every clear w ≡ true → {s u : List ℕ} → Alike s u → named_of w u ≡ named_of w s
unfolding named_of every
named-alike w c x = rw (starts-alike (w ++ bytes "-") (every_append clear w (bytes "-") ∙ rw c) x, index-alike (drop-alike (length w + 1) x))

abbrev FormClear : Form → Type 0
FormClear plain = Unit {0}
FormClear (indexed w) = every clear w ≡ true

form-picture : (f : Form) → FormClear f → (c : List ℕ) → form_of f (narrow c) ≡ form_of f c
form-picture plain h c = refl
form-picture (indexed w) h c = named-alike w h (alike c)

-- ---- the wide check of a text is the plain check of its picture
check-picture : (r : Rule) → FormClear r.form → (c : List ℕ) → utf8 c ≡ true → check_in wide r c ≡ check_of r (narrow c)
unfolding wide check_in chars_in check_of chars_of
check-picture r h c u = rw (u, narrow-ascii c, length-narrow c, form-picture r.form h c)

pub name_picture : (n : Name) (c : List ℕ) → utf8 c ≡ true → name_fault_in wide n c ≡ name_fault n (narrow c)
unfolding wide name_fault_in name_fault every
name_picture client c u = check-picture check.client tt c u
name_picture connection c u = check-picture check.connection refl c u
name_picture port c u = check-picture check.port tt c u
name_picture channel c u = check-picture check.channel refl c u
name_picture upgrade c u = rw (u, narrow-ascii c, alike-without 47 refl (alike c))

-- ---- a wide check gives 17, 18 or 19 only by its index
check_broken : (r : Rule) (s : List ℕ) → utf8 s ≡ false → check_in wide r s ≡ 21
unfolding wide check_in chars_in
check_broken r s u = rw u

placeless_21 : {n : ℕ} → n ≡ 21 → has_place n ≡ true → ⊥
placeless_21 e h = let k : has_place 21 ≡ true = subst (λ (m : ℕ). has_place m ≡ true) e h in let z : ◌≡◌ {A = ℕ} 0 1 = cc in omega arith

module _ (w s : List ℕ) where
  pub wide-last_of : every clear w ≡ true → (least most : ℕ) → has_place (check_in wide (record { least = least; most = most; form = indexed w }) s) ≡ true → check_in wide (record { least = least; most = most; form = indexed w }) s ≡ named_of w s
  wide-last_of c least most h = go (utf8 s) refl
    where
      go : (v : Bool) → utf8 s ≡ v → check_in wide (record { least = least; most = most; form = indexed w }) s ≡ named_of w s
      go true u =
          let e = check-picture (record { least = least; most = most; form = indexed w }) c s u in
          e ∙ check-last_of w (narrow s) least most (subst (λ (m : ℕ). has_place m ≡ true) e h) ∙ named-alike w c (alike s)
      go false u = absurd (placeless_21 (check_broken (record { least = least; most = most; form = indexed w }) s u) h)

  pub wide-index-last_of : has_place (named_index_in wide s w) ≡ true → named_index_in wide s w ≡ named_of w s
  unfolding wide named_index_in
  wide-index-last_of h = go (utf8 s) (utf8 w) h
    where
      go : (a b : Bool) → has_place (first (unless 21 a) (first (unless 21 b) (named_of w s))) ≡ true → first (unless 21 a) (first (unless 21 b) (named_of w s)) ≡ named_of w s
      go true true k = refl
      go true false k = absurd (placeless_21 refl k)
      go false b k = absurd (placeless_21 refl k)

-- ---- cut
pub data Alikes : List (List ℕ) → List (List ℕ) → Type 0 where
  nil : Alikes [] []
  cons : {c u : List ℕ} {cs us : List (List ℕ)} → Alike c u → Alikes cs us → Alikes (c ∷ cs) (u ∷ us)

onto-byte : {b : ℕ} {cs us : List (List ℕ)} → b < 128 → Alikes cs us → Alikes (onto b cs) (onto b us)
onto-byte h nil = cons (alike-byte h none) nil
onto-byte h (cons x y) = cons (alike-byte h x) y

onto-other : {b m : ℕ} {cs us : List (List ℕ)} → 128 ≤ b → Mark m → Alikes cs us → Alikes (onto b cs) (onto m us)
onto-other h k nil = cons (other h k none) nil
onto-other h k (cons x y) = cons (other h k x) y

pub alike-cut : (x : ℕ) → clear x ≡ true → {s u : List ℕ} → Alike s u → Alikes (cut_at x s) (cut_at x u)
unfolding cut_at
alike-cut x c none = cons none nil
alike-cut x c (alike-byte {b} {s} {u} h y) = go (eqb b x) (alike-cut x c y)
  where
    go : (v : Bool) → Alikes (cut_at x s) (cut_at x u) → Alikes (cut_step v b (cut_at x s)) (cut_step v b (cut_at x u))
    go true z = cons none z
    go false z = onto-byte h z
alike-cut x c (other {b} {m} h k y) = rw (high-apart b m x h k c, marks-apart b m x h k c) (onto-other h k (alike-cut x c y))

pair-alike : {cs us : List (List ℕ)} → Alikes cs us → are_pair us ≡ are_pair cs
pair-alike nil = refl
pair-alike (cons x nil) = refl
pair-alike (cons x (cons y nil)) = rw (numeral-alike x, numeral-alike y)
pair-alike (cons x (cons y (cons z zs))) = refl

-- ---- a component of the picture is what a part asks for exactly where the text's own is
abbrev part_clear : Part → Bool
part_clear (word w) = every clear w
part_clear (name n) = true
part_clear count = true
part_clear pair = true

fits-picture : (p : Part) → part_clear p ≡ true → (c : List ℕ) → utf8 c ≡ true → fits p (narrow c) ≡ fits_wide p c
unfolding fits
fits-picture (word w) h c u = same_alike w h (alike c)
fits-picture (name n) h c u = rw (name_picture n c u)
fits-picture count h c u = rw (numeral-alike (alike c))
fits-picture pair h c u = pair-alike (alike-cut 45 refl (alike c))

-- ---- the components of the picture are the pictures of the components
cut-without : (t : List ℕ) → all_without 47 (cut_at 47 t) ≡ true
unfolding cut_at every
cut-without [] = refl
cut-without (b ∷ t) = go (eqb b 47) refl (cut_at 47 t) (cut-without t)
  where
    go : (v : Bool) → eqb b 47 ≡ v → (cs : List (List ℕ)) → all_without 47 cs ≡ true → all_without 47 (cut_step v b cs) ≡ true
    go true e cs h = h
    go false e [] h = rw e
    go false e (c ∷ cs) h = rw (e, h)

without-narrow : (cs : List (List ℕ)) → all_without 47 cs ≡ true → all_without 47 (map narrow cs) ≡ true
without-narrow [] h = refl
without-narrow (c ∷ cs) h = rw (sym (alike-without 47 refl (alike c)) ∙ and_left (without 47 c) _ h) (without-narrow cs (and_right (without 47 c) _ h))

pub narrow-join : (cs : List (List ℕ)) → narrow (join_by 47 cs) ≡ join_by 47 (map narrow cs)
unfolding join_by
narrow-join [] = narrow-none
narrow-join (c ∷ []) = refl
narrow-join (c ∷ (d ∷ cs)) = narrow_at c 47 (join_by 47 (d ∷ cs)) (omega arith) ∙ rw (narrow-join (d ∷ cs))

pub components-narrow : (t : List ℕ) → components (narrow t) ≡ map narrow (components t)
components-narrow t = go (components t) (cut-some 47 t) (cut-without t) (join-cut 47 t)
  where
    go : (cs : List (List ℕ)) → 0 < length cs → all_without 47 cs ≡ true → join_by 47 cs ≡ t → components (narrow t) ≡ map narrow cs
    go [] l h e = absurd (omega arith)
    go (c ∷ cs) l h e = ap (λ (x : List ℕ). components (narrow x)) (sym e) ∙ ap components (narrow-join (c ∷ cs)) ∙ cut-join 47 (narrow c) (map narrow cs) (without-narrow (c ∷ cs) h)

-- ---- a text and its picture have their slashes at the same places
alike-places : {s u : List ℕ} → Alike s u → (i : ℕ) → places_from i u ≡ places_from i s
unfolding places_from
alike-places none i = refl
alike-places (alike-byte {b} h x) i = rw (alike-places x (i + 1))
alike-places (other {b} {m} h k x) i = rw (high-apart b m 47 h k refl, marks-apart b m 47 h k refl, alike-places x (i + 1))

pub places-narrow : (t : List ℕ) → places (narrow t) ≡ places t
places-narrow t = alike-places (alike t) 0

-- each is UTF-8
abbrev pub all_taken : List (List ℕ) → Bool
all_taken [] = true
all_taken (c ∷ cs) = utf8 c && all_taken cs

pub utf8-join : (cs : List (List ℕ)) → utf8 (join_by 47 cs) ≡ all_taken cs
unfolding join_by
utf8-join [] = utf8-none
utf8-join (c ∷ []) = sym (and_yes (utf8 c))
  where
    and_yes : (v : Bool) → (v && true) ≡ v
    and_yes true = refl
    and_yes false = refl
utf8-join (c ∷ (d ∷ cs)) = utf8-at c 47 (join_by 47 (d ∷ cs)) (omega arith) ∙ rw (utf8-join (d ∷ cs))

taken_at : (cs : List (List ℕ)) (k : ℕ) → all_taken cs ≡ true → utf8 (get_or cs k []) ≡ true
taken_at [] k h = utf8-none
taken_at (c ∷ cs) zero h = and_left (utf8 c) _ h
taken_at (c ∷ cs) (suc k) h = taken_at cs k (and_right (utf8 c) _ h)

narrow-get : (cs : List (List ℕ)) (k : ℕ) → get_or (map narrow cs) k [] ≡ narrow (get_or cs k [])
narrow-get [] k = sym narrow-none
narrow-get (c ∷ cs) zero = refl
narrow-get (c ∷ cs) (suc k) = narrow-get cs k

length-map : (cs : List (List ℕ)) → length (map narrow cs) ≡ length cs
length-map [] = refl
length-map (c ∷ cs) = ap suc (length-map cs)

-- ---- a kind
abbrev parts_clear : List Part → Bool
parts_clear [] = true
parts_clear (p ∷ ps) = part_clear p && parts_clear ps

clear-all : map (λ e. parts_clear e.parts) kinds ≡ map (λ e. true) kinds
unfolding every kinds
clear-all = refl

module _ (t : List ℕ) (u : utf8 t ≡ true) where
  all-taken : all_taken (components t) ≡ true
  all-taken = sym (utf8-join (components t)) ∙ ap utf8 (join-cut 47 t) ∙ u

  component-narrow : (k : ℕ) → component (narrow t) k ≡ narrow (component t k)
  component-narrow k = ap (λ (cs : List (List ℕ)). get_or cs k []) (components-narrow t) ∙ narrow-get (components t) k

  fit-from : (k : ℕ) (ps : List Part) → parts_clear ps ≡ true → all_from fits k ps (narrow t) ≡ all_from fits_wide k ps t
  fit-from k [] h = refl
  fit-from k (p ∷ ps) h =
      rw (component-narrow k, fits-picture p (and_left (part_clear p) _ h) (component t k) (taken_at (components t) k all-taken), fit-from (k + 1) ps (and_right (part_clear p) _ h))

  pub fits_itself : {e : Kind} → Has kinds e → fits_kind e (narrow t) ≡ fits_kind_wide e t
  unfolding fits_kind
  fits_itself {e} m =
      let c = has_both (λ x. parts_clear x.parts) (λ x. true) m clear-all in
      let l : length (components (narrow t)) ≡ length (components t) = ap length (components-narrow t) ∙ length-map (components t) in
      rw (l, fit-from 0 e.parts c)

-- ---- a number of the picture is bad exactly where the text's own is
record Same (s u : List ℕ) : Type 0 where
  numeral : numeral_of u ≡ numeral_of s
  size : length u ≡ length s

same_back : {s u : List ℕ} → Same s u → Same u s
same_back x = record { numeral = sym x.numeral; size = sym x.size }

same_of : {s u : List ℕ} → Alike s u → Same s u
same_of x = record { numeral = numeral-alike x; size = alike-length x }

wrong-same : {s u : List ℕ} {i : ℕ} {w : Refusal} → Same s u → Wrong u i w → Wrong s i w
wrong-same {i = i} e x =
    record {
      no_number = λ v. x.no_number (v.0, e.numeral ∙ v.1);
      number = x.number ∙ ap numeral_fault e.numeral;
      place = x.place ∙ ap (λ (n : Numeral). i + numeral_place n) e.numeral;
    }

-- two texts with a dash between, of numbers alike
record Cut (cs : List (List ℕ)) (r h : List ℕ) : Type 0 where
  first-text : List ℕ
  second-text : List ℕ
  cut : cs ≡ first-text ∷ (second-text ∷ [])
  first-same : Same first-text r
  second-same : Same second-text h

cut-picture : {cs us : List (List ℕ)} → Alikes cs us → (r h : List ℕ) → us ≡ r ∷ (h ∷ []) → Cut cs r h
cut-picture nil r h e = let z : ◌≡◌ {A = ℕ} 0 1 = cc in absurd (omega arith)
cut-picture (cons x nil) r h e = let z : ◌≡◌ {A = ℕ} 0 1 = cc in absurd (omega arith)
cut-picture (cons {c = c} {u = u} x (cons {c = d} {u = v} y nil)) r h e =
    let p : u ≡ r = cc in
    let q : v ≡ h = cc in
    record { first-text = c; second-text = d; cut = refl; first-same = subst (Same c) p (same_of x); second-same = subst (Same d) q (same_of y) }
cut-picture (cons x (cons y (cons z zs))) r h e = let z : ◌≡◌ {A = ℕ} 0 1 = cc in absurd (omega arith)

cut_itself : {cs us : List (List ℕ)} → Alikes cs us → (r h : List ℕ) → cs ≡ r ∷ (h ∷ []) → Cut us r h
cut_itself nil r h e = let z : ◌≡◌ {A = ℕ} 0 1 = cc in absurd (omega arith)
cut_itself (cons x nil) r h e = let z : ◌≡◌ {A = ℕ} 0 1 = cc in absurd (omega arith)
cut_itself (cons {c = c} {u = u} x (cons {c = d} {u = v} y nil)) r h e =
    let p : c ≡ r = cc in
    let q : d ≡ h = cc in
    record { first-text = u; second-text = v; cut = refl; first-same = subst (Same u) p (same_back (same_of x)); second-same = subst (Same v) q (same_back (same_of y)) }
cut_itself (cons x (cons y (cons z zs))) r h e = let z : ◌≡◌ {A = ℕ} 0 1 = cc in absurd (omega arith)

-- where numbers are alike, and the texts with a dash between
module _ (s u : List ℕ) (whole_same : Same s u) (cut-same : (r h : List ℕ) → cut_at 45 u ≡ r ∷ (h ∷ []) → Cut (cut_at 45 s) r h) where
  bad-same : {p : Part} {i : ℕ} {w : Refusal} → BadNumber p u i w → BadNumber p s i w
  bad-same (whole x) = whole (wrong-same whole_same x)
  bad-same (before_dash {r = r} {h = h} e x) = let c = cut-same r h e in before_dash c.cut (wrong-same c.first-same x)
  bad-same {w = w} (behind_dash {r = r} {h = h} {i = i} e n x) =
      let c = cut-same r h e in
      let k : i + length r + 1 ≡ i + length c.first-text + 1 = ap (λ (m : ℕ). i + m + 1) c.first-same.size in
      behind_dash c.cut (n.0, sym c.first-same.numeral ∙ n.1) (subst (λ (m : ℕ). Wrong c.second-text m w) k (wrong-same c.second-same x))

clear_at : (ps : List Part) (k : ℕ) → parts_clear ps ≡ true → part_clear (get_or ps k count) ≡ true
clear_at [] k h = refl
clear_at (p ∷ ps) zero h = and_left (part_clear p) _ h
clear_at (p ∷ ps) (suc k) h = clear_at ps k (and_right (part_clear p) _ h)

module _ (t : List ℕ) (u : utf8 t ≡ true) (w : Refusal) where
  part_itself : {e : Kind} → Has kinds e → (k : ℕ) → fits (part_at e k) (component (narrow t) k) ≡ fits_wide (part_at e k) (component t k)
  part_itself {e} m k =
      let c = has_both (λ x. parts_clear x.parts) (λ x. true) m clear-all in
      rw (component-narrow t u k) (fits-picture (part_at e k) (clear_at e.parts k c) (component t k) (taken_at (components t) k (all-taken t u)))

  count_itself : length (components (narrow t)) ≡ length (components t)
  count_itself = ap length (components-narrow t) ∙ length-map (components t)

  pub wrong_itself : NumberWrong fits (narrow t) w → NumberWrong fits_wide t w
  wrong_itself x =
      let a = alike (component t x.at) in
      record {
        kind = x.kind;
        listed = x.listed;
        as_many = sym count_itself ∙ x.as_many;
        at = x.at;
        inside = x.inside;
        bad = rw (← places-narrow t) (bad-same (component t x.at) (narrow (component t x.at)) (same_of a) (cut-picture (alike-cut 45 refl a)) (rw (component-narrow t u x.at) at x.bad));
        others = λ k l n. sym (part_itself x.listed k) ∙ x.others k l n;
      }

  pub wrong-picture : NumberWrong fits_wide t w → NumberWrong fits (narrow t) w
  wrong-picture x =
      let a = alike (component t x.at) in
      record {
        kind = x.kind;
        listed = x.listed;
        as_many = count_itself ∙ x.as_many;
        at = x.at;
        inside = x.inside;
        bad = rw (component-narrow t u x.at, places-narrow t) (bad-same (narrow (component t x.at)) (component t x.at) (same_back (same_of a)) (cut_itself (alike-cut 45 refl a)) x.bad);
        others = λ k l n. part_itself x.listed k ∙ x.others k l n;
      }
