-- A rendering is read back: the same kind, with identifiers of the same bytes and the same numbers, and exact.
-- Assumes nothing.
use Rattle.std.specs.Prelude.{ℕ, ◌+◌, ◌≤◌, ◌<◌, ◌^◌, List, [], ◌∷◌, ◌++◌, map, Bool, not, ◌&&◌, length, get_or, drop, Ok, Err, Option, Some, None}
use Rattle.std.proofs.Math.Path.{◌≡◌, refl, sym, ap}
use Rattle.std.proofs.Common.{◌∙◌, arith, add-one, drop_of_length-le, drop-cons}
use Rattle.std.proofs.Math.Bool.{true, false, cond}
use Rattle.std.proofs.Math.Dec.{eqb, ltb, leb}
use borrow.Author.Tests.{eqb-true, eq-eqb, ne_eqb, lt-ltb, le-ltb, ltb-true, ltb-false, le-leb, leb-true}
use Rattle.text.specs.Number.{Numeral, numeral_of, decimal}
use Rattle.text.specs.NumberLaws.{Digit, decimal-each, read-decimal, numeral-fits}
use Rattle.text.specs.Part.{every, ascii, same}
use Rattle.text.specs.PartLaws.{and_left, and_right, same-is, same_refl}
use Rattle.text.specs.Put.{Wanted, refused, text, accepted}
use Rattle.identifiers.specs.Check.{first, unless, identifier_byte, among, Rule, check_of}
use Rattle.identifiers.specs.Check as check
use Rattle.identifiers.specs.CheckLaws.{first-zero, first-none, unless-zero, accepted-ascii, accepted-bytes}
use Rattle.path.specs.declared.Place.{Place}
use Rattle.path.specs.declared.Path.{Path}
use Rattle.path.specs.declared.Refusal.TheVariants.{TooLong, NotAscii}
use Rattle.path.specs.ReadingLaws.{read-same}
use Rattle.path.specs.Reading.{Reading, Read}
use Rattle.path.specs.Text.{components, component, cut_at, join_by, join, place_at, part_of}
use Rattle.path.specs.TextLaws.{part-component, without, all_without, cut-join, every_append, every-all, every-both, every_in, every-join}
use Rattle.path.specs.Kinds.{Part, word, name, count, pair, Carried, Kind, kinds, name_in, set_name}
use Rattle.path.specs.declared.name.Name.{Name}
use Rattle.path.specs.declared.name.Name.TheVariants.{Client as client, Connection as connection, Port as port, Channel as channel, Upgrade as upgrade}
use Rattle.path.specs.Read.{name_fault, value_of, number_in, fits, adds, carried_from, fit_from, component_count, fits_kind, read_first, show, shown, render, parts_of, texts_of, render_path, names_fault, render_of, reading_of, read_path, key_by, key_of}
use Rattle.path.specs.View.{kind_of, carried_of}
use Rattle.path.specs.Valid.{Valid, set_count, set_pair, only, ReadsAs}
use Rattle.path.specs.Reads.{Has, kind_at, Reads}
use Rattle.path.specs.ReadLaws.{kind_fits, has_both, read_has, kinds-apart, made_range, made-parts, made-carried, kind-has, made-kind, kind-parts, path-made, is-reads}
use Rattle.path.specs.Spelled.{fit_all}
use Rattle.path.specs.ExactLaws.{own, own_from, name_set, shown-made, render-made, rendering-not-longer}

-- ---- the bytes of a rendering
-- an ASCII byte that is no slash
abbrev plain : ℕ → Bool
plain b = ltb b 128 && not (eqb b 47)

-- each digit of a number passes a test that digits pass
pub decimal-every : (f : ℕ → Bool) → ((b : ℕ) → Digit b → f b ≡ true) → (n : ℕ) → every f (decimal n) ≡ true
decimal-every f h n = every-all f (decimal n) (λ i l. h (get_or (decimal n) i 0) (decimal-each n i l))

digit-plain : (b : ℕ) → Digit b → plain b ≡ true
digit-plain b d = rw (lt-ltb b 128 (omega arith), ne_eqb b 47 (λ e. omega arith))

digit-no-dash : (b : ℕ) → Digit b → not (eqb b 45) ≡ true
digit-no-dash b d = rw (ne_eqb b 45 (λ e. omega arith))

-- an accepted identifier's
identifier-plain : (b : ℕ) → ltb b 128 ≡ true → identifier_byte b ≡ true → plain b ≡ true
unfolding identifier_byte among
identifier-plain b h k = rw h (go (eqb b 47) refl)
  where
    go : (v : Bool) → eqb b 47 ≡ v → not v ≡ true
    go true e = rw (eqb-true b 47 e) at k
    go false e = refl

checked-plain : (r : Rule) (c : List ℕ) → check_of r c ≡ 0 → every plain c ≡ true
unfolding ascii
checked-plain r c h = every-both plain (λ b. ltb b 128) identifier_byte identifier-plain c (accepted-ascii r c h) (accepted-bytes r c h)

name-plain : (n : Name) (c : List ℕ) → name_fault n c ≡ 0 → every plain c ≡ true
unfolding name_fault ascii
name-plain client c h = checked-plain check.client c h
name-plain connection c h = checked-plain check.connection c h
name-plain port c h = checked-plain check.port c h
name-plain channel c h = checked-plain check.channel c h
name-plain upgrade c h =
    let k = first-zero (unless 2 (ascii c)) (unless 13 (without 47 c)) h in
    every-both plain (λ b. ltb b 128) (λ b. not (eqb b 47)) (λ b f g. rw (f, g)) c (unless-zero 2 _ (omega arith) k.0) (unless-zero 13 _ (omega arith) k.1)

-- parts whose words have such bytes only
abbrev words_plain : List Part → Bool
words_plain [] = true
words_plain (word w ∷ ps) = every plain w && words_plain ps
words_plain (name n ∷ ps) = words_plain ps
words_plain (count ∷ ps) = words_plain ps
words_plain (pair ∷ ps) = words_plain ps

shown-plain : (ps : List Part) (v : Carried (List ℕ)) → words_plain ps ≡ true → names_fault ps v ≡ 0 → every_in plain (shown ps v) ≡ true
unfolding names_fault show every
shown-plain [] v w h = refl
shown-plain (word x ∷ ps) v w h = rw (and_left (every plain x) (words_plain ps) w) (shown-plain ps v (and_right (every plain x) (words_plain ps) w) h)
shown-plain (name n ∷ ps) v w h = let k = first-zero (name_fault n (name_in n v)) (names_fault ps v) h in rw (name-plain n (name_in n v) k.0) (shown-plain ps v w k.1)
shown-plain (count ∷ ps) v w h = rw (decimal-every plain digit-plain v.a) (shown-plain ps v w h)
shown-plain (pair ∷ ps) v w h =
    rw (every_append plain (decimal v.a) (45 ∷ decimal v.b) (decimal-every plain digit-plain v.a) (decimal-every plain digit-plain v.b))
    (shown-plain ps v w h)

plain-without : (cs : List (List ℕ)) → every_in plain cs ≡ true → all_without 47 cs ≡ true
plain-without [] h = refl
plain-without (c ∷ cs) h =
    let p = and_left (every plain c) (every_in plain cs) h in
    rw (every-both (λ b. not (eqb b 47)) plain plain (λ b f g. and_right (ltb b 128) (not (eqb b 47)) f) c p p)
    (plain-without cs (and_right (every plain c) (every_in plain cs) h))

plain-ascii : (cs : List (List ℕ)) → every_in plain cs ≡ true → every_in (λ b. ltb b 128) cs ≡ true
plain-ascii [] h = refl
plain-ascii (c ∷ cs) h =
    let p = and_left (every plain c) (every_in plain cs) h in
    rw (every-both (λ b. ltb b 128) plain plain (λ b f g. and_left (ltb b 128) (not (eqb b 47)) f) c p p)
    (plain-ascii cs (and_right (every plain c) (every_in plain cs) h))

-- ---- what is shown fits
pair-back : (m n : ℕ) → cut_at 45 (decimal m ++ (45 ∷ decimal n)) ≡ decimal m ∷ decimal n ∷ []
unfolding join_by
pair-back m n = cut-join 45 (decimal m) (decimal n ∷ []) (rw (decimal-every _ digit-no-dash m, decimal-every _ digit-no-dash n))

shown-fits : (ps : List Part) (v : Carried (List ℕ)) → v.a < 2 ^ 64 → v.b < 2 ^ 64 → names_fault ps v ≡ 0 → fit_all ps (shown ps v) ≡ true
unfolding names_fault show fits
shown-fits [] v a b h = refl
shown-fits (word w ∷ ps) v a b h = rw (same_refl w) (shown-fits ps v a b h)
shown-fits (name n ∷ ps) v a b h = let k = first-zero (name_fault n (name_in n v)) (names_fault ps v) h in rw (eq-eqb _ 0 k.0) (shown-fits ps v a b k.1)
shown-fits (count ∷ ps) v a b h = rw (read-decimal v.a a) (shown-fits ps v a b h)
shown-fits (pair ∷ ps) v a b h = rw (pair-back v.a v.b, read-decimal v.a a, read-decimal v.b b) (shown-fits ps v a b h)

-- ---- what is read of the components that are shown
pub drop-step : (cs : List (List ℕ)) (k : ℕ) (c : List ℕ) (rest : List (List ℕ)) → drop k cs ≡ c ∷ rest → (get_or cs k [] ≡ c) × (drop (k + 1) cs ≡ rest)
drop-step cs k c rest h = go (ltb k (length cs)) refl
  where
    go : (v : Bool) → ltb k (length cs) ≡ v → (get_or cs k [] ≡ c) × (drop (k + 1) cs ≡ rest)
    go true e = let d = drop-cons cs k [] (ltb-true k (length cs) e) in (cc, rw add-one cc)
    go false e = let d = drop_of_length-le cs (ltb-false k (length cs) e) in let z : ◌≡◌ {A = ℕ} 0 1 = cc in absurd (omega arith)

pub texts-name : (n : Name) (t : List ℕ) (p : Place) (v : Carried Place) → texts_of t (set_name n p v) ≡ set_name n (part_of t p) (texts_of t v)
texts-name client t p v = refl
texts-name connection t p v = refl
texts-name port t p v = refl
texts-name channel t p v = refl
texts-name upgrade t p v = refl

texts-back : (k : ℕ) (ps : List Part) (t : List ℕ) (v : Carried (List ℕ)) → v.a < 2 ^ 64 → v.b < 2 ^ 64
    → drop k (components t) ≡ shown ps v → texts_of t (carried_from k ps t) ≡ only ps v
unfolding show
texts-back k [] t v a b h = refl
texts-back k (p ∷ ps) t v a b h =
    let s = drop-step (components t) k (show p v) (shown ps v) h in
    go p s.0 (texts-back (k + 1) ps t v a b s.1)
  where
    go : (q : Part) → component t k ≡ show q v → texts_of t (carried_from (k + 1) ps t) ≡ only ps v → texts_of t (adds q (component t k) (place_at t k) (carried_from (k + 1) ps t)) ≡ only (q ∷ ps) v
    go (word w) e r = r
    go (name n) e r = rw (texts-name n t (place_at t k) (carried_from (k + 1) ps t), part-component t k, e) (ap (set_name n (name_in n v)) r)
    go count e r = rw (e, read-decimal v.a a) (ap (set_count v.a) r)
    go pair e r = rw (e, pair-back v.a v.b, read-decimal v.a a, read-decimal v.b b) (ap (set_pair v.a v.b) r)

-- ---- computed facts about the table
-- each kind has a part, and no word of it holds a slash or a byte of 128 or more
abbrev sound : List Part → Bool
sound [] = false
sound (p ∷ ps) = words_plain (p ∷ ps)

sound-all : map (λ e. sound e.parts) kinds ≡ map (λ e. true) kinds
unfolding every kinds
sound-all = refl

-- what a kind lacks does not show
only-all : (v : Carried (List ℕ)) → map (λ e. shown e.parts (only e.parts v)) kinds ≡ map (λ e. shown e.parts v) kinds
unfolding show kinds
only-all v = refl

names-all : (v : Carried (List ℕ)) → map (λ e. names_fault e.parts (only e.parts v)) kinds ≡ map (λ e. names_fault e.parts v) kinds
unfolding names_fault kinds
names-all v = refl

-- what a kind makes has nothing that it lacks
lacks-all : (x : List ℕ) (v : Carried Place) → map (λ e. only e.parts (texts_of x (carried_of (e.make v)))) kinds ≡ map (λ e. texts_of x (carried_of (e.make v))) kinds
unfolding kinds
lacks-all x v = refl

-- ---- a kind
sound_words : (ps : List Part) → sound ps ≡ true → words_plain ps ≡ true
sound_words [] h = refl
sound_words (p ∷ ps) h = h

cut-shown : (ps : List Part) (v : Carried (List ℕ)) → sound ps ≡ true → every_in plain (shown ps v) ≡ true → components (join (shown ps v)) ≡ shown ps v
cut-shown [] v s h = let z : ◌≡◌ {A = ℕ} 0 1 = cc in absurd (omega arith)
cut-shown (p ∷ ps) v s h = cut-join 47 (show p v) (shown ps v) (plain-without (shown (p ∷ ps) v) h)

module _ {e : Kind} (m : Has kinds e) (v : Carried (List ℕ)) (a : v.a < 2 ^ 64) (b : v.b < 2 ^ 64) (ok : names_fault e.parts v ≡ 0) where
  abbrev whole : List ℕ
  whole = render e.parts v

  abbrev back : Path
  back = e.make (carried_from 0 e.parts whole)

  kind-sound : sound e.parts ≡ true
  kind-sound = has_both (λ x. sound x.parts) (λ x. true) m sound-all

  kind-plain : every_in plain (shown e.parts v) ≡ true
  kind-plain = shown-plain e.parts v (sound_words e.parts kind-sound) ok

  kind-cut : components whole ≡ shown e.parts v
  unfolding render
  kind-cut = cut-shown e.parts v kind-sound kind-plain

  kind-ascii : ascii whole ≡ true
  unfolding render ascii
  kind-ascii = every-join (λ b. ltb b 128) 47 (shown e.parts v) refl (plain-ascii (shown e.parts v) kind-plain)

  kind-read : read_first kinds whole ≡ Some back
  kind-read = read_has whole m kinds-apart (kind_fits e whole ∙ rw kind-cut (shown-fits e.parts v a b ok))

  kind-texts : texts_of whole (carried_of back) ≡ only e.parts v
  kind-texts = rw (made-carried m whole) (texts-back 0 e.parts whole v a b kind-cut)

  kind-exact : render_path whole back ≡ whole
  unfolding render
  kind-exact =
      render-made m whole
      ∙ ap (render e.parts) (texts-back 0 e.parts whole v a b kind-cut)
      ∙ ap join (has_both (λ x. shown x.parts (only x.parts v)) (λ x. shown x.parts v) m (only-all v))

  kind-back : length whole ≤ 4096 → read_path whole ≡ Read back true
  unfolding read_path
  kind-back l = rw (le-ltb 4096 (length whole) l, kind-ascii, kind-read, kind-exact, same_refl whole)

-- rendering a valid typed path and reading it gives that path back, exact
pub rendered-back : (k : ℕ) (v : Carried (List ℕ)) → Valid k v → ReadsAs (render (parts_of k) v) k (only (parts_of k) v)
rendered-back k v ok =
    let m = kind-has k ok.least ok.most in
    let e = kind-parts k ok.least ok.most in
    let n : names_fault (kind_at k).parts v ≡ 0 = rw e at ok.names in
    let l : length (render (kind_at k).parts v) ≤ 4096 = rw e at ok.size in
    rw e (record {
      path = back m v ok.a ok.b n;
      read = kind-back m v ok.a ok.b n l;
      kind = made-kind k ok.least ok.most _;
      carried = kind-texts m v ok.a ok.b n;
    })

-- the components of a rendering are what its parts show
pub rendered-cut : (k : ℕ) (v : Carried (List ℕ)) → Valid k v → components (render (parts_of k) v) ≡ shown (parts_of k) v
rendered-cut k v ok =
    let e = kind-parts k ok.least ok.most in
    let n : names_fault (kind_at k).parts v ≡ 0 = rw e at ok.names in
    rw e (kind-cut (kind-has k ok.least ok.most) v ok.a ok.b n)

-- a typed path whose places are in the text x comes back too
module _ (x : List ℕ) (p : Path) (ok : Valid (kind_of p) (texts_of x (carried_of p))) where
  path-only : only (parts_of (kind_of p)) (texts_of x (carried_of p)) ≡ texts_of x (carried_of p)
  path-only =
      let h = has_both (λ e. only e.parts (texts_of x (carried_of (e.make (carried_of p))))) (λ e. texts_of x (carried_of (e.make (carried_of p)))) (kind-has (kind_of p) ok.least ok.most) (lacks-all x (carried_of p)) in
      rw (kind-parts (kind_of p) ok.least ok.most) (rw (← path-made p) at h)

  pub path-back : ReadsAs (render_path x p) (kind_of p) (texts_of x (carried_of p))
  unfolding render_path
  path-back = rw path-only at (rendered-back (kind_of p) (texts_of x (carried_of p)) ok)

-- ---- what is read
module _ (t : List ℕ) (p : Path) (e : Bool) (h : read_path t ≡ Read p e) where
  opened : (length t ≤ 4096) × (ascii t ≡ true) × (read_first kinds t ≡ Some p) × (e ≡ same t (render_path t p))
  unfolding read_path
  opened = go (ltb 4096 (length t)) refl (ascii t) refl (read_first kinds t) refl h
    where
      go : (u : Bool) → ltb 4096 (length t) ≡ u → (w : Bool) → ascii t ≡ w → (x : Option Path) → read_first kinds t ≡ x
          → cond u (Err TooLong) (cond w (reading_of t x) (Err NotAscii)) ≡ Read p e
          → (length t ≤ 4096) × (ascii t ≡ true) × (read_first kinds t ≡ Some p) × (e ≡ same t (render_path t p))
      go true a w b x c k = let z : ◌≡◌ {A = ℕ} 0 1 = cc in absurd (omega arith)
      go false a false b x c k = let z : ◌≡◌ {A = ℕ} 0 1 = cc in absurd (omega arith)
      go false a true b None c k = let z : ◌≡◌ {A = ℕ} 0 1 = cc in absurd (omega arith)
      go false a true b (Some q) c k =
          let z = read-same q p (same t (render_path t q)) e k in
          (ltb-false 4096 (length t) a, b, c ∙ ap Some z.0, sym (rw z.0 at z.1))

  pub read_short : length t ≤ 4096
  read_short = opened.0

  pub read-ascii : ascii t ≡ true
  read-ascii = opened.1

  pub read_reads : Reads t p
  read_reads = is-reads t p opened.2

  pub read-exact : e ≡ same t (render_path t p)
  read-exact = opened.3

-- an exact reading renders as its text
pub exact-renders : (t : List ℕ) (p : Path) → read_path t ≡ Read p true → render_path t p ≡ t
exact-renders t p h = sym (same-is t (render_path t p) (sym (read-exact t p true h)))

-- its identifiers are accepted
names_fine : (k : ℕ) (ps : List Part) (t : List ℕ) (v : Carried (List ℕ)) → shown ps v ≡ own_from k ps t → fit_from k ps t ≡ true → names_fault ps v ≡ 0
unfolding names_fault show fits
names_fine k [] t v s f = refl
names_fine k (word w ∷ ps) t v s f = let r : shown ps v ≡ own_from (k + 1) ps t = cc in names_fine (k + 1) ps t v r (and_right (fits (word w) (component t k)) _ f)
names_fine k (name n ∷ ps) t v s f =
    let r : shown ps v ≡ own_from (k + 1) ps t = cc in
    let c : name_in n v ≡ own (name n) k t = cc in
    let d : name_in n v ≡ component t k = c ∙ name_set n t (place_at t k) (carried_from 0 [] t) ∙ part-component t k in
    rw (d, first-none _ (names_fault ps v) (eqb-true _ 0 (and_left _ (fit_from (k + 1) ps t) f)))
    (names_fine (k + 1) ps t v r (and_right (fits (name n) (component t k)) _ f))
names_fine k (count ∷ ps) t v s f = let r : shown ps v ≡ own_from (k + 1) ps t = cc in names_fine (k + 1) ps t v r (and_right (fits count (component t k)) _ f)
names_fine k (pair ∷ ps) t v s f = let r : shown ps v ≡ own_from (k + 1) ps t = cc in names_fine (k + 1) ps t v r (and_right (fits pair (component t k)) _ f)

-- and its numbers are u64
pub number_u64 : (c : List ℕ) → number_in c < 2 ^ 64
number_u64 c = go (numeral_of c) refl
  where
    go : (x : Numeral) → numeral_of c ≡ x → value_of x < 2 ^ 64
    go (Ok n) e = numeral-fits c n e
    go (Err fault) e = omega arith

name-keeps : (n : Name) (p : Place) (v : Carried Place) → ((set_name n p v).a ≡ v.a) × ((set_name n p v).b ≡ v.b)
name-keeps client p v = (refl, refl)
name-keeps connection p v = (refl, refl)
name-keeps port p v = (refl, refl)
name-keeps channel p v = (refl, refl)
name-keeps upgrade p v = (refl, refl)

carried_u64 : (k : ℕ) (ps : List Part) (t : List ℕ) → ((carried_from k ps t).a < 2 ^ 64) × ((carried_from k ps t).b < 2 ^ 64)
carried_u64 k [] t = (omega arith, omega arith)
carried_u64 k (word w ∷ ps) t = carried_u64 (k + 1) ps t
carried_u64 k (name n ∷ ps) t = let s = name-keeps n (place_at t k) (carried_from (k + 1) ps t) in rw (s.0, s.1) (carried_u64 (k + 1) ps t)
carried_u64 k (count ∷ ps) t = (number_u64 (component t k), (carried_u64 (k + 1) ps t).1)
carried_u64 k (pair ∷ ps) t = (number_u64 (get_or (cut_at 45 (component t k)) 0 []), number_u64 (get_or (cut_at 45 (component t k)) 1 []))

-- ---- read, rendered and read again
module _ {e : Kind} (m : Has kinds e) (t : List ℕ) (f : fits_kind e t ≡ true) (l : length t ≤ 4096) where
  abbrev found : Path
  found = e.make (carried_from 0 e.parts t)

  abbrev said : Carried (List ℕ)
  said = texts_of t (carried_of found)

  found-valid : Valid (kind_of found) said
  unfolding fits_kind render_path
  found-valid = record {
    least = (made_range m (carried_from 0 e.parts t)).0;
    most = (made_range m (carried_from 0 e.parts t)).1;
    names = rw (made-parts m (carried_from 0 e.parts t), made-carried m t) (names_fine 0 e.parts t (texts_of t (carried_from 0 e.parts t)) (shown-made m t) (and_right (eqb (component_count t) (length e.parts)) _ f));
    a = rw (made-carried m t) (carried_u64 0 e.parts t).0;
    b = rw (made-carried m t) (carried_u64 0 e.parts t).1;
    size = omega (arith, rendering-not-longer (record { kind = e; listed = m; fitting = f; made = refl }));
  }

module _ (t : List ℕ) (p : Path) (e : Bool) (h : read_path t ≡ Read p e) where
  -- what is read is valid
  pub read-valid : Valid (kind_of p) (texts_of t (carried_of p))
  read-valid = let r = read_reads t p e h in rw r.made (found-valid r.listed t r.fitting (read_short t p e h))

  -- and its rendering reads as the same path, exact
  pub read_again : ReadsAs (render_path t p) (kind_of p) (texts_of t (carried_of p))
  read_again = path-back t p read-valid

-- ---- a text reads as one path, and renders as it
pub reads_as-renders : {t : List ℕ} {k : ℕ} {v : Carried (List ℕ)} (r : ReadsAs t k v) → render (parts_of k) v ≡ t
unfolding render_path
reads_as-renders {t} r = rw (← r.kind, ← r.carried) (exact-renders t r.path r.read)

pub reads_as-one : {t : List ℕ} {j k : ℕ} {v w : Carried (List ℕ)} → ReadsAs t j v → ReadsAs t k w → (j ≡ k) × (v ≡ w)
reads_as-one {t} r s =
    let e = (read-same r.path s.path true true (sym r.read ∙ s.read)).0 in
    (sym r.kind ∙ ap kind_of e ∙ s.kind, sym r.carried ∙ ap (λ (x : Path). texts_of t (carried_of x)) e ∙ s.carried)

-- valid paths with one rendering are one path
pub render-one : (j k : ℕ) (v w : Carried (List ℕ)) → Valid j v → Valid k w → render (parts_of j) v ≡ render (parts_of k) w → (j ≡ k) × (only (parts_of j) v ≡ only (parts_of k) w)
render-one j k v w x y e = reads_as-one (rendered-back j v x) (rw e (rendered-back k w y))

-- texts that read and have one rendering are the same path
pub same-path : (t u : List ℕ) (p q : Path) (e f : Bool) → read_path t ≡ Read p e → read_path u ≡ Read q f → render_path t p ≡ render_path u q
    → (kind_of p ≡ kind_of q) × (texts_of t (carried_of p) ≡ texts_of u (carried_of q))
same-path t u p q e f h k r = reads_as-one (read_again t p e h) (rw r (read_again u q f k))

-- ---- the answers
-- a key is the rendering of what its text reads as
pub key-read : (t w : List ℕ) → key_of t ≡ text w → (p : Path) × (e : Bool) × (read_path t ≡ Read p e) × (w ≡ render_path t p)
unfolding key_of
key-read t w h = go (read_path t) refl h
  where
    go : (x : Reading) → read_path t ≡ x → key_by t x ≡ text w → (p : Path) × (e : Bool) × (read_path t ≡ Read p e) × (w ≡ render_path t p)
    go (Ok found) r k = let z : w ≡ render_path t found.path = cc in (found.path, found.exact, r, z)
    go (Err n) r k = let z : ◌≡◌ {A = ℕ} 0 1 = cc in absurd (omega arith)

-- it reads exact, and is its own key
pub key-exact : (t w : List ℕ) → key_of t ≡ text w → (q : Path) × (read_path w ≡ Read q true) × (key_of w ≡ text w)
unfolding key_of
key-exact t w h = let k = key-read t w h in rw k.3 (go (read_again t k.0 k.1 k.2))
  where
    go : {u : List ℕ} {k : ℕ} {v : Carried (List ℕ)} → ReadsAs u k v → (q : Path) × (read_path u ≡ Read q true) × (key_by u (read_path u) ≡ text u)
    go {u} r = (r.path, r.read, rw (r.read, exact-renders u r.path r.read))

-- rendering by kind and parts accepts what is valid, and nothing else
pub valid-rendered : (k : ℕ) (v : Carried (List ℕ)) → Valid k v → render_of k v ≡ text (render (parts_of k) v)
unfolding render_of
valid-rendered k v ok = rw (le-leb 1 k ok.least, le-leb k 19 ok.most, ok.names, le-leb (length (render (parts_of k) v)) 4096 ok.size)

abbrev render_fault : ℕ → Carried (List ℕ) → ℕ
render_fault k v = first (names_fault (parts_of k) v) (unless 1 (leb (length (render (parts_of k) v)) 4096))

abbrev accepted_of : ℕ → Carried (List ℕ) → Wanted
accepted_of k v = accepted (render_fault k v) (render (parts_of k) v)

module _ (k : ℕ) (v : Carried (List ℕ)) where
  pub rendered-valid : (w : List ℕ) → v.a < 2 ^ 64 → v.b < 2 ^ 64 → render_of k v ≡ text w → Valid k v × (w ≡ render (parts_of k) v)
  unfolding render_of
  rendered-valid w a b h = go (leb 1 k && leb k 19) refl (eqb (render_fault k v) 0) refl h
    where
      go : (x : Bool) → (leb 1 k && leb k 19) ≡ x → (y : Bool) → eqb (render_fault k v) 0 ≡ y → cond x (cond y (text (render (parts_of k) v)) (refused (render_fault k v))) (refused 14) ≡ text w → Valid k v × (w ≡ render (parts_of k) v)
      go true e true f g =
          let z = first-zero (names_fault (parts_of k) v) _ (eqb-true (render_fault k v) 0 f) in
          let r : w ≡ render (parts_of k) v = cc in (
            record {
              least = leb-true 1 k (and_left (leb 1 k) (leb k 19) e);
              most = leb-true k 19 (and_right (leb 1 k) (leb k 19) e);
              names = z.0;
              a = a;
              b = b;
              size = leb-true _ 4096 (unless-zero 1 _ (omega arith) z.1);
            },
            r,
          )
      go true e false f g = let z : ◌≡◌ {A = ℕ} 0 1 = cc in absurd (omega arith)
      go false e y f g = let z : ◌≡◌ {A = ℕ} 0 1 = cc in absurd (omega arith)

  -- what is rendered is read back
  pub render-read : (w : List ℕ) → v.a < 2 ^ 64 → v.b < 2 ^ 64 → render_of k v ≡ text w → ReadsAs w k (only (parts_of k) v)
  render-read w a b h = let r = rendered-valid w a b h in rw r.1 (rendered-back k v r.0)

  -- arguments that a kind lacks have no influence
  pub lacking : render_of k (only (parts_of k) v) ≡ render_of k v
  unfolding render_of render
  lacking = go (leb 1 k && leb k 19) refl
    where
      go : (x : Bool) → (leb 1 k && leb k 19) ≡ x → cond x (accepted_of k (only (parts_of k) v)) (refused 14) ≡ cond x (accepted_of k v) (refused 14)
      go true e =
          let l = leb-true 1 k (and_left (leb 1 k) (leb k 19) e) in
          let h = leb-true k 19 (and_right (leb 1 k) (leb k 19) e) in
          let m = kind-has k l h in
          rw (
            kind-parts k l h,
            has_both (λ x. names_fault x.parts (only x.parts v)) (λ x. names_fault x.parts v) m (names-all v),
            has_both (λ x. shown x.parts (only x.parts v)) (λ x. shown x.parts v) m (only-all v),
          )
      go false e = refl
