-- The picture of a rendering is the rendering of the pictures, so that a wide path is read back as a plain one is.
-- Assumes nothing.
use Rattle.std.specs.Prelude.{ℕ, ◌+◌, ◌<◌, ◌^◌, ◌≡◌, Bool, false, not, ◌&&◌, eqb, ltb, length, drop, get_or}
use Rattle.std.proofs.Math.Path.{refl, ap}
use Rattle.std.proofs.Common.{sym, ◌∙◌, arith}
use Rattle.std.proofs.Math.Bool.{true}
use mathlib.Core.List.{List, [], ◌∷◌, ◌++◌, map}
use borrow.Author.Tests.{lt-ltb, le-ltb, le-leb, ne_eqb}
use Rattle.text.specs.Number.{decimal}
use Rattle.text.specs.NumberLaws.{Digit, read-decimal}
use Rattle.text.specs.Part.{every, ascii}
use Rattle.text.specs.PartLaws.{and_left, and_right}
use Rattle.text.specs.Put.{text}
use Rattle.identifiers.specs.Check.{unless, Rule, check_of}
use Rattle.identifiers.specs.Check as check
use Rattle.identifiers.specs.CheckLaws.{first-zero, unless-zero, accepted-no_slash}
use Rattle.path.specs.declared.Path.{Path}
use Rattle.path.specs.Reading.{Read}
use Rattle.path.specs.declared.name.Name.{Name}
use Rattle.path.specs.declared.name.Name.TheVariants.{Client as client, Connection as connection, Port as port, Channel as channel, Upgrade as upgrade}
use Rattle.path.specs.Kinds.{Part, word, name, count, pair, Carried, carried, name_in, set_name, kinds}
use Rattle.path.specs.Text.{components, component, cut_at, join_by, join, places_from, places, place_at}
use Rattle.path.specs.TextLaws.{part-component, without, all_without, join-cut, cut-join, every_append, every-all}
use Rattle.path.specs.Read.{name_fault, names_fault, adds, carried_from, show, shown, render, parts_of, texts_of, render_path, read_path}
use Rattle.path.specs.View.{kind_of, carried_of}
use Rattle.path.specs.Valid.{Valid, set_count, set_pair, only, ReadsAs}
use Rattle.path.specs.Reads.{Reads}
use Rattle.path.specs.ReadLaws.{has_both, kind-has, kind-parts, made-parts, made-carried}
use Rattle.path.specs.ExactLaws.{name_set}
use Rattle.path.specs.BackLaws.{decimal-every, drop-step, texts-name, rendered-back, rendered-cut, read_reads, read-valid, exact-renders}
use Rattle.letters.specs.Character.{utf8}
use Rattle.letters.specs.CharacterLaws.{ascii-utf8}
use Rattle.letters.specs.Narrow.{narrow}
use Rattle.letters.specs.NarrowLaws.{ascii-narrow, length-narrow, as_letter, as_blank, as_other, Alike, none, same, other, alike}
use Rattle.wide.specs.Mode.{wide}
use Rattle.wide.specs.Read.{read_in}
use Rattle.wide.specs.Render.{name_fault_in, names_fault_in, render_in}
use Rattle.demands.specs.WideWritten.{WideValid, WideReadsAs}
use Rattle.demands.specs.WideAlikeLaws.{high-apart, marks-apart, alike-without, name_picture, Alikes, nil, cons, alike-cut, narrow-join, places-narrow, all_taken, utf8-join}
use Rattle.demands.specs.WideLaws.{accepts}

-- ---- an accepted identifier: it is UTF-8, its picture is accepted, and it has no slash
name-taken : (n : Name) (c : List ℕ) → name_fault_in wide n c ≡ 0 → utf8 c ≡ true
unfolding wide name_fault_in
name-taken client c h = ((accepts check.client c).0 h).taken
name-taken connection c h = ((accepts check.connection c).0 h).taken
name-taken port c h = ((accepts check.port c).0 h).taken
name-taken channel c h = ((accepts check.channel c).0 h).taken
name-taken upgrade c h = unless-zero 21 (utf8 c) (omega arith) (first-zero (unless 21 (utf8 c)) (unless 13 (without 47 c)) h).0

checked-whole : (r : Rule) (c : List ℕ) → check_of r c ≡ 0 → without 47 c ≡ true
checked-whole r c h = every-all (λ b. not (eqb b 47)) c (λ i l. rw (ne_eqb (get_or c i 0) 47 (accepted-no_slash r c h i l)))

name-whole : (n : Name) (c : List ℕ) → name_fault n c ≡ 0 → without 47 c ≡ true
unfolding name_fault
name-whole client c h = checked-whole check.client c h
name-whole connection c h = checked-whole check.connection c h
name-whole port c h = checked-whole check.port c h
name-whole channel c h = checked-whole check.channel c h
name-whole upgrade c h = unless-zero 13 (without 47 c) (omega arith) (first-zero (unless 2 (ascii c)) (unless 13 (without 47 c)) h).1

record Accepted (n : Name) (c : List ℕ) : Type 0 where
  taken : utf8 c ≡ true
  whole : without 47 c ≡ true
  pictured_fine : name_fault n (narrow c) ≡ 0

name-accepted : (n : Name) (c : List ℕ) → name_fault_in wide n c ≡ 0 → Accepted n c
name-accepted n c h =
    let u = name-taken n c h in
    let f = sym (name_picture n c u) ∙ h in
    record { taken = u; whole = alike-without 47 refl (alike c) ∙ name-whole n (narrow c) f; pictured_fine = f }

-- ---- digits
digit_low : (b : ℕ) → Digit b → ltb b 128 ≡ true
digit_low b d = lt-ltb b 128 (omega arith)

digit-no : (x : ℕ) → x < 48 → (b : ℕ) → Digit b → not (eqb b x) ≡ true
digit-no x l b d = rw (ne_eqb b x (λ e. omega arith))

count_low : (n : ℕ) → ascii (decimal n) ≡ true
unfolding ascii
count_low n = decimal-every (λ b. ltb b 128) digit_low n

pair-low : (m n : ℕ) → ascii (decimal m ++ (45 ∷ decimal n)) ≡ true
unfolding ascii every
pair-low m n = every_append (λ b. ltb b 128) (decimal m) (45 ∷ decimal n) (decimal-every (λ b. ltb b 128) digit_low m) (decimal-every (λ b. ltb b 128) digit_low n)

pair-whole : (m n : ℕ) → without 47 (decimal m ++ (45 ∷ decimal n)) ≡ true
unfolding every
pair-whole m n = every_append (λ b. not (eqb b 47)) (decimal m) (45 ∷ decimal n) (decimal-every (λ b. not (eqb b 47)) (digit-no 47 (omega arith)) m) (decimal-every (λ b. not (eqb b 47)) (digit-no 47 (omega arith)) n)

pair-back : (m n : ℕ) → cut_at 45 (decimal m ++ (45 ∷ decimal n)) ≡ decimal m ∷ decimal n ∷ []
unfolding join_by
pair-back m n = cut-join 45 (decimal m) (decimal n ∷ []) (rw (decimal-every _ (digit-no 45 (omega arith)) m, decimal-every _ (digit-no 45 (omega arith)) n))

-- ---- words, computed over the table: ASCII, and no slash
abbrev words_fine : List Part → Bool
words_fine [] = true
words_fine (word w ∷ ps) = (ascii w && without 47 w) && words_fine ps
words_fine (name n ∷ ps) = words_fine ps
words_fine (count ∷ ps) = words_fine ps
words_fine (pair ∷ ps) = words_fine ps

abbrev sound : List Part → Bool
sound [] = false
sound (p ∷ ps) = words_fine (p ∷ ps)

sound-all : map (λ e. sound e.parts) kinds ≡ map (λ e. true) kinds
unfolding ascii every kinds
sound-all = refl

-- ---- what is shown of a path, and of its pictures
abbrev pub pictured : Carried (List ℕ) → Carried (List ℕ)
pictured v = carried (narrow v.first) (narrow v.second) v.a v.b

name-pictured : (n : Name) (v : Carried (List ℕ)) → narrow (name_in n v) ≡ name_in n (pictured v)
name-pictured client v = refl
name-pictured connection v = refl
name-pictured port v = refl
name-pictured channel v = refl
name-pictured upgrade v = refl

record Shown (ps : List Part) (v : Carried (List ℕ)) : Type 0 where
  taken : all_taken (shown ps v) ≡ true
  whole : all_without 47 (shown ps v) ≡ true
  seen : map narrow (shown ps v) ≡ shown ps (pictured v)
  fine : names_fault ps (pictured v) ≡ 0

shown-pictured : (ps : List Part) (v : Carried (List ℕ)) → words_fine ps ≡ true → names_fault_in wide ps v ≡ 0 → Shown ps v
unfolding show names_fault names_fault_in
shown-pictured [] v w h = record { taken = refl; whole = refl; seen = refl; fine = refl }
shown-pictured (word x ∷ ps) v w h =
    let l = and_left (ascii x) (without 47 x) (and_left _ (words_fine ps) w) in
    let s = shown-pictured ps v (and_right (ascii x && without 47 x) (words_fine ps) w) h in
    record { taken = rw (ascii-utf8 x l, s.taken); whole = rw (and_right (ascii x) (without 47 x) (and_left _ (words_fine ps) w), s.whole); seen = rw (ascii-narrow x l, s.seen); fine = s.fine }
shown-pictured (name n ∷ ps) v w h =
    let p = first-zero (name_fault_in wide n (name_in n v)) (names_fault_in wide ps v) h in
    let a = name-accepted n (name_in n v) p.0 in
    let s = shown-pictured ps v w p.1 in
    let f : name_fault n (name_in n (pictured v)) ≡ 0 = rw (name-pictured n v) at a.pictured_fine in
    record { taken = rw (a.taken, s.taken); whole = rw (a.whole, s.whole); seen = rw (name-pictured n v, s.seen); fine = rw (f, s.fine) }
shown-pictured (count ∷ ps) v w h =
    let s = shown-pictured ps v w h in
    let l = count_low v.a in
    record { taken = rw (ascii-utf8 (decimal v.a) l, s.taken); whole = rw (decimal-every (λ b. not (eqb b 47)) (digit-no 47 (omega arith)) v.a, s.whole); seen = rw (ascii-narrow (decimal v.a) l, s.seen); fine = s.fine }
shown-pictured (pair ∷ ps) v w h =
    let s = shown-pictured ps v w h in
    let l = pair-low v.a v.b in
    record { taken = rw (ascii-utf8 (decimal v.a ++ (45 ∷ decimal v.b)) l, s.taken); whole = rw (pair-whole v.a v.b, s.whole); seen = rw (ascii-narrow (decimal v.a ++ (45 ∷ decimal v.b)) l, s.seen); fine = s.fine }

-- ---- cut
cut-shown : (ps : List Part) (v : Carried (List ℕ)) → sound ps ≡ true → all_without 47 (shown ps v) ≡ true → components (join (shown ps v)) ≡ shown ps v
cut-shown [] v s h = let z : ◌≡◌ {A = ℕ} 0 1 = cc in absurd (omega arith)
cut-shown (p ∷ ps) v s h = cut-join 47 (show p v) (shown ps v) h

-- ---- the identifiers of the text where the picture's stand
module _ (t s : List ℕ) (alongside : places s ≡ places t) (v : Carried (List ℕ)) (a : v.a < 2 ^ 64) (b : v.b < 2 ^ 64) where
  texts-back : (k : ℕ) (ps : List Part) → drop k (components t) ≡ shown ps v → drop k (components s) ≡ shown ps (pictured v) → texts_of t (carried_from k ps s) ≡ only ps v
  unfolding show
  texts-back k [] h g = refl
  texts-back k (p ∷ ps) h g =
      let x = drop-step (components t) k (show p v) (shown ps v) h in
      let y = drop-step (components s) k (show p (pictured v)) (shown ps (pictured v)) g in
      go p x.0 y.0 (texts-back (k + 1) ps x.1 y.1)
    where
      go : (q : Part) → component t k ≡ show q v → component s k ≡ show q (pictured v) → texts_of t (carried_from (k + 1) ps s) ≡ only ps v → texts_of t (adds q (component s k) (place_at s k) (carried_from (k + 1) ps s)) ≡ only (q ∷ ps) v
      go (word w) e f r = r
      go (name n) e f r = rw (texts-name n t (place_at s k) (carried_from (k + 1) ps s), alongside, part-component t k, e) (ap (set_name n (name_in n v)) r)
      go count e f r = rw (f, read-decimal v.a a) (ap (set_count v.a) r)
      go pair e f r = rw (f, pair-back v.a v.b, read-decimal v.a a, read-decimal v.b b) (ap (set_pair v.a v.b) r)

-- ---- a valid path
module _ (k : ℕ) (v : Carried (List ℕ)) (valid : WideValid k v) where
  abbrev rendered : List ℕ
  rendered = render (parts_of k) v

  parts-sound : sound (parts_of k) ≡ true
  parts-sound = rw (kind-parts k valid.least valid.most) (has_both (λ e. sound e.parts) (λ e. true) (kind-has k valid.least valid.most) sound-all)

  sound_words : (ps : List Part) → sound ps ≡ true → words_fine ps ≡ true
  sound_words [] h = refl
  sound_words (p ∷ ps) h = h

  shows : Shown (parts_of k) v
  shows = shown-pictured (parts_of k) v (sound_words (parts_of k) parts-sound) valid.names

  pub rendered-utf8 : utf8 rendered ≡ true
  unfolding render
  rendered-utf8 = utf8-join (shown (parts_of k) v) ∙ shows.taken

  -- the picture of the rendering
  pub rendered-narrow : narrow rendered ≡ render (parts_of k) (pictured v)
  unfolding render
  rendered-narrow = narrow-join (shown (parts_of k) v) ∙ ap join shows.seen

  pub pictured-valid : Valid k (pictured v)
  pictured-valid =
      record { least = valid.least; most = valid.most; names = shows.fine; a = valid.a; b = valid.b; size = rw (← rendered-narrow, length-narrow rendered) valid.size }

  picture-back : ReadsAs (narrow rendered) k (only (parts_of k) (pictured v))
  picture-back = rw rendered-narrow (rendered-back k (pictured v) pictured-valid)

  cut-rendered : components rendered ≡ shown (parts_of k) v
  unfolding render
  cut-rendered = cut-shown (parts_of k) v parts-sound shows.whole

  cut-picture : components (narrow rendered) ≡ shown (parts_of k) (pictured v)
  cut-picture = rw rendered-narrow (rendered-cut k (pictured v) pictured-valid)

  -- what the reader found stands at the parts' places
  carried-is : carried_of picture-back.path ≡ carried_from 0 (parts_of k) (narrow rendered)
  carried-is =
      let x = read_reads (narrow rendered) picture-back.path true picture-back.read in
      let ps : x.kind.parts ≡ parts_of k = sym (made-parts x.listed (carried_from 0 x.kind.parts (narrow rendered))) ∙ ap (λ (p : Path). parts_of (kind_of p)) (sym x.made) ∙ ap parts_of picture-back.kind in
      ap carried_of x.made ∙ made-carried x.listed (narrow rendered) ∙ ap (λ (qs : List Part). carried_from 0 qs (narrow rendered)) ps

  pub wide_back : WideReadsAs rendered k (only (parts_of k) v)
  unfolding wide read_in
  wide_back =
      record {
        path = picture-back.path;
        read = rw (le-ltb 4096 (length rendered) valid.size, rendered-utf8, picture-back.read);
        kind = picture-back.kind;
        carried = ap (texts_of rendered) carried-is ∙ texts-back rendered (narrow rendered) (places-narrow rendered) v valid.a valid.b 0 (parts_of k) cut-rendered cut-picture;
      }

  -- and it is rendered
  pub wide-rendered : render_in wide k v ≡ text rendered
  unfolding render_in
  wide-rendered = rw (le-leb 1 k valid.least, le-leb k 19 valid.most, valid.names, le-leb (length rendered) 4096 valid.size)

-- ---- exact is that the key is the text
-- a text whose picture has none of the three marks is its picture
abbrev unmarked : ℕ → Bool
unmarked b = not (eqb b 90) && (not (eqb b 32) && not (eqb b 33))

alike_same : {c u : List ℕ} → Alike c u → every unmarked u ≡ true → c ≡ u
unfolding every
alike_same none h = refl
alike_same (same {b} l x) h = ap (λ z. b ∷ z) (alike_same x (and_right (unmarked b) _ h))
alike_same (other l as_letter x) h = let z : ◌≡◌ {A = ℕ} 0 1 = cc in absurd (omega arith)
alike_same (other l as_blank x) h = let z : ◌≡◌ {A = ℕ} 0 1 = cc in absurd (omega arith)
alike_same (other l as_other x) h = let z : ◌≡◌ {A = ℕ} 0 1 = cc in absurd (omega arith)

-- what is rendered of component k of s, with the identifiers of x
abbrev mixed : Part → ℕ → List ℕ → List ℕ → List ℕ
mixed p k x s = show p (texts_of x (adds p (component s k) (place_at s k) (carried_from 0 [] s)))

abbrev mixed_from : ℕ → List Part → List ℕ → List ℕ → List (List ℕ)
mixed_from k [] x s = []
mixed_from k (p ∷ ps) x s = mixed p k x s ∷ mixed_from (k + 1) ps x s

mixed-all : (x s : List ℕ) → map (λ e. shown e.parts (texts_of x (carried_from 0 e.parts s))) kinds ≡ map (λ e. mixed_from 0 e.parts x s) kinds
unfolding show kinds
mixed-all x s = refl

-- words have no marks
abbrev words_unmarked : List Part → Bool
words_unmarked [] = true
words_unmarked (word w ∷ ps) = every unmarked w && words_unmarked ps
words_unmarked (name n ∷ ps) = words_unmarked ps
words_unmarked (count ∷ ps) = words_unmarked ps
words_unmarked (pair ∷ ps) = words_unmarked ps

unmarked-all : map (λ e. words_unmarked e.parts) kinds ≡ map (λ e. true) kinds
unfolding every kinds
unmarked-all = refl

digit-unmarked : (b : ℕ) → Digit b → unmarked b ≡ true
digit-unmarked b d = rw (ne_eqb b 90 (λ e. omega arith), ne_eqb b 32 (λ e. omega arith), ne_eqb b 33 (λ e. omega arith))

pair-unmarked : (m n : ℕ) → every unmarked (decimal m ++ (45 ∷ decimal n)) ≡ true
unfolding every
pair-unmarked m n = every_append unmarked (decimal m) (45 ∷ decimal n) (decimal-every unmarked digit-unmarked m) (decimal-every unmarked digit-unmarked n)

module _ (t s : List ℕ) (alongside : places s ≡ places t) where
  mixed-same : (k : ℕ) (ps : List Part) (cs : List (List ℕ)) → drop k (components t) ≡ cs → words_unmarked ps ≡ true → Alikes cs (mixed_from k ps s s) → mixed_from k ps t s ≡ cs
  unfolding show
  mixed-same k [] [] d w nil = refl
  mixed-same k [] (c ∷ cs) d w x = elim x [ ]
  mixed-same k (p ∷ ps) [] d w x = elim x [ ]
  mixed-same k (p ∷ ps) (c ∷ cs) d w (cons x y) =
      let e = drop-step (components t) k c cs d in
      go p w x e.0 (λ h. mixed-same (k + 1) ps cs e.1 h y)
    where
      go : (q : Part) → words_unmarked (q ∷ ps) ≡ true → Alike c (mixed q k s s) → component t k ≡ c → (words_unmarked ps ≡ true → mixed_from (k + 1) ps t s ≡ cs) → mixed q k t s ∷ mixed_from (k + 1) ps t s ≡ c ∷ cs
      go (word z) h a e r = rw (alike_same a (and_left (every unmarked z) _ h), r (and_right (every unmarked z) (words_unmarked ps) h))
      go (name n) h a e r = rw (name_set n t (place_at s k), alongside, part-component t k, e, r h)
      go count h a e r = rw (alike_same a (decimal-every unmarked digit-unmarked _), r h)
      go pair h a e r = rw (alike_same a (pair-unmarked _ _), r h)

module _ (t : List ℕ) (p : Path) (h : read_path (narrow t) ≡ Read p true) where
  abbrev s : List ℕ
  s = narrow t

  is : Reads s p
  is = read_reads s p true h

  parts_are : parts_of (kind_of p) ≡ is.kind.parts
  parts_are = ap (λ (q : Path). parts_of (kind_of q)) is.made ∙ made-parts is.listed (carried_from 0 is.kind.parts s)

  carried_are : carried_of p ≡ carried_from 0 is.kind.parts s
  carried_are = ap carried_of is.made ∙ made-carried is.listed s

  -- its rendering, with the identifiers of x
  rendering-mixed : (x : List ℕ) → shown (parts_of (kind_of p)) (texts_of x (carried_of p)) ≡ mixed_from 0 is.kind.parts x s
  rendering-mixed x = rw (parts_are, carried_are) (has_both (λ e. shown e.parts (texts_of x (carried_from 0 e.parts s))) (λ e. mixed_from 0 e.parts x s) is.listed (mixed-all x s))

  cut-own : components s ≡ mixed_from 0 is.kind.parts s s
  unfolding render_path
  cut-own = ap components (sym (exact-renders s p h)) ∙ rendered-cut (kind_of p) (texts_of s (carried_of p)) (read-valid s p true h) ∙ rendering-mixed s

  pub exact-renders-wide : render_path t p ≡ t
  unfolding render_path render
  exact-renders-wide =
      let a : Alikes (components t) (mixed_from 0 is.kind.parts s s) = rw cut-own at (alike-cut 47 refl (alike t)) in
      let w = has_both (λ e. words_unmarked e.parts) (λ e. true) is.listed unmarked-all in
      ap join (rendering-mixed t ∙ mixed-same t s (places-narrow t) 0 is.kind.parts (components t) refl w a) ∙ join-cut 47 t
