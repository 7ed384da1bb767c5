-- Owners in a book: what the header says of them, whose the slots are, and that no owner is above its quota.
-- Assumes nothing.
use Rattle.std.specs.Prelude.{◌≡◌, Bool, true, false, cond, ◌||◌, eqb, length, take, drop, get_or}
use Rattle.std.proofs.Math.Path.{refl}
use Rattle.std.proofs.Common.{sym, ap, ◌∙◌, take-append-drop, drop-cons, take-add, eqb-true, ne_eqb}
use mathlib.Core.List.{List, [], ◌∷◌, ◌++◌}
use Rattle.std.proofs.Math.Option.{some}
use Prim.Native.Nat.{ℕ, zero, suc, ◌+◌, ◌*◌, ◌-◌, ◌/◌, ◌%◌, ◌<◌, ◌≤◌}
use Rattle.std.proofs.Math.Decide.{dec_lt, ℕ_discrete}
use native.Mathlib.Omega.{arith}
use Rattle.std.proofs.Math.ListN.{get_elem?}
use Rattle.text.specs.Number.{Bytes}
use Rattle.text.specs.Order.{Before}
use Rattle.text.specs.OrderLaws.{cmp-cons_gt}
use Rattle.text.specs.PlaceLaws.{at_lt}
use Rattle.book_records.specs.Records.{Key}
use Rattle.book_records.specs.Act.{Rec, count_by}
use Rattle.book_records.specs.Calls.{is_owner, owner_of, Owned}
use Rattle.book_form.specs.declared.Quotas.{Quotas}
use Rattle.book_form.specs.declared.Version.{Version}
use Rattle.book_form.specs.declared.Version.TheVariants.{One, Two, Three}
use Rattle.book_form.specs.Form.{Form, layout, key_at}
use Rattle.book_form.specs.Counted.{stored}
use Rattle.book_form.specs.Version.{owners_of, form_of, header, quota_bytes, quotas_in, V3}
use Rattle.book_form.specs.VersionLaws.{version_lawful, header-rest, owned-key}
use Rattle.book_form.specs.Tells.{Tells}
use Rattle.book.specs.Book.{Book, Counts, FullIs}
use Rattle.book.specs.BookLaws.{key_is, one-book}
use Rattle.book.specs.Check.{Frame, SlotsGood, Rising, Parted, Shares}
use Rattle.book.specs.CheckLaws.{WithinBy, records_are}

-- ---- the two owners
first : (o : ℕ) → is_owner o ≡ true → o < 2 → o ≡ 1
first o h l = go (eqb o 1) refl (eqb o 2) refl h
  where
    go : (x : Bool) → eqb o 1 ≡ x → (y : Bool) → eqb o 2 ≡ y → (x || y) ≡ true → o ≡ 1
    go true p y q z = eqb-true o 1 p
    go false p true q z = absurd (let y : ⊥ = omega (arith, eqb-true o 2 q) in y)
    go false p false q z = absurd (let y : ◌≡◌ {A = ℕ} 0 1 = cc in let x : ⊥ = omega arith in x)

second : (o : ℕ) → is_owner o ≡ true → (o ≡ 1 → ⊥) → o ≡ 2
second o h n = go (eqb o 1) refl (eqb o 2) refl h
  where
    go : (x : Bool) → eqb o 1 ≡ x → (y : Bool) → eqb o 2 ≡ y → (x || y) ≡ true → o ≡ 2
    go true p y q z = absurd (n (eqb-true o 1 p))
    go false p true q z = eqb-true o 2 q
    go false p false q z = absurd (let y : ◌≡◌ {A = ℕ} 0 1 = cc in let x : ⊥ = omega arith in x)

-- ---- what the header says
told_back : (q : Quotas) (n : ℕ) (tail : List ℕ) → quotas_in (header 3 n (quota_bytes q) ++ tail) ≡ q
unfolding header quota_bytes
told_back q n tail =
    let x : 256 * (q.one / 256) + q.one % 256 ≡ q.one = omega arith in
    let y : 256 * (q.two / 256) + q.two % 256 ≡ q.two = omega arith in
    λ i. record { one = x i; two = y i }

pub told_of : (v : Version) (e : (owners_of v).Extra) (n : ℕ) (tail : List ℕ) → (owners_of v).told ((form_of v).header e n ++ tail) ≡ e
told_of One e n tail = refl
told_of Two e n tail = refl
told_of Three e n tail = told_back e n tail

pub extra-told : (v : Version) (b : List ℕ) (n : ℕ) (c : Frame (form_of v) b n) → (owners_of v).told b ≡ c.extra
extra-told v b n c =
    ap (owners_of v).told (sym (take-append-drop (form_of v).head b) ∙ ap (λ (l : List ℕ). l ++ drop (form_of v).head b) c.front)
    ∙ told_of v c.extra n (drop (form_of v).head b)

pub book-told : (v : Version) (b : List ℕ) (x : Book (form_of v) b) → (owners_of v).told b ≡ x.extra
unfolding layout
book-told v b x = ap (owners_of v).told x.bytes ∙ told_of v x.extra (length x.records) _

-- the bytes of what it says
four : (b : List ℕ) → Bytes b → 12 ≤ length b → quota_bytes (quotas_in b) ≡ take 4 (drop 8 b)
unfolding quota_bytes
four b g h =
    let a : (256 * get_or b 8 0 + get_or b 9 0) / 256 ≡ get_or b 8 0 = omega (arith, g 9) in
    let a' : (256 * get_or b 8 0 + get_or b 9 0) % 256 ≡ get_or b 9 0 = omega (arith, g 9) in
    let c : (256 * get_or b 10 0 + get_or b 11 0) / 256 ≡ get_or b 10 0 = omega (arith, g 11) in
    let c' : (256 * get_or b 10 0 + get_or b 11 0) % 256 ≡ get_or b 11 0 = omega (arith, g 11) in
    rw (a, a', c, c', drop-cons b 8 0 (omega arith), drop-cons b 9 0 (omega arith), drop-cons b 10 0 (omega arith), drop-cons b 11 0 (omega arith)) refl

shown-told : (v : Version) (b : List ℕ) → Bytes b → (form_of v).head ≤ length b → (owners_of v).shown ((owners_of v).told b) ≡ take (owners_of v).size (drop 8 b)
shown-told One b g h = refl
shown-told Two b g h = refl
shown-told Three b g h = four b g h

-- the header, by its first eight bytes
pub front-told : (v : Version) (b : List ℕ) (m n : ℕ) → Bytes b → (form_of v).head ≤ length b → take 8 b ≡ header m n [] → take (form_of v).head b ≡ header m n ((owners_of v).shown ((owners_of v).told b))
front-told v b m n g h e =
    take-add 8 (owners_of v).size b
    ∙ ap (λ (l : List ℕ). l ++ take (owners_of v).size (drop 8 b)) e
    ∙ ap (λ (l : List ℕ). header m n [] ++ l) (sym (shown-told v b g h))
    ∙ header-rest m n ((owners_of v).shown ((owners_of v).told b))

-- ---- counts, by positions
module _ (owner : Key → ℕ) where
  abbrev Ones : List Rec → ℕ → Type 0
  Ones s m = (i : ℕ) (r : Rec) → i < m → get_elem? s i ≡ some r → owner r.0 ≡ 1

  abbrev Twos : List Rec → ℕ → Type 0
  Twos s m = (i : ℕ) (r : Rec) → m ≤ i → get_elem? s i ≡ some r → owner r.0 ≡ 2

  two-more : (x y : Bool) (n : ℕ) → cond y 1 0 + (cond x 0 0 + cond y (n - 0) 0) ≡ cond x 0 0 + cond y (suc n - 0) 0
  two-more true true n = omega arith
  two-more true false n = omega arith
  two-more false true n = omega arith
  two-more false false n = omega arith

  one_more : (x y : Bool) (m n : ℕ) → cond x 1 0 + (cond x m 0 + cond y (n - m) 0) ≡ cond x (suc m) 0 + cond y (suc n - suc m) 0
  one_more true true m n = omega arith
  one_more true false m n = omega arith
  one_more false true m n = omega arith
  one_more false false m n = omega arith

  nobody : (x y : Bool) → 0 ≡ cond x 0 0 + cond y 0 0
  nobody true true = refl
  nobody true false = refl
  nobody false true = refl
  nobody false false = refl

  counts_are : (s : List Rec) (m : ℕ) → m ≤ length s → Ones s m → Twos s m → (o : ℕ) → count_by owner o s ≡ cond (eqb 1 o) m 0 + cond (eqb 2 o) (length s - m) 0
  unfolding count_by
  counts_are [] zero h ones twos o = nobody (eqb 1 o) (eqb 2 o)
  counts_are [] (suc m) h ones twos o = absurd (let z : ⊥ = omega arith in z)
  counts_are (r ∷ s) zero h ones twos o =
      let e : owner r.0 ≡ 2 = twos 0 r (omega arith) refl in
      let more = counts_are s 0 (omega arith) (λ i q l. absurd (let z : ⊥ = omega arith in z)) (λ i q l f. twos (suc i) q (omega arith) f) o in
      rw (e, more) (two-more (eqb 1 o) (eqb 2 o) (length s))
  counts_are (r ∷ s) (suc m) h ones twos o =
      let e : owner r.0 ≡ 1 = ones 0 r (omega arith) refl in
      let more = counts_are s m (omega arith) (λ i q l f. ones (suc i) q (omega arith) f) (λ i q l f. twos (suc i) q (omega arith) f) o in
      rw (e, more) (one_more (eqb 1 o) (eqb 2 o) m (length s))

-- records that have the keys of n slots, of which the first m are owner 1's
module _ (F : Form) (b : List ℕ) (n m : ℕ) (p : Parted F b n m) (s : List Rec) (len : length s ≡ n) (here : (i : ℕ) (r : Rec) → get_elem? s i ≡ some r → key_at F b i ≡ r.0) where
  count-is : (o : ℕ) → count_by F.owner o s ≡ cond (eqb 1 o) m 0 + cond (eqb 2 o) (length s - m) 0
  count-is o =
      counts_are F.owner s m (omega (arith, p.few, len)) (λ i r l e. rw (here i r e) at (p.ones i l)) (λ i r l e. rw (here i r e) at (p.twos i l (omega (arith, at_lt s i r e, len)))) o

  pub count-one : count_by F.owner 1 s ≡ m
  count-one = count-is 1 ∙ omega arith

  pub count-two : count_by F.owner 2 s ≡ n - m
  count-two = count-is 2 ∙ omega (arith, len)

  count-other : (o : ℕ) → (o ≡ 1 → ⊥) → (o ≡ 2 → ⊥) → count_by F.owner o s ≡ 0
  count-other o x y = count-is o ∙ rw (ne_eqb 1 o (λ e. x (sym e)), ne_eqb 2 o (λ e. y (sym e))) refl

  -- within quotas that have a value for each of the two owners, and 0 for all others
  quotas_hold : (quota : ℕ → ℕ) → m ≤ quota 1 → n - m ≤ quota 2 → (o : ℕ) → count_by F.owner o s ≤ quota o
  quotas_hold quota x y o = go (ℕ_discrete o 1) (ℕ_discrete o 2)
    where
      go : Dec (o ≡ 1) → Dec (o ≡ 2) → count_by F.owner o s ≤ quota o
      go (yes e) d = rw e (omega (arith, count-one))
      go (no w) (yes e) = rw e (omega (arith, count-two))
      go (no w) (no z) = omega (arith, count-other o w z)

-- ---- a checked book is within its quotas, and a book is so
clash : ◌≡◌ {A = ℕ} 1 2 → ⊥
clash e = omega arith

-- before version 3 all slots are owner 1's
all_one : (n m : ℕ) → m ≤ n → ((i : ℕ) → m ≤ i → i < n → ◌≡◌ {A = ℕ} 1 2) → n - m ≡ 0
all_one n m l h = go (dec_lt m n)
  where
    go : Dec (m < n) → n - m ≡ 0
    go (yes q) = absurd (clash (h m (omega arith) q))
    go (no q) = omega arith

pub within_shares : (v : Version) (b : List ℕ) (n m : ℕ) (c : Frame (form_of v) b n) → Parted (form_of v) b n m → Shares v b n m → WithinBy (form_of v) b n c
within_shares One b n m c p h s len here = quotas_hold (form_of One) b n m p s len here ((form_of One).quota c.extra c.room) (omega (arith, p.few, c.few)) (omega (arith, all_one n m p.few p.twos))
within_shares Two b n m c p h s len here = quotas_hold (form_of Two) b n m p s len here ((form_of Two).quota c.extra c.room) (omega (arith, p.few, c.few)) (omega (arith, all_one n m p.few p.twos))
within_shares Three b n m c p h s len here =
    let e = extra-told Three b n c in
    let x : m ≤ c.extra.one = omega (arith, h.one, ap (λ (q : Quotas). q.one) e) in
    let y : n ≤ m + c.extra.two = omega (arith, h.two, ap (λ (q : Quotas). q.two) e) in
    quotas_hold V3 b n m p s len here (V3.quota c.extra c.room) x (omega arith)

book_shares : (v : Version) (b : List ℕ) (n m : ℕ) (x : Book (form_of v) b) → length x.records ≡ n → Parted (form_of v) b n m → Shares v b n m
book_shares One b n m x len p = tt
book_shares Two b n m x len p = tt
book_shares Three b n m x len p =
    let e = book-told Three b x in
    let here = key_is V3 (version_lawful Three) b x in
    record {
      one = omega (arith, ap (λ (q : Quotas). q.one) e, count-one V3 b n m p x.records len here, x.within 1);
      two = omega (arith, ap (λ (q : Quotas). q.two) e, count-two V3 b n m p x.records len here, x.within 2, p.few);
    }

pub no_shares : (v : Version) (b : List ℕ) (n m : ℕ) → Frame (form_of v) b n → Parted (form_of v) b n m → (r : Bool) → Tells r (Shares v b n m) → r ≡ false → Book (form_of v) b → ⊥
no_shares v b n m c p r t e x = t.fails e (book_shares v b n m x (records_are (form_of v) (version_lawful v) b n c x) p)

-- whether an owner has reached its quota
module _ (b : List ℕ) (n m o : ℕ) (h : Counts V3 b n) (p : Parted V3 b n m) where
  len_of : (x : Book V3 b) → length x.records ≡ n
  len_of x = ap length (one-book V3 (version_lawful Three) b x h.0).2 ∙ h.1

  pub full-one : o ≡ 1 → (r : Bool) → r ≡ eqb m (quotas_in b).one → FullIs b o r
  full-one e r w x =
      w
      ∙ ap (λ (q : Quotas). eqb m q.one) (book-told Three b x)
      ∙ ap (λ (k : ℕ). eqb k x.extra.one) (sym (count-one V3 b n m p x.records (len_of x) (key_is V3 (version_lawful Three) b x)))
      ∙ rw e refl

  pub full-two : is_owner o ≡ true → (o ≡ 1 → ⊥) → (r : Bool) → r ≡ eqb (n - m) (quotas_in b).two → FullIs b o r
  full-two k z r w x =
      let e : o ≡ 2 = second o k z in
      w
      ∙ ap (λ (q : Quotas). eqb (n - m) q.two) (book-told Three b x)
      ∙ ap (λ (k : ℕ). eqb k x.extra.two) (sym (count-two V3 b n m p x.records (len_of x) (key_is V3 (version_lawful Three) b x)))
      ∙ rw e refl

-- ---- the search for the first slot of owner 2
-- the byte ahead of slot i
abbrev whose : List ℕ → ℕ → ℕ
whose b i = get_or b (12 + 322 * i) 0

-- what comes before lo is owner 1's, what comes from hi on is not
pub record Halved (b : List ℕ) (n lo hi : ℕ) : Type 0 where
  pub order : lo ≤ hi
  pub within : hi ≤ n
  pub size : 12 + 322 * n ≤ length b
  pub below : (j : ℕ) → j < lo → whose b j < 2
  pub rest : (j : ℕ) → hi ≤ j → j < n → 2 ≤ whose b j

before-owner : (o p : ℕ) (s t : List ℕ) → Before (o ∷ s) (p ∷ t) → o ≤ p
before-owner o p s t h = go (dec_lt p o)
  where
    go : Dec (p < o) → o ≤ p
    go (no q) = omega arith
    go (yes q) = absurd (let e = cmp-cons_gt o p s t q in let z : ◌≡◌ {A = ℕ} 0 1 = cc in let y : ⊥ = omega arith in y)

module _ (b : List ℕ) (n : ℕ) (room : 12 + 322 * n ≤ length b) (good : SlotsGood V3 b n) (order : Rising V3 b n) where
  key_here : (i : ℕ) → i < n → key_at V3 b i ≡ whose b i ∷ stored b (12 + 322 * i + 1)
  key_here i l = owned-key b (12 + 322 * i) (omega arith)

  known-here : (i : ℕ) → i < n → is_owner (whose b i) ≡ true
  known-here i l = let h : Owned (whose b i ∷ stored b (12 + 322 * i + 1)) = rw (key_here i l) at (good i l).exact in h.0

  owner_here : (i : ℕ) → i < n → owner_of (key_at V3 b i) ≡ whose b i
  owner_here i l = ap owner_of (key_here i l)

  same_place : (i j : ℕ) → i ≡ j → whose b i ≡ whose b j
  same_place i j e = ap (whose b) e

  next_up : (i : ℕ) → i + 1 < n → whose b i ≤ whose b (i + 1)
  next_up i l = before-owner _ _ _ _ (rw (key_here i (omega arith), key_here (i + 1) l) at (order i l))

  goes_up : (d i : ℕ) → i + d < n → whose b i ≤ whose b (i + d)
  goes_up zero i l = omega (arith, same_place (i + 0) i (omega arith))
  goes_up (suc d) i l = omega (arith, goes_up d i (omega arith), next_up (i + d) (omega arith), same_place (i + suc d) (i + d + 1) (omega arith))

  up : (i j : ℕ) → i ≤ j → j < n → whose b i ≤ whose b j
  up i j l h = omega (arith, goes_up (j - i) i (omega arith), same_place (i + (j - i)) j (omega arith))

  pub halved-start : Halved b n 0 n
  halved-start =
      record { order = omega arith; within = omega arith; size = room; below = λ j l. absurd (let z : ⊥ = omega arith in z); rest = λ j l k. absurd (let z : ⊥ = omega arith in z) }

  module _ (lo hi mid : ℕ) (g : Halved b n lo hi) (lm : lo ≤ mid) (mh : mid < hi) where
    pub halved_up : whose b mid < 2 → Halved b n (mid + 1) hi
    halved_up h =
        record { order = omega arith; within = g.within; size = room; below = λ j l. omega (arith, up j mid (omega arith) (omega (arith, g.within))); rest = g.rest }

    pub halved_down : 2 ≤ whose b mid → Halved b n lo mid
    halved_down h =
        record { order = lm; within = omega (arith, g.within); size = room; below = g.below; rest = λ j l k. omega (arith, up mid j l k) }

  pub halved-end : (lo hi : ℕ) → Halved b n lo hi → hi ≤ lo → Parted V3 b n lo
  halved-end lo hi g l =
      record {
        few = omega (arith, g.order, g.within);
        ones = λ i k. owner_here i (omega (arith, g.order, g.within)) ∙ first (whose b i) (known-here i (omega (arith, g.order, g.within))) (g.below i k);
        twos = λ i k j. owner_here i j ∙ second (whose b i) (known-here i j) (λ e. omega (arith, g.rest i (omega arith) j));
      }
