-- What the ways through the calls on a table come to.
-- Assumes nothing.
use Rattle.std.specs.Prelude.{◌≡◌, ℕ, zero, suc, ◌+◌, ◌*◌, ◌/◌, ◌<◌, ◌≤◌, Bool, true, false, List, [], ◌∷◌, ◌++◌, map, length, get_or, drop, slice_index_or, slice_range, Option, None}
use Rattle.std.proofs.Math.Path.{refl, sym, ap, ap₂}
use Rattle.std.proofs.Common.{◌∙◌, arith}
use mathlib.Core.List.{append_assoc, append-nil}
use Rattle.std.proofs.Math.Option.{Option as Maybe, none, some}
use Prim.Native.Nat.{Ordering}
use Rattle.std.proofs.Math.ListN.{get_elem?, length-append}
use Rattle.std.proofs.lemmas.List.{length-map}
use Rattle.text.specs.Part.{same}
use Rattle.text.specs.PartLaws.{same-is, same_refl}
use Rattle.text.specs.PlaceLaws.{at_some}
use Rattle.text.specs.Order.{by, cmp}
use Rattle.text.specs.declared.Written.{Written}
use Rattle.text.specs.Put.{put, Wrote, refusal}
use Rattle.text.specs.Put as buffer
use Rattle.text.specs.PutLaws.{put-zero, put-nil, put_then, length-put, answer-fits, left-fits, gives-short, gives-text}
use Rattle.book_records.specs.Records.{Key, get}
use Rattle.book_records.specs.Records as records
use Rattle.book_records.specs.Act.{Rec, Meaning, refuses, writes, removes, looks, Answer, says, done, gives, act, add_to, take_from, look_in}
use Rattle.book_records.specs.declared.Manner.TheVariants.{Plain}
use Rattle.book_records.specs.Calls.{is_owner, look, meaning}
use Rattle.book_form.specs.Form.{AllFit, zeros, key_at}
use Rattle.book_form.specs.FormLaws.{length-zeros}
use Rattle.book.specs.Book.{Book, Current, Counts, Judged, full_in, acts}
use Rattle.book.specs.BookLaws.{lawful, sizes, key_is}
use Rattle.book.specs.Outcome.{Looked, Found, this_book, written_by, shown}
use Rattle.book.specs.OutcomeLaws.{one-outcome}
use Rattle.book.specs.RecordLaws.{judged-none}
use Rattle.book_table.specs.Table.{filled, fill}
use Rattle.book_table.specs.TableLaws.{sound-filled}
use Rattle.book_table.specs.Lines.{lines, Line, Next}
use Rattle.book_table.specs.LineLaws.{lines_none, line_first, next-there}
use Rattle.book_table.specs.Many.{entry_of, entries, table_of, looked_up, Fills, Entered, LooksMany}
use Rattle.book_table.specs.Many as many

-- ---- the table of a book
filled-same : (f g : ℕ → Key) (n : ℕ) → ((i : ℕ) → i < n → f i ≡ g i) → filled f n ≡ filled g n
unfolding filled
filled-same f g zero h = refl
filled-same f g (suc n) h =
    let e = filled-same f g n (λ i l. h i (omega arith)) in
    rw (e, h n (omega arith))

key-there : (rs : List Rec) (i : ℕ) (r : Rec) → get_elem? rs i ≡ some r → slice_index_or (map (λ (r : Rec). r.0) rs) i [] ≡ r.0
key-there [] i r e = let z : ◌≡◌ {A = ℕ} 0 1 = cc in absurd (let y : ⊥ = omega arith in y)
key-there (q ∷ rs) zero r e = let p : q ≡ r = cc in ap (λ (x : Rec). x.0) p
key-there (q ∷ rs) (suc i) r e = key-there rs i r e

pub table_is : (b : List ℕ) (n : ℕ) (h : Counts Current b n) → filled (key_at Current b) n ≡ table_of h.0
unfolding fill
table_is b n h =
    let x = h.0 in
    let l : length (map (λ (r : Rec). r.0) x.records) ≡ n = length-map x.records (λ (r : Rec). r.0) ∙ h.1 in
    filled-same (key_at Current b) (λ i. get_or (map (λ (r : Rec). r.0) x.records) i []) n (λ i k. let r = at_some x.records i (omega (arith, h.1)) in key_is Current lawful b x i r.0 r.1 ∙ sym (key-there x.records i r.0 r.1))
    ∙ ap (filled (λ i. get_or (map (λ (r : Rec). r.0) x.records) i [])) (sym l)

pub table-size : (b : List ℕ) (n : ℕ) (h : Counts Current b n) → length (table_of h.0) ≡ 512
table-size b n h = ap length (sym (table_is b n h)) ∙ (sound-filled (key_at Current b) n (omega (arith, (sizes Current lawful b n h).most))).size

-- ---- filling
pub fills-no_book : (b : List ℕ) (a : Option ℕ) → Judged Current b a → a ≡ None → (out : List ℕ) → Fills Current b out 9 out
fills-no_book b a j e out = many.Fills.no_book (judged-none b a j e) refl refl

module _ (b out : List ℕ) (n : ℕ) (h : Counts Current b n) where
  pub fills-no_room : length out < 512 → Fills Current b out 4 out
  fills-no_room l =
      let g = gives-short (table_of h.0) out (omega (arith, table-size b n h)) in
      many.Fills.this_book h.0 (ap (λ (w : Written). w.refusal) g.0) g.1

  pub fills-done : 512 ≤ length out → (t out₁ : List ℕ) → t ≡ filled (key_at Current b) n → out₁ ≡ put out 0 t → Fills Current b out 0 out₁
  fills-done l t out₁ e w =
      let T = table_of h.0 in
      let fits : length T ≤ length out = omega (arith, table-size b n h) in
      many.Fills.this_book h.0 (ap (λ (w : Written). w.refusal) (sym (answer-fits T (length out) fits))) (w ∙ ap (put out 0) (e ∙ table_is b n h) ∙ sym (left-fits T out fits))

-- ---- the bytes of an answer
-- what a book holds has at most 64 bytes
value-short : (rs : List Rec) → AllFit Current rs → (k : Key) (v : List ℕ) → get rs k ≡ some v → length v ≤ 64
unfolding get
value-short [] f k v e = let z : ◌≡◌ {A = ℕ} 0 1 = cc in absurd (let y : ⊥ = omega arith in y)
value-short (r ∷ rs) f k v e = go (cmp k r.0) e (value-short rs f.1 k v)
  where
    go : (o : Ordering) → by o (get rs k) (some r.1) (get rs k) ≡ some v → (get rs k ≡ some v → length v ≤ 64) → length v ≤ 64
    go Ordering.lt q more = more q
    go Ordering.eq q more = let w : r.1 ≡ v = cc in rw (← w) f.0.2.most
    go Ordering.gt q more = more q

abbrev Short : Answer → Type 0
Short a = length (shown a (zeros 64)) ≡ 64

says-short : (n : ℕ) → Short (says n)
says-short n = length-zeros 64

act-short : (full : Key → List Rec → Bool) (m : Meaning) (s : List Rec) → AllFit Current s → Short (act full m s).0
unfolding act
act-short full (refuses n) s f = says-short n
act-short full (writes k v) s f = go (get s k) (full k s)
  where
    go : (x : Maybe (List ℕ)) (t : Bool) → Short (add_to x t (records.put s k v) s).0
    go (some u) t = says-short 0
    go none true = says-short 11
    go none false = says-short 0
act-short full (removes k) s f = go (get s k)
  where
    go : (x : Maybe (List ℕ)) → Short (take_from x (records.del s k) s).0
    go none = says-short 12
    go (some u) = says-short 0
act-short full (looks k) s f = go (get s k) refl
  where
    go : (x : Maybe (List ℕ)) → get s k ≡ x → Short (look_in x s).0
    go none e = says-short 12
    go (some u) e = length-put (zeros 64) 0 u (omega (arith, value-short s f k u e, length-zeros 64)) ∙ length-zeros 64

short-most : (a : Answer) → Short a → (written_by a).length ≤ 64
short-most (says n) s = omega arith
short-most done s = omega arith
short-most (gives u) s = omega (arith, s, ap length (put-zero (zeros 64) u), length-append u (drop (length u) (zeros 64)))

module _ (b : List ℕ) (x : Book Current b) (o : ℕ) where
  pub value-most : (t : List ℕ) → (written_by (looked_up x o t)).length ≤ 64
  value-most t = short-most (looked_up x o t) (act-short (full_in x) (meaning (look Plain o t 64)) x.records x.fit)

  pub entry-size : (t : List ℕ) → length (entry_of (looked_up x o t)) ≡ 66
  unfolding entry_of
  entry-size t = omega (arith, act-short (full_in x) (meaning (look Plain o t 64)) x.records x.fit)

  pub entries-size : (ts : List (List ℕ)) → length (entries (looked_up x o) ts) ≡ 66 * length ts
  unfolding entries
  entries-size [] = refl
  entries-size (t ∷ ts) = omega (arith, length-append (entry_of (looked_up x o t)) (entries (looked_up x o) ts), entry-size t, entries-size ts)

-- ---- one text
-- a lookup on this book answers what its records do
pub answer-is : {b : List ℕ} {m : Meaning} {out : List ℕ} {r : Written} {out₁ : List ℕ} (x : Book Current b) → Found Current b m out r out₁ → (r ≡ written_by (acts x m).0) × (out₁ ≡ shown (acts x m).0 out)
answer-is {out = out} x f =
    let a = (one-outcome lawful f.outcome (this_book x refl refl)).0 in
    (f.written ∙ ap written_by a, f.value ∙ ap (λ (q : Answer). shown q out) a)

module _ (b : List ℕ) (o : ℕ) (t out : List ℕ) (at : ℕ) (r : Written) (v : List ℕ) (y : Looked Current Plain b o t (zeros 64) r v) (size : length v ≡ 64) where
  looked-is : (x : Book Current b) → (r ≡ written_by (looked_up x o t)) × (v ≡ shown (looked_up x o t) (zeros 64))
  looked-is x =
      let a = answer-is x y in
      let e = ap (λ (n : ℕ). (acts x (meaning (look Plain o t n))).0) (length-zeros 64) in
      (a.0 ∙ ap written_by e, a.1 ∙ ap (λ (q : Answer). shown q (zeros 64)) e)

  pub entry_length : (x : Book Current b) → r.length ≤ 64
  entry_length x = rw (looked-is x).0 (value-most b x o t)

  pub entered : at + 66 ≤ length out → (a a₁ a₂ : List ℕ) → a ≡ put out at (r.refusal ∷ []) → a₁ ≡ put a (at + 1) (r.length ∷ []) → a₂ ≡ put a₁ (at + 2) v → Entered Current b o t out at a₂
  unfolding entry_of
  entered h a a₁ a₂ e e₁ e₂ =
      let p : List ℕ = r.refusal ∷ [] in
      let c : List ℕ = r.length ∷ [] in
      let x₁ : a₁ ≡ put out at (p ++ c) = put_then out at p c a a₁ (at + 1) e (omega arith) (omega arith) e₁ in
      record {
        entry = r.refusal ∷ r.length ∷ v;
        is = λ x. ap₂ (λ (w : Written) (u : List ℕ). w.refusal ∷ w.length ∷ u) (looked-is x).0 (looked-is x).1;
        size = omega arith;
        written = put_then out at (p ++ c) v a₁ a₂ (at + 2) x₁ (omega arith) (omega arith) e₂;
      }

-- ---- many texts
module _ (b : List ℕ) (o : ℕ) (texts out₀ : List ℕ) where
  -- the texts before i have their bytes in `out`, up to `at`
  pub record Doing (i at : ℕ) (out : List ℕ) : Type 0 where
    pub done : List ℕ
    pub rest : (x : Book Current b) → entries (looked_up x o) (lines texts) ≡ done ++ entries (looked_up x o) (lines (drop i texts))
    pub size : length done ≡ at
    pub bytes : out ≡ put out₀ 0 done
    pub room : at + 66 * length (lines (drop i texts)) ≤ length out₀
    pub same : length out ≡ length out₀

  pub doing-start : 66 * length (lines texts) ≤ length out₀ → Doing 0 0 out₀
  doing-start l = record { done = []; rest = λ x. refl; size = refl; bytes = sym (put-nil out₀ 0); room = omega arith; same = refl }

  module _ (i j k at : ℕ) (out : List ℕ) (d : Doing i at out) (l : i < length texts) (e : Line texts i j) (n : Next texts j k) where
    abbrev t : List ℕ
    t = slice_range texts i j

    cut : lines (drop i texts) ≡ t ∷ lines (drop k texts)
    cut = line_first texts i j e l k n

    room-there : at + 66 ≤ length out
    room-there = omega (arith, d.room, d.same, ap length cut)

    more : (x : Book Current b) (w : List ℕ) → w ≡ entry_of (looked_up x o t) → entries (looked_up x o) (lines texts) ≡ (d.done ++ w) ++ entries (looked_up x o) (lines (drop k texts))
    unfolding entries
    more x w q = d.rest x ∙ ap (λ (ts : List (List ℕ)). d.done ++ entries (looked_up x o) ts) cut ∙ ap (λ (u : List ℕ). d.done ++ (u ++ entries (looked_up x o) (lines (drop k texts)))) (sym q) ∙ sym (append_assoc d.done w (entries (looked_up x o) (lines (drop k texts))))

    pub doing-more : (out₁ : List ℕ) → Entered Current b o t out at out₁ → Doing k (at + 66) out₁
    doing-more out₁ y =
        let w : out₁ ≡ put out₀ 0 (d.done ++ y.entry) = put_then out₀ 0 d.done y.entry out out₁ at d.bytes (omega (arith, d.size)) (omega (arith, d.size, d.room)) y.written in
        let s : length (d.done ++ y.entry) ≡ at + 66 = omega (arith, length-append d.done y.entry, d.size, y.size) in
        record {
          done = d.done ++ y.entry;
          rest = λ x. more x y.entry (y.is x);
          size = s;
          bytes = w;
          room = omega (arith, d.room, ap length cut);
          same = ap length w ∙ length-put out₀ 0 (d.done ++ y.entry) (omega (arith, s, d.room, ap length cut));
        }

  pub doing-room : (i j at : ℕ) (out : List ℕ) → Doing i at out → i < length texts → Line texts i j → at + 66 ≤ length out
  doing-room i j at out d l e = let k = next-there texts j in room-there i j k.0 at out d l e k.1

  -- all have
  pub doing-done : (i at : ℕ) (out : List ℕ) → Doing i at out → length texts ≤ i → (x : Book Current b) → Wrote out₀ 0 (entries (looked_up x o) (lines texts)) at out
  unfolding entries
  doing-done i at out d l x =
      let all : entries (looked_up x o) (lines texts) ≡ d.done = d.rest x ∙ ap (λ (ts : List (List ℕ)). d.done ++ entries (looked_up x o) ts) (lines_none texts i l) ∙ append-nil d.done in
      rw all (record { next = omega (arith, d.size); after = d.bytes; room = omega (arith, d.size, d.room) })

pub table_good : (b table : List ℕ) (n : ℕ) (r : Bool) → r ≡ same table (filled (key_at Current b) n) → r ≡ true → table ≡ filled (key_at Current b) n
table_good b table n r e f = same-is table (filled (key_at Current b) n) (sym e ∙ f)

module _ (b : List ℕ) (o : ℕ) (table texts out : List ℕ) where
  pub many-no_book : (a : Option ℕ) → Judged Current b a → a ≡ None → LooksMany Current b o table texts out (refusal 9) out
  many-no_book a j e = many.LooksMany.no_book (judged-none b a j e) refl refl

  module _ (n : ℕ) (h : Counts Current b n) (q : Bool) (eq : q ≡ is_owner o) where
    pub many-no_owner : q ≡ false → LooksMany Current b o table texts out (refusal 23) out
    many-no_owner f = many.LooksMany.no_owner h.0 (sym eq ∙ f) refl refl

  module _ (n : ℕ) (h : Counts Current b n) (known : is_owner o ≡ true) (r : Bool) (e : r ≡ same table (filled (key_at Current b) n)) where
    pub many-bad_table : r ≡ false → LooksMany Current b o table texts out (refusal 22) out
    many-bad_table f = many.LooksMany.bad_table_when h.0 known (λ q. let z : ◌≡◌ {A = ℕ} 0 1 = cc (e, ap (λ (x : List ℕ). same table x) (q ∙ sym (table_is b n h)), same_refl table) in omega arith) refl refl

    module _ (f : r ≡ true) where
      good : table ≡ table_of h.0
      good = table_good b table n r e f ∙ table_is b n h

      pub many-no_room : (c : ℕ) → c ≡ length (lines texts) → length out / 66 < c → LooksMany Current b o table texts out (refusal 4) out
      many-no_room c ec l =
          let x = h.0 in
          let g = gives-short (entries (looked_up x o) (lines texts)) out (omega (arith, entries-size b x o (lines texts))) in
          many.LooksMany.this_table x known good g.0 g.1

      pub many-done : (at : ℕ) (out₁ : List ℕ) → Wrote out 0 (entries (looked_up h.0 o) (lines texts)) at out₁ → LooksMany Current b o table texts out (buffer.done at) out₁
      many-done at out₁ w = let g = gives-text (entries (looked_up h.0 o) (lines texts)) out w in many.LooksMany.this_table h.0 known good g.0 g.1
