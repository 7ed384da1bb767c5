-- Laws of the versions: each is lawful, and a slot is a record's exactly when its key and its value stand in their fields.
-- Assumes nothing.
use Rattle.std.specs.Prelude.{◌≡◌, refl, Bool, true, false, get_or}
use Rattle.std.proofs.Common.{sym, ◌∙◌, length-drop, drop-drop, take-add, take-suc, get_or-drop}
use Rattle.std.proofs.Math.Path.{ap}
use mathlib.Core.List.{List, [], ◌∷◌, ◌++◌, append_assoc}
use Prim.Native.Nat.{ℕ, ◌+◌, ◌*◌, ◌/◌, ◌%◌, ◌<◌, ◌≤◌}
use native.Mathlib.Omega.{arith}
use Rattle.std.proofs.Math.ListN.{length, take, drop, length-append, take-append-drop}
use Rattle.std.proofs.Math.Seq.{take_at, drop_at, length-take-le}
use Rattle.text.specs.Number.{big_at}
use Rattle.text.specs.NumberLaws.{big-none, big-more}
use Rattle.text.specs.Put.{put}
use Rattle.book_records.specs.Records.{Key}
use Rattle.book_records.specs.Act.{Rec}
use Rattle.book_records.specs.Calls.{is_owner, owner_of, Owned}
use Rattle.book_form.specs.declared.Quotas.{Quotas}
use Rattle.book_form.specs.declared.Version.{Version}
use Rattle.book_form.specs.declared.Version.TheVariants.{One, Two, Three}
use Rattle.book_form.specs.Form.{SlotOk}
use Rattle.book_form.specs.FormLaws.{Lawful, append-parts}
use Rattle.book_form.specs.MovesLaws.{over-join}
use Rattle.book_form.specs.Counted.{counted, counted_in, stored, CountedOk}
use Rattle.book_form.specs.CountedLaws.{length-counted, counted_back, stored-length}
use Rattle.book_form.specs.Version.{Field, FieldOk, field_of, is_plain, Owners, owners_of, quota_bytes, number_of, Fit, slot, record_of, header, count_in, form_of, V3}
use Rattle.book_form.specs.Tells.{Tells, tells_true, tells_false}

-- ---- the header
-- two bytes, as the code reads them
pub pair_read : (b : List ℕ) (at : ℕ) → at + 2 ≤ length b → big_at at 2 b ≡ 256 * get_or b at 0 + get_or b (at + 1) 0
pair_read b at h = big-more 0 2 1 at b refl (omega arith) ∙ big-more (0 * 256 + get_or b at 0) 1 0 (at + 1) b refl (omega arith) ∙ big-none ((0 * 256 + get_or b at 0) * 256 + get_or b (at + 1) 0) 0 (at + 1 + 1) b refl ∙ omega arith

-- the count, as the code reads it
pub count-read : (b : List ℕ) → 8 ≤ length b → big_at 5 2 b ≡ count_in b
count-read b h = pair_read b 5 (omega arith)

-- the header's first bytes, where the two of the count are bytes
pub header-bytes : (v x y : ℕ) → x < 256 → y < 256 → header v (256 * x + y) [] ≡ 72 ∷ 80 ∷ 66 ∷ 0 ∷ v ∷ x ∷ y ∷ 0 ∷ []
unfolding header
header-bytes v x y h k =
    let a : (256 * x + y) / 256 ≡ x = omega arith in
    let b : (256 * x + y) % 256 ≡ y = omega arith in
    rw (a, b)

-- the same, with the number of records as std gives its two bytes
pub header-front : (v n : ℕ) (l : List ℕ) → n < 65536 → l ≡ n / 256 % 256 ∷ n % 256 ∷ [] → 72 ∷ 80 ∷ 66 ∷ 0 ∷ v ∷ get_or l 0 0 ∷ get_or l 1 0 ∷ 0 ∷ [] ≡ header v n []
unfolding header
header-front v n l h e =
    let q : n / 256 % 256 ≡ n / 256 = omega arith in
    rw (e, q) refl

-- the bytes behind them
pub header-rest : (v n : ℕ) (x : List ℕ) → header v n [] ++ x ≡ header v n x
unfolding header
header-rest v n x = refl

header-length : (v n : ℕ) (x : List ℕ) → length (header v n x) ≡ 8 + length x
unfolding header
header-length v n x = omega arith

header_inj : (v m n : ℕ) (x y : List ℕ) → header v m x ≡ header v n y → (m ≡ n) × (x ≡ y)
unfolding header
header_inj v m n x y e =
    let a : m / 256 ≡ n / 256 = cc in
    let b : m % 256 ≡ n % 256 = cc in
    (omega arith, cc)

-- ---- the owners
pub record LawfulOwners (O : Owners) : Type 0 where
  pub shown-length : (e : O.Extra) → length (O.shown e) ≡ O.size
  pub shown_inj : (d e : O.Extra) → O.shown d ≡ O.shown e → d ≡ e
  pub known : (k : Key) → O.Exact k → is_owner (O.owner k) ≡ true

quotas-length : (q : Quotas) → length (quota_bytes q) ≡ 4
unfolding quota_bytes
quotas-length q = refl

quotas_inj : (p q : Quotas) → quota_bytes p ≡ quota_bytes q → p ≡ q
unfolding quota_bytes
quotas_inj p q e =
    let a : p.one / 256 ≡ q.one / 256 = cc in
    let b : p.one % 256 ≡ q.one % 256 = cc in
    let c : p.two / 256 ≡ q.two / 256 = cc in
    let d : p.two % 256 ≡ q.two % 256 = cc in
    let x : p.one ≡ q.one = omega arith in
    let y : p.two ≡ q.two = omega arith in
    λ i. record { one = x i; two = y i }

owned-known : (k : Key) → Owned k → is_owner (owner_of k) ≡ true
owned-known [] h = absurd h
owned-known (o ∷ k) h = h.0

owners_lawful : (v : Version) → LawfulOwners (owners_of v)
owners_lawful One = record { shown-length = λ e. refl; shown_inj = λ d e q. refl; known = λ k h. refl }
owners_lawful Two = record { shown-length = λ e. refl; shown_inj = λ d e q. refl; known = λ k h. refl }
owners_lawful Three = record { shown-length = quotas-length; shown_inj = quotas_inj; known = owned-known }

-- ---- the value's field
pub record LawfulField (D : Field) : Type 0 where
  pub field-length : (v : List ℕ) → D.Fits v → length (D.field v) ≡ D.size
  pub value-back : (v tail : List ℕ) → D.Fits v → D.value_in (D.field v ++ tail) ≡ v

field_lawful : (v : Version) → LawfulField (field_of v)
field_lawful One = record { field-length = λ v h. h; value-back = λ v tail h. take_at v tail 32 h }
field_lawful Two = record { field-length = λ v h. length-counted 64 v h.most; value-back = λ v tail h. counted_back 64 v tail }
field_lawful Three = record { field-length = λ v h. length-counted 64 v h.most; value-back = λ v tail h. counted_back 64 v tail }

module _ (O : Owners) (D : Field) (L : LawfulField D) where
  -- the rendering of a key that fits
  short : (r : Rec) → Fit O D r → length (drop O.lead r.0) ≤ 255
  short r h = omega (arith, length-drop O.lead r.0, h.1)

  slot-length : (r : Rec) → Fit O D r → length (slot O D r) ≡ O.lead + (256 + D.size)
  unfolding slot
  slot-length r h =
      let k : List ℕ = counted 255 (drop O.lead r.0) in
      omega (
        arith,
        length-append (take O.lead r.0) (k ++ D.field r.1),
        length-take-le O.lead r.0 h.0,
        length-append k (D.field r.1),
        length-counted 255 (drop O.lead r.0) (short r h),
        L.field-length r.1 h.2,
      )

  -- the record of a slot
  record_of-slot : (r : Rec) (tail : List ℕ) → Fit O D r → record_of O D (slot O D r ++ tail) ≡ r
  unfolding slot
  record_of-slot r tail h =
      let n : ℕ = O.lead in
      let a : List ℕ = take n r.0 in
      let k : List ℕ = counted 255 (drop n r.0) in
      let f : List ℕ = D.field r.1 in
      let y : List ℕ = (a ++ (k ++ f)) ++ tail in
      let e : y ≡ a ++ (k ++ (f ++ tail)) = append_assoc a (k ++ f) tail ∙ ap (λ (l : List ℕ). a ++ l) (append_assoc k f tail) in
      let la : length a ≡ n = length-take-le n r.0 h.0 in
      let front : take n y ≡ a = ap (λ (l : List ℕ). take n l) e ∙ take_at a (k ++ (f ++ tail)) n la in
      let rest : drop n y ≡ k ++ (f ++ tail) = ap (λ (l : List ℕ). drop n l) e ∙ drop_at a (k ++ (f ++ tail)) n la in
      let key : take n y ++ counted_in (drop n y) ≡ r.0 =
      ap (λ (l : List ℕ). l ++ counted_in (drop n y)) front
      ∙ ap (λ (l : List ℕ). a ++ counted_in l) rest
      ∙ ap (λ (l : List ℕ). a ++ l) (counted_back 255 (drop n r.0) (f ++ tail))
      ∙ take-append-drop n r.0 in
      let value : D.value_in (drop (n + 256) y) ≡ r.1 =
      ap D.value_in (sym (drop-drop 256 n y) ∙ ap (λ (l : List ℕ). drop 256 l) rest ∙ drop_at k (f ++ tail) 256 (length-counted 255 (drop n r.0) (short r h)))
      ∙ L.value-back r.1 tail h.2 in
      λ i. (key i, value i)

pub version_lawful : (v : Version) → Lawful (form_of v)
version_lawful v =
    let O = owners_lawful v in
    record {
      header-length = λ e n. omega (arith, header-length (number_of v) n ((owners_of v).shown e), O.shown-length e);
      header_inj = λ d e m n q. let p = header_inj (number_of v) m n ((owners_of v).shown d) ((owners_of v).shown e) q in (O.shown_inj d e p.1, p.0);
      slot-length = slot-length (owners_of v) (field_of v) (field_lawful v);
      record_of-slot = record_of-slot (owners_of v) (field_of v) (field_lawful v);
      known = O.known;
      wide = omega arith;
    }

-- ---- when a slot is a record's
module _ (v : Version) (x : List ℕ) (hx : (owners_of v).lead + 256 ≤ length x) where
  abbrev lead : ℕ
  lead = (owners_of v).lead

  abbrev D : Field
  D = field_of v

  abbrev text : List ℕ
  text = counted_in (drop lead x)

  la : length (take lead x) ≡ lead
  la = length-take-le lead x (omega arith)

  -- the key's two parts
  front : take lead (take lead x ++ text) ≡ take lead x
  front = take_at (take lead x) text lead la

  rest : drop lead (take lead x ++ text) ≡ text
  rest = drop_at (take lead x) text lead la

  -- the slot's bytes in three parts
  three : take (lead + (256 + D.size)) x ≡ take lead x ++ (take 256 (drop lead x) ++ take D.size (drop (lead + 256) x))
  three =
      take-add lead (256 + D.size) x
      ∙ ap (λ (l : List ℕ). take lead x ++ l) (take-add 256 D.size (drop lead x) ∙ ap (λ (l : List ℕ). take 256 (drop lead x) ++ take D.size l) (drop-drop 256 lead x))

  written : slot (owners_of v) D (record_of (owners_of v) D x) ≡ take lead x ++ (counted 255 text ++ D.field (D.value_in (drop (lead + 256) x)))
  unfolding slot
  written =
      ap (λ (l : List ℕ). l ++ (counted 255 (drop lead (take lead x ++ text)) ++ D.field (D.value_in (drop (lead + 256) x)))) front
      ∙ ap (λ (l : List ℕ). take lead x ++ (counted 255 l ++ D.field (D.value_in (drop (lead + 256) x)))) rest

  slot_of : CountedOk 255 (drop lead x) → FieldOk D (drop (lead + 256) x) → SlotOk (form_of v) x
  slot_of k f =
      record {
        bytes = three ∙ ap (λ (l : List ℕ). take lead x ++ (l ++ take D.size (drop (lead + 256) x))) k.bytes ∙ ap (λ (l : List ℕ). take lead x ++ (counted 255 text ++ l)) f.bytes ∙ sym written;
        fit = (omega (arith, length-append (take lead x) text, la), omega (arith, length-append (take lead x) text, la, k.fit), f.fit);
      }

  parts : SlotOk (form_of v) x → CountedOk 255 (drop lead x) × FieldOk D (drop (lead + 256) x)
  parts s =
      let fit : length text ≤ 255 = omega (arith, length-append (take lead x) text, la, s.fit.1) in
      let e = (append-parts (take lead x) (take lead x) (take 256 (drop lead x) ++ take D.size (drop (lead + 256) x)) (counted 255 text ++ D.field (D.value_in (drop (lead + 256) x))) refl (sym three ∙ s.bytes ∙ written)).1 in
      let d = append-parts (take 256 (drop lead x)) (counted 255 text) (take D.size (drop (lead + 256) x)) (D.field (D.value_in (drop (lead + 256) x))) (length-take-le 256 (drop lead x) (omega (arith, length-drop lead x)) ∙ sym (length-counted 255 text fit)) e in
      (record { bytes = d.0; fit = fit }, record { bytes = d.1; fit = s.fit.2 })

-- a value of version 1 is any 32 bytes
plain_ok : (x : List ℕ) → 32 ≤ length x → FieldOk (field_of One) x
plain_ok x h = record { bytes = refl; fit = length-take-le 32 x h }

-- by whether the value has its length
plain-field : (v : Version) (x : List ℕ) → is_plain v ≡ true → (field_of v).size ≤ length x → FieldOk (field_of v) x
plain-field One x e h = plain_ok x h
plain-field Two x e h = absurd (let z : ◌≡◌ {A = ℕ} 0 1 = cc in let y : ⊥ = omega arith in y)
plain-field Three x e h = absurd (let z : ◌≡◌ {A = ℕ} 0 1 = cc in let y : ⊥ = omega arith in y)

pub sized-field : (v : Version) → is_plain v ≡ false → field_of v ≡ field_of Two
sized-field One e = absurd (let z : ◌≡◌ {A = ℕ} 0 1 = cc in let y : ⊥ = omega arith in y)
sized-field Two e = refl
sized-field Three e = refl

-- the same, of the slot at an offset
module _ (v : Version) (b : List ℕ) (at l : ℕ) (el : l ≡ (owners_of v).lead) (hb : at + (form_of v).width ≤ length b) where
  long : (owners_of v).lead + 256 ≤ length (drop at b)
  long = omega (arith, length-drop at b)

  key-there : drop (owners_of v).lead (drop at b) ≡ drop (at + l) b
  key-there = drop-drop (owners_of v).lead at b ∙ ap (λ (n : ℕ). drop (at + n) b) (sym el)

  value_there : drop ((owners_of v).lead + 256) (drop at b) ≡ drop (at + l + 256) b
  value_there = drop-drop ((owners_of v).lead + 256) at b ∙ ap (λ (n : ℕ). drop n b) (let q : at + ((owners_of v).lead + 256) ≡ at + l + 256 = omega arith in q)

  pub tells-no-key : (r : Bool) → Tells r (CountedOk 255 (drop (at + l) b)) → r ≡ false → Tells false (SlotOk (form_of v) (drop at b))
  tells-no-key r t e = tells_false (λ s. t.fails e (rw key-there at (parts v (drop at b) long s).0))

  tells-value : CountedOk 255 (drop (at + l) b) → (r : Bool) → Tells r (FieldOk (field_of v) (drop (at + l + 256) b)) → Tells r (SlotOk (form_of v) (drop at b))
  tells-value k r t =
      record {
        holds = λ e. slot_of v (drop at b) long (rw key-there k) (rw value_there (t.holds e));
        fails = λ e s. t.fails e (rw value_there at (parts v (drop at b) long s).1);
      }

  pub tells-plain : is_plain v ≡ true → CountedOk 255 (drop (at + l) b) → Tells true (SlotOk (form_of v) (drop at b))
  tells-plain e k = tells-value k true (tells_true (plain-field v (drop (at + l + 256) b) e (omega (arith, length-drop (at + l + 256) b))))

  pub sized-room : is_plain v ≡ false → at + l + 321 ≤ length b
  sized-room e = let d : (field_of v).size ≡ 65 = ap (λ (D : Field). D.size) (sized-field v e) in omega arith

  pub tells-sized : is_plain v ≡ false → CountedOk 255 (drop (at + l) b) → (r : Bool) → Tells r (FieldOk (field_of Two) (drop (at + l + 256) b)) → Tells r (SlotOk (form_of v) (drop at b))
  tells-sized e k r t = tells-value k r (rw (sized-field v e) t)

  -- the length of a value, and its byte
  pub value-length : is_plain v ≡ false → SlotOk (form_of v) (drop at b) → (get_or b (at + l + 256) 0 ≤ 64) × (length (stored b (at + l + 256)) ≤ 64)
  value-length e s =
      let f : FieldOk (field_of Two) (drop (at + l + 256) b) = rw (sized-field v e) at (rw value_there at (parts v (drop at b) long s).1) in
      omega (arith, sized-room e, stored-length b (at + l + 256) 64 (omega (arith, sized-room e)) (record { bytes = f.bytes; fit = f.fit.most }), f.fit.most)

-- a value by its length byte
module _ (b : List ℕ) (at : ℕ) (hb : at + 65 ≤ length b) where
  pub tells_none : get_or b at 0 ≡ 0 → Tells false (FieldOk (field_of Two) (drop at b))
  tells_none e = tells_false (λ f. omega (arith, e, stored-length b at 64 (omega arith) (record { bytes = f.bytes; fit = f.fit.most }), f.fit.least))

  pub tells-some : (get_or b at 0 ≡ 0 → ⊥) → (r : Bool) → Tells r (CountedOk 64 (drop at b)) → Tells r (FieldOk (field_of Two) (drop at b))
  tells-some n r t =
      record {
        holds = λ e. let k = t.holds e in record { bytes = k.bytes; fit = record { least = omega (arith, stored-length b at 64 (omega arith) k); most = k.fit } };
        fails = λ e f. t.fails e (record { bytes = f.bytes; fit = f.fit.most });
      }

-- ---- what is written in pieces
pub fields_pieces : (b : List ℕ) (at : ℕ) (k v : List ℕ) → at + 321 ≤ length b → length k ≤ 255
    → put (put b at (counted 255 k)) (at + 256) (counted 64 v) ≡ put b at (counted 255 k ++ counted 64 v)
fields_pieces b at k v hb hk = over-join b at (counted 255 k) (counted 64 v) (at + 256) (omega (arith, length-counted 255 k hk)) (omega arith)

pub slot_pieces : (b : List ℕ) (at o : ℕ) (k v : List ℕ) → at + 322 ≤ length b
    → put (put b at (o ∷ [])) (at + 1) (counted 255 k ++ counted 64 v) ≡ put b at (V3.slot (o ∷ k, v))
unfolding slot
slot_pieces b at o k v hb = over-join b at (o ∷ []) (counted 255 k ++ counted 64 v) (at + 1) refl (omega arith)

header_pieces : (b : List ℕ) (n : ℕ) (q : Quotas) → 12 ≤ length b → put (put b 0 (header 3 n [])) 8 (quota_bytes q) ≡ put b 0 (V3.header q n)
header_pieces b n q hb = over-join b 0 (header 3 n []) (quota_bytes q) 8 (omega (arith, header-length 3 n [])) (omega arith) ∙ ap (λ (l : List ℕ). put b 0 l) (header-rest 3 n (quota_bytes q))

quotas-front : (q : Quotas) (l m : List ℕ) → q.one < 65536 → q.two < 65536 → l ≡ q.one / 256 % 256 ∷ q.one % 256 ∷ [] → m ≡ q.two / 256 % 256 ∷ q.two % 256 ∷ [] → get_or l 0 0 ∷ get_or l 1 0 ∷ get_or m 0 0 ∷ get_or m 1 0 ∷ [] ≡ quota_bytes q
unfolding quota_bytes
quotas-front q l m h k e f =
    let a : q.one / 256 % 256 ≡ q.one / 256 = omega arith in
    let b : q.two / 256 % 256 ≡ q.two / 256 = omega arith in
    rw (e, f, a, b) refl

pub header-whole : (b : List ℕ) (n : ℕ) (q : Quotas) (l m : List ℕ) → 12 ≤ length b → q.one < 65536 → q.two < 65536 → l ≡ q.one / 256 % 256 ∷ q.one % 256 ∷ [] → m ≡ q.two / 256 % 256 ∷ q.two % 256 ∷ []
    → put (put b 0 (header 3 n [])) 8 (get_or l 0 0 ∷ get_or l 1 0 ∷ get_or m 0 0 ∷ get_or m 1 0 ∷ []) ≡ put b 0 (V3.header q n)
header-whole b n q l m hb h k e f = ap (put (put b 0 (header 3 n [])) 8) (quotas-front q l m h k e f) ∙ header_pieces b n q hb

-- ---- the key of a slot of version 3
pub owned-key : (b : List ℕ) (at : ℕ) → at < length b → (V3.record_of (drop at b)).0 ≡ get_or b at 0 ∷ stored b (at + 1)
owned-key b at h =
    ap (λ (l : List ℕ). l ++ counted_in (drop 1 (drop at b))) (take-suc (drop at b) 0 0 (omega (arith, length-drop at b)))
    ∙ ap (λ (n : ℕ). n ∷ counted_in (drop 1 (drop at b))) (get_or-drop at b 0 0 ∙ ap (λ (n : ℕ). get_or b n 0) (let q : at + 0 ≡ at = omega arith in q))
    ∙ ap (λ (l : List ℕ). get_or b at 0 ∷ counted_in l) (drop-drop 1 at b)
