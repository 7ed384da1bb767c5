-- The theorem of the conversion into version 3 (ConvertOwnersCall).
-- Assumes nothing.
use Rattle.std.specs.Prelude.{ℕ, ◌+◌, ◌<◌, ◌≤◌, ◌≡◌, refl, List, [], ◌∷◌, map, ◌↔◌, ◌⊎◌, length, take, drop}
use Rattle.std.proofs.Common.{sym, ap, ◌∙◌, inl, inr, ⊎_elim, arith, take_at}
use Rattle.std.proofs.Math.Option.{Option, none, some}
use Rattle.std.proofs.Math.Decide.{dec_lt}
use Rattle.text.specs.OrderLaws.{cmp-cons-eq, cmp-cons_gt}
use Rattle.text.specs.declared.Written.{Written}
use Rattle.text.specs.PutLaws.{put-zero}
use Rattle.book_records.specs.Records.{Key, get}
use Rattle.book_records.specs.Act.{Rec, Answer, look_in, act}
use Rattle.book_records.specs.declared.Manner.{Manner}
use Rattle.book_records.specs.Calls.{look}
use Rattle.book_records.specs.Refusals.{GoodLookup}
use Rattle.book_records.specs.CallLaws.{looking-means}
use Rattle.book_form.specs.declared.Quotas.{Quotas}
use Rattle.book_form.specs.declared.Version.TheVariants.{Two}
use Rattle.book_form.specs.Form.{layout, slot_at}
use Rattle.book_form.specs.Version.{V2}
use Rattle.book_form.specs.VersionLaws.{version_lawful}
use Rattle.book.specs.Book.{Current, Book, acts}
use Rattle.book.specs.BookLaws.{one-book}
use Rattle.book.specs.Outcome.{written_by, shown, Looked, quotas}
use Rattle.book_convert.specs.Convert.{ConvertedOwners, firsts, Enough}
use Rattle.book_convert.specs.Convert.ConvertedOwners.{no_old, other_size, too_many, converted}
use Rattle.book_convert.specs.ConvertLaws.{converted-book}
use Rattle.book_convert.specs.OwnersLaws.{owners-book}
use Rattle.demands.specs.Held.{ProperBook}
use Rattle.demands.specs.PermittedLaws.{on-book}
use Rattle.demands.specs.BookCalls.{Looks, looked}
use Rattle.demands.specs.ConvertCall.{SameSlots}
use Rattle.demands.specs.ConvertCallLaws as before
use Rattle.demands.specs.ConvertOwnersCall.{ConvertsOwners, TooMany, Gives, LooksUp, OwnersConversion, ConvertOwnersDemand}

-- ---- records as owner 1's
firsts-length : (s : List Rec) → length (map firsts s) ≡ length s
firsts-length [] = refl
firsts-length (r ∷ s) = omega (arith, firsts-length s)

-- what a key of either owner holds among them
firsts-get : (s : List Rec) (k : Key) → get (map firsts s) (1 ∷ k) ≡ get s k
unfolding get
firsts-get [] k = refl
firsts-get (r ∷ s) k = rw (cmp-cons-eq 1 1 k r.0 refl, firsts-get s k)

seconds-get : (s : List Rec) (k : Key) → get (map firsts s) (2 ∷ k) ≡ none
unfolding get
seconds-get [] k = refl
seconds-get (r ∷ s) k = rw (cmp-cons_gt 2 1 k r.0 (omega arith)) (seconds-get s k)

-- ---- the call
pub outcome : {old new : List ℕ} {one two : ℕ} {r : ℕ} {new₁ : List ℕ} → ConvertsOwners old new one two r new₁ → ConvertedOwners old new (quotas one two) r new₁
outcome x =
    let p : ConvertedOwners x.args.0.now x.args.1.0.now (quotas x.args.1.1.0 x.args.1.1.1.0) x.result x.exits.1.0.now = x.ensures in
    rw (x.old_in, x.new_in, x.one_in, x.two_in, x.number_out, x.new_out) at p

-- what the bytes of an old book tell
one-old : {old : List ℕ} (x y : Book V2 old) → (x.slots ≡ y.slots) × (x.records ≡ y.records)
one-old {old} x y = let o = one-book V2 (version_lawful Two) old x y in (o.0, o.2)

same-slots : {old : List ℕ} (x y : Book V2 old) (new : List ℕ) → SameSlots Current x new → SameSlots Current y new
same-slots x y new h = h ∙ ap (slot_at Current) (one-old x y).0

-- ---- lookups
-- what is held, as a lookup answers and shows it
gives : (o : Option (List ℕ)) (s : List Rec) (out : List ℕ) (w : Written) (out₁ : List ℕ) → w ≡ written_by (look_in o s).0 → out₁ ≡ shown (look_in o s).0 out → Gives o w out₁
gives none s out w out₁ e f = e
gives (some u) s out w out₁ e f =
    record { answered = e; shown = ap (λ (v : Written). take v.length out₁) e ∙ ap (λ (l : List ℕ). take (length u) l) (f ∙ put-zero out u) ∙ take_at u (drop (length u) out) (length u) refl }

looks_up : {b : List ℕ} (y : ProperBook b) (m : Manner) (o : ℕ) (t out : List ℕ) (w : Written) (out₁ : List ℕ) → Looks m b o t out w out₁
    → (k : Key) → GoodLookup (look m o t (length out)) k (length out) → Gives (get y.records k) w out₁
unfolding act
looks_up {b} y m o t out w out₁ l k ok =
    let f : Looked Current m b o t out w out₁ = looked m b o t out w out₁ l in
    let e₁ = looking-means (look m o t (length out)) k (length out) ok in
    let e : f.answer ≡ (look_in (get y.records k) y.records).0 = (on-book y f.outcome).0 ∙ ap (λ (q : _). (acts y q).0) e₁ in
    gives (get y.records k) y.records out w out₁ (f.written ∙ ap written_by e) (f.value ∙ ap (λ (a : Answer). shown a out) e)

looks_as : {b : List ℕ} (y : ProperBook b) (s : List Rec) → y.records ≡ map firsts s → LooksUp b (get s)
looks_as y s e =
    record {
      ones = λ m t out w out₁ l k ok. rw (e, firsts-get s k) at (looks_up y m 1 t out w out₁ l (1 ∷ k) ok);
      twos = λ m t out w out₁ l k ok. rw (e, seconds-get s k) at (looks_up y m 2 t out w out₁ l (2 ∷ k) ok);
    }

-- ---- each answer exactly when
-- the quotas are enough, or not
module _ {old : List ℕ} (one two : ℕ) where
  enough-or : (x : Book V2 old) → (Enough (quotas one two) x.slots (length x.records) → ⊥) → TooMany x one two
  enough-or x n = go (dec_lt x.slots (one + two)) (dec_lt one (length x.records))
    where
      go : Dec (x.slots < one + two) → Dec (one < length x.records) → TooMany x one two
      go (yes a) d = inl a
      go (no a) (yes b) = inr b
      go (no a) (no b) = absurd (n (record { quotas = omega arith; records = omega arith }))

  not_both : (x y : Book V2 old) → Enough (quotas one two) x.slots (length x.records) → TooMany y one two → ⊥
  not_both x y m t =
      let o = one-old x y in
      ⊎_elim (λ a. let z : ⊥ = omega (arith, a, m.quotas, o.0) in z) (λ a. let z : ⊥ = omega (arith, a, m.records, ap length o.1) in z) t

module _ (old new : List ℕ) (one two : ℕ) (r : ℕ) (new₁ : List ℕ) where
  abbrev Did : Type 0
  Did = ConvertedOwners old new (quotas one two) r new₁

  bad : Did → (r ≡ 9) ↔ (Book V2 old → ⊥)
  bad (no_old n e f) = (λ q. n, λ q. e)
  bad (other_size x n e f) = (λ q. absurd (let z : ⊥ = omega (arith, e) in z), λ q. absurd (q x))
  bad (too_many x n m e f) = (λ q. absurd (let z : ⊥ = omega (arith, e) in z), λ q. absurd (q x))
  bad (converted x n m e f) = (λ q. absurd (let z : ⊥ = omega (arith, e) in z), λ q. absurd (q x))

  room : Did → (r ≡ 4) ↔ ((x : Book V2 old) × (SameSlots Current x new → ⊥))
  room (no_old n e f) = (λ q. absurd (let z : ⊥ = omega (arith, e) in z), λ q. absurd (n q.0))
  room (other_size x n e f) = (λ q. (x, n), λ q. e)
  room (too_many x n m e f) = (λ q. absurd (let z : ⊥ = omega (arith, e) in z), λ q. absurd (q.1 (same-slots x q.0 new n)))
  room (converted x n m e f) = (λ q. absurd (let z : ⊥ = omega (arith, e) in z), λ q. absurd (q.1 (same-slots x q.0 new n)))

  many : Did → (r ≡ 11) ↔ ((x : Book V2 old) × SameSlots Current x new × TooMany x one two)
  many (no_old n e f) = (λ q. absurd (let z : ⊥ = omega (arith, e) in z), λ q. absurd (n q.0))
  many (other_size x n e f) = (λ q. absurd (let z : ⊥ = omega (arith, e) in z), λ q. absurd (n (same-slots q.0 x new q.1)))
  many (too_many x n m e f) = (λ q. (x, n, enough-or one two x m), λ q. e)
  many (converted x n m e f) = (λ q. absurd (let z : ⊥ = omega (arith, e) in z), λ q. absurd (not_both one two x q.0 m q.2))

  made : Did → (r ≡ 0) ↔ ((x : Book V2 old) × SameSlots Current x new × (one + two ≤ x.slots) × (length x.records ≤ one))
  made (no_old n e f) = (λ q. absurd (let z : ⊥ = omega (arith, e) in z), λ q. absurd (n q.0))
  made (other_size x n e f) = (λ q. absurd (let z : ⊥ = omega (arith, e) in z), λ q. absurd (n (same-slots q.0 x new q.1)))
  made (too_many x n m e f) =
      (λ q. absurd (let z : ⊥ = omega (arith, e) in z), λ q. let o = one-old q.0 x in absurd (m (record { quotas = omega (arith, q.2, o.0); records = omega (arith, q.3, ap length o.1) })))
  made (converted x n m e f) = (λ q. (x, n, m.quotas, m.records), λ q. e)

  conversion : Did → OwnersConversion old new one two r new₁
  conversion c =
      record {
        bad_book_when = bad c;
        no_room_when = room c;
        too_many = many c;
        done = made c;
        new_book = λ e x. let y = owners-book c e x in (y.0, y.1, ap (λ (q : Quotas). q.one) y.2, ap (λ (q : Quotas). q.two) y.2, ap length y.3 ∙ firsts-length x.records);
        ones = λ e x k. let y = owners-book c e x in record { book = y.0; is = ap (λ (s : List Rec). get s (1 ∷ k)) y.3 ∙ firsts-get x.records k };
        twos = λ e x k. let y = owners-book c e x in record { book = y.0; is = ap (λ (s : List Rec). get s (2 ∷ k)) y.3 ∙ seconds-get x.records k };
        lookups = λ e x. let y = owners-book c e x in looks_as y.0 x.records y.3;
      }

-- two conversions of one book, into buffers of one size
alike : {old new new' : List ℕ} {q : Quotas} {r r' : ℕ} {new₁ new₁' : List ℕ} → ConvertedOwners old new q r new₁ → ConvertedOwners old new' q r' new₁' → length new ≡ length new' → (r ≡ r') × (r ≡ 0 → new₁ ≡ new₁')
alike {old} {new} {new'} {q} {r} {r'} {new₁} {new₁'} c d l = go c d
  where
    along : (x y : Book V2 old) → SameSlots Current x new → SameSlots Current y new'
    along x y h = sym l ∙ same-slots x y new h

    back : (x y : Book V2 old) → SameSlots Current x new' → SameSlots Current y new
    back x y h = l ∙ same-slots x y new' h

    enough : (x y : Book V2 old) → Enough q x.slots (length x.records) → Enough q y.slots (length y.records)
    enough x y m = let o = one-old x y in rw (o.0, o.1) at m

    go : ConvertedOwners old new q r new₁ → ConvertedOwners old new' q r' new₁' → (r ≡ r') × (r ≡ 0 → new₁ ≡ new₁')
    go (no_old n e f) (no_old m g k) = (e ∙ sym g, λ z. absurd (let w : ⊥ = omega (arith, e) in w))
    go (no_old n e f) (other_size y m g k) = absurd (n y)
    go (no_old n e f) (too_many y m p g k) = absurd (n y)
    go (no_old n e f) (converted y m p g k) = absurd (n y)
    go (other_size x n e f) (no_old m g k) = absurd (m x)
    go (other_size x n e f) (other_size y m g k) = (e ∙ sym g, λ z. absurd (let w : ⊥ = omega (arith, e) in w))
    go (other_size x n e f) (too_many y m p g k) = absurd (n (back y x m))
    go (other_size x n e f) (converted y m p g k) = absurd (n (back y x m))
    go (too_many x n a e f) (no_old m g k) = absurd (m x)
    go (too_many x n a e f) (other_size y m g k) = absurd (m (along x y n))
    go (too_many x n a e f) (too_many y m p g k) = (e ∙ sym g, λ z. absurd (let w : ⊥ = omega (arith, e) in w))
    go (too_many x n a e f) (converted y m p g k) = absurd (a (enough y x p))
    go (converted x n a e f) (no_old m g k) = absurd (m x)
    go (converted x n a e f) (other_size y m g k) = absurd (m (along x y n))
    go (converted x n a e f) (too_many y m p g k) = absurd (p (enough x y a))
    go (converted x n a e f) (converted y m p g k) =
        let o = one-old x y in
        (e ∙ sym g, λ z. f ∙ ap (λ (C : ℕ). layout Current C q (map firsts x.records)) o.0 ∙ ap (λ (s : List Rec). layout Current y.slots q (map firsts s)) o.1 ∙ sym k)

-- THE THEOREM
pub convert-owners_demand : ConvertOwnersDemand
convert-owners_demand =
    record {
      each = λ old new one two r new₁ x. conversion old new one two r new₁ (outcome x);
      whatever_held = λ old new new' one two r r' new₁ new₁' x y l. alike (outcome x) (outcome y) l;
      after_both = λ old mid r mid₁ x e new one two q new₁ y f v.
          let z = converted-book (before.outcome x) e v in
          let w = owners-book (outcome y) f z.0 in
          looks_as w.0 v.records (w.3 ∙ ap (map firsts) z.2);
    }
