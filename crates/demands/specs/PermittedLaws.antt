-- What the calls may do on a book is what its records do; a call has one outcome; and a refusal is given exactly when the table says so.
-- Assumes nothing.
use Rattle.std.specs.Prelude.{ℕ, ◌≡◌, refl, Bool, true, false, List, [], length, take, replicate}
use Rattle.std.proofs.Common.{sym, ap, ◌∙◌}
use Rattle.std.proofs.Math.Option.{Option, none, some}
use Rattle.std.proofs.lemmas.List.{length-replicate}
use Rattle.text.specs.declared.Written.{Written}
use Rattle.book_records.specs.Records.{Key, get, put, del}
use Rattle.book_records.specs.Act.{Rec, Meaning, Answer, gives, add_to, take_from, look_in, act, Seen, seen}
use Rattle.book_records.specs.Calls.{Asked, to_write, to_remove, to_look, Call, meaning}
use Rattle.book.specs.Book.{Current, bytes_with, full_in, acts}
use Rattle.book.specs.Outcome.{Outcome, no_book, this_book, written_by, Found, shown}
use Rattle.demands.specs.Held.{Looks, ProperBook}
use Rattle.demands.specs.Permitted.{PermittedTo, Permitted}
use Rattle.demands.specs.Refusals.{Refused, bad_book_when, declined, book_full, absent, not_found}
use Rattle.book_records.specs.CallLaws.{Means, declines, writing, removing, looking, declined-means, writing-means, removing-means, looking-means}
use Rattle.book_records.proofs.CallLaws.{means}
use Rattle.book.specs.BookLaws.{lawful}
use Rattle.book.specs.OutcomeLaws.{one-outcome}
use Rattle.demands.specs.HeldLaws.{holds_in, is-full, full_is, full_as}
use Rattle.demands.specs.AnswerLaws.{written-number, written-shown}

same_seen : (a b : Seen) → a.number ≡ b.number → a.value ≡ b.value → a ≡ b
same_seen a b p q = λ i. record { number = p i; value = q i }

pub on-book : {m : Meaning} {b : List ℕ} {a : Answer} {b₁ : List ℕ} (x : ProperBook b) → Outcome Current m b a b₁ → (a ≡ (acts x m).0) × (b₁ ≡ bytes_with x (acts x m).1)
on-book x o = one-outcome lawful o (this_book x refl refl)

look_is : (c : Call) (room : ℕ) → c.asked ≡ to_look room → Looks c
look_is c room o = rw o tt

pub no-look-write : (c : Call) (v : List ℕ) → c.asked ≡ to_write v → Looks c → ⊥
no-look-write c v o w = rw o at w

pub no-look-remove : (c : Call) → c.asked ≡ to_remove → Looks c → ⊥
no-look-remove c o w = rw o at w

-- only a lookup gives a value
silent : {c : Call} {m : Meaning} → Means c m → (Looks c → ⊥) → (full : Key → List Rec → Bool) (s : List Rec) → (seen (act full m s).0).value ≡ []
unfolding act
silent (declines d) n full s = refl
silent (writing {k = k} {v = v} ok) n full s = go (get s k) (full k s)
  where
    go : (x : Option (List ℕ)) (f : Bool) → (seen (add_to x f (put s k v) s).0).value ≡ []
    go (some u) f = refl
    go none true = refl
    go none false = refl
silent (removing {k = k} ok) n full s = go (get s k)
  where
    go : (x : Option (List ℕ)) → (seen (take_from x (del s k) s).0).value ≡ []
    go none = refl
    go (some u) = refl
silent {c} (looking {room = room} ok) n full s = absurd (n (look_is c room ok.asked))

-- the outcome behind what is permitted
outcome-to : (q : Asked) (b : List ℕ) (c : Call) (a : Seen) (b₁ : List ℕ) → PermittedTo q b c a b₁ → (ans : Answer) × Outcome Current (meaning c) b ans b₁ × (a.number ≡ (seen ans).number)
outcome-to (to_write v) b c a b₁ p = (p.0.answer, p.0.outcome, p.0.number)
outcome-to to_remove b c a b₁ p = (p.0.answer, p.0.outcome, p.0.number)
outcome-to (to_look room) b c a b₁ p = let f = p.0.found in (f.answer, rw p.1 f.outcome, p.0.number ∙ ap (λ (w : Written). w.refusal) f.written ∙ written-number f.answer)

pub outcome_of : (b : List ℕ) (c : Call) (a : Seen) (b₁ : List ℕ) → Permitted b c a b₁ → (ans : Answer) × Outcome Current (meaning c) b ans b₁ × (a.number ≡ (seen ans).number)
outcome_of b c a b₁ p = outcome-to c.asked b c a b₁ p

-- on a book the calls do what its records do
value-to : (q : Asked) (b : List ℕ) (c : Call) (a : Seen) (b₁ : List ℕ) → c.asked ≡ q → (x : ProperBook b) → PermittedTo q b c a b₁ → a.value ≡ (seen (acts x (meaning c)).0).value
value-to (to_write v) b c a b₁ o x p = p.1 ∙ sym (silent (means c) (no-look-write c v o) (full_in x) x.records)
value-to to_remove b c a b₁ o x p = p.1 ∙ sym (silent (means c) (no-look-remove c o) (full_in x) x.records)
value-to (to_look room) b c a b₁ o x p =
    let f = p.0.found in
    let e = (on-book x f.outcome).0 in
    p.0.gives
    ∙ ap (λ (w : Written). take w.length p.0.out₁) f.written
    ∙ ap (λ (l : List ℕ). take (written_by f.answer).length l) f.value
    ∙ written-shown f.answer p.0.out
    ∙ ap (λ (y : Answer). (seen y).value) e

pub permitted-book : (b : List ℕ) (c : Call) (a : Seen) (b₁ : List ℕ) (x : ProperBook b) → Permitted b c a b₁
    → (a ≡ seen (acts x (meaning c)).0) × (b₁ ≡ bytes_with x (acts x (meaning c)).1)
permitted-book b c a b₁ x p =
    let o = outcome_of b c a b₁ p in
    let e = on-book x o.1 in
    (same_seen a _ (o.2 ∙ ap (λ (y : Answer). (seen y).number) e.0) (value-to c.asked b c a b₁ refl x p), e.1)

-- a lookup leaves the records as they are
kept : {c : Call} {m : Meaning} → Means c m → Looks c → (full : Key → List Rec → Bool) (s : List Rec) → (act full m s).1 ≡ s
unfolding act
kept (declines d) w full s = refl
kept {c} (writing {v = v} ok) w full s = absurd (no-look-write c v ok.asked w)
kept {c} (removing ok) w full s = absurd (no-look-remove c ok.asked w)
kept (looking {k = k} ok) w full s = go (get s k)
  where
    go : (y : Option (List ℕ)) → (look_in y s).1 ≡ s
    go none = refl
    go (some u) = refl

-- on every book each call has an outcome
exists-to : (q : Asked) (b : List ℕ) (c : Call) → c.asked ≡ q → ProperBook b → (a : Seen) × (b₁ : List ℕ) × PermittedTo q b c a b₁
exists-to (to_write v) b c o x =
    let s = acts x (meaning c) in
    (record { number = (seen s.0).number; value = [] }, bytes_with x s.1, (record { answer = s.0; outcome = this_book x refl refl; number = refl }, refl))
exists-to to_remove b c o x =
    let s = acts x (meaning c) in
    (record { number = (seen s.0).number; value = [] }, bytes_with x s.1, (record { answer = s.0; outcome = this_book x refl refl; number = refl }, refl))
exists-to (to_look room) b c o x =
    let w : List ℕ = replicate room 0 in
    let s = acts x (meaning c) in
    let left = x.bytes ∙ ap (bytes_with x) (sym (kept (means c) (look_is c room o) (full_in x) x.records)) in
    let f : Found Current b (meaning c) w (written_by s.0) (shown s.0 w) = record { answer = s.0; outcome = this_book x refl left; written = refl; value = refl } in
    (record { number = (written_by s.0).refusal; value = take (written_by s.0).length (shown s.0 w) }, b, (record { out = w; out₁ = shown s.0 w; size = length-replicate room 0; written = written_by s.0; found = f; number = refl; gives = refl }, refl))

pub permitted_exists : (b : List ℕ) (c : Call) (x : ProperBook b) → (a : Seen) × (b₁ : List ℕ) × Permitted b c a b₁
permitted_exists b c x = exists-to c.asked b c refl x

-- ---- a refusal is given exactly when the table says so
-- the number that the records give, where it is not 0, is a row of the table
row_of : {b : List ℕ} (x : ProperBook b) {c : Call} {m : Meaning} → Means c m → (n : ℕ) → (n ≡ 0 → ⊥) → (seen (acts x m).0).number ≡ n → Refused b c n
unfolding act
row_of x (declines d) n nz e = rw (← e) (declined x d)
row_of {b} x {c} (writing {k = k} {v = v} ok) n nz e = go (get x.records k) refl (full_in x k x.records) refl e
  where
    go : (y : Option (List ℕ)) → get x.records k ≡ y → (f : Bool) → full_in x k x.records ≡ f
        → (seen (add_to y f (put x.records k v) x.records).0).number ≡ n → Refused b c n
    go (some u) g f w q = absurd (nz (sym q))
    go none g false w q = absurd (nz (sym q))
    go none g true w q = rw (← q) (book_full ok (record { book = x; is = g }) (is-full x k w))
row_of {b} x {c} (removing {k = k} ok) n nz e = go (get x.records k) refl e
  where
    go : (y : Option (List ℕ)) → get x.records k ≡ y → (seen (take_from y (del x.records k) x.records).0).number ≡ n → Refused b c n
    go none g q = rw (← q) (absent ok (record { book = x; is = g }))
    go (some u) g q = absurd (nz (sym q))
row_of {b} x {c} (looking {k = k} {room = room} ok) n nz e = go (get x.records k) refl e
  where
    go : (y : Option (List ℕ)) → get x.records k ≡ y → (seen (look_in y x.records).0).number ≡ n → Refused b c n
    go none g q = rw (← q) (not_found ok (record { book = x; is = g }))
    go (some u) g q = absurd (nz (sym q))

-- a row of the table, on a book, is what the records say
pub row-says : {b : List ℕ} (x : ProperBook b) (c : Call) {n : ℕ} → Refused b c n → (seen (acts x (meaning c)).0).number ≡ n
unfolding act
row-says x c (bad_book_when n) = absurd (n x)
row-says x c (declined y d) = rw (declined-means c d)
row-says x c (book_full {k = k} {v = v} ok g w) =
    let g' : get x.records k ≡ none = holds_in g x in
    let w' : full_in x k x.records ≡ true = full_is x k (full_as x g.book k w) in
    rw (writing-means c k v ok, g', w')
row-says x c (absent {k = k} ok g) =
    let g' : get x.records k ≡ none = holds_in g x in
    rw (removing-means c k ok, g')
row-says x c (not_found {k = k} {room = room} ok g) =
    let g' : get x.records k ≡ none = holds_in g x in
    rw (looking-means c k room ok, g')

pub refused_exactly : (b : List ℕ) (c : Call) (a : Seen) (b₁ : List ℕ) → Permitted b c a b₁ → (n : ℕ) → (n ≡ 0 → ⊥) → ((a.number ≡ n) → Refused b c n) × (Refused b c n → a.number ≡ n)
refused_exactly b c a b₁ p n nz = go o.1
  where
    o : (ans : Answer) × Outcome Current (meaning c) b ans b₁ × (a.number ≡ (seen ans).number)
    o = outcome_of b c a b₁ p

    nine : (ProperBook b → ⊥) → {e : Call} {j : ℕ} → Refused b e j → j ≡ 9
    nine m (bad_book_when y) = refl
    nine m (declined y d) = absurd (m y)
    nine m (book_full ok g w) = absurd (m g.book)
    nine m (absent ok g) = absurd (m g.book)
    nine m (not_found ok g) = absurd (m g.book)

    go : {ans : Answer} → Outcome Current (meaning c) b ans b₁ → ((a.number ≡ n) → Refused b c n) × (Refused b c n → a.number ≡ n)
    go (no_book m e f) =
        let z : a.number ≡ 9 = o.2 ∙ ap (λ (y : Answer). (seen y).number) (one-outcome lawful o.1 (no_book m refl f)).0 in
        (λ q. rw (sym q ∙ z) (bad_book_when m), λ r. z ∙ sym (nine m r))
    go (this_book x e f) =
        let z : a.number ≡ (seen (acts x (meaning c)).0).number = ap (λ (y : Seen). y.number) (permitted-book b c a b₁ x p).0 in
        (λ q. row_of x (means c) n nz (sym z ∙ q), λ r. z ∙ row-says x c r)
