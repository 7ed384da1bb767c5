-- Laws of a sweep: what a book's bytes are after some of its slots, and at the end.
-- Assumes nothing.
use Rattle.std.specs.Prelude.{◌≡◌, refl, Bool, true, false}
use Rattle.std.proofs.Math.Path.{sym, ap}
use Rattle.std.proofs.Common.{◌∙◌, add-one, length-append, length-take, length-drop, take-append-drop, take_at, take_all, drop_at, drop-drop}
use Rattle.std.proofs.Math.Bool.{cond}
use mathlib.Core.List.{List, [], ◌∷◌, ◌++◌, append_assoc, append-nil}
use Rattle.std.proofs.Math.Option.{some}
use Prim.Native.Nat.{ℕ, ◌+◌, ◌*◌, ◌-◌, ◌<◌, ◌≤◌}
use native.Mathlib.Omega.{arith}
use Rattle.std.proofs.Math.ListN.{length, take, drop, get_elem?}
use Rattle.std.proofs.Math.Seq.{slice}
use Rattle.text.specs.PlaceLaws.{at_some, take-suc-at}
use Rattle.runs.specs.Without.{without}
use Rattle.book_records.specs.Act.{Rec}
use Rattle.book_form.specs.Moves.{lowered}
use Rattle.book_form.specs.MovesLaws.{slice-take, length-lowered, take-lowered, drop-lowered}
use Rattle.book_form.specs.Form.{AllFit, slots, layout, zeros, removed}
use Rattle.book_form.specs.FormLaws.{slots-append, length_before, layout-removed}
use Rattle.book_form.specs.declared.Quotas.{Quotas}
use Rattle.book_form.specs.declared.Version.TheVariants.{Three}
use Rattle.book_form.specs.Version.{quotas_in}
use Rattle.book.specs.Book.{Current, Book, Counts}
use Rattle.book.specs.BookLaws.{lawful, one-book, few-records, sizes, fit_at, slot-there}
use Rattle.book.specs.ShareLaws.{told_of}
use Rattle.book_clear.specs.declared.role.Role.{Role}
use Rattle.book_clear.specs.declared.states.Stay.{Stay}
use Rattle.book_clear.specs.Notes.{note_at}
use Rattle.book_clear.specs.Stay.{leaves}
use Rattle.book_clear.specs.Sweep.{LeaveIs, Swept}
use Rattle.book_clear.specs.LeftLaws.{length_parted, all_left}

-- ---- lists with some elements left out
without-append : (out : Rec → Bool) (a b : List Rec) → without out (a ++ b) ≡ without out a ++ without out b
unfolding without
without-append out [] b = refl
without-append out (r ∷ a) b = go (out r) (without-append out a b)
  where
    go : (v : Bool) → without out (a ++ b) ≡ without out a ++ without out b → cond v (without out (a ++ b)) (r ∷ without out (a ++ b)) ≡ cond v (without out a) (r ∷ without out a) ++ without out b
    go true ih = ih
    go false ih = ap (λ (l : List Rec). r ∷ l) ih

length-one : (a : List Rec) (r : Rec) → length (a ++ (r ∷ [])) ≡ length a + 1
length-one a r = length-append a (r ∷ [])

-- one element more
module _ (out : Rec → Bool) (s : List Rec) (i : ℕ) (r : Rec) (e : get_elem? s i ≡ some r) where
  one_more : without out (take (i + 1) s) ≡ without out (take i s) ++ without out (r ∷ [])
  one_more = ap (λ (n : ℕ). without out (take n s)) (add-one i) ∙ ap (without out) (take-suc-at s i r e) ∙ without-append out (take i s) (r ∷ [])

  more_left : out r ≡ true → without out (take (i + 1) s) ≡ without out (take i s)
  unfolding without
  more_left h = one_more ∙ ap (λ (v : Bool). without out (take i s) ++ cond v [] (r ∷ [])) h ∙ append-nil (without out (take i s))

  more_stays : out r ≡ false → without out (take (i + 1) s) ≡ without out (take i s) ++ (r ∷ [])
  unfolding without
  more_stays h = one_more ∙ ap (λ (v : Bool). without out (take i s) ++ cond v [] (r ∷ [])) h

-- ---- the loop
-- in front the header and those that stay of the first i records, `kept` of them
pub record Front {b : List ℕ} (x : Book Current b) (leave : Rec → Bool) (b₁ : List ℕ) (i kept : ℕ) : Type 0 where
  pub count : length (without leave (take i x.records)) ≡ kept
  pub bytes : take (12 + 322 * kept) b₁ ≡ Current.header x.extra (length x.records) ++ slots Current (without leave (take i x.records))

-- and from slot i on nothing has changed
pub record SweptTo (b : List ℕ) (rs : List Role) (t : Stay) (b₁ : List ℕ) (i kept : ℕ) : Type 0 where
  pub size : length b₁ ≡ length b
  pub rest : drop (12 + 322 * i) b₁ ≡ drop (12 + 322 * i) b
  pub front : (x : Book Current b) (leave : Rec → Bool) → LeaveIs x.records rs t leave → Front x leave b₁ i kept

-- the same bytes and the same number
pub swept_same : {b : List ℕ} {rs : List Role} {t : Stay} {b₁ : List ℕ} {i kept : ℕ} → SweptTo b rs t b₁ i kept → (b₂ : List ℕ) (m : ℕ) → b₂ ≡ b₁ → m ≡ kept → SweptTo b rs t b₂ i m
swept_same g b₂ m e f = rw (e, f) g

pub swept-start : (b : List ℕ) (rs : List Role) (t : Stay) → SweptTo b rs t b 0 0
unfolding without slots layout
swept-start b rs t =
    record {
      size = refl;
      rest = refl;
      front = λ x leave l. record { count = refl; bytes = ap (λ (l : List ℕ). take 12 l) x.bytes ∙ take_at (Current.header x.extra (length x.records)) _ 12 (lawful.header-length x.extra (length x.records)) ∙ sym (append-nil _) };
    }

module _ (b : List ℕ) (n : ℕ) (h : Counts Current b n) (rs : List Role) (t : Stay) (b₁ : List ℕ) (i kept : ℕ) (g : SweptTo b rs t b₁ i kept) where
  count-any : (x : Book Current b) → length x.records ≡ n
  count-any x = ap length (one-book Current lawful b x h.0).2 ∙ h.1

  used : 12 + 322 * n ≤ length b
  used = (sizes Current lawful b n h).used

  -- a slot further on nothing has changed either
  further : (c : List ℕ) → drop (12 + 322 * i) c ≡ drop (12 + 322 * i) b → drop (12 + 322 * (i + 1)) c ≡ drop (12 + 322 * (i + 1)) b
  further c e =
      let z : 12 + 322 * (i + 1) ≡ 12 + 322 * i + 322 = omega arith in
      ap (λ (m : ℕ). drop m c) z ∙ sym (drop-drop 322 (12 + 322 * i) c) ∙ ap (λ (l : List ℕ). drop 322 l) e ∙ drop-drop 322 (12 + 322 * i) b ∙ ap (λ (m : ℕ). drop m b) (sym z)

  module _ (l : i < n) (v : Bool) (ev : v ≡ leaves t (note_at rs i)) where
    -- the record of slot i
    there : (x : Book Current b) → (r : Rec) × (get_elem? x.records i ≡ some r)
    there x = at_some x.records i (omega (arith, count-any x))

    pub swept-left : v ≡ true → SweptTo b rs t b₁ (i + 1) kept
    swept-left f =
        record {
          size = g.size;
          rest = further b₁ g.rest;
          front = λ x leave w.
              let r = there x in
              let e : without leave (take (i + 1) x.records) ≡ without leave (take i x.records) = more_left leave x.records i r.0 r.1 (w i r.0 r.1 ∙ sym ev ∙ f) in
              record { count = ap length e ∙ (g.front x leave w).count; bytes = (g.front x leave w).bytes ∙ ap (λ (s : List Rec). Current.header x.extra (length x.records) ++ slots Current s) (sym e) };
        }

    module _ (k : kept ≤ i) (b₂ : List ℕ) (moved : b₂ ≡ lowered (12 + 322 * i) (12 + 322 * (i + 1)) (322 * (i - kept)) b₁) where
      -- the bytes of slot i
      slot_is : (x : Book Current b) (r : Rec) → get_elem? x.records i ≡ some r → slice (12 + 322 * i) (12 + 322 * (i + 1)) b₁ ≡ Current.slot r
      slot_is x r e =
          let s = slot-there Current lawful b x i r e in
          slice-take (12 + 322 * i) (12 + 322 * (i + 1)) b₁ (omega arith) (omega (arith, used, g.size))
          ∙ ap (λ (m : ℕ). take m (drop (12 + 322 * i) b₁)) (let z : 12 + 322 * (i + 1) - (12 + 322 * i) ≡ 322 = omega arith in z)
          ∙ ap (λ (q : List ℕ). take 322 q) (g.rest ∙ s.1)
          ∙ take_at (Current.slot r) s.0 322 (lawful.slot-length r (fit_at Current x.records i r x.fit e))

      pub swept_kept : v ≡ false → SweptTo b rs t b₂ (i + 1) (kept + 1)
      unfolding slots
      swept_kept f =
          record {
            size = ap length moved ∙ length-lowered (12 + 322 * i) (12 + 322 * (i + 1)) (322 * (i - kept)) b₁ (omega arith) (omega arith) (omega (arith, used, g.size)) ∙ g.size;
            rest = ap (λ (q : List ℕ). drop (12 + 322 * (i + 1)) q) moved ∙ drop-lowered (12 + 322 * i) (12 + 322 * (i + 1)) (322 * (i - kept)) b₁ (omega arith) (omega arith) (omega (arith, used, g.size)) (12 + 322 * (i + 1)) (omega arith) ∙ further b₁ g.rest;
            front = λ x leave w.
                let r = there x in
                let a : List Rec = without leave (take i x.records) in
                let hd : List ℕ = Current.header x.extra (length x.records) in
                let e : without leave (take (i + 1) x.records) ≡ a ++ (r.0 ∷ []) = more_stays leave x.records i r.0 r.1 (w i r.0 r.1 ∙ sym ev ∙ f) in
                let one : take (12 + 322 * (kept + 1)) b₂ ≡ take (12 + 322 * kept) b₁ ++ slice (12 + 322 * i) (12 + 322 * (i + 1)) b₁ =
                ap (λ (m : ℕ). take m b₂) (let z : 12 + 322 * (kept + 1) ≡ 12 + 322 * (i + 1) - 322 * (i - kept) = omega arith in z)
                ∙ ap (λ (q : List ℕ). take (12 + 322 * (i + 1) - 322 * (i - kept)) q) moved
                ∙ take-lowered (12 + 322 * i) (12 + 322 * (i + 1)) (322 * (i - kept)) b₁ (omega arith) (omega arith) (omega (arith, used, g.size))
                ∙ ap (λ (m : ℕ). take m b₁ ++ slice (12 + 322 * i) (12 + 322 * (i + 1)) b₁) (let z : 12 + 322 * i - 322 * (i - kept) ≡ 12 + 322 * kept = omega arith in z) in
                let two : slots Current (a ++ (r.0 ∷ [])) ≡ slots Current a ++ Current.slot r.0 = slots-append Current lawful a (r.0 ∷ []) ∙ ap (λ (q : List ℕ). slots Current a ++ q) (append-nil (Current.slot r.0)) in
                record {
                  count = ap length e ∙ length-one a r.0 ∙ ap (λ (m : ℕ). m + 1) (g.front x leave w).count;
                  bytes = one ∙ ap (λ (q : List ℕ). q ++ slice (12 + 322 * i) (12 + 322 * (i + 1)) b₁) (g.front x leave w).bytes ∙ ap (λ (q : List ℕ). (hd ++ slots Current a) ++ q) (slot_is x r.0 r.1) ∙ append_assoc hd (slots Current a) (Current.slot r.0) ∙ ap (λ (q : List ℕ). hd ++ q) (sym two) ∙ ap (λ (s : List Rec). hd ++ slots Current s) (sym e);
                };
          }

  pub swept-end : i ≡ n → kept ≤ i → (b₂ : List ℕ) → b₂ ≡ removed Current (quotas_in b₁) kept n n b₁ → Swept b rs t (n - kept) b₂
  unfolding slots layout
  swept-end ei k b₂ e x leave w = (omega (arith, length_parted leave s, lens, len), e ∙ ap (λ (q : Quotas). removed Current q kept n n b₁) told ∙ ap (removed Current x.extra kept n n) parts ∙ layout-removed Current lawful x.slots x.extra hd a gap [] kept n n (lawful.header-length x.extra (length s)) fits tt lens (omega arith) lgap (omega arith) (omega (arith, few-records Current lawful b x, len)) ∙ ap (layout Current x.slots x.extra) (append-nil a))
    where
      s : List Rec
      s = x.records

      a : List Rec
      a = without leave s

      hd : List ℕ
      hd = Current.header x.extra (length s)

      len : length s ≡ n
      len = count-any x

      all : take i s ≡ s
      all = take_all i s (omega (arith, len))

      f : Front x leave b₁ i kept
      f = g.front x leave w

      lens : length a ≡ kept
      lens = ap (λ (q : List Rec). length (without leave q)) (sym all) ∙ f.count

      fits : AllFit Current a
      fits = all_left leave (AllFit Current) tt (λ r p q y z. (y.0, z)) (λ r p y. y.1) s x.fit

      front : take (12 + 322 * kept) b₁ ≡ hd ++ slots Current a
      front = f.bytes ∙ ap (λ (q : List Rec). hd ++ slots Current (without leave q)) all

      zz : List ℕ
      zz = zeros (322 * (x.slots - n))

      -- behind the last slot
      tail : drop (12 + 322 * n) b₁ ≡ zz
      tail =
          ap (λ (m : ℕ). drop (12 + 322 * m) b₁) (sym ei)
          ∙ g.rest
          ∙ ap (λ (m : ℕ). drop (12 + 322 * m) b) (ei ∙ sym len)
          ∙ ap (λ (q : List ℕ). drop (12 + 322 * length s) q) (x.bytes ∙ sym (append_assoc hd (slots Current s) (zeros (322 * (x.slots - length s)))))
          ∙ drop_at (hd ++ slots Current s) (zeros (322 * (x.slots - length s))) (12 + 322 * length s) (length_before Current lawful x.extra (length s) s x.fit)
          ∙ ap (λ (m : ℕ). zeros (322 * (x.slots - m))) len

      gap : List ℕ
      gap = take (322 * (n - kept)) (drop (12 + 322 * kept) b₁)

      lgap : length gap ≡ 322 * (n - kept)
      lgap = omega (arith, length-take (322 * (n - kept)) (drop (12 + 322 * kept) b₁), length-drop (12 + 322 * kept) b₁, g.size, used)

      parts : b₁ ≡ hd ++ (slots Current a ++ (gap ++ zz))
      parts =
          sym (take-append-drop (12 + 322 * kept) b₁)
          ∙ ap (λ (q : List ℕ). q ++ drop (12 + 322 * kept) b₁) front
          ∙ ap (λ (q : List ℕ). (hd ++ slots Current a) ++ q)
          (sym (take-append-drop (322 * (n - kept)) (drop (12 + 322 * kept) b₁))
          ∙ ap (λ (q : List ℕ). gap ++ q) (drop-drop (322 * (n - kept)) (12 + 322 * kept) b₁ ∙ ap (λ (m : ℕ). drop m b₁) (let z : 12 + 322 * kept + 322 * (n - kept) ≡ 12 + 322 * n = omega arith in z) ∙ tail))
          ∙ append_assoc hd (slots Current a) (gap ++ zz)

      told : quotas_in b₁ ≡ x.extra
      told = ap quotas_in parts ∙ told_of Three x.extra (length s) (slots Current a ++ (gap ++ zz))
