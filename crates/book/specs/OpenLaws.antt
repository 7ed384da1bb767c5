-- What follows from the opening of a call: its refusal is the call's, on every buffer, and else there is a book and a key.
-- Assumes nothing.
use Rattle.std.specs.Prelude.{ℕ, ◌≡◌, refl, true, false, List, ◌∷◌, length, Option, Some, None, Result, Ok, Err}
use Rattle.std.proofs.Common.{sym, ap, ◌∙◌, arith}
use borrow.Author.Tests.{eq-eqb, ne_eqb}
use Rattle.text.specs.Put as buffer
use Rattle.book_records.specs.declared.Manner.{Manner}
use Rattle.book_records.specs.Calls.{Asked, Call, is_owner, kind_in, is_retired, meaning, key_for}
use Rattle.book_records.specs.TextLaws.{Keyed}
use Rattle.book_records.proofs.TextLaws.{nobody-means}
use Rattle.book_key.specs.declared.MadeKey.{MadeKey}
use Rattle.book_key.specs.Field.{made_key}
use Rattle.book_key.specs.MadeLaws.{made-refuses, made-keyed, made-kind}
use Rattle.book.specs.declared.Opened.{Opened}
use Rattle.book.specs.Book.{Current, Counts, Judged}
use Rattle.book.specs.Open.{Opens, no_book, no_owner, this_book, opened}
use Rattle.book.specs.Outcome.{Changed, Found}
use Rattle.book.specs.OutcomeLaws.{changed-none, found_none}
use Rattle.book.specs.FindLaws.{changed-refused, looked-refused}
use Rattle.book.specs.RecordLaws.{judged-holds, judged-none}

-- ---- a call is refused or has started
refused-same : {X : Type 0} (n k : ℕ) → ◌≡◌ {A = Result X ℕ} (Err n) (Err k) → k ≡ n
refused-same n k e = cc

apart : {X A : Type 0} (n : ℕ) (x : X) → ◌≡◌ {A = Result X ℕ} (Err n) (Ok x) → A
apart n x e = let y : ◌≡◌ {A = ℕ} 0 1 = cc in absurd (omega arith)

opened-refused : (n k : ℕ) (r : Result MadeKey ℕ) → opened n r ≡ Err k → r ≡ Err k
opened-refused n k (Ok x) e = apart k _ (sym e)
opened-refused n k (Err f) e = ap (λ (z : ℕ). Err z) (sym (refused-same f k e))

-- the key with its kind
abbrev key_made : Opened → MadeKey
key_made o = record { kind = o.kind; key = o.key }

opened-done : (n : ℕ) (o : Opened) (r : Result MadeKey ℕ) → opened n r ≡ Ok o → (r ≡ Ok (key_made o)) × (n ≡ o.count)
opened-done n o (Ok x) e =
    let s : record { count = n; kind = x.kind; key = x.key } ≡ o = cc in
    (ap (λ (z : Opened). Ok (key_made z)) s, ap (λ (z : Opened). z.count) s)
opened-done n o (Err f) e = apart f _ e

module _ (m : Manner) (b : List ℕ) (owner : ℕ) (t : List ℕ) where
  abbrev call : Asked → Call
  call q = record { manner = m; owner = owner; text = t; asked = q }

  -- the three ways out of it
  module _ (a : Option ℕ) (h : Judged Current b a) (r : Result Opened ℕ) where
    pub open_none : a ≡ None → r ≡ Err 9 → Opens m b owner t r
    open_none e n = no_book (judged-none b a h e) n

    pub open_nobody : (n : ℕ) → a ≡ Some n → is_owner owner ≡ false → r ≡ Err 23 → Opens m b owner t r
    open_nobody n e w f = no_owner (judged-holds b a n h e).0 w f

    pub open-some : (n : ℕ) → a ≡ Some n → is_owner owner ≡ true → r ≡ opened n (made_key (key_for m t)) → Opens m b owner t r
    open-some n e w k = this_book n (judged-holds b a n h e) w k

  module _ (r : Result Opened ℕ) (x : Opens m b owner t r) where
    module _ (n : ℕ) (f : r ≡ Err n) (q : Asked) where
      pub open_changed : Changed Current b (meaning (call q)) n b
      open_changed = go x
        where
          go : Opens m b owner t r → Changed Current b (meaning (call q)) n b
          go (no_book y e) = rw (refused-same 9 n (sym e ∙ f)) (changed-none y)
          go (no_owner y w e) = rw (refused-same 23 n (sym e ∙ f)) (changed-refused Current b (length y.records) (y, refl) (meaning (call q)) 23 (nobody-means m owner t q w))
          go (this_book c h w e) = changed-refused Current b c h _ n (made-refuses m t _ refl n (opened-refused c n _ (sym e ∙ f)) owner w q)

      pub open-found : (out : List ℕ) → Found Current b (meaning (call q)) out (buffer.refusal n) out
      open-found out = go x
        where
          go : Opens m b owner t r → Found Current b (meaning (call q)) out (buffer.refusal n) out
          go (no_book y e) = rw (refused-same 9 n (sym e ∙ f)) (found_none y)
          go (no_owner y w e) = rw (refused-same 23 n (sym e ∙ f)) (looked-refused Current b (length y.records) (y, refl) (meaning (call q)) 23 (nobody-means m owner t q w) out)
          go (this_book c h w e) = looked-refused Current b c h _ n (made-refuses m t _ refl n (opened-refused c n _ (sym e ∙ f)) owner w q) out

    module _ (o : Opened) (f : r ≡ Ok o) where
      pub open-counts : Counts Current b o.count
      open-counts = go x
        where
          go : Opens m b owner t r → Counts Current b o.count
          go (no_book y e) = apart 9 o (sym e ∙ f)
          go (no_owner y w e) = apart 23 o (sym e ∙ f)
          go (this_book c h w e) = rw (← (opened-done c o _ (sym e ∙ f)).1) h

      pub open-owner : is_owner owner ≡ true
      open-owner = go x
        where
          go : Opens m b owner t r → is_owner owner ≡ true
          go (no_book y e) = apart 9 o (sym e ∙ f)
          go (no_owner y w e) = apart 23 o (sym e ∙ f)
          go (this_book c h w e) = w

      made : made_key (key_for m t) ≡ Ok (key_made o)
      made = go x
        where
          go : Opens m b owner t r → made_key (key_for m t) ≡ Ok (key_made o)
          go (no_book y e) = apart 9 o (sym e ∙ f)
          go (no_owner y w e) = apart 23 o (sym e ∙ f)
          go (this_book c h w e) = (opened-done c o _ (sym e ∙ f)).0

      pub open-keyed : Keyed m t o.key.bytes o.key.len
      open-keyed = made-keyed m t _ refl (key_made o) made

      open-kind : o.kind ≡ kind_in open-keyed.key
      open-kind = made-kind m t _ refl (key_made o) made o.key.bytes o.key.len open-keyed

      -- its kind tells whether the key is retired
      pub open-retired : o.kind ≡ 8 → is_retired (owner ∷ open-keyed.key) ≡ true
      unfolding is_retired
      open-retired e = eq-eqb (kind_in open-keyed.key) 8 (sym open-kind ∙ e)

      pub open_live : (o.kind ≡ 8 → ⊥) → is_retired (owner ∷ open-keyed.key) ≡ false
      unfolding is_retired
      open_live n = ne_eqb (kind_in open-keyed.key) 8 (λ e. n (open-kind ∙ e))
