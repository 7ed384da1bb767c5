-- The theorem of filling a table and of many lookups (ManyCall).
-- Assumes nothing.
use Rattle.std.specs.Prelude.{ℕ, zero, suc, ◌+◌, ◌-◌, ◌*◌, ◌<◌, ◌≤◌, ◌≡◌, refl, true, false, List, [], ◌∷◌, ◌++◌, ◌↔◌, length, take, drop}
use Rattle.std.proofs.Common.{sym, ap, ap₂, ◌∙◌, append_assoc, append-nil, arith, drop_of_length-le, take_at, drop_at, drop-drop}
use Rattle.std.proofs.Math.Option.{some}
use Rattle.std.proofs.Math.ListN.{get_elem?}
use Rattle.std.proofs.lemmas.List.{replicate-append-replicate}
use Rattle.text.specs.declared.Written.{Written}
use Rattle.text.specs.Put.{put, text, answer, done}
use Rattle.text.specs.PutLaws.{put-zero}
use Rattle.book_records.specs.Act.{Answer, says, gives}
use Rattle.book_records.specs.Act as act
use Rattle.book_records.specs.declared.Manner.TheVariants.{Plain}
use Rattle.book_records.specs.Calls.{is_owner}
use Rattle.book_form.specs.Form.{zeros}
use Rattle.book_form.specs.FormLaws.{length-zeros}
use Rattle.book.specs.Book.{Current, Book}
use Rattle.book.specs.BookLaws.{lawful}
use Rattle.book.specs.Outcome.{Looked, written_by, shown}
use Rattle.book_table.specs.Lines.{lines}
use Rattle.book_table.specs.Many.{entry_of, entries, table_of, looked_up, Fills, LooksMany}
use Rattle.book_table.specs.Many as many
use Rattle.book_table.specs.ManyLaws.{table-size, value-most, entry-size, entries-size, answer-is}
use Rattle.book_table.specs.OneLaws.{one_table}
use Rattle.demands.specs.RoomLaws.{Way, short, fits, way, number}
use Rattle.demands.specs.BookCalls.{Looks, looked}
use Rattle.demands.specs.ManyCall.{FillsTable, LooksUpMany, Filling, entry_at, Many, ManyDemand}

fills-outcome : {b t : List ℕ} {r : ℕ} {t₁ : List ℕ} → FillsTable b t r t₁ → Fills Current b t r t₁
fills-outcome x =
    let p : Fills Current x.args.0.now x.args.1.0.now x.result x.exits.1.0.now = x.ensures in
    rw (x.book_in, x.table_in, x.number_out, x.table_out) at p

many-outcome : {b : List ℕ} {owner : ℕ} {table texts out : List ℕ} {r : Written} {out₁ : List ℕ} → LooksUpMany b owner table texts out r out₁ → LooksMany Current b owner table texts out r out₁
many-outcome x =
    let p : LooksMany Current x.args.0.now x.args.1.0 x.args.1.1.0.now x.args.1.1.1.0.now x.args.1.1.1.1.0.now x.result x.exits.1.1.1.1.0.now = x.ensures in
    rw (x.book_in, x.owner_in, x.table_in, x.texts_in, x.out_in, x.answer_out, x.out_out) at p

-- two numbers that are not one
apart : {A : Type 0} (r m n : ℕ) → r ≡ m → (m ≡ n → ⊥) → r ≡ n → A
apart r m n e d q = absurd (d (sym e ∙ q))

-- ---- filling
size_of : {b : List ℕ} (x : Book Current b) → length (table_of x) ≡ 512
size_of {b} x = table-size b (length x.records) (x, refl)

filling : {b t : List ℕ} {r : ℕ} {t₁ : List ℕ} → Fills Current b t r t₁ → Filling b t r t₁
filling (many.Fills.no_book n e f) =
    record {
      bad_book_when = (λ q. n, λ q. e);
      no_room_when = (apart _ 9 4 e (λ z. omega arith), λ q. absurd (n q.0));
      done = (apart _ 9 0 e (λ z. omega arith), λ q. absurd (n q.0));
      filled = λ q x. absurd (n x);
    }
filling {b} {t} {r} {t₁} (many.Fills.this_book x e f) = go (way (table_of x) t (answer (text (table_of x)) (length t)) t₁ refl f)
  where
    go : Way (table_of x) t (answer (text (table_of x)) (length t)) t₁ → Filling b t r t₁
    go (short l a o) =
        let w : r ≡ 4 = e ∙ ap number a in
        record {
          bad_book_when = (apart _ 4 9 w (λ z. omega arith), λ q. absurd (q x));
          no_room_when = (λ q. (x, omega (arith, l, size_of x)), λ q. w);
          done = (apart _ 4 0 w (λ z. omega arith), λ q. absurd (let z : ⊥ = omega (arith, q.1, l, size_of x) in z));
          filled = apart _ 4 0 w (λ z. omega arith);
        }
    go (fits l a o) =
        let w : r ≡ 0 = e ∙ ap number a in
        record {
          bad_book_when = (apart _ 0 9 w (λ z. omega arith), λ q. absurd (q x));
          no_room_when = (apart _ 0 4 w (λ z. omega arith), λ q. absurd (let z : ⊥ = omega (arith, q.1, l, size_of x) in z));
          done = (λ q. (x, omega (arith, l, size_of x)), λ q. w);
          filled = λ q y. o ∙ put-zero t (table_of x) ∙ ap₂ (λ (u : List ℕ) (n : ℕ). u ++ drop n t) (one_table Current lawful b x y) (size_of x);
        }

-- ---- the bytes of one text
drop-zeros : (n : ℕ) → n ≤ 64 → drop n (zeros 64) ≡ zeros (64 - n)
drop-zeros n h =
    ap (λ (m : ℕ). drop n (zeros m)) (let q : 64 ≡ n + (64 - n) = omega arith in q)
    ∙ ap (drop n) (sym (replicate-append-replicate n (64 - n) 0))
    ∙ drop_at (zeros n) (zeros (64 - n)) n (length-zeros n)

-- the bytes of an answer are what a lookup with that answer gives
answer-bytes : (a : Answer) → (written_by a).length ≤ 64 → (room : List ℕ) (w : Written) (room₁ : List ℕ) → w ≡ written_by a → room₁ ≡ shown a room
    → entry_of a ≡ w.refusal ∷ w.length ∷ (take w.length room₁ ++ zeros (64 - w.length))
unfolding entry_of
answer-bytes (says n) l room w room₁ e f = rw e
answer-bytes act.done l room w room₁ e f = rw e
answer-bytes (gives v) l room w room₁ e f =
    let p : put (zeros 64) 0 v ≡ v ++ zeros (64 - length v) = put-zero (zeros 64) v ∙ ap (λ (u : List ℕ). v ++ u) (drop-zeros (length v) l) in
    let q : take (length v) room₁ ≡ v = ap (take (length v)) (f ∙ put-zero room v) ∙ take_at v (drop (length v) room) (length v) refl in
    rw e (ap (λ (u : List ℕ). 0 ∷ length v ∷ u) (p ∙ ap (λ (u : List ℕ). u ++ zeros (64 - length v)) (sym q)))

refused-bytes : (a : Answer) (w : Written) → w ≡ written_by a → (w.refusal ≡ 0 → ⊥) → entry_of a ≡ w.refusal ∷ zeros 65
unfolding entry_of
refused-bytes (says n) w e h = rw e
refused-bytes act.done w e h = absurd (h (ap number e))
refused-bytes (gives v) w e h = absurd (h (ap number e))

-- the bytes of the text at a place
entry-there : (f : List ℕ → Answer) → ((t : List ℕ) → length (entry_of (f t)) ≡ 66) → (ts : List (List ℕ)) (i : ℕ) (t : List ℕ) → get_elem? ts i ≡ some t → (rest : List ℕ) → entry_at (entries f ts ++ rest) i ≡ entry_of (f t)
unfolding entries
entry-there f s [] i t e rest = let z : ◌≡◌ {A = ℕ} 0 1 = cc in absurd (let y : ⊥ = omega arith in y)
entry-there f s (u ∷ ts) zero t e rest =
    let q : u ≡ t = cc in
    ap (take 66) (append_assoc (entry_of (f u)) (entries f ts) rest) ∙ take_at (entry_of (f u)) (entries f ts ++ rest) 66 (s u) ∙ ap (λ (v : List ℕ). entry_of (f v)) q
entry-there f s (u ∷ ts) (suc i) t e rest =
    ap (take 66)
    (ap (drop (66 * suc i)) (append_assoc (entry_of (f u)) (entries f ts) rest)
    ∙ ap (λ (n : ℕ). drop n (entry_of (f u) ++ (entries f ts ++ rest))) (let q : 66 * suc i ≡ 66 + 66 * i = omega arith in q)
    ∙ sym (drop-drop (66 * i) 66 (entry_of (f u) ++ (entries f ts ++ rest)))
    ∙ ap (drop (66 * i)) (drop_at (entry_of (f u)) (entries f ts ++ rest) 66 (s u)))
    ∙ entry-there f s ts i t e rest

-- ---- many lookups
module _ (b : List ℕ) (owner : ℕ) (table texts out : List ℕ) (r : Written) (out₁ : List ℕ) where
  abbrev count : ℕ
  count = length (lines texts)

  abbrev Said : Type 0
  Said = Many b owner table texts out r out₁

  none_read : (n : Book Current b → ⊥) → number r ≡ 9 → Said
  none_read n e =
      record {
        bad_book_when = (λ q. n, λ q. e);
        bad_owner_when = (apart _ 9 23 e (λ z. omega arith), λ q. absurd (n q.0));
        bad_table_when = (apart _ 9 22 e (λ z. omega arith), λ q. absurd (n q.0));
        no_room_when = (apart _ 9 4 e (λ z. omega arith), λ q. absurd (n q.0));
        done = (apart _ 9 0 e (λ z. omega arith), λ q. absurd (n q.0));
        size = apart _ 9 0 e (λ z. omega arith);
        later = apart _ 9 0 e (λ z. omega arith);
        each = apart _ 9 0 e (λ z. omega arith);
        refused = apart _ 9 0 e (λ z. omega arith);
      }

  nobodys : (x : Book Current b) → is_owner owner ≡ false → number r ≡ 23 → Said
  nobodys x w e =
      record {
        bad_book_when = (apart _ 23 9 e (λ z. omega arith), λ q. absurd (q x));
        bad_owner_when = (λ q. (x, w), λ q. e);
        bad_table_when = (apart _ 23 22 e (λ z. omega arith), λ q. not_both q.1);
        no_room_when = (apart _ 23 4 e (λ z. omega arith), λ q. not_both q.1);
        done = (apart _ 23 0 e (λ z. omega arith), λ q. not_both q.1);
        size = apart _ 23 0 e (λ z. omega arith);
        later = apart _ 23 0 e (λ z. omega arith);
        each = apart _ 23 0 e (λ z. omega arith);
        refused = apart _ 23 0 e (λ z. omega arith);
      }
    where
      not_both : {A : Type 0} → is_owner owner ≡ true → A
      not_both q = let z : true ≡ false = sym q ∙ w in let y : ◌≡◌ {A = ℕ} 0 1 = cc in absurd (omega arith)

  module _ (w : is_owner owner ≡ true) where
    known : {A : Type 0} → is_owner owner ≡ false → A
    known q = let z : true ≡ false = sym w ∙ q in let y : ◌≡◌ {A = ℕ} 0 1 = cc in absurd (omega arith)

    other-table : (x : Book Current b) → (table ≡ table_of x → ⊥) → number r ≡ 22 → Said
    other-table x n e =
        record {
          bad_book_when = (apart _ 22 9 e (λ z. omega arith), λ q. absurd (q x));
          bad_owner_when = (apart _ 22 23 e (λ z. omega arith), λ q. known q.1);
          bad_table_when = (λ q. (x, w, n), λ q. e);
          no_room_when = (apart _ 22 4 e (λ z. omega arith), λ q. absurd (n (q.2 ∙ one_table Current lawful b q.0 x)));
          done = (apart _ 22 0 e (λ z. omega arith), λ q. absurd (n (q.2 ∙ one_table Current lawful b q.0 x)));
          size = apart _ 22 0 e (λ z. omega arith);
          later = apart _ 22 0 e (λ z. omega arith);
          each = apart _ 22 0 e (λ z. omega arith);
          refused = apart _ 22 0 e (λ z. omega arith);
        }

    module _ (x : Book Current b) (g : table ≡ table_of x) where
      abbrev all : List ℕ
      all = entries (looked_up x owner) (lines texts)

      bytes : length all ≡ 66 * count
      bytes = entries-size b x owner (lines texts)

      same-table : (y : Book Current b) → (table ≡ table_of y → ⊥) → ⊥
      same-table y n = n (g ∙ one_table Current lawful b x y)

      too_short : length out < length all → number r ≡ 4 → Said
      too_short l e =
          record {
            bad_book_when = (apart _ 4 9 e (λ z. omega arith), λ q. absurd (q x));
            bad_owner_when = (apart _ 4 23 e (λ z. omega arith), λ q. known q.1);
            bad_table_when = (apart _ 4 22 e (λ z. omega arith), λ q. absurd (same-table q.0 q.2));
            no_room_when = (λ q. (x, w, g, omega (arith, l, bytes)), λ q. e);
            done = (apart _ 4 0 e (λ z. omega arith), λ q. absurd (let z : ⊥ = omega (arith, q.3, l, bytes) in z));
            size = apart _ 4 0 e (λ z. omega arith);
            later = apart _ 4 0 e (λ z. omega arith);
            each = apart _ 4 0 e (λ z. omega arith);
            refused = apart _ 4 0 e (λ z. omega arith);
          }

      module _ (l : length all ≤ length out) (e : r ≡ done (length all)) (o : out₁ ≡ put out 0 all) where
        stands : out₁ ≡ all ++ drop (length all) out
        stands = o ∙ put-zero out all

        there : (i : ℕ) (t : List ℕ) → get_elem? (lines texts) i ≡ some t → entry_at out₁ i ≡ entry_of (looked_up x owner t)
        there i t h = ap (λ (u : List ℕ). entry_at u i) stands ∙ entry-there (looked_up x owner) (entry-size b x owner) (lines texts) i t h (drop (length all) out)

        plain : (t room : List ℕ) → length room ≡ 64 → (u : Written) (room₁ : List ℕ) → Looks Plain b owner t room u room₁ → (u ≡ written_by (looked_up x owner t)) × (room₁ ≡ shown (looked_up x owner t) room)
        plain t room s u room₁ h =
            let f : Looked Current Plain b owner t room u room₁ = looked Plain b owner t room u room₁ h in
            rw s at (answer-is x f)

        answered : Said
        answered =
            let n : number r ≡ 0 = ap number e in
            record {
              bad_book_when = (apart _ 0 9 n (λ z. omega arith), λ q. absurd (q x));
              bad_owner_when = (apart _ 0 23 n (λ z. omega arith), λ q. known q.1);
              bad_table_when = (apart _ 0 22 n (λ z. omega arith), λ q. absurd (same-table q.0 q.2));
              no_room_when = (apart _ 0 4 n (λ z. omega arith), λ q. absurd (let z : ⊥ = omega (arith, q.3, l, bytes) in z));
              done = (λ q. (x, w, g, omega (arith, l, bytes)), λ q. n);
              size = λ q. ap (λ (u : Written). u.length) e ∙ bytes;
              later = λ q. ap (drop (66 * count)) stands ∙ drop_at all (drop (length all) out) (66 * count) bytes ∙ ap (λ (k : ℕ). drop k out) bytes;
              each = λ q i t h room s u room₁ c. let p = plain t room s u room₁ c in there i t h ∙ answer-bytes (looked_up x owner t) (value-most b x owner t) room u room₁ p.0 p.1;
              refused = λ q i t h room s u room₁ c z. let p = plain t room s u room₁ c in there i t h ∙ refused-bytes (looked_up x owner t) u p.0 z;
            }

many-says : {b : List ℕ} {owner : ℕ} {table texts out : List ℕ} {r : Written} {out₁ : List ℕ} → LooksMany Current b owner table texts out r out₁ → Many b owner table texts out r out₁
many-says {b} {owner} {table} {texts} {out} {r} {out₁} (many.LooksMany.no_book n e f) = none_read b owner table texts out r out₁ n (ap number e)
many-says {b} {owner} {table} {texts} {out} {r} {out₁} (many.LooksMany.no_owner x w e f) = nobodys b owner table texts out r out₁ x w (ap number e)
many-says {b} {owner} {table} {texts} {out} {r} {out₁} (many.LooksMany.bad_table_when x w n e f) = other-table b owner table texts out r out₁ w x n (ap number e)
many-says {b} {owner} {table} {texts} {out} {r} {out₁} (many.LooksMany.this_table x w g e f) = go (way (entries (looked_up x owner) (lines texts)) out r out₁ e f)
  where
    go : Way (entries (looked_up x owner) (lines texts)) out r out₁ → Many b owner table texts out r out₁
    go (short l a o) = too_short b owner table texts out r out₁ w x g l (ap number a)
    go (fits l a o) = answered b owner table texts out r out₁ w x g l a o

-- a filled table
taken : {b t : List ℕ} {r : ℕ} {t₁ : List ℕ} → Fills Current b t r t₁ → r ≡ 0 → length t ≡ 512
    → {owner : ℕ} → is_owner owner ≡ true → {table texts out : List ℕ} {q : Written} {out₁ : List ℕ} → LooksMany Current b owner table texts out q out₁ → (number q ≡ 22) ↔ (table ≡ t₁ → ⊥)
taken {b} {t} {r} {t₁} f e s w l =
    let p = filling f in
    let x = (p.done.0 e).0 in
    let is : t₁ ≡ table_of x = p.filled e x ∙ ap (λ (u : List ℕ). table_of x ++ u) (drop_of_length-le t (let q : length t ≤ 512 = omega (arith, s) in q)) ∙ append-nil (table_of x) in
    let m = (many-says l).bad_table_when in
    (λ z h. let y = m.0 z in y.2 (h ∙ is ∙ one_table Current lawful b x y.0), λ h. m.1 (x, w, λ g. h (g ∙ sym is)))

-- THE THEOREM
pub many_demand : ManyDemand
many_demand =
    record {
      fills = λ b table r table₁ x. filling (fills-outcome x);
      looks = λ b owner table texts out r out₁ x. many-says (many-outcome x);
      taken = λ b t r t₁ f e s owner w table texts out q out₁ l. taken (fills-outcome f) e s w (many-outcome l);
    }
