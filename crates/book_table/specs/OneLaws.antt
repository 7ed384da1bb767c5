-- Each call on a table has one outcome.
-- Assumes nothing.
use Rattle.std.specs.Prelude.{◌≡◌, ℕ, true, false, List, [], ◌∷◌, ◌++◌, map, length, ◌≢◌, Option, Some, None}
use Rattle.std.proofs.Math.Path.{refl, ap₂}
use Rattle.std.proofs.Common.{sym, ap, ◌∙◌, arith}
use Rattle.text.specs.declared.Written.{Written}
use Rattle.text.specs.Put.{text, answer, left}
use Rattle.book_records.specs.Act.{Rec, Answer}
use Rattle.book_records.specs.Records.{Key}
use Rattle.book_records.specs.declared.Manner.TheVariants.{Plain}
use Rattle.book_records.specs.Calls.{is_owner, look, meaning}
use Rattle.book_form.specs.Form.{Form}
use Rattle.book_form.specs.FormLaws.{Lawful}
use Rattle.book.specs.Book.{Book}
use Rattle.book.specs.BookLaws.{one-book}
use Rattle.book.specs.Outcome.{this_book}
use Rattle.book.specs.OutcomeLaws.{one-outcome}
use Rattle.book_table.specs.Lines.{lines}
use Rattle.book_table.specs.Many.{entry_of, entries, table_of, looked_up, Fills, LooksMany}
use Rattle.book_table.specs.Many as many
use Rattle.book_table.specs.Table.{fill}
use Rattle.book_table.specs.Probe.{Told}
use Rattle.book_table.specs.ProbeLaws.{Rising, one_holds}

pub one_told : (f : ℕ → Key) (n : ℕ) → Rising f n → (k : Key) (s t : Option ℕ) → Told f n k s → Told f n k t → s ≡ t
one_told f n u k (Some i) (Some j) x y = ap Some (one_holds f n u k i j x y)
one_told f n u k (Some i) None x y = absurd (y i x)
one_told f n u k None (Some j) x y = absurd (x j y)
one_told f n u k None None x y = refl

module _ (F : Form) (L : Lawful F) where
  pub one_table : (b : List ℕ) (x y : Book F b) → table_of x ≡ table_of y
  one_table b x y = ap (λ (s : List Rec). fill (map (λ (r : Rec). r.0) s)) (one-book F L b x y).2

  pub one-fills : {b out : List ℕ} {r q : ℕ} {o o' : List ℕ} → Fills F b out r o → Fills F b out q o' → (r ≡ q) × (o ≡ o')
  one-fills (many.Fills.no_book n e f) (many.Fills.no_book k g h) = (e ∙ sym g, f ∙ sym h)
  one-fills (many.Fills.no_book n e f) (many.Fills.this_book x g h) = absurd (n x)
  one-fills (many.Fills.this_book x e f) (many.Fills.no_book k g h) = absurd (k x)
  one-fills {b} {out} (many.Fills.this_book x e f) (many.Fills.this_book y g h) =
      let w = one_table b x y in
      (e ∙ ap (λ (t : List ℕ). (answer (text t) (length out)).refusal) w ∙ sym g, f ∙ ap (λ (t : List ℕ). left (text t) out) w ∙ sym h)

  one-entries : {b : List ℕ} (x y : Book F b) (o : ℕ) (ts : List (List ℕ)) → entries (looked_up x o) ts ≡ entries (looked_up y o) ts
  unfolding entries
  one-entries x y o [] = refl
  one-entries x y o (t ∷ ts) = ap₂ (λ (a : Answer) (u : List ℕ). entry_of a ++ u) (one-outcome L {m = meaning (look Plain o t 64)} (this_book x refl refl) (this_book y refl refl)).0 (one-entries x y o ts)

  one-owner : (o : ℕ) → is_owner o ≡ false → is_owner o ≢ true
  one-owner o e f = let z : ◌≡◌ {A = ℕ} 0 1 = cc in omega arith

  pub one_many : {b : List ℕ} {o : ℕ} {table texts out : List ℕ} {r q : Written} {b₁ b₂ : List ℕ} → LooksMany F b o table texts out r b₁ → LooksMany F b o table texts out q b₂ → (r ≡ q) × (b₁ ≡ b₂)
  one_many (many.LooksMany.no_book n e f) (many.LooksMany.no_book k g h) = (e ∙ sym g, f ∙ sym h)
  one_many (many.LooksMany.no_book n e f) (many.LooksMany.no_owner y v g h) = absurd (n y)
  one_many (many.LooksMany.no_book n e f) (many.LooksMany.bad_table_when y v t g h) = absurd (n y)
  one_many (many.LooksMany.no_book n e f) (many.LooksMany.this_table y v t g h) = absurd (n y)
  one_many (many.LooksMany.no_owner x w e f) (many.LooksMany.no_book k g h) = absurd (k x)
  one_many (many.LooksMany.no_owner x w e f) (many.LooksMany.no_owner y v g h) = (e ∙ sym g, f ∙ sym h)
  one_many {o = o} (many.LooksMany.no_owner x w e f) (many.LooksMany.bad_table_when y v t g h) = absurd (one-owner o w v)
  one_many {o = o} (many.LooksMany.no_owner x w e f) (many.LooksMany.this_table y v t g h) = absurd (one-owner o w v)
  one_many (many.LooksMany.bad_table_when x w s e f) (many.LooksMany.no_book k g h) = absurd (k x)
  one_many {o = o} (many.LooksMany.bad_table_when x w s e f) (many.LooksMany.no_owner y v g h) = absurd (one-owner o v w)
  one_many (many.LooksMany.bad_table_when x w s e f) (many.LooksMany.bad_table_when y v t g h) = (e ∙ sym g, f ∙ sym h)
  one_many {b = b} (many.LooksMany.bad_table_when x w s e f) (many.LooksMany.this_table y v t g h) = absurd (s (t ∙ one_table b y x))
  one_many (many.LooksMany.this_table x w s e f) (many.LooksMany.no_book k g h) = absurd (k x)
  one_many {o = o} (many.LooksMany.this_table x w s e f) (many.LooksMany.no_owner y v g h) = absurd (one-owner o v w)
  one_many {b = b} (many.LooksMany.this_table x w s e f) (many.LooksMany.bad_table_when y v t g h) = absurd (t (s ∙ one_table b x y))
  one_many {o = o} {texts = texts} {out = out} (many.LooksMany.this_table x w s e f) (many.LooksMany.this_table y v t g h) =
      let z = one-entries x y o (lines texts) in
      (e ∙ ap (λ (u : List ℕ). answer (text u) (length out)) z ∙ sym g, f ∙ ap (λ (u : List ℕ). left (text u) out) z ∙ sym h)
