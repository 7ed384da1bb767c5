-- The generated contracts allow all that `Permitted` allows, so what `BookCalls` proves of them is not empty.
-- Assumes nothing.
use Rattle.std.specs.Prelude.{refl, List, [], ◌∷◌, ◌++◌, ℕ}
use Rattle.std.proofs.Common.{sym, subst}
use Rattle.std.specs.Borrow.{Bor, MutBor}
use Rattle.runs.specs.Runs.{Runs, stop, next}
use Rattle.runs.specs.Without.{without}
use Rattle.text.specs.declared.Written.{Written}
use Rattle.book_records.specs.Act.{Seen}
use Rattle.book_records.specs.declared.Manner.{Manner}
use Rattle.book_records.specs.declared.Manner.TheVariants.{Plain, Lenient}
use Rattle.book_records.specs.Calls.{Asked, to_write, to_remove, to_look, Call, look, meaning}
use Rattle.book.specs.Book.{Current, bytes_with}
use Rattle.book.specs.Outcome.{Found, Recorded, Removed, Looked}
use Rattle.book_oldest.specs.Oldest.{oldest_in}
use Rattle.book_oldest.specs.Oldest as by-records
use Rattle.book_clear.specs.Clear.{clear_in}
use Rattle.book_clear.specs.Clear as by-clear
use Rattle.demands.specs.Held.{Room, ProperBook}
use Rattle.demands.specs.Permitted.{Permitted}
use Rattle.demands.specs.PermittedLaws.{permitted_exists}
use Rattle.demands.specs.Demand3.{Taken}
use Rattle.demands.specs.Useless.{run_exists}
use Rattle.demands.specs.MachineLaws.{good_of, book_of, keeps-book}
use Rattle.demands.specs.OldestCall.{OldestCall}
use Rattle.demands.specs.ClearCall.{ClearCall}
use Rattle.demands.specs.ClearBookLaws.{good-clear}
use Rattle.demands.specs.Isolation.{Event, call, oldest, clear, Reply, seen, pair, went, is_of, Happens, called, found, emptied, Any, Alone}
use Rattle.demands.specs.ClearMoves.{AllApart, calls_in, Moved}
use Rattle.demands.specs.BookCalls.{WritePost, RemovePost, LookPost, Writes, Removes, Looks, DoesTo, Does}

abbrev lent : List ℕ → Bor (List ℕ)
lent l = record { ref_ptr = (0, 0); now = l }

-- the same, lent to be written
abbrev given : List ℕ → MutBor (List ℕ)
given l = record { ref_ptr = (0, 0); ghost_name = 0; now = l }

writes : (m : Manner) (b : List ℕ) (o : ℕ) (t v : List ℕ) (r : ℕ) (b₁ : List ℕ) → Recorded Current m b o t v r b₁ → Writes m b o t v r b₁
writes m b o t v r b₁ w =
    record {
      lifetimes = ([], ([], ([], tt)));
      args = (given b, (o, (lent t, (lent v, tt))));
      result = r;
      exits = (given b₁, (o, (lent t, (lent v, tt))));
      book_in = refl;
      owner_in = refl;
      text_in = refl;
      value_in = refl;
      number_out = refl;
      book_out = refl;
      ensures = go m w;
    }
  where
    go : (n : Manner) → Recorded Current n b o t v r b₁ → WritePost n ([], ([], ([], tt))) (given b, (o, (lent t, (lent v, tt)))) r (given b₁, (o, (lent t, (lent v, tt))))
    go Plain p = p
    go Lenient p = p

removes : (m : Manner) (b : List ℕ) (o : ℕ) (t : List ℕ) (r : ℕ) (b₁ : List ℕ) → Removed Current m b o t r b₁ → Removes m b o t r b₁
removes m b o t r b₁ w =
    record { lifetimes = ([], ([], tt)); args = (given b, (o, (lent t, tt))); result = r; exits = (given b₁, (o, (lent t, tt))); book_in = refl; owner_in = refl; text_in = refl; number_out = refl; book_out = refl; ensures = go m w }
  where
    go : (n : Manner) → Removed Current n b o t r b₁ → RemovePost n ([], ([], tt)) (given b, (o, (lent t, tt))) r (given b₁, (o, (lent t, tt)))
    go Plain p = p
    go Lenient p = p

looks : (m : Manner) (b : List ℕ) (o : ℕ) (t out : List ℕ) (r : Written) (out₁ : List ℕ) → Looked Current m b o t out r out₁ → Looks m b o t out r out₁
looks m b o t out r out₁ w =
    record {
      lifetimes = ([], ([], ([], tt)));
      args = (lent b, (o, (lent t, (given out, tt))));
      result = r;
      exits = (lent b, (o, (lent t, (given out₁, tt))));
      book_in = refl;
      owner_in = refl;
      text_in = refl;
      out_in = refl;
      answer_out = refl;
      out_out = refl;
      ensures = go m w;
    }
  where
    go : (n : Manner) → Looked Current n b o t out r out₁ → LookPost n ([], ([], ([], tt))) (lent b, (o, (lent t, (given out, tt)))) r (lent b, (o, (lent t, (given out₁, tt))))
    go Plain p = p
    go Lenient p = p

pub allows-to : (m : Manner) (q : Asked) (b : List ℕ) (o : ℕ) (t : List ℕ) (a : Seen) (b₁ : List ℕ) → Permitted b (record { manner = m; owner = o; text = t; asked = q }) a b₁ → DoesTo m q b o t a b₁
allows-to m (to_write v) b o t a b₁ p = (writes m b o t v a.number b₁ p.0, p.1)
allows-to m to_remove b o t a b₁ p = (removes m b o t a.number b₁ p.0, p.1)
allows-to m (to_look room) b o t a b₁ p =
    let y = p.0 in
    let f : Looked Current m b o t y.out y.written y.out₁ = subst (λ (n : ℕ). Found Current b (meaning (look m o t n)) y.out y.written y.out₁) (sym y.size) y.found in
    (record { out = y.out; out₁ = y.out₁; size = y.size; written = y.written; looks = looks m b o t y.out y.written y.out₁ f; number = y.number; gives = y.gives }, p.1)

allows-run : {b : List ℕ} {cs : List Call} {rs : List Seen} {b₁ : List ℕ} → Runs Permitted b cs rs b₁ → Runs Does b cs rs b₁
allows-run stop = stop
allows-run (next {c = c} p r) = next (allows-to c.manner c.asked _ c.owner c.text _ _ p) (allows-run r)

-- every list of calls on every book with room for its writes can be taken
pub taken : (b : List ℕ) (x : ProperBook b) (cs : List Call) → Room x cs → Taken Does
taken b x cs h =
    let r = run_exists b x cs in
    record { calls = cs; start = b; book = x; room = h; answers = r.0; end = r.1; run = allows-run r.2 }

-- ---- isolation is not empty: every list of events on every book has a run, and so has what is left of it without an owner's
finds : (b : List ℕ) (x : ProperBook b) (o : ℕ) (client : List ℕ) → OldestCall b o client (oldest_in o client x.records)
finds b x o client =
    record {
      lifetimes = ([], ([], tt));
      args = (lent b, (o, (lent client, tt)));
      result = oldest_in o client x.records;
      exits = (lent b, (o, (lent client, tt)));
      book_in = refl;
      owner_in = refl;
      client_in = refl;
      answer_out = refl;
      ensures = by-records.Oldest.this_book x refl;
    }

left_by : {b : List ℕ} → ProperBook b → ℕ → List ℕ → ℕ → List ℕ
left_by x o client keep = bytes_with x (clear_in o client keep x.records).1

clears : (b : List ℕ) (x : ProperBook b) (o : ℕ) (client : List ℕ) (keep : ℕ) → ClearCall b o client keep (clear_in o client keep x.records).0 (left_by x o client keep)
unfolding left_by
clears b x o client keep =
    record {
      lifetimes = ([], ([], tt));
      args = (given b, (o, (lent client, (keep, tt))));
      result = (clear_in o client keep x.records).0;
      exits = (given (bytes_with x (clear_in o client keep x.records).1), (o, (lent client, (keep, tt))));
      book_in = refl;
      owner_in = refl;
      client_in = refl;
      keep_in = refl;
      answer_out = refl;
      book_out = refl;
      ensures = by-clear.Cleared.this_book x refl refl;
    }

left-book : {b : List ℕ} (x : ProperBook b) (o : ℕ) (client : List ℕ) (keep : ℕ) → ProperBook (left_by x o client keep)
unfolding left_by
left-book x o client keep = book_of x (bytes_with x (clear_in o client keep x.records).1) (clear_in o client keep x.records).1 (good-clear x o client keep x.records (good_of x)) refl

events-run : (b : List ℕ) → ProperBook b → (es : List Event) → (rs : List Reply) × (b₁ : List ℕ) × Runs (Happens Does OldestCall ClearCall) b es rs b₁
events-run b x [] = ([], b, stop)
events-run b x (call c ∷ es) =
    let p = permitted_exists b c x in
    let r = events-run p.1 (keeps-book b c p.0 p.1 p.2 x) es in
    (seen p.0 ∷ r.0, r.1, next (called (allows-to c.manner c.asked b c.owner c.text p.0 p.1 p.2)) r.2)
events-run b x (oldest o client ∷ es) =
    let r = events-run b x es in
    (pair (oldest_in o client x.records) ∷ r.0, r.1, next (found (finds b x o client)) r.2)
events-run b x (clear o client keep ∷ es) =
    let r = events-run (left_by x o client keep) (left-book x o client keep) es in
    (went (clear_in o client keep x.records).0 ∷ r.0, r.1, next (emptied (clears b x o client keep)) r.2)

pub any : (b : List ℕ) (x : ProperBook b) (es : List Event) → Any Does OldestCall ClearCall
any b x es = let r = events-run b x es in record { events = es; start = b; book = x; replies = r.0; end = r.1; run = r.2 }

pub alone : (x : Any Does OldestCall ClearCall) (o : ℕ) → Alone Does OldestCall ClearCall x o
alone x o = let r = events-run x.start x.book (without (is_of o) x.events) in record { replies = r.0; end = r.1; run = r.2 }

-- and a clearing can be made ahead of any list that is apart from it, and behind it
pub moved : (b : List ℕ) (x : ProperBook b) (owner : ℕ) (client : List ℕ) (keep : ℕ) (past rest : List Event) → AllApart owner client past → Room x (calls_in past) → Moved Does OldestCall ClearCall owner client keep
moved b x owner client keep past rest a h =
    let r = events-run (left_by x owner client keep) (left-book x owner client keep) (past ++ rest) in
    let q = events-run b x (past ++ (clear owner client keep ∷ rest)) in
    record {
      past = past;
      rest = rest;
      start = b;
      book = x;
      apart = a;
      room = h;
      went = went (clear_in owner client keep x.records).0;
      replies = r.0;
      end = r.1;
      ahead = next (emptied (clears b x owner client keep)) r.2;
      others = q.0;
      last = q.1;
      behind = q.2;
    }
