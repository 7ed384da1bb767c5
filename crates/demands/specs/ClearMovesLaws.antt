-- A clearing moves past what is apart from it.
-- Assumes nothing.
use Prim.Native.Nat.{ℕ, suc, ◌+◌, ◌-◌, ◌≤◌}
use Rattle.std.specs.Prelude.{◌≡◌, eqb, length, drop}
use Rattle.std.proofs.Math.Path.{refl, sym, ap}
use Rattle.std.proofs.Common.{◌∙◌, arith, eq-eqb, eqb-true}
use mathlib.Core.List.{List, [], ◌∷◌, ◌++◌, head-eq_of_cons-eq, tail-eq_of_cons-eq}
use Rattle.std.proofs.Math.Option.{Option, none, some}
use Rattle.std.proofs.Math.Decide.{ℕ_discrete}
use Rattle.std.proofs.Math.ListN.{take}
use Rattle.path.specs.declared.Pair.{Pair}
use Rattle.runs.specs.MachineLaws.{answers, final}
use Rattle.book_records.specs.Records.{Key, get}
use Rattle.book_records.specs.RecordLaws.{records_ext}
use Rattle.book_records.specs.Act.{Rec, Seen, count_by}
use Rattle.book_records.specs.OwnerLaws.{only}
use Rattle.book_records.specs.Calls.{Call, owner_of, PathOf}
use Rattle.book_records.specs.CallLaws.{path-owner, path-owned}
use Rattle.book_records.proofs.CallLaws.{means}
use Rattle.book.specs.Book.{Current, quota_in, bytes_with}
use Rattle.book_oldest.specs.Oldest.{oldest_in, Oldest}
use Rattle.book_clear.specs.declared.Count.{Count}
use Rattle.book_clear.specs.declared.role.Role.{Role}
use Rattle.book_clear.specs.declared.role.Role.TheVariants.{State, Beside, Other}
use Rattle.book_clear.specs.Clear.{own_role, clear_in, Cleared}
use Rattle.book_clear.specs.ClearLaws.{SameMine, same_count, same-held, sorted_in, other_in, fewer_in}
use Rattle.demands.specs.Held.{ProperBook, own_write, writes_in}
use Rattle.demands.specs.Permitted.{Permitted}
use Rattle.demands.specs.MachineLaws.{Good, good_of, path_of-key, machine}
use Rattle.demands.specs.RoleLaws.{elsewhere, state_of, beside_of}
use Rattle.demands.specs.ClearBookLaws.{good-clear}
use Rattle.demands.specs.EventLaws.{oldest-only, only_same, own_of, step, good, does-all}
use Rattle.demands.specs.Isolation.{Event, call, oldest, clear, Reply, seen, pair, went}
use Rattle.demands.specs.ClearCall.{Elsewhere}
use Rattle.demands.specs.ClearMoves.{Apart, on_another_path, of_the_other, AllApart, calls_in, Moved, Moves}

-- what the path of a call is to the client
module _ (owner : ℕ) (client : List ℕ) (c : Call) where
  by_elsewhere : ((k : Key) → PathOf c k → Elsewhere owner client k) → (k : Key) → PathOf c k → own_role owner client k ≡ Other
  by_elsewhere f k p = go (own_role owner client k) refl
    where
      go : (x : Role) → own_role owner client k ≡ x → x ≡ Other
      go (State q) e = absurd ((f k p).no_state q (state_of owner client q k (path-owned c k p) e))
      go (Beside q) e = absurd ((f k p).no_time_or_height q (beside_of owner client q k (path-owned c k p) e))
      go Other e = refl

  by-owner : (c.owner ≡ owner → ⊥) → (k : Key) → PathOf c k → own_role owner client k ≡ Other
  by-owner n k p = elsewhere owner client k (λ e. n (sym (path-owner c k p) ∙ e))

module _ {b : List ℕ} (x : ProperBook b) (owner : ℕ) (client : List ℕ) (keep : ℕ) where
  abbrev cleared : List Rec → List Rec
  cleared s = (clear_in owner client keep s).1

  abbrev free : List Rec → ℕ → ℕ
  free s o = quota_in x o - count_by owner_of o s

  -- one step and the clearing, in both orders
  record Swaps (s : List Rec) (e : Event) : Type 0 where
    count_same : (clear_in owner client keep (step x s e).1).0 ≡ (clear_in owner client keep s).0
    reply-same : (step x (cleared s) e).0 ≡ (step x s e).0
    left-same : (step x (cleared s) e).1 ≡ cleared (step x s e).1

  -- ---- a write, removal or lookup
  module _ (s : List Rec) (g : Good x s) (c : Call) (other : (k : Key) → PathOf c k → own_role owner client k ≡ Other) (room : (o : ℕ) → own_write o c ≤ free s o) where
    meant : (k : Key) → (machine x).key c ≡ some k → own_role owner client k ≡ Other
    meant k e = other k (path_of-key (means c) k e)

    good_left : Good x (cleared s)
    good_left = good-clear x owner client keep s g

    room-left : (o : ℕ) → own_write o c ≤ free (cleared s) o
    room-left o = omega (arith, room o, fewer_in owner client keep o s)

    -- the client's records are not touched
    mine : SameMine owner client (step x s (call c)).1 s
    mine k n = (machine x).spares s c g room k (λ e. n (meant k e))

    held : (k : Key) → Dec ((machine x).key c ≡ some k) → get (step x (cleared s) (call c)).1 k ≡ get (cleared (step x s (call c)).1) k
    held k (yes e) =
        (machine x).does (cleared s) c good_left room-left k e
        ∙ ap ((machine x).eff c) (other_in owner client keep s k (meant k e))
        ∙ sym ((machine x).does s c g room k e)
        ∙ sym (other_in owner client keep (step x s (call c)).1 k (meant k e))
    held k (no n) =
        (machine x).spares (cleared s) c good_left room-left k n
        ∙ sym (same-held owner client keep (step x s (call c)).1 s (good x s (call c) g).proper.sorted g.proper.sorted mine k ((machine x).spares s c g room k n))

    answered : (k : Option Key) → (machine x).key c ≡ k → ((machine x).step (cleared s) c).0 ≡ ((machine x).step s c).0
    answered none e = (machine x).refuses (cleared s) c good_left e ∙ sym ((machine x).refuses s c g e)
    answered (some k) e = (machine x).says (cleared s) c good_left room-left k e ∙ ap ((machine x).ans c) (other_in owner client keep s k (meant k e)) ∙ sym ((machine x).says s c g room k e)

    swaps-call : Swaps s (call c)
    swaps-call = record {
      count_same = same_count owner client keep (step x s (call c)).1 s (good x s (call c) g).proper.sorted g.proper.sorted mine;
      reply-same = ap seen (answered ((machine x).key c) refl);
      left-same = records_ext (step x (cleared s) (call c)).1 (cleared (step x s (call c)).1) (good x (cleared s) (call c) good_left).proper.sorted (good-clear x owner client keep (step x s (call c)).1 (good x s (call c) g)).proper.sorted (λ k. held k ((machine x).is_key k c));
    }

  -- ---- the other owner's
  module _ (s : List Rec) (g : Good x s) (o : ℕ) (n : o ≡ owner → ⊥) where
    -- its keys are nothing to this client
    theirs : (k : Key) → owner_of k ≡ o → own_role owner client k ≡ Other
    theirs k e = elsewhere owner client k (λ q. n (sym e ∙ q))

    swaps-oldest : (other : List ℕ) → Swaps s (oldest o other)
    swaps-oldest other = record {
      count_same = refl;
      reply-same = ap pair (sym (oldest-only (λ p. eqb p o) o other (eq-eqb o o refl) (cleared s)) ∙ ap (oldest_in o other) same ∙ oldest-only (λ p. eqb p o) o other (eq-eqb o o refl) s);
      left-same = refl;
    }
      where
        same : only owner_of (λ p. eqb p o) (cleared s) ≡ only owner_of (λ p. eqb p o) s
        same = only_same (λ p. eqb p o) (cleared s) s (sorted_in owner client keep s g.proper.sorted) g.proper.sorted (λ k e. other_in owner client keep s k (theirs k (eqb-true (owner_of k) o e)))

    swaps-clear : (other : List ℕ) (most : ℕ) → Swaps s (clear o other most)
    swaps-clear other most = record {
      count_same = same_count owner client keep (clear_in o other most s).1 s (sorted_in o other most s g.proper.sorted) g.proper.sorted ours;
      reply-same = ap went (same_count o other most (cleared s) s (sorted_in owner client keep s g.proper.sorted) g.proper.sorted others);
      left-same = records_ext (clear_in o other most (cleared s)).1 (cleared (clear_in o other most s).1) (sorted_in o other most (cleared s) (sorted_in owner client keep s g.proper.sorted)) (sorted_in owner client keep (clear_in o other most s).1 (sorted_in o other most s g.proper.sorted)) (λ k. held k (ℕ_discrete (owner_of k) o));
    }
      where
        not_theirs : (k : Key) → (owner_of k ≡ o → ⊥) → get (clear_in o other most s).1 k ≡ get s k
        not_theirs k h = other_in o other most s k (elsewhere o other k h)

        ours : SameMine owner client (clear_in o other most s).1 s
        ours k h = not_theirs k (λ q. n (sym q ∙ own_of owner client k h))

        others : SameMine o other (cleared s) s
        others k h = other_in owner client keep s k (theirs k (own_of o other k h))

        held : (k : Key) → Dec (owner_of k ≡ o) → get (clear_in o other most (cleared s)).1 k ≡ get (cleared (clear_in o other most s).1) k
        held k (yes e) =
            same-held o other most (cleared s) s (sorted_in owner client keep s g.proper.sorted) g.proper.sorted others k (other_in owner client keep s k (theirs k e))
            ∙ sym (other_in owner client keep (clear_in o other most s).1 k (theirs k e))
        held k (no h) =
            other_in o other most (cleared s) k (elsewhere o other k h)
            ∙ sym (same-held owner client keep (clear_in o other most s).1 s (sorted_in o other most s g.proper.sorted) g.proper.sorted ours k (not_theirs k h))

  -- ---- any of them
  abbrev Rooms : List Rec → List Call → Type 0
  Rooms s cs = (o : ℕ) → writes_in o cs ≤ free s o

  one : (c : Call) (s : List Rec) (cs : List Call) → Rooms s (c ∷ cs) → (o : ℕ) → own_write o c ≤ free s o
  one c s cs h o = omega (arith, h o)

  swaps : (s : List Rec) → Good x s → (e : Event) (es : List Event) → Apart owner client e → Rooms s (calls_in (e ∷ es)) → Swaps s e
  swaps s g (call c) es (on_another_path f) h = swaps-call s g c (by_elsewhere owner client c f) (one c s (calls_in es) h)
  swaps s g (call c) es (of_the_other n) h = swaps-call s g c (by-owner owner client c n) (one c s (calls_in es) h)
  swaps s g (oldest o other) es (of_the_other n) h = swaps-oldest s g o n other
  swaps s g (clear o other most) es (of_the_other n) h = swaps-clear s g o n other most

  -- what is left of the room
  room_after : (s : List Rec) → Good x s → (e : Event) (es : List Event) → Rooms s (calls_in (e ∷ es)) → Rooms (step x s e).1 (calls_in es)
  room_after s g (call c) es h o = omega (arith, h o, (machine x).pays s c g o)
  room_after s g (oldest p other) es h o = h o
  room_after s g (clear p other most) es h o = omega (arith, h o, fewer_in p other most o s)

  -- ---- past a list
  record Past (s : List Rec) (es : List Event) : Type 0 where
    count_same : (clear_in owner client keep (final (step x) s es)).0 ≡ (clear_in owner client keep s).0
    replies-same : answers (step x) (cleared s) es ≡ answers (step x) s es
    left-same : final (step x) (cleared s) es ≡ cleared (final (step x) s es)

  past : (s : List Rec) → Good x s → (es : List Event) → AllApart owner client es → Rooms s (calls_in es) → Past s es
  unfolding answers final
  past s g [] a h = record { count_same = refl; replies-same = refl; left-same = refl }
  past s g (e ∷ es) a h =
      let w = swaps s g e es a.0 h in
      let p = past (step x s e).1 (good x s e g) es a.1 (room_after s g e es h) in
      record {
        count_same = p.count_same ∙ w.count_same;
        replies-same = λ i. w.reply-same i ∷ ((ap (λ (t : List Rec). answers (step x) t es) w.left-same) ∙ p.replies-same) i;
        left-same = ap (λ (t : List Rec). final (step x) t es) w.left-same ∙ p.left-same;
      }

-- ---- lists of events one after the other
module _ {b : List ℕ} (x : ProperBook b) where
  answers-append : (s : List Rec) (es fs : List Event) → answers (step x) s (es ++ fs) ≡ answers (step x) s es ++ answers (step x) (final (step x) s es) fs
  unfolding answers final
  answers-append s [] fs = refl
  answers-append s (e ∷ es) fs = ap (λ (l : List Reply). (step x s e).0 ∷ l) (answers-append (step x s e).1 es fs)

  final-append : (s : List Rec) (es fs : List Event) → final (step x) s (es ++ fs) ≡ final (step x) (final (step x) s es) fs
  unfolding final
  final-append s [] fs = refl
  final-append s (e ∷ es) fs = final-append (step x s e).1 es fs

  length-answers : (s : List Rec) (es : List Event) → length (answers (step x) s es) ≡ length es
  unfolding answers
  length-answers s [] = refl
  length-answers s (e ∷ es) = ap suc (length-answers (step x s e).1 es)

take-front : (n : ℕ) (a b : List Reply) → length a ≡ n → take n (a ++ b) ≡ a
take-front n a b e = rw (← e) (go a)
  where
    go : (a : List Reply) → take (length a) (a ++ b) ≡ a
    go [] = refl
    go (r ∷ a) = ap (λ (l : List Reply). r ∷ l) (go a)

drop-front : (n : ℕ) (a b : List Reply) → length a ≡ n → drop n (a ++ b) ≡ b
drop-front n a b e = rw (← e) (go a)
  where
    go : (a : List Reply) → drop (length a) (a ++ b) ≡ b
    go [] = refl
    go (r ∷ a) = go a

module _
    (Does : List ℕ → Call → Seen → List ℕ → Type 0) (permits : (b : List ℕ) (c : Call) (a : Seen) (b₁ : List ℕ) → Does b c a b₁ → Permitted b c a b₁)
    (Finds : List ℕ → ℕ → List ℕ → Pair → Type 0) (finds : (b : List ℕ) (o : ℕ) (client : List ℕ) (p : Pair) → Finds b o client p → Oldest Current b o client p)
    (Clears : List ℕ → ℕ → List ℕ → ℕ → Count → List ℕ → Type 0) (clears : (b : List ℕ) (o : ℕ) (client : List ℕ) (keep : ℕ) (n : Count) (b₁ : List ℕ) → Clears b o client keep n b₁ → Cleared Current b o client keep n b₁)
    {owner : ℕ} {client : List ℕ} {keep : ℕ} (m : Moved Does Finds Clears owner client keep) where
  abbrev s : List Rec
  s = m.book.records

  -- the records behind the calls that it moves past
  abbrev u : List Rec
  u = final (step m.book) m.book.records m.past

  over : Past m.book owner client keep m.book.records m.past
  over = past m.book owner client keep m.book.records (good_of m.book) m.past m.apart m.room

  run-ahead : (m.went ∷ m.replies ≡ answers (step m.book) m.book.records (clear owner client keep ∷ (m.past ++ m.rest))) × (m.end ≡ bytes_with m.book (final (step m.book) m.book.records (clear owner client keep ∷ (m.past ++ m.rest))))
  run-ahead = does-all Does permits Finds finds Clears clears m.book m.ahead m.book.records (good_of m.book) m.book.bytes

  run-behind : (m.others ≡ answers (step m.book) m.book.records (m.past ++ (clear owner client keep ∷ m.rest))) × (m.last ≡ bytes_with m.book (final (step m.book) m.book.records (m.past ++ (clear owner client keep ∷ m.rest))))
  run-behind = does-all Does permits Finds finds Clears clears m.book m.behind m.book.records (good_of m.book) m.book.bytes

  first_is : m.went ≡ went (clear_in owner client keep s).0
  unfolding answers
  first_is = head-eq_of_cons-eq run-ahead.0

  replies_are : m.replies ≡ answers (step m.book) s m.past ++ answers (step m.book) (clear_in owner client keep u).1 m.rest
  unfolding answers
  replies_are =
      tail-eq_of_cons-eq run-ahead.0
      ∙ answers-append m.book (clear_in owner client keep s).1 m.past m.rest
      ∙ ap (λ (l : List Reply). l ++ answers (step m.book) (final (step m.book) (clear_in owner client keep s).1 m.past) m.rest) over.replies-same
      ∙ ap (λ (t : List Rec). answers (step m.book) s m.past ++ answers (step m.book) t m.rest) over.left-same

  others_are : m.others ≡ answers (step m.book) s m.past ++ (went (clear_in owner client keep u).0 ∷ answers (step m.book) (clear_in owner client keep u).1 m.rest)
  unfolding answers
  others_are = run-behind.0 ∙ answers-append m.book s m.past (clear owner client keep ∷ m.rest)

  many : length (answers (step m.book) s m.past) ≡ length m.past
  many = length-answers m.book s m.past

  abbrev before : List Reply
  before = answers (step m.book) s m.past

  abbrev after : List Reply
  after = answers (step m.book) (clear_in owner client keep u).1 m.rest

  taken : take (length m.past) m.replies ≡ before
  taken = ap (take (length m.past)) replies_are ∙ take-front (length m.past) before after many

  dropped : drop (length m.past) m.replies ≡ after
  dropped = ap (drop (length m.past)) replies_are ∙ drop-front (length m.past) before after many

  -- THE THEOREM
  pub moves : Moves Does Finds Clears m
  unfolding final
  moves = record {
    same_answers =
        others_are
        ∙ ap (λ (r : Reply). before ++ (r ∷ after)) (ap went over.count_same ∙ sym first_is)
        ∙ ap (λ (l : List Reply). l ++ (m.went ∷ after)) (sym taken)
        ∙ ap (λ (l : List Reply). take (length m.past) m.replies ++ (m.went ∷ l)) (sym dropped);
    same_bytes =
        run-behind.1
        ∙ ap (bytes_with m.book) (
        final-append m.book s m.past (clear owner client keep ∷ m.rest)
        ∙ ap (λ (t : List Rec). final (step m.book) t m.rest) (sym over.left-same)
        ∙ sym (final-append m.book (clear_in owner client keep s).1 m.past m.rest)
        )
        ∙ sym run-ahead.1;
  }
