-- The records of a book as a machine whose calls go by one cell each.
-- Assumes nothing.
use Rattle.std.specs.Prelude.{ℕ, ◌-◌, ◌≤◌, ◌≡◌, refl, Bool, true, false, List, eqb, length}
use Rattle.std.proofs.Common.{sym, ap, arith, eqb-true}
use Rattle.std.proofs.Math.Option.{Option, none, some}
use Rattle.std.proofs.Math.Decide.{ℕ_discrete}
use Rattle.runs.specs.MachineLaws.{Independent, Enough}
use Rattle.book_records.specs.Records.{Key, get}
use Rattle.book_records.specs.RecordLaws.{records_ext}
use Rattle.book_records.specs.Act.{Rec, Meaning, act, count_by, Seen, seen}
use Rattle.book_records.specs.ActLaws.{key_meant, ans_of, eff_of, dec_some, cost, charge_of, Proper, good, pays, declines, answers_by, leaves, spares}
use Rattle.book_records.specs.Calls.{Asked, to_write, to_remove, to_look, Call, is_owner, owner_of, meaning, PathOf}
use Rattle.demands.specs.Held as calls
use Rattle.book_form.specs.Form.{AllFit, AllExact}
use Rattle.book.specs.Book.{Current, quota_in, bytes_with, full_in}
use Rattle.demands.specs.Held.{Room, own_write, Updates, Accepted, left_by, ProperBook}
use Rattle.demands.specs.Permitted.{Permitted}
use Rattle.book_records.specs.CallLaws.{Means, writing, removing, looking, one-path, path-owner, declined-not}
use Rattle.book_records.proofs.CallLaws.{means}
use Rattle.book_records.specs.CallLaws as by_case
use Rattle.demands.specs.HeldLaws.{fit-act, exact-act, length_with}
use Rattle.demands.specs.PermittedLaws.{permitted-book}

-- ---- a call and its meaning
pub path_of-key : {c : Call} {m : Meaning} → Means c m → (k : Key) → key_meant m ≡ some k → PathOf c k
path_of-key (by_case.declines d) k e = let z : ◌≡◌ {A = ℕ} 0 1 = cc in absurd (omega arith)
path_of-key (writing {k = j} ok) k e = let q : j ≡ k = cc in rw (← q) ok.key.path
path_of-key (removing {k = j} ok) k e = let q : j ≡ k = cc in rw (← q) ok.key.path
path_of-key (looking {k = j} ok) k e = let q : j ≡ k = cc in rw (← q) ok.key.path

-- the key of a call that is not refused
pub key_of-path : {c : Call} {m : Meaning} → Means c m → (k : Key) → PathOf c k → (full : Key → List Rec → Bool) (s : List Rec) → (seen (act full m s).0).number ≡ 0 → key_meant m ≡ some k
unfolding act
key_of-path (by_case.declines d) k p full s e = absurd ((declined-not d).0 e)
key_of-path {c} (writing {k = j} ok) k p full s e = ap {B = Option Key} some (one-path c j k ok.key.path p)
key_of-path {c} (removing {k = j} ok) k p full s e = ap {B = Option Key} some (one-path c j k ok.key.path p)
key_of-path {c} (looking {k = j} ok) k p full s e = ap {B = Option Key} some (one-path c j k ok.key.path p)

pub is_accepted : (c : Call) (a : Seen) → Dec (Accepted c a)
is_accepted c a = go c.asked (ℕ_discrete a.number 0)
  where
    go : (q : Asked) → Dec (a.number ≡ 0) → Dec (Updates q × (a.number ≡ 0))
    go (to_write v) (yes e) = yes (tt, e)
    go (to_write v) (no e) = no (λ z. e z.1)
    go to_remove (yes e) = yes (tt, e)
    go to_remove (no e) = no (λ z. e z.1)
    go (to_look room) d = no (λ z. z.0)

updates-write : (c : Call) (v : List ℕ) → c.asked ≡ to_write v → Updates c.asked
updates-write c v o = rw o tt

updates_remove : (c : Call) → c.asked ≡ to_remove → Updates c.asked
updates_remove c o = rw o tt

no_update : (c : Call) (room : ℕ) → c.asked ≡ to_look room → Updates c.asked → ⊥
no_update c room o u = rw o at u

pub puts : {c : Call} {m : Meaning} → Means c m → (x : Option (List ℕ)) → Accepted c (seen (ans_of m x)) → eff_of m x ≡ calls.leaves c
puts (by_case.declines d) x u = absurd ((declined-not d).0 u.1)
puts (writing ok) x u = sym (ap left_by ok.asked)
puts (removing ok) x u = sym (ap left_by ok.asked)
puts {c} (looking {room = room} ok) x u = absurd (no_update c room ok.asked u.0)

pub keeps : {c : Call} {m : Meaning} → Means c m → (x : Option (List ℕ)) → (Accepted c (seen (ans_of m x)) → ⊥) → eff_of m x ≡ x
keeps (by_case.declines d) x u = refl
keeps {c} (writing {v = v} ok) x u = absurd (u (updates-write c v ok.asked, refl))
keeps (removing ok) none u = refl
keeps {c} (removing ok) (some v) u = absurd (u (updates_remove c ok.asked, refl))
keeps (looking ok) x u = refl

-- ---- each owner pays from its quota
-- what a call is charged is a write of its owner's
pub charged : {c : Call} {m : Meaning} → Means c m → {b : List ℕ} (x : ProperBook b) (o : ℕ) → charge_of owner_of (quota_in x) o m ≤ own_write o c
charged (by_case.declines d) x o = omega arith
charged {c} (writing {k = k} {v = v} ok) x o = go (eqb c.owner o) refl
  where
    own : owner_of k ≡ c.owner
    own = path-owner c k ok.key.path

    go : (w : Bool) → eqb c.owner o ≡ w → cost owner_of o (k, v) ≤ own_write o c
    go true e = let known : is_owner o ≡ true = rw (eqb-true c.owner o e) at ok.key.path.known in rw (own, e, known, ok.asked) (omega arith)
    go false e = rw (own, e) (omega arith)
charged (removing ok) x o = omega arith
charged (looking ok) x o = omega arith

module _ {b : List ℕ} (x : ProperBook b) where
  -- the records that this book may hold
  pub record Good (s : List Rec) : Type 0 where
    pub proper : Proper owner_of (quota_in x) s
    pub fit : AllFit Current s
    pub exact : AllExact Current s

  abbrev pub step : List Rec → Call → Seen × List Rec
  step s c = (seen (act (full_in x) (meaning c) s).0, (act (full_in x) (meaning c) s).1)

  abbrev left : List Rec → ℕ → ℕ
  left s o = quota_in x o - count_by owner_of o s

  pub small : (s : List Rec) (c : Call) → ((o : ℕ) → own_write o c ≤ left s o) → (o : ℕ) → charge_of owner_of (quota_in x) o (meaning c) ≤ left s o
  small s c h o = omega (arith, h o, charged (means c) x o)

  abbrev pub machine : Independent
  machine =
      record {
        State = List Rec;
        Call = Call;
        Answer = Seen;
        Key = Key;
        Cell = Option (List ℕ);
        Purse = ℕ;
        step = step;
        Good = Good;
        get = get;
        free = left;
        charge = own_write;
        key = λ c. key_meant (meaning c);
        is_key = λ k c. dec_some (key_meant (meaning c)) k;
        refusal = λ c. seen (ans_of (meaning c) none);
        ans = λ c x. seen (ans_of (meaning c) x);
        eff = λ c. eff_of (meaning c);
        Upd = Accepted;
        is_upd = is_accepted;
        put = calls.leaves;
        good = λ s c g. record { proper = good owner_of (quota_in x) s (meaning c) g.proper; fit = fit-act (full_in x) s c g.fit; exact = exact-act (full_in x) s c g.exact };
        pays = λ s c g o. omega (arith, pays owner_of (quota_in x) s (meaning c) g.proper o, charged (means c) x o);
        refuses = λ s c g e. ap seen (declines owner_of (quota_in x) s (meaning c) e);
        says = λ s c g h k e. ap seen (answers_by owner_of (quota_in x) s (meaning c) (small s c h) k e);
        does = λ s c g h k e. leaves owner_of (quota_in x) s (meaning c) g.proper (small s c h) k e;
        spares = λ s c g h k e. spares owner_of (quota_in x) s (meaning c) (small s c h) k e;
        puts = λ c x. puts (means c) x;
        keeps = λ c x. keeps (means c) x;
        ext = λ s t g h. records_ext s t g.proper.sorted h.proper.sorted;
      }

-- ---- a book's records are good, and good records make a book
pub good_of : {b : List ℕ} (x : ProperBook b) → Good x x.records
good_of x = record { proper = record { sorted = x.sorted; within = x.within }; fit = x.fit; exact = x.exact }

unfoldable pub book_of : {b : List ℕ} (x : ProperBook b) (b₁ : List ℕ) (s : List Rec) → Good x s → b₁ ≡ bytes_with x s → ProperBook b₁
book_of x b₁ s g e =
    record { slots = x.slots; extra = x.extra; records = s; least = x.least; most = x.most; fit = g.fit; exact = g.exact; sorted = g.proper.sorted; quotas = x.quotas; within = g.proper.within; bytes = e }

-- and the bytes of its size
pub size_of : {b : List ℕ} (x : ProperBook b) (s : List Rec) → Good x s → length (bytes_with x s) ≡ length b
size_of x s g = length_with x s g.fit g.exact g.proper.within

-- a book stays a book
pub keeps-book : (b : List ℕ) (c : Call) (a : Seen) (b₁ : List ℕ) → Permitted b c a b₁ → ProperBook b → ProperBook b₁
keeps-book b c a b₁ p x = book_of x b₁ _ ((machine x).good x.records c (good_of x)) (permitted-book b c a b₁ x p).1

-- on the bytes of good records the calls do what the machine does
pub sim : {b : List ℕ} (x : ProperBook b) (s : List Rec) (c : Call) (a : Seen) (b₁ : List ℕ) → Good x s → Permitted (bytes_with x s) c a b₁
    → (a ≡ (step x s c).0) × (b₁ ≡ bytes_with x (step x s c).1)
unfolding book_of
sim x s c a b₁ g p = permitted-book (bytes_with x s) c a b₁ (book_of x (bytes_with x s) s g refl) p

-- the premise of demand 3
pub enough : {b : List ℕ} (x : ProperBook b) (cs : List Call) → Room x cs → Enough (machine x) x.records cs
enough x cs h = h
