-- What a call means, by cases (`means` in proofs/), and that the refusals of its own are those of the table.
-- Assumes nothing.
use Rattle.std.specs.Prelude.{ℕ, ◌≤◌, ◌≡◌, refl, Bool, true, false, cond, ◌&&◌, List, ◌∷◌, leb, length}
use Rattle.std.proofs.Common.{sym, ap, ◌∙◌, arith, leb-true, lt-ltb, le-ltb, le-leb}
use Rattle.std.proofs.lemmas.Bool.{lt-leb}
use Rattle.text.specs.Put.{refused}
use Rattle.path.specs.declared.Refusal.{Refusal}
use Rattle.path.specs.declared.Refusal.TheVariants.{TooLong, NotAscii, NotAPath, NoDigits, NotADigit, TooLarge}
use Rattle.path.specs.BackLaws.{key-exact}
use Rattle.path.specs.Read.{why_not, refusal_of, read_path, key_of}
use Rattle.book_records.specs.Records.{Key}
use Rattle.book_records.specs.Act.{Meaning, refuses, writes, removes, looks}
use Rattle.book_records.specs.Calls.{keyed, to_write, Call, is_owner, owner_of, Owned, is_retired, under, meaning, PathOf, ValueFits}
use Rattle.book_records.specs.Refusals.{HasKey, GoodWrite, GoodRemoval, GoodLookup, Declined, bad_owner_when, too_long_when, not_ascii_when, not_a_path_when, loose, key_too_long_when, retired, bad_length_when, no_room_when}
use Rattle.book_records.specs.MannerLaws.{for-unread, for-other, for-own}

-- ---- the cases
pub data Means (c : Call) : Meaning → Type 0 where
  declines : {n : ℕ} → Declined c n → Means c (refuses n)
  writing : {k : Key} {v : List ℕ} → GoodWrite c k v → Means c (writes k v)
  removing : {k : Key} → GoodRemoval c k → Means c (removes k)
  looking : {k : Key} {room : ℕ} → GoodLookup c k room → Means c (looks k)

-- ---- and back: what the table says is what the call means
keyed-refused : (c : Call) (n : ℕ) → is_owner c.owner ≡ true → key_of c.text ≡ refused n → meaning c ≡ refuses n
unfolding meaning keyed
keyed-refused c n w e = rw (w, for-unread c.manner c.text n e)

keyed-fits : (c : Call) (k : Key) → HasKey c k → meaning c ≡ under c.asked k
unfolding meaning keyed
keyed-fits c k h =
    let p = h.path in
    let l : length p.rendering ≤ 255 = omega (arith, h.fits, ap length p.is) in
    rw (p.known, for-own c.manner c.text h.spelled, p.renders, le-leb (length p.rendering) 255 l, p.is)

not-sized : (k : Key) (v : List ℕ) → is_retired k ≡ false → (ValueFits v → ⊥) → under (to_write v) k ≡ refuses 6
not-sized k v r n = rw r (go (leb 1 (length v)) refl (leb (length v) 64) refl)
  where
    go : (a : Bool) → leb 1 (length v) ≡ a → (b : Bool) → leb (length v) 64 ≡ b → cond (a && b) (writes k v) (refuses 6) ≡ refuses 6
    go true e true f = absurd (n (record { least = leb-true 1 (length v) e; most = leb-true (length v) 64 f }))
    go true e false f = refl
    go false e b f = refl

pub declined-means : (c : Call) {n : ℕ} → Declined c n → meaning c ≡ refuses n
unfolding key_of read_path meaning keyed
declined-means c (bad_owner_when w) = rw w
declined-means c (too_long_when w h) = keyed-refused c 1 w (rw (lt-ltb 4096 (length c.text) h))
declined-means c (not_ascii_when w h a) = keyed-refused c 2 w (rw (le-ltb 4096 (length c.text) h, a))
declined-means c (not_a_path_when w h a r) = keyed-refused c _ w (rw (le-ltb 4096 (length c.text) h, a, r))
declined-means c (loose p s) = rw (p.known, for-other c.manner c.text p.rendering p.renders s)
declined-means c (key_too_long_when p s l) =
    rw (p.known, for-own c.manner c.text s, p.renders, lt-leb (length p.rendering) 255 (omega (arith, l, ap length p.is)))
declined-means c (retired {k = k} q h r) = keyed-fits c k h ∙ rw (q, r)
declined-means c (bad_length_when {k = k} {v = v} q h r n) = keyed-fits c k h ∙ rw q (not-sized k v r n)
declined-means c (no_room_when {k = k} {room = room} q h l) = keyed-fits c k h ∙ rw (q, lt-leb 64 room l)

pub writing-means : (c : Call) (k : Key) (v : List ℕ) → GoodWrite c k v → meaning c ≡ writes k v
writing-means c k v ok = keyed-fits c k ok.key ∙ rw (ok.asked, ok.not_retired, le-leb 1 (length v) ok.size.least, le-leb (length v) 64 ok.size.most)

pub removing-means : (c : Call) (k : Key) → GoodRemoval c k → meaning c ≡ removes k
removing-means c k ok = keyed-fits c k ok.key ∙ rw ok.asked

pub looking-means : (c : Call) (k : Key) (room : ℕ) → GoodLookup c k room → meaning c ≡ looks k
looking-means c k room ok = keyed-fits c k ok.key ∙ rw (ok.asked, le-leb 64 room ok.wide)

unread-not : (w : Refusal) → ((refusal_of w ≡ 0) → ⊥) × ((refusal_of w ≡ 9) → ⊥) × ((refusal_of w ≡ 11) → ⊥) × ((refusal_of w ≡ 12) → ⊥)
unread-not TooLong = (λ e. omega arith, λ e. omega arith, λ e. omega arith, λ e. omega arith)
unread-not NotAscii = (λ e. omega arith, λ e. omega arith, λ e. omega arith, λ e. omega arith)
unread-not NotAPath = (λ e. omega arith, λ e. omega arith, λ e. omega arith, λ e. omega arith)
unread-not (NoDigits i) = (λ e. omega arith, λ e. omega arith, λ e. omega arith, λ e. omega arith)
unread-not (NotADigit i) = (λ e. omega arith, λ e. omega arith, λ e. omega arith, λ e. omega arith)
unread-not (TooLarge i) = (λ e. omega arith, λ e. omega arith, λ e. omega arith, λ e. omega arith)

-- a call's own refusals are none of 0, 9, 11, 12
pub declined-not : {c : Call} {n : ℕ} → Declined c n → ((n ≡ 0) → ⊥) × ((n ≡ 9) → ⊥) × ((n ≡ 11) → ⊥) × ((n ≡ 12) → ⊥)
declined-not (bad_owner_when w) = (λ e. omega arith, λ e. omega arith, λ e. omega arith, λ e. omega arith)
declined-not (too_long_when w h) = (λ e. omega arith, λ e. omega arith, λ e. omega arith, λ e. omega arith)
declined-not (not_ascii_when w h a) = (λ e. omega arith, λ e. omega arith, λ e. omega arith, λ e. omega arith)
declined-not {c} (not_a_path_when w h a r) = unread-not (why_not c.text)
declined-not (loose p s) = (λ e. omega arith, λ e. omega arith, λ e. omega arith, λ e. omega arith)
declined-not (key_too_long_when p s l) = (λ e. omega arith, λ e. omega arith, λ e. omega arith, λ e. omega arith)
declined-not (retired q h r) = (λ e. omega arith, λ e. omega arith, λ e. omega arith, λ e. omega arith)
declined-not (bad_length_when q h r n) = (λ e. omega arith, λ e. omega arith, λ e. omega arith, λ e. omega arith)
declined-not (no_room_when q h l) = (λ e. omega arith, λ e. omega arith, λ e. omega arith, λ e. omega arith)

pub one-path : (c : Call) (j k : Key) → PathOf c j → PathOf c k → j ≡ k
one-path c j k p q =
    let e : p.rendering ≡ q.rendering = let a = p.renders in let b = q.renders in cc in
    p.is ∙ ap (λ (t : List ℕ). c.owner ∷ t) e ∙ sym q.is

-- the owner of a path is the call's
pub path-owner : (c : Call) (k : Key) → PathOf c k → owner_of k ≡ c.owner
path-owner c k p = ap owner_of p.is

-- and a path is an owner's, and exact
pub path-owned : (c : Call) (k : Key) → PathOf c k → Owned k
path-owned c k p = rw p.is (p.known, (key-exact c.text p.rendering p.renders).2)
