-- What a call means is one of the cases of `Means`. It stands here, since it rests on a definition that an edit of must-fail/ turns.
-- Assumes nothing.
use Rattle.std.specs.Prelude.{ℕ, ◌≡◌, refl, Bool, true, false, cond, ◌&&◌, List, ◌∷◌, ltb, leb, length, Err, Option, Some, None}
use Rattle.std.proofs.Common.{arith, ltb-true, ltb-false, leb-true, leb-false}
use Rattle.text.specs.Part.{ascii}
use Rattle.text.specs.Put.{Wanted, refused, text}
use Rattle.path.specs.declared.Path.{Path}
use Rattle.path.specs.declared.Refusal.TheVariants.{TooLong, NotAscii}
use Rattle.path.specs.Kinds.{kinds}
use Rattle.path.specs.Read.{read_first, why_not, refusal_of, reading_of, read_path, key_by, key_of}
use Rattle.book_records.specs.Records.{Key}
use Rattle.book_records.specs.Act.{refuses, writes, looks}
use Rattle.book_records.specs.Calls.{keyed, key_for, Asked, to_write, to_remove, to_look, Call, is_owner, is_retired, under, meaning, PathOf}
use Rattle.book_records.specs.Refusals.{HasKey, Declined, bad_owner_when, too_long_when, not_ascii_when, not_a_path_when, loose, key_too_long_when, retired, bad_length_when, no_room_when}
use Rattle.book_records.specs.MannerLaws.{KeyFor, unread, other, own, key_for_lem}
use Rattle.book_records.specs.CallLaws.{Means, declines, writing, removing, looking}

-- the path of a text that has a rendering
path_of : (c : Call) (k : List ℕ) → is_owner c.owner ≡ true → key_of c.text ≡ text k → PathOf c (c.owner ∷ k)
path_of c k w e = record { rendering = k; known = w; renders = e; is = refl }

-- a text that has no rendering
key-refused : (c : Call) (n : ℕ) → is_owner c.owner ≡ true → key_of c.text ≡ refused n → Declined c n
unfolding key_of read_path
key-refused c n w e = go (ltb 4096 (length t)) refl (ascii t) refl (read_first kinds t) refl e
  where
    t : List ℕ
    t = c.text

    go : (l : Bool) → ltb 4096 (length t) ≡ l → (a : Bool) → ascii t ≡ a → (r : Option Path) → read_first kinds t ≡ r
        → key_by t (cond l (Err TooLong) (cond a (reading_of t r) (Err NotAscii))) ≡ refused n → Declined c n
    go true l a ea r er q = let z : n ≡ 1 = cc in rw z (too_long_when w (ltb-true 4096 (length t) l))
    go false l false ea r er q = let z : n ≡ 2 = cc in rw z (not_ascii_when w (ltb-false 4096 (length t) l) ea)
    go false l true ea (Some p) er q = let z : ◌≡◌ {A = ℕ} 0 1 = cc in absurd (omega arith)
    go false l true ea None er q = let z : n ≡ refusal_of (why_not t) = cc in rw z (not_a_path_when w (ltb-false 4096 (length t) l) ea er)

under-means : (c : Call) (k : Key) → HasKey c k → (q : Asked) → c.asked ≡ q → Means c (under q k)
under-means c k h (to_write v) p = kind (is_retired k) refl
  where
    go : is_retired k ≡ false → (a : Bool) → leb 1 (length v) ≡ a → (b : Bool) → leb (length v) 64 ≡ b → Means c (cond (a && b) (writes k v) (refuses 6))
    go r true e true f = writing (record { asked = p; key = h; not_retired = r; size = record { least = leb-true 1 (length v) e; most = leb-true (length v) 64 f } })
    go r true e false f = declines (bad_length_when p h r (λ s. omega (arith, leb-false (length v) 64 f, s.most)))
    go r false e b f = declines (bad_length_when p h r (λ s. omega (arith, leb-false 1 (length v) e, s.least)))

    kind : (b : Bool) → is_retired k ≡ b → Means c (cond b (refuses 25) (cond (leb 1 (length v) && leb (length v) 64) (writes k v) (refuses 6)))
    kind true r = declines (retired p h r)
    kind false r = go r (leb 1 (length v)) refl (leb (length v) 64) refl
under-means c k h to_remove p = removing (record { asked = p; key = h })
under-means c k h (to_look room) p = go (leb 64 room) refl
  where
    go : (b : Bool) → leb 64 room ≡ b → Means c (cond b (looks k) (refuses 4))
    go true e = looking (record { asked = p; key = h; wide = leb-true 64 room e })
    go false e = declines (no_room_when p h (leb-false 64 room e))

pub means : (c : Call) → Means c (meaning c)
unfolding meaning keyed
means c = whose (is_owner c.owner) refl
  where
    go : is_owner c.owner ≡ true → {x : Wanted} → KeyFor c.manner c.text x → Means c (keyed x (λ k. under c.asked (c.owner ∷ k)))
    go w (unread {n = n} e) = declines (key-refused c n w e)
    go w (other {k = k} e s) = declines (loose (path_of c k w e) s)
    go w (own {k = k} e s) = fits (leb (length k) 255) refl
      where
        fits : (b : Bool) → leb (length k) 255 ≡ b → Means c (cond b (under c.asked (c.owner ∷ k)) (refuses 10))
        fits true l = under-means c (c.owner ∷ k) (record { path = path_of c k w e; spelled = s; fits = omega (arith, leb-true (length k) 255 l) }) c.asked refl
        fits false l = declines (key_too_long_when (path_of c k w e) s (omega (arith, leb-false (length k) 255 l)))

    whose : (b : Bool) → is_owner c.owner ≡ b → Means c (cond b (keyed (key_for c.manner c.text) (λ k. under c.asked (c.owner ∷ k))) (refuses 23))
    whose true w = go w (key_for_lem c.manner c.text)
    whose false w = declines (bad_owner_when w)
