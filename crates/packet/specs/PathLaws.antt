-- No packet key is a path. It is cut at a `/` behind its marker at the earliest, so its first component has the marker, which no word of the
-- table has; and behind that stand eight bytes at most, which is less than the last word of the two kinds that begin with any text.
-- Assumes nothing.
use Rattle.std.specs.Prelude.{◌≡◌, Bool, not, ◌||◌, leb, length, get_or, Err, Option, Some, None}
use Rattle.std.proofs.Math.Path.{refl}
use Rattle.std.proofs.Common.{sym, ap, ◌∙◌, arith}
use Rattle.std.proofs.Math.Bool.{true, false, cond}
use mathlib.Core.List.{List, [], ◌∷◌, ◌++◌, map}
use Prim.Native.Nat.{ℕ, ◌+◌, ◌≤◌, ◌<◌}
use Rattle.std.proofs.Math.Dec.{eqb}
use borrow.Author.Tests.{le-ltb, leb-true, ne_eqb, not-true}
use Rattle.text.specs.Number.{big_endian}
use Rattle.text.specs.NumberLaws.{length_big}
use Rattle.text.specs.Part.{every, ascii, same}
use Rattle.text.specs.PartLaws.{and_left, and_right, every_append, same-is}
use Rattle.identifiers.specs.Check.{check_of, client}
use Rattle.identifiers.specs.CheckLaws.{accepted-no_slash, accepted-length}
use Rattle.path.specs.declared.Path.{Path}
use Rattle.path.specs.declared.Refusal.{Refusal}
use Rattle.path.specs.declared.Refusal.TheVariants.{TooLong, NotAscii, NotAPath, NoDigits, NotADigit, TooLarge}
use Rattle.path.specs.Text.{components, cut_at}
use Rattle.path.specs.TextLaws.{every-all}
use Rattle.path.specs.Reading.{Reading}
use Rattle.path.specs.Kinds.{Part, word, name, count, pair, Kind, kinds}
use Rattle.path.specs.Read.{fits, suits, fits_kind, suits_kind, read_first, why_not, read_path, refusal_of}
use Rattle.path.specs.Reads.{Has}
use Rattle.path.specs.ReadLaws.{kind_fits, kind-suits, has_both, is-reads}
use Rattle.path.specs.Spelled.{all_of}
use Rattle.path.specs.NumberLaws.{why_faulty}
use Rattle.packet.specs.declared.PacketKind.{PacketKind}
use Rattle.packet.specs.declared.PacketKind.TheVariants.{Commitment, Receipt, Acknowledgement}
use Rattle.packet.specs.Key.{marker_of, packet_key}
use Rattle.packet.specs.KeyLaws.{clash, key-length}

-- ---- the cut
-- how many bytes components have
abbrev sizes : List (List ℕ) → ℕ
sizes [] = 0
sizes (c ∷ cs) = length c + sizes cs

-- a text has a first component, and no more bytes in all of them than it has
abbrev Cut : List ℕ → Type 0
Cut t = (first : List ℕ) × (rest : List (List ℕ)) × (components t ≡ first ∷ rest) × (length first + sizes rest ≤ length t)

first-cut : (t : List ℕ) → Cut t
unfolding cut_at
first-cut [] = ([], [], refl, omega arith)
first-cut (b ∷ t) = go (first-cut t) (eqb b 47) refl
  where
    go : Cut t → (v : Bool) → eqb b 47 ≡ v → Cut (b ∷ t)
    go r true e = ([], r.0 ∷ r.1, rw (e, r.2), omega (arith, r.3))
    go r false e = (b ∷ r.0, r.1, rw (e, r.2), omega (arith, r.3))

abbrev no_slash : ℕ → Bool
no_slash b = not (eqb b 47)

-- what stands before the first `/` goes to the first component
cut-append : (a t first : List ℕ) (rest : List (List ℕ)) → every no_slash a ≡ true → components t ≡ first ∷ rest → components (a ++ t) ≡ (a ++ first) ∷ rest
unfolding cut_at every
cut-append [] t first rest h e = e
cut-append (b ∷ a) t first rest h e =
    let s : eqb b 47 ≡ false = not-true (eqb b 47) (and_left (no_slash b) (every no_slash a) h) in
    rw (s, cut-append a t first rest (and_right (no_slash b) (every no_slash a) h) e)

-- ---- the table: a kind begins with a word that has no marker in it, or has a word of nine bytes or more behind its first part
abbrev long_word : List Part → Bool
long_word [] = false
long_word (word w ∷ ps) = leb 9 (length w) || long_word ps
long_word (name n ∷ ps) = long_word ps
long_word (count ∷ ps) = long_word ps
long_word (pair ∷ ps) = long_word ps

abbrev strange : List Part → Bool
strange [] = true
strange (word w ∷ ps) = every (λ b. leb 4 b) w
strange (name n ∷ ps) = long_word ps
strange (count ∷ ps) = long_word ps
strange (pair ∷ ps) = long_word ps

all-strange : map (λ e. strange e.parts) kinds ≡ map (λ e. true) kinds
unfolding kinds every
all-strange = refl

kind-strange : {e : Kind} → Has kinds e → strange e.parts ≡ true
kind-strange h = has_both (λ e. strange e.parts) (λ e. true) h all-strange

-- ---- under any test that asks of a word to be that word
module _ (f : Part → List ℕ → Bool) (asks : (w c : List ℕ) → f (word w) c ≡ true → same c w ≡ true) where
  long-none : (ps : List Part) (cs : List (List ℕ)) → long_word ps ≡ true → sizes cs ≤ 8 → all_of f ps cs ≡ true → ⊥
  long-none [] cs h l q = clash cc
  long-none (p ∷ ps) [] h l q = clash cc
  long-none (p ∷ ps) (c ∷ cs) h l q = go p h (and_left (f p c) (all_of f ps cs) q) (λ x. long-none ps cs x (omega arith) (and_right (f p c) (all_of f ps cs) q))
    where
      either : (w : List ℕ) → f (word w) c ≡ true → (long_word ps ≡ true → ⊥) → (b : Bool) → leb 9 (length w) ≡ b → (b || long_word ps) ≡ true → ⊥
      either w y more true e z = omega (arith, leb-true 9 (length w) e, ap length (same-is c w (asks w c y)))
      either w y more false e z = more z

      go : (p : Part) → long_word (p ∷ ps) ≡ true → f p c ≡ true → (long_word ps ≡ true → ⊥) → ⊥
      go (word w) x y more = either w y more (leb 9 (length w)) refl x
      go (name n) x y more = more x
      go count x y more = more x
      go pair x y more = more x

  none-suits : (ps : List Part) (c first : List ℕ) (m : ℕ) (rest : List (List ℕ)) → m < 4 → sizes rest ≤ 8 → strange ps ≡ true → all_of f ps ((c ++ (m ∷ first)) ∷ rest) ≡ true → ⊥
  unfolding every
  none-suits [] c first m rest l s h q = clash cc
  none-suits (p ∷ ps) c first m rest l s h q = go p h (and_left (f p whole) (all_of f ps rest) q)
    where
      whole : List ℕ
      whole = c ++ (m ∷ first)

      more : long_word ps ≡ true → ⊥
      more x = long-none ps rest x s (and_right (f p whole) (all_of f ps rest) q)

      marked : every (λ b. leb 4 b) whole ≡ true → ⊥
      marked x =
          let y = and_right (every (λ b. leb 4 b) c) (every (λ b. leb 4 b) (m ∷ first)) (sym (every_append (λ b. leb 4 b) c (m ∷ first)) ∙ x) in
          omega (arith, leb-true 4 m (and_left (leb 4 m) (every (λ b. leb 4 b) first) y))

      go : (p : Part) → strange (p ∷ ps) ≡ true → f p whole ≡ true → ⊥
      go (word w) x y = marked (rw (same-is whole w (asks w whole y)) x)
      go (name n) x y = more x
      go count x y = more x
      go pair x y = more x

fits_word : (w c : List ℕ) → fits (word w) c ≡ true → same c w ≡ true
unfolding fits
fits_word w c h = h

suits-word : (w c : List ℕ) → suits (word w) c ≡ true → same c w ≡ true
unfolding suits fits
suits-word w c h = h

marker-low : (k : PacketKind) → marker_of k < 4
marker-low Commitment = omega arith
marker-low Receipt = omega arith
marker-low Acknowledgement = omega arith

module _ (k : PacketKind) (c : List ℕ) (n : ℕ) (ok : check_of client c ≡ 0) where
  abbrev key : List ℕ
  key = packet_key k c n

  tail : Cut (big_endian 8 n)
  tail = first-cut (big_endian 8 n)

  tail-short : sizes tail.1 ≤ 8
  tail-short = omega (arith, tail.3, length_big 8 n)

  slashless : every no_slash c ≡ true
  slashless = every-all no_slash c (λ i h. rw (ne_eqb (get_or c i 0) 47 (accepted-no_slash client c ok i h)))

  -- the marker and what stands behind it
  behind : (m : ℕ) → m < 4 → components (m ∷ big_endian 8 n) ≡ (m ∷ tail.0) ∷ tail.1
  unfolding cut_at
  behind m l = let s : eqb m 47 ≡ false = ne_eqb m 47 (λ e. omega arith) in rw (s, tail.2)

  key-cut : components key ≡ (c ++ (marker_of k ∷ tail.0)) ∷ tail.1
  unfolding packet_key
  key-cut = cut-append c (marker_of k ∷ big_endian 8 n) (marker_of k ∷ tail.0) tail.1 slashless (behind (marker_of k) (marker-low k))

  -- no kind fits it, nor does one but for its numbers
  module _ {e : Kind} (has : Has kinds e) where
    no-fit : fits_kind e key ≡ true → ⊥
    no-fit h = none-suits fits fits_word e.parts c tail.0 (marker_of k) tail.1 (marker-low k) tail-short (kind-strange has) (ap (all_of fits e.parts) (sym key-cut) ∙ sym (kind_fits e key) ∙ h)

    no_suit : suits_kind e key ≡ true → ⊥
    no_suit h = none-suits suits suits-word e.parts c tail.0 (marker_of k) tail.1 (marker-low k) tail-short (kind-strange has) (ap (all_of suits e.parts) (sym key-cut) ∙ sym (kind-suits e key) ∙ h)

  pub no-kind-fits : read_first kinds key ≡ None
  no-kind-fits = go (read_first kinds key) refl
    where
      go : (a : Option Path) → read_first kinds key ≡ a → a ≡ None
      go None h = refl
      go (Some p) h = let r = is-reads key p h in absurd (no-fit r.listed r.fitting)

  pub no_number : why_not key ≡ NotAPath
  no_number = go (why_not key) refl
    where
      other : (w : Refusal) → (refusal_of w ≡ 3 → ⊥) → why_not key ≡ w → w ≡ NotAPath
      other w h e = let x = why_faulty key w (λ q. h (ap refusal_of q)) e in absurd (no_suit x.listed x.suiting)

      go : (w : Refusal) → why_not key ≡ w → w ≡ NotAPath
      go NotAPath e = refl
      go TooLong e = other TooLong (λ q. omega (arith, q)) e
      go NotAscii e = other NotAscii (λ q. omega (arith, q)) e
      go (NoDigits i) e = other (NoDigits i) (λ q. omega (arith, q)) e
      go (NotADigit i) e = other (NotADigit i) (λ q. omega (arith, q)) e
      go (TooLarge i) e = other (TooLarge i) (λ q. omega (arith, q)) e

  pub short-key : length key ≤ 4096
  short-key = omega (arith, key-length k c n, (accepted-length client c ok).1)

  -- a packet key that is read as a path is refused: with 2 where a byte of its sequence is 128 or more, and else with 3
  pub no_path : read_path key ≡ Err (cond (ascii key) NotAPath NotAscii)
  unfolding read_path
  no_path = rw (le-ltb 4096 (length key) short-key, no-kind-fits, no_number) (go (ascii key))
    where
      go : (b : Bool) → ◌≡◌ {A = Reading} (cond b (Err NotAPath) (Err NotAscii)) (Err (cond b NotAPath NotAscii))
      go true = refl
      go false = refl
